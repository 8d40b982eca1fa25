-- Names of other crates and of the definitions, which many of these proofs use.
pub use Rattle.balsaeuchre_calls.specs.Coming.{Collects, ComesOf, Gives, WaitsFor}
pub use Rattle.balsaeuchre_calls.specs.History.{History, told_by}
pub use Rattle.balsaeuchre_calls.specs.Making.{Comes, Follows, Leads, Makes, MakesBoth, completed_in, read_off}
pub use Rattle.balsaeuchre_calls.specs.Results.{Reading, reply_in, done_in, pulse_in, received_in}
pub use Rattle.balsaeuchre_calls.specs.Simulating.{Simulation, done, completed_of, is_of, unless_blocked, unmade}
pub use Rattle.balsaeuchre_calls.specs.Simulating.{without}
pub use Rattle.balsaeuchre_calls.specs.declared.completed.Completed.{Completed}
pub use Rattle.balsaeuchre_calls.specs.declared.endpoint.LastOutcome.TheVariants.{Blocked, Done, Refused}
pub use Rattle.balsaeuchre_calls.specs.declared.error.CallError.{CallError}
pub use Rattle.qmodel.specs.declared.call.Call.{Call}
pub use Rattle.qmodel.specs.declared.call.Completion.{Completion}
pub use Rattle.std.proofs.Common.{Err, List, Ok, Result, [], ap, arith, cond, drop, eqb, false, get_or, if◌then◌else◌}
pub use Rattle.std.proofs.Common.{inl, inr, length, length-append, map, refl, reverse, rules, subst, suc, sym, take}
pub use Rattle.std.proofs.Common.{true, vec_capacity, vec_len, ℕ, ◌++◌, ◌+◌, ◌<◌, ◌∙◌, ◌∷◌, ◌≡◌, ◌≤◌}
pub use Rattle.std.proofs.lemmas.Option.{none-some, same_Some}
pub use Rattle.std.proofs.lemmas.Result.{err_from_is_err_and}
pub use Rattle.std.specs.Prelude.{None, Some, is_some, position, ⊤}
