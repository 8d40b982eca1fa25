-- Names of other crates and of the definitions, which many of these proofs use.
pub use Rattle.balsaeuchre.specs.Lawful.{HadMemory, IsLawful, event_call}
pub use Rattle.balsaeuchre.specs.Naming.{ledger_of, names_of, shares_of}
pub use Rattle.balsaeuchre.specs.Matching.{MatchesAt}
pub use Rattle.balsaeuchre.specs.Trace.{Event, Trace, followed_by}
pub use Rattle.balsaeuchre_examples.specs.ThreeThreads.{roster}
pub use Rattle.balsaeuchre_examples.specs.Timeout.{cut_events, told_events}
pub use Rattle.qtables.specs.declared.member.Member.{Member}
pub use Rattle.qrules_worked.specs.Runs.{flags_of}
pub use Rattle.std.proofs.Common.{List, [], ap, arith, inl, inr, length, map, refl, subst, sym, true, ℕ, ◌++◌, ◌+◌, ◌∙◌}
pub use Rattle.std.proofs.Common.{◌∷◌, ◌≡◌}
