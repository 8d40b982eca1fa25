-- Names of other crates and of the definitions, which many of these proofs use.
pub use Rattle.qtables.specs.Entries.{IsRising, entry_at, with_record, without_entry}
pub use Rattle.std.proofs.Common.{Bool, List, [], add-zero, ap, arith, cond, eqb, false, get_or, inl, inr, length}
pub use Rattle.std.proofs.Common.{length-append, ltb, not, refl, rules, subst, suc, sym, take, true, zero, ℕ, ◌++◌, ◌+◌}
pub use Rattle.std.proofs.Common.{◌<◌, ◌∙◌, ◌∷◌, ◌≡◌, ◌≢◌, ◌≤◌}
pub use Rattle.std.proofs.lemmas.Bool.{cases_eq, eq-eqb, eqb-false, eqb-true, le-ltb, lt-ltb, ltb-false, ltb-true}
pub use Rattle.std.proofs.lemmas.Bool.{ne_eqb}
pub use Rattle.std.proofs.lemmas.Bool.Decides.{nat_tests}
pub use Rattle.std.proofs.lemmas.Cmp.{ranked}
pub use Rattle.std.proofs.lemmas.List.Sorted.{answers_always}
pub use Rattle.std.proofs.lemmas.List.Sums.{count_by_more_no, count_by_more_yes, sum_by-set}
pub use Rattle.std.proofs.lemmas.Option.{same_Some, slice_get-get_or, slice_get_read}
pub use Rattle.std.specs.List.{AllByRecursion, remove}
pub use Rattle.std.specs.List.Sorted.{IsBinarySearchResult, IsNonDecreasingBy, IsSearchInRange}
pub use Rattle.std.specs.Option.{is_some, option_map}
pub use Rattle.std.specs.Ordering.{nat_cmp, ordering_index}
pub use Rattle.std.specs.Prelude.{Err, IfNone, IfSome, None, Ok, Result, Some, slice_get}
