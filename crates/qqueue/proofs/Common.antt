-- Names of other crates and of the definitions, which many of these proofs use.
pub use Rattle.qbase.proofs.Lists.{all_append, all_every, all_filter, all_more, filter_all, filter_same, filter_twice}
pub use Rattle.qbase.proofs.Lists.{some_of}
pub use Rattle.qqueue.specs.Best.{best_of, first_of_two, is_pulse, item_of_number, may_take, with_item_priority}
pub use Rattle.qqueue.specs.Best.{with_priority, without_item}
pub use Rattle.qqueue.specs.Contents.{IsRising}
pub use Rattle.qqueue.specs.Joins.{ClosedUp, Joined, Relinked, SameLinks}
pub use Rattle.qqueue.specs.Kept.{AreRings, IsKept, first_at}
pub use Rattle.qqueue.specs.LevelHeads.{IsForemost, first_in}
pub use Rattle.qqueue.specs.Order.{BestIsFirst, NoBestIfNoneMayBeTaken, comes_before}
pub use Rattle.qqueue.specs.Rings.{Linked, Path, Ring, Rises, after_of, before_of, first_of, is_on, item_at, item_of}
pub use Rattle.qqueue.specs.Rings.{items_at, keys_on, place_in, places_after, places_from, places_of, pulses_of}
pub use Rattle.qqueue.specs.Rings.{put_item, put_items, put_place}
pub use Rattle.qqueue.specs.declared.item.Item.{Item}
pub use Rattle.qqueue.specs.declared.item.Kind.{Kind}
pub use Rattle.qqueue.specs.declared.node.Node.{Node}
pub use Rattle.slab.specs.Slab.{Slab, Updates, entries, entries_from, get, slab_len}
pub use Rattle.std.proofs.Common.{Bool, Contains, List, None, Option, Some, [], add-zero, ap, append-nil, append_assoc}
pub use Rattle.std.proofs.Common.{arith, cond, count_by, drop, eqb, false, get_or, inl, inr, is_some, length, map, refl}
pub use Rattle.std.proofs.Common.{replicate, rules, subst, suc, sym, take, true, zero, zero-add, ℕ, ◌++◌, ◌+◌, ◌-◌, ◌<◌}
pub use Rattle.std.proofs.Common.{◌∙◌, ◌∷◌, ◌≡◌, ◌≢◌, ◌≤◌, ◌⊎◌}
pub use Rattle.std.proofs.lemmas.Bool.{cases_Bool, cases_eq, cases_lt, eq-eqb, eqb-false, eqb-true, le-ltb, lt-ltb}
pub use Rattle.std.proofs.lemmas.Bool.{ltb-false, ltb-true, ne_eqb, true≢false}
pub use Rattle.std.proofs.lemmas.Bool.Decides.{nat_tests}
pub use Rattle.std.proofs.lemmas.List.{map-append, take_all}
pub use Rattle.std.proofs.lemmas.List.Elements.{All-contains_itself, All-from_recursion, filter-append}
pub use Rattle.std.proofs.lemmas.List.Elements.{recursion_from_All}
pub use Rattle.std.specs.List.{AllByRecursion}
pub use Rattle.std.specs.Option.{option_eq, option_map}
pub use Rattle.std.specs.Prelude.{filter, insert}
pub use Rattle.std.specs.Vec.{vec_len}
