-- Names of other crates and of the definitions, which many of these proofs use.
pub use Rattle.atomic_table.proofs.Lists.{at_last, at_longer, at_set, exchanged, set_again, set_else, set_here}
pub use Rattle.atomic_table.specs.Table.{Act, Allows, Final, Joins, Me, Seen, Splits, State, Valid, carried_after}
pub use Rattle.atomic_table.specs.Table.{gives, keeps, opening, rest, step, stepped, takes}
pub use Rattle.qhandoff.specs.Rule.{AreAllowed, Fits, FitsPut, FitsTake, KeepsRule, Knows, Settled, Slot, cell_of}
pub use Rattle.qhandoff.specs.Rule.{idle_line, line}
pub use Rattle.qhandoff.specs.Rule.{new_thread_view, with_line, word_of}
pub use Rattle.qhandoff.specs.Steps.{BeginPutTells, CancelTells, EndPutTells, GiveBackTells, IsBusy, OpenTells}
pub use Rattle.qhandoff.specs.Steps.{TakeTells, cancelled_kernel_view, kernel_view_in, first_view, thread_view_in}
pub use Rattle.qhandoff.specs.Steps.{joined_at}
pub use Rattle.qhandoff.specs.Steps.{joined_kernel_view, joined_views, next_thread_view, opened_kernel_view}
pub use Rattle.qhandoff.specs.Steps.{put_kernel_view}
pub use Rattle.qhandoff.specs.Steps.{putting_kernel_view, seated_kernel_view, seats_one_more}
pub use Rattle.qhandoff.specs.Words.{IsRow, Rises, left_for, one, tagged, taken, thread_id, thread_of, took}
pub use Rattle.qhandoff.specs.declared.seats.ThreadSeat.{ThreadSeat}
pub use Rattle.qhandoff.specs.declared.view.KernelView.{KernelView}
pub use Rattle.qhandoff.specs.declared.view.ThreadView.{ThreadView}
pub use Rattle.qhandoff.specs.declared.view.CellView.{CellView}
pub use Rattle.qhandoff.specs.declared.view.View.{View}
pub use Rattle.qhandoff.specs.declared.view.View.TheVariants.{Joined, Kernel, Thread}
pub use Rattle.std.proofs.Common.{Bool, List, None, Option, Some, [], ap, append-nil, arith, eq-eqb, eqb, false, get_or}
pub use Rattle.std.proofs.Common.{get_or-set_other, get_or-set_same, if◌then◌else◌, inl, inr, le_of_eq, length}
pub use Rattle.std.proofs.Common.{length-append, length-set, map, ne_eqb, refl, replicate, rules, set, subst, suc, sym}
pub use Rattle.std.proofs.Common.{true, vec_capacity, zero, ℕ, ⊎_elim, ◌*◌, ◌++◌, ◌+◌, ◌-◌, ◌<◌, ◌∙◌, ◌∷◌, ◌≡◌, ◌≢◌}
pub use Rattle.std.proofs.Common.{◌≤◌, ◌⊎◌}
pub use Rattle.std.proofs.lemmas.Grind.{common_steps}
pub use Rattle.std.specs.Mem.Slots.{slots_counts, slots_filled, slots_items, slots_len}
pub use lib.ListN.{get_elem?, length-replicate}
pub use mathlib.Core.Logic.{dite}
pub use mathlib.Core.Option.{none, some, some-injective, some-ne-none}
pub use native.Mathlib.Decide.{ℕ_discrete}
