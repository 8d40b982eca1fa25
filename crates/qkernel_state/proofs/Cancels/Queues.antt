-- The queues as items leave them.
use Rattle.qkernel_state.proofs.Common.{◌≡◌, ℕ, List, [], Bool, not, ◌&&◌, ◌||◌, refl, ap, sym, subst, ◌∙◌, cond, true}
use Rattle.qkernel_state.proofs.Common.{false, eqb, is_some, eqb-true, and_left, and_right, not_from_false, none-some}
use Rattle.qkernel_state.proofs.Common.{filter_agree, and-true, Item, without_item, entry_at, OpenCall, Receive, Send}
use Rattle.qkernel_state.proofs.Common.{is_unread_send, Channel, SetsItems, pending_in, items_waiting_on, unread_on_by}
use Rattle.qkernel_state.proofs.Common.{call_if_cancelled, is_taken_from, Lose, eqb_either, filter_twice, filter_whole}
use Rattle.qkernel_state.proofs.Common.{number_of, Option, None, Some, filter}

-- a list without the elements that satisfy p, and then without the elements that satisfy q
pub filter_after : {A : Type 0} (p q : A → Bool) (xs : List A)
    → filter (λ x. not (q x)) (filter (λ x. not (p x)) xs) ≡ filter (λ x. not (p x || q x)) xs
filter_after p q xs =
    filter_twice (λ x. not (p x)) (λ x. not (q x)) xs
    ∙ filter_agree (λ x. not (p x) && not (q x)) (λ x. not (p x || q x))
    (λ x. elim (p x) as (λ b. (not b && not (q x)) ≡ not (b || q x)) [ true ↦ refl | false ↦ refl ]) xs

-- ---- channels

-- no item leaves
pub loses_nothing : (goes : ℕ → ℕ → Bool) (channels : List (ℕ × Channel)) → ((k i : ℕ) → goes k i ≡ false)
    → Lose goes channels channels
loses_nothing goes channels none = record {
  ids = refl;
  channel = λ k. refl;
  pending =
      λ k. sym (filter_whole (λ item. not (goes k item.number)) (pending_in channels k)
      (λ item. not_from_false _ (none k item.number)));
}

-- the items that leave are on a channel that isn't open
pub loses_gone : (goes : ℕ → ℕ → Bool) (channels : List (ℕ × Channel)) (h : ℕ) → entry_at channels h ≡ None
    → ((k i : ℕ) → eqb h k ≡ false → goes k i ≡ false) → Lose goes channels channels
loses_gone goes channels h gone others = record {
  ids = refl;
  channel = λ k. refl;
  pending =
      λ k. elim (eqb h k) as (λ b. eqb h k ≡ b
      → pending_in channels k ≡ filter (λ item. not (goes k item.number)) (pending_in channels k)) [
        | true ↦ λ e. let empty : pending_in channels k ≡ [] =
            ap items_waiting_on (ap (entry_at channels) (sym (eqb-true h k e)) ∙ gone) in
            subst (λ (xs : List Item). xs ≡ filter (λ item. not (goes k item.number)) xs) (sym empty) refl
        | false ↦
            λ e. sym (filter_whole (λ item. not (goes k item.number)) (pending_in channels k)
            (λ item. not_from_false _ (others k item.number e)))
      ] refl;
}

-- one item leaves channel h
pub loses_one : (goes : ℕ → ℕ → Bool) (channels new : List (ℕ × Channel)) (h n : ℕ)
    → SetsItems h (without_item n (pending_in channels h)) channels new → ((k i : ℕ) → goes k i ≡ (eqb n i && eqb h k))
    → Lose goes channels new
loses_one goes channels new h n sets so = record {
  ids = sets.ids;
  channel = sets.channel;
  pending = λ k. sets.pending k
      ∙ (elim (eqb k h) as (λ b. eqb k h ≡ b → cond b (without_item n (pending_in channels h)) (pending_in channels k)
      ≡ filter (λ item. not (goes k item.number)) (pending_in channels k)) [
        | true ↦ λ e. let here : k ≡ h = eqb-true k h e in
            ap (λ j. without_item n (pending_in channels j)) (sym here)
            ∙ filter_agree (λ item. not (eqb item.number n)) (λ item. not (goes k item.number))
            (λ item. ap not (eqb_either item.number n
            ∙ sym (so k item.number ∙ rw (eqb_either h k ∙ e) (and-true (eqb n item.number))))) (pending_in channels k)
        | false ↦
            λ e. sym (filter_whole (λ item. not (goes k item.number)) (pending_in channels k)
            (λ item. not_from_false _ (so k item.number ∙ and_right _ _ (eqb_either h k ∙ e))))
      ] refl);
}

-- ---- a Send that isn't received

-- a call of number n, with its message queued on this channel if on any, is the unread Send of number i on
-- channel h
abbrev pub waits_so : Option ℕ → ℕ → ℕ → ℕ → Bool
waits_so None n h i = false
waits_so (Some c) n h i = eqb n i && eqb c h

pub unread_so : (o : OpenCall) (h i : ℕ) → is_unread_send h i (Some o) ≡ waits_so (unread_on_by o) (number_of o) h i
unread_so (Send s) h i =
    elim (is_some s.receipt)
    as (λ b. (eqb s.number i && not b && eqb s.channel h) ≡ waits_so (cond b None (Some s.channel)) s.number h i) [
      | true ↦ and_left _ _ (and_right (eqb s.number i) false refl)
      | false ↦ ap (λ b. b && eqb s.channel h) (and-true (eqb s.number i))
    ]
unread_so (Receive r) h i = and_left _ _ (and_right (eqb r.number i) false refl)

-- a call that isn't cancelled takes no message from a queue
pub untaken : (is_cancelled : OpenCall → Bool) (o : Option OpenCall) (h i : ℕ)
    → call_if_cancelled is_cancelled o ≡ None → is_taken_from is_cancelled o h i ≡ false
untaken is_cancelled None h i none = refl
untaken is_cancelled (Some o) h i none =
    elim (is_cancelled o) as (λ b. cond b (Some o) None ≡ None → (is_unread_send h i (Some o) && b) ≡ false) [
      | true ↦ λ e. absurd (none-some o (sym e))
      | false ↦ λ e. and_right _ false refl
    ] none
