-- The change of an unread message when the priority of its thread is set.
use Rattle.qkernel_state.proofs.Common.{◌≡◌, ℕ, List, [], ◌∷◌, map, refl, ap, sym, ◌∙◌, cond, Bool, true, false, eqb}
use Rattle.qkernel_state.proofs.Common.{is_some, not, and-false, and-true, eqb-true, none-some, same_Some}
use Rattle.qkernel_state.proofs.Common.{with_item_priority, with_priority, Item, is_unread_send, OpenCall, Receive}
use Rattle.qkernel_state.proofs.Common.{Send, eqb_either, Channel, SetsItems, pending_in, MovesUnread, unread_in}
use Rattle.qkernel_state.proofs.Common.{OpenSend, Option, None, Some, ◌&&◌}
use Rattle.qkernel_state.specs.declared.unread.UnreadMessage.{UnreadMessage}

-- ---- an open call and the queued items of a channel

abbrev that : OpenSend → UnreadMessage
that s = record { number = s.number; channel = s.channel }

-- an open call that isn't an unread Send isn't the unread Send of any number
none_unread : (h i : ℕ) (o : Option OpenCall) → unread_in o ≡ None → is_unread_send h i o ≡ false
none_unread h i None none = refl
none_unread h i (Some (Receive r)) none =
    elim (eqb r.number i) as (λ b. (b && false && eqb r.channel h) ≡ false) [ true ↦ refl | false ↦ refl ]
none_unread h i (Some (Send s)) none =
    elim (is_some s.receipt)
    as (λ b. cond b None (Some (that s)) ≡ None → (eqb s.number i && not b && eqb s.channel h) ≡ false) [
      | true ↦ λ e. elim (eqb s.number i)
          as (λ b. (b && false && eqb s.channel h) ≡ false) [ true ↦ refl | false ↦ refl ]
      | false ↦ λ e. absurd (none-some _ (sym e))
    ] none

-- an unread Send is the unread Send of its own number, on its own channel
some_unread : (h i : ℕ) (o : Option OpenCall) (u : UnreadMessage) → unread_in o ≡ Some u
    → is_unread_send h i o ≡ (eqb u.number i && eqb u.channel h)
some_unread h i None u is = absurd (none-some u is)
some_unread h i (Some (Receive r)) u is = absurd (none-some u is)
some_unread h i (Some (Send s)) u is =
    elim (is_some s.receipt)
    as (λ b. cond b None (Some (that s)) ≡ Some u
    → (eqb s.number i && not b && eqb s.channel h) ≡ (eqb u.number i && eqb u.channel h)) [
      | true ↦ λ e. absurd (none-some u e)
      | false ↦ λ e. ap (λ b. b && eqb s.channel h) (and-true (eqb s.number i))
          ∙ ap (λ (x : UnreadMessage). eqb x.number i && eqb x.channel h) (same_Some _ u e)
    ] is

-- ---- lists of items

-- no item gets another priority
unmoved : (p : ℕ → Bool) (priority : ℕ) (items : List Item) → ((i : ℕ) → p i ≡ false)
    → map (λ item. cond (p item.number) (with_priority priority item) item) items ≡ items
unmoved p priority [] none = refl
unmoved p priority (x ∷ items) none = rw (none x.number) (ap (λ l. x ∷ l) (unmoved p priority items none))

-- the item of number n gets another priority
moved : (p : ℕ → Bool) (n priority : ℕ) (items : List Item) → ((i : ℕ) → p i ≡ eqb n i)
    → with_item_priority n priority items ≡ map (λ item. cond (p item.number) (with_priority priority item) item) items
moved p n priority [] one = refl
moved p n priority (x ∷ items) one =
    ap (λ b. cond b (with_priority priority x) x ∷ with_item_priority n priority items)
    (eqb_either x.number n ∙ sym (one x.number))
    ∙ ap (λ l. cond (p x.number) (with_priority priority x) x ∷ l) (moved p n priority items one)

-- ---- the channels

-- no channel has such a message
pub moves_none : (o : Option OpenCall) (priority : ℕ) (channels : List (ℕ × Channel)) → unread_in o ≡ None
    → MovesUnread o priority channels channels
moves_none o priority channels none = record {
  ids = refl;
  channel = λ h. refl;
  pending =
      λ h. sym (unmoved (λ i. is_unread_send h i o) priority (pending_in channels h) (λ i. none_unread h i o none));
}

-- the message's channel isn't open, so no item is queued there
pub moves_nowhere : (o : Option OpenCall) (priority : ℕ) (channels : List (ℕ × Channel)) (u : UnreadMessage)
    → unread_in o ≡ Some u → pending_in channels u.channel ≡ [] → MovesUnread o priority channels channels
moves_nowhere o priority channels u is gone = record {
  ids = refl;
  channel = λ h. refl;
  pending =
      λ h. elim (eqb u.channel h)
      as (λ b. eqb u.channel h ≡ b
      → pending_in channels h ≡ map (λ item. cond (is_unread_send h item.number o) (with_priority priority item) item)
      (pending_in channels h)) [
        | true ↦ λ there. let none : pending_in channels h ≡ [] =
            ap (pending_in channels) (sym (eqb-true u.channel h there)) ∙ gone in rw none refl
        | false ↦ λ elsewhere. sym
            (unmoved (λ i. is_unread_send h i o) priority (pending_in channels h)
            (λ i. some_unread h i o u is ∙ rw elsewhere (and-false (eqb u.number i))))
      ] refl;
}

pub moves_one : (o : Option OpenCall) (priority : ℕ) (old new : List (ℕ × Channel)) (u : UnreadMessage)
    → unread_in o ≡ Some u
    → SetsItems u.channel (with_item_priority u.number priority (pending_in old u.channel)) old new
    → MovesUnread o priority old new
moves_one o priority old new u is sets = record {
  ids = sets.ids;
  channel = sets.channel;
  pending = λ h. sets.pending h ∙ (
      let p = λ (i : ℕ). is_unread_send h i o in
      let is_that : (i : ℕ) → p i ≡ (eqb u.number i && eqb u.channel h) = λ i. some_unread h i o u is in
      elim (eqb h u.channel) as
      (λ b. eqb h u.channel ≡ b
      → cond b (with_item_priority u.number priority (pending_in old u.channel)) (pending_in old h)
      ≡ map (λ item. cond (p item.number) (with_priority priority item) item) (pending_in old h)) [
        | true ↦ λ there.
            ap (λ k. with_item_priority u.number priority (pending_in old k)) (sym (eqb-true h u.channel there))
            ∙ moved p u.number priority (pending_in old h)
            (λ i. is_that i ∙ ap (λ b. eqb u.number i && b) (eqb_either u.channel h ∙ there)
            ∙ and-true (eqb u.number i))
        | false ↦ λ elsewhere. sym
            (unmoved p priority (pending_in old h)
            (λ i. is_that i ∙ ap (λ b. eqb u.number i && b) (eqb_either u.channel h ∙ elsewhere)
            ∙ and-false (eqb u.number i)))
      ] refl);
}
