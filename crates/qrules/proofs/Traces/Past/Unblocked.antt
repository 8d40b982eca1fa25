-- The messages for which an unblock pulse was made: each of them had been received.
use Rattle.qrules.proofs.Common.{◌≡◌, ℕ, ◌+◌, ◌≤◌, List, [], ◌∷◌, length, refl, ap, sym, subst, ◌∙◌, cond, arith, Bool}
use Rattle.qrules.proofs.Common.{true, false, eqb, option_to_list, Send, number_of, Member, SentItem, Event, Trace}
use Rattle.qrules.proofs.Common.{unblocked_call, Call, OpenCall, Option, None, Some, is_some, ◌&&◌, ◌||◌}
use Rattle.std.proofs.lemmas.Bool.{eqb-true, true≢false}
use Rattle.std.proofs.lemmas.List.Folds.{list_any-append}
use Rattle.qrules.proofs.Basics.{makes, unblocks, facts_of, is_received, is_unblock_for, item_of, items, open_call}
use Rattle.qrules.proofs.Basics.{copied_count_of, unblocked_among, with_receipt, after_unblock, call_laws, open_receipt}
use Rattle.qrules.proofs.Basics.{open_below, open_thread, is_unblocked, item_accepted, unblocked_among_now}

-- ---- messages with an unblock pulse

-- message i was sent, and has been received
pub record WasReceived (past : Trace) (i : ℕ) : Type 0 where
  pub below : i ≤ length past
  pub taken : is_received past i ≡ true

-- if the call makes an unblock pulse for message i, the message has been received
by_item : (roster : List Member) (past : Trace) (t : ℕ) (c : Call) (i : ℕ) (m : SentItem)
    → makes (facts_of roster past) t c ≡ Some m → is_unblock_for i m.item.what ≡ true → WasReceived past i
by_item roster past t c i m made is =
    elim (unblocks c) as (λ w. unblocks c ≡ w → WasReceived past i) [
      | None ↦ λ none. absurd (true≢false (sym is ∙ (call_laws c).unblocks_none none (facts_of roster past) t m made i))
      | Some v ↦ λ some.
          let k = (call_laws c).unblocks_one v some (facts_of roster past) t m made in
          let same : k.send.number ≡ i = eqb-true _ _ (ap (is_unblock_for i) (sym k.what) ∙ is) in
          record {
            below = subst (λ j. j ≤ length past) same (open_below roster past v (Send k.send) k.is);
            taken = subst (λ j. is_received past j ≡ true) same (open_receipt roster past v k.send k.is ∙ k.held);
          }
    ] refl

pub unblocked_now : (roster : List Member) (past : Trace) (t : ℕ) (c : Call) (i : ℕ)
    → unblocked_among (option_to_list (makes (facts_of roster past) t c)) i ≡ true → WasReceived past i
unblocked_now roster past t c i e = grind (arith, by_item roster past t c i)

-- the unblock pulses after one more event are the earlier ones and the pulse that the event makes
pub unblocked_by : (roster : List Member) (e : Event) (past : Trace) (i : ℕ)
    → is_unblocked roster (e ∷ past) i
    ≡ (is_unblocked roster past i || unblocked_among (option_to_list (item_of roster e past)) i)
unblocked_by roster e past i =
    unblocked_among_now (e ∷ past) (items roster (e ∷ past)) i
    ∙ list_any-append (λ m. is_unblock_for i m.item.what) (items roster past) (option_to_list (item_of roster e past))
    ∙ ap (λ b. b || unblocked_among (option_to_list (item_of roster e past)) i)
    (sym (unblocked_among_now past (items roster past) i))

pub unblocked_received : (roster : List Member) (past : Trace) (i : ℕ) → is_unblocked roster past i ≡ true
    → WasReceived past i
unblocked_received roster [] i is = absurd (true≢false (sym is))
unblocked_received roster (e ∷ past) i is =
    grind (
      arith,
      unblocked_by roster e past i,
      unblocked_received roster past i,
      by_item roster past e.thread e.call i,
      item_accepted roster e past,
    )

-- a message that hasn't been received has no unblock pulse
pub none_unblocked : (roster : List Member) (past : Trace) (i : ℕ) → copied_count_of past i ≡ None
    → is_unblocked roster past i ≡ false
none_unblocked roster past i none = grind (arith, unblocked_received roster past i)

-- a later message has no unblock pulse
pub unblocked_beyond : (roster : List Member) (past : Trace) (i : ℕ) → length past + 1 ≤ i
    → is_unblocked roster past i ≡ false
unblocked_beyond roster past i above = grind (arith, unblocked_received roster past i)

-- the call that makes the item has none either
pub fresh_unblocked : (roster : List Member) (past : Trace) (t : ℕ) (c : Call)
    → unblocked_among (option_to_list (makes (facts_of roster past) t c)) (length past + 1) ≡ false
fresh_unblocked roster past t c = grind (arith, unblocked_now roster past t c (length past + 1))

-- ---- an open call after an event

-- thread u is the thread that the call unblocks, and an item is made
abbrev pub marks : Option SentItem → Option ℕ → ℕ → Bool
marks m None u = false
marks m (Some v) u = eqb u v && is_some m

-- the item is an unblock pulse for the open call of thread u exactly if the call is to unblock u and makes an
-- item
pub marks_it : (roster : List Member) (past : Trace) (t : ℕ) (c : Call) (u : ℕ) (o : OpenCall)
    → open_call roster past u ≡ Some o
    → unblocked_among (option_to_list (makes (facts_of roster past) t c)) (number_of o)
    ≡ marks (makes (facts_of roster past) t c) (unblocks c) u
marks_it roster past t c u o is =
    grind (arith, (call_laws c).unblocks_none, (call_laws c).unblocks_one, open_thread roster past u)

-- the receipt of a message after the event made an unblock pulse for it
marked : (unblocked x : Bool) (priority : ℕ) (r : Option ℕ) (o : OpenCall) → (x ≡ true → is_some r ≡ true)
    → with_receipt priority (unblocked || x) r o ≡ cond x (unblocked_call (with_receipt priority unblocked r o))
    (with_receipt priority unblocked r o)
marked unblocked x priority r o h = grind arith

pub unblocked_after : (m : Option SentItem) (w : Option ℕ) (u : ℕ) (unblocked x : Bool) (priority : ℕ) (r : Option ℕ)
    (o : OpenCall) → x ≡ marks m w u → (x ≡ true → is_some r ≡ true)
    → Some (with_receipt priority (unblocked || x) r o) ≡ after_unblock m w u
    (Some (with_receipt priority unblocked r o))
unblocked_after m w u unblocked x priority r o is h = grind arith
