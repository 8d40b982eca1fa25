-- The sender of a held message is blocked in its Send.
use Rattle.qrules.proofs.Common.{arith, ◌≡◌, ◌∙◌, ◌+◌, ℕ, List, [], ◌∷◌, length, refl, ap, sym, subst, cond, eqb, true}
use Rattle.qrules.proofs.Common.{false, option_map, option_or, waiter, AllByRecursion, none-some, same_Some, IsRoster}
use Rattle.qrules.proofs.Common.{Member, row_of, number_received, TakesBest, takeable, SentItem, Trace, Event}
use Rattle.qrules.proofs.Common.{Completion, OpenCall, best_of, best-at, Option, None, Some, is_some, not, ◌&&◌}
use Rattle.std.proofs.lemmas.Bool.{and_parts, eqb-true, not-true, or_parts, true≢false}
use Rattle.qrules.proofs.Basics.{is_for_answer, is_send, sender, threads_of, number_of, may_wait, waits_or_ends}
use Rattle.qrules.proofs.Basics.{IsLawful, facts_of, completes, is_ended, is_received, item_of, accepted_at}
use Rattle.qrules.proofs.Basics.{open_call, copied_count_among, copied_count_of, filled, ends_own, open_known}
use Rattle.qrules.proofs.Basics.{passes_of, item_accepted, item_answer, item_at, item_below, item_earlier, item_made}
use Rattle.qrules.proofs.Basics.{send_from, send_parts, sender_found, known, open_from, filled_answer, open_thread}
use Rattle.qrules.proofs.Basics.{kept, kept_number, receipt_for_answer}
use Rattle.qrules.proofs.Traces.Properties.BestFirst.{best_first}
use Rattle.qrules.proofs.Traces.Properties.Events.{outcome_of}
use Rattle.qrules.proofs.Traces.Properties.Sends.{made_newest, made_stays}
use Rattle.qrules.proofs.Traces.TraceLaws.Unended.{unended_newest}
use Rattle.qrules.proofs.Traces.Properties.Connections.{IsMadeFor, takeable_made}

-- ---- a received item was made

-- a received item was made for the channel of the receive
pub taken_matches : (roster : List Member) (past : Trace) (e : Event) (x : Completion) (i : ℕ)
    (k : TakesBest roster past e x i) → (m : SentItem) × (item_at roster (e ∷ past) i ≡ Some m) × (m.item.number ≡ i)
    × (m.channel ≡ k.request.channel)
taken_matches roster past e x i k =
    elim (best_of k.request.kind (takeable roster past e k.request.channel))
    as (λ o. best_of k.request.kind (takeable roster past e k.request.channel) ≡ o
    → option_map (λ item. item.number) o ≡ Some i
    → (m : SentItem) × (item_at roster (e ∷ past) i ≡ Some m) × (m.item.number ≡ i) × (m.channel ≡ k.request.channel)) [
      | None ↦ λ is at. absurd (none-some i at)
      | Some item ↦ λ is at.
          let made =
          best-at (IsMadeFor roster (e ∷ past) k.request.channel) k.request.kind
          (takeable roster past e k.request.channel) item (takeable_made roster past e k.request.channel) is in
          let number : item.number ≡ i = same_Some item.number i at in
          let matches =
          subst (λ j. item_at roster (e ∷ past) j ≡ Some (record { item = made.0; channel = k.request.channel }))
          number made.1 in (
            record { item = made.0; channel = k.request.channel },
            matches,
            (item_made roster (e ∷ past) i _ matches).makes_it.number,
            refl,
          )
    ] refl k.best

-- a statement that holds for each item that these completions receive holds for this one
of_received : (P : ℕ → Type 0) (X : List Completion) (i copied : ℕ)
    → AllByRecursion (λ x. (j : ℕ) → number_received x ≡ Some j → P j) X → copied_count_among X i ≡ Some copied → P i
of_received P [] i copied all e = absurd (none-some copied e)
of_received P (x ∷ X) i copied all e = grind (arith, of_received P X)

taken_made : (roster : List Member) (past : Trace) (i : ℕ) → IsRoster roster → IsLawful roster past
    → is_received past i ≡ true → (m : SentItem) × (item_at roster past i ≡ Some m)
taken_made roster [] i r l e = absurd (true≢false (sym e))
taken_made roster (e ∷ past) i r l taken =
    elim (copied_count_among e.completions i)
    as (λ o. copied_count_among e.completions i ≡ o → is_some (option_or o (copied_count_of past i)) ≡ true
    → (m : SentItem) × (item_at roster (e ∷ past) i ≡ Some m)) [
      | None ↦ λ none s. let k = taken_made roster past i r l.0 s in
          (k.0, item_earlier roster e past i (item_below roster past i k.0 k.1) ∙ k.1)
      | Some copied ↦ λ some s.
          of_received (λ j. (m : SentItem) × (item_at roster (e ∷ past) j ≡ Some m)) e.completions i copied
          (all_of e.completions (best_first roster (e ∷ past) r l).1) some
    ] refl taken
  where
    all_of : (X : List Completion)
        → AllByRecursion (λ x. (j : ℕ) → number_received x ≡ Some j → TakesBest roster past e x j) X
        → AllByRecursion (λ x. (j : ℕ) → number_received x ≡ Some j → (m : SentItem)
        × (item_at roster (e ∷ past) j ≡ Some m)) X
    all_of [] all = tt
    all_of (x ∷ X) all = (λ j is. let s = taken_matches roster past e x j (all.0 j is) in (s.0, s.1), all_of X all.1)

-- ---- the call that made the item, if it hasn't completed, is the open call of its thread

no_own : (o : Option Completion) → is_some o ≡ false → o ≡ None
no_own o h = grind arith

made_waits : (roster : List Member) (past : Trace) (i : ℕ) (m : SentItem) → IsLawful roster past
    → item_at roster past i ≡ Some m → is_ended past i ≡ false → (t : ℕ) × (accepted_at waiter past i ≡ Some t)
made_waits roster [] i m l is going = absurd (none-some m is)
made_waits roster (e ∷ past) i m l is going =
    let p = or_parts (completes e.completions i) (is_ended past i) going in
    elim (eqb i (length past + 1))
    as (λ b. eqb i (length past + 1) ≡ b → cond b (item_of roster e past) (item_at roster past i) ≡ Some m
    → (t : ℕ) × (accepted_at waiter (e ∷ past) i ≡ Some t)) [
      | true ↦ λ same at. let number : i ≡ length past + 1 = eqb-true _ _ same in
          now number at (subst (λ j. completes e.completions j ≡ false) number p.0)
      | false ↦ λ other at. let k = made_waits roster past i m l.0 at p.1 in (k.0, made_stays waiter e past i k.0 k.1)
    ] refl is
  where
    now : i ≡ length past + 1 → item_of roster e past ≡ Some m
        → completes e.completions (length past + 1) ≡ false
        → (t : ℕ) × (accepted_at waiter (e ∷ past) i ≡ Some t)
    now number at unended =
        let f = facts_of roster past in
        let a = item_accepted roster e past m at in
        let o = outcome_of roster e past l.1.1 a.0 in
        let none : (row_of f e.thread e.call).own ≡ None =
        no_own ((row_of f e.thread e.call).own) (sym (ends_own roster past e.thread e.call e.completions l.1.0 o)
        ∙ unended) in
        let waits : may_wait e.call ≡ true =
        waits_or_ends f e.thread e.call (passes_of f e.thread e.call e.completions o) none in (
          e.thread,
          subst (λ j. accepted_at waiter (e ∷ past) j ≡ Some e.thread) (sym number)
              (made_newest waiter e past a.0 ∙ rw waits refl),
        )

-- ---- the law

-- an open Send of this number is found as the Send of that number
found_sender : (roster : List Member) (past : Trace) (i u : ℕ) (o : OpenCall) → IsLawful roster past
    → open_call roster past u ≡ Some o → number_of o ≡ i → is_for_answer o ≡ true
    → sender (facts_of roster past) i ≡ Some u
found_sender roster past i u o l is number answer =
    sender_found (λ t. open_call roster past t) i (threads_of roster) u
    (known roster u (open_known roster past u o l is)) (ap (is_send i) is ∙ send_from i o number answer)
    (λ v sends.
    let s = send_parts i (open_call roster past v) sends in
    open_thread roster past v u s.waiting o s.is is (s.number ∙ sym number))

-- a thread is blocked in the Send of number i
pub record HasSender (roster : List Member) (past : Trace) (i : ℕ) : Type 0 where
  pub thread : ℕ
  pub is_sender : sender (facts_of roster past) i ≡ Some thread

pub held_sender : (roster : List Member) (past : Trace) → IsRoster roster → IsLawful roster past → (i : ℕ)
    → (is_received past i && not (is_ended past i)) ≡ true → HasSender roster past i
held_sender roster past r l i held =
    let p = and_parts (is_received past i) (not (is_ended past i)) held in
    let going : is_ended past i ≡ false = not-true (is_ended past i) p.1 in
    let m = taken_made roster past i r l p.0 in
    let t = made_waits roster past i m.0 l m.1 going in
    let k = unended_newest roster past t.0 i l t.1 going in
    let made : item_at roster past (number_of k.block) ≡ Some m.0 = ap (item_at roster past) k.number ∙ m.1 in
    let is_open : open_call roster past t.0 ≡ Some (kept roster past k.block) =
    open_from roster past t.0 k.block k.is (subst (λ j. is_ended past j ≡ false) (sym k.number) going) in
    record {
      thread = t.0;
      is_sender =
          found_sender roster past i t.0 (kept roster past k.block) l is_open
          (kept_number roster past k.block ∙ k.number)
          (receipt_for_answer _ _ (copied_count_of past (number_of k.block)) (filled past k.block)
          ∙ filled_answer past k.block ∙ item_answer roster past t.0 m.0 k.block made k.is);
    }
