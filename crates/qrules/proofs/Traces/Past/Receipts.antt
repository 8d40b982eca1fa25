-- The items that the completions of an event receive: exactly the row's receipt.
use Rattle.qrules.proofs.Common.{◌≡◌, ℕ, ◌+◌, ◌<◌, ◌≤◌, List, [], ◌∷◌, length, refl, ap, sym, ◌∙◌, cond, arith, true}
use Rattle.qrules.proofs.Common.{false, eqb, ◌⊎◌, inl, inr, filter_map, best_of, Item, Kind, best-at, member_at, Member}
use Rattle.qrules.proofs.Common.{completion_to, Outcome, Answers, Trace, Call, Completion, is_among, ReceivedItem}
use Rattle.qrules.proofs.Common.{Option, None, Some, is_some, eqb-true, row_of, subst}
use Rattle.std.proofs.lemmas.Bool.{ne_eqb, true≢false}
use Rattle.qrules.proofs.Basics.{receipt_of, Received, item_in, Facts, threads_of, facts_of, IsLawful, copied_count_in}
use Rattle.qrules.proofs.Basics.{first_among, priority_of_item, copied_count_among, copied_count_of, RowLaws, IsReceipt}
use Rattle.qrules.proofs.Basics.{IsReceived, call_laws, laws_of, completion_names, open_known, IsPending, pending_all}
use Rattle.qrules.proofs.Basics.{pending_priorities, item_below, known}

-- ---- the first value of a function among the completions of some threads

pub among_none : {A : Type 0} (tell : Completion → Option A) (g : ℕ → Option Completion) (us : List ℕ)
    → ((u : ℕ) (y : Completion) → g u ≡ Some y → tell y ≡ None) → first_among tell (filter_map g us) ≡ None
among_none tell g [] h = refl
among_none tell g (u ∷ us) h = grind (arith, among_none tell g us h)

-- if the function has no other value for any completion, and has this value for one of them, this value is
-- found
pub among_one : {A : Type 0} (tell : Completion → Option A) (g : ℕ → Option Completion) (us : List ℕ) (k : A)
    → ((u : ℕ) (y : Completion) → g u ≡ Some y → (tell y ≡ None) ⊎ (tell y ≡ Some k))
    → (v : ℕ) (z : Completion) → is_among us v ≡ true → g v ≡ Some z → tell z ≡ Some k
    → first_among tell (filter_map g us) ≡ Some k
among_one tell g [] k h v z m e q = absurd (true≢false (sym m))
among_one tell g (u ∷ us) k h v z m e q =
    let rest : eqb u v ≡ false → first_among tell (filter_map g us) ≡ Some k =
    λ other. among_one tell g us k h v z (rw other at m) e q in
    grind (arith, h u, rest)

-- ---- the receipt of an accepted call

pub completion_receives : (f : Facts) (t : ℕ) (c : Call) (v : ℕ) (y : Completion) (p : ReceivedItem) → RowLaws f t c
    → completion_to f t c v ≡ Some y → item_in y.mark ≡ Some p → IsReceipt (receipt_of f t c) v p
completion_receives f t c v y p laws e m =
    elim (eqb v t) as (λ b. eqb v t ≡ b → cond b (row_of f t c).own ((row_of f t c).others v) ≡ Some y
    → IsReceipt (receipt_of f t c) v p) [
      | true ↦ λ same own. subst (λ u. IsReceipt (receipt_of f t c) u p) (sym (eqb-true v t same))
          (laws.own_receives y p own m)
      | false ↦ λ other ends. laws.ends_receives v y p ends m
    ] refl e

-- how many bytes of item i this receipt copies, if it is of item i
abbrev pub copied_by : Option Received → ℕ → Option ℕ
copied_by None i = None
copied_by (Some r) i = cond (eqb r.item i) (Some r.kept.copied) None

same_copied : (f : Facts) (t : ℕ) (c : Call) (v : ℕ) (p : ReceivedItem) (i : ℕ) → IsReceipt (receipt_of f t c) v p
    → copied_count_in i (Some p) ≡ copied_by (receipt_of f t c) i
same_copied f t c v p i k = grind arith

-- a completion that copies bytes of item i copies as many as the row's receipt
completion_copies : (f : Facts) (t : ℕ) (c : Call) (v : ℕ) (y : Completion) (i : ℕ) → RowLaws f t c
    → completion_to f t c v ≡ Some y
    → (copied_count_in i (item_in y.mark) ≡ None)
    ⊎ (copied_count_in i (item_in y.mark) ≡ copied_by (receipt_of f t c) i)
completion_copies f t c v y i laws e =
    elim (item_in y.mark) as
    (λ o. item_in y.mark ≡ o → (copied_count_in i o ≡ None) ⊎ (copied_count_in i o ≡ copied_by (receipt_of f t c) i)) [
      | None ↦ λ m. inl refl
      | Some p ↦ λ m. inr (same_copied f t c v p i (completion_receives f t c v y p laws e m))
    ] refl

-- a completion that the row gives goes to a thread of the roster
pub given_known : (roster : List Member) (past : Trace) (t : ℕ) (c : Call) (v : ℕ) (y : Completion)
    → IsLawful roster past → is_some (member_at roster t) ≡ true → RowLaws (facts_of roster past) t c
    → completion_to (facts_of roster past) t c v ≡ Some y → is_some (member_at roster v) ≡ true
given_known roster past t c v y l member laws e =
    grind (arith, completion_names (facts_of roster past) t c v y laws e, open_known roster past v)

pub accepted_receipts : (roster : List Member) (past : Trace) (t : ℕ) (c : Call) (X : List Completion) (i : ℕ)
    → IsLawful roster past → is_some (member_at roster t) ≡ true
    → Outcome true (facts_of roster past) t c X
    → copied_count_among X i ≡ copied_by (receipt_of (facts_of roster past) t c) i
accepted_receipts roster past t c X i l member a =
    let f = facts_of roster past in
    let laws = laws_of (facts_of roster past) t c X a in
    let copies =
    λ (v : ℕ) (y : Completion) (e : completion_to (facts_of roster past) t c v ≡ Some y). completion_copies
    (facts_of roster past) t c v y i laws e in
    rw (a.by_row) (
    elim ((receipt_of f t c))
    as (λ o. (receipt_of f t c) ≡ o → copied_count_among (filter_map (completion_to f t c) (threads_of roster)) i
    ≡ copied_by o i) [
      | None ↦ λ is. among_none (λ x. copied_count_in i (item_in x.mark)) (completion_to f t c) (threads_of roster)
          (λ v y e. elim (copies v y e) [ inl h ↦ h | inr h ↦ h ∙ ap (λ o. copied_by o i) is ])
      | Some r ↦ λ is.
          let k = laws.receives r is in
          elim (eqb r.item i) as (λ b. eqb r.item i ≡ b
          → copied_count_among (filter_map (completion_to f t c) (threads_of roster)) i
          ≡ cond b (Some r.kept.copied) None) [
            | true ↦ λ same.
                let by : copied_by (receipt_of f t c) i ≡ Some r.kept.copied = rw (is, same) refl in
                among_one (λ x. copied_count_in i (item_in x.mark)) (completion_to f t c)
                (threads_of roster) r.kept.copied
                (λ v y e. elim (copies v y e) [ inl h ↦ inl h | inr h ↦ inr (h ∙ by) ])
                r.by k.given (known roster r.by (given_known roster past t c r.by k.given l member laws k.is_given))
                k.is_given (rw (k.mark, same) refl)
            | false ↦ λ other.
                let by : copied_by (receipt_of f t c) i ≡ None = rw (is, other) refl in
                among_none (λ x. copied_count_in i (item_in x.mark)) (completion_to f t c) (threads_of roster)
                (λ v y e. elim (copies v y e) [ inl h ↦ h | inr h ↦ h ∙ by ])
          ] refl
    ] refl)

-- a call that fails receives nothing
pub refused_receipts : (f : Facts) (t : ℕ) (c : Call) (X : List Completion) (i : ℕ) → Outcome false f t c X
    → copied_count_among X i ≡ None
refused_receipts f t c X i a = rw (a.only) refl

-- ---- the item of a receipt

pub best_pending : (roster : List Member) (past : Trace) (h : ℕ) (kind : Kind) (item : Item)
    → best_of kind ((facts_of roster past).pending h) ≡ Some item → IsPending roster past h item
best_pending roster past h kind item best =
    best-at (IsPending roster past h) kind ((facts_of roster past).pending h) item (pending_all roster past h) best

-- the best item has the current priority of its number
pub best_priority : (roster : List Member) (past : Trace) (h : ℕ) (kind : Kind) (item : Item)
    → best_of kind ((facts_of roster past).pending h) ≡ Some item
    → priority_of_item roster past item.number ≡ item.priority
best_priority roster past h kind item best =
    best-at (λ (x : Item). priority_of_item roster past x.number ≡ x.priority) kind
    ((facts_of roster past).pending h) item (pending_priorities roster past h) best

pub received_below : (roster : List Member) (past : Trace) (t : ℕ) (c : Call) (r : Received)
    → IsReceived (facts_of roster past) t c r → r.item ≤ length past + 1
received_below roster past t c r k = elim k.source [
  | inl new ↦ omega (arith, k.number, ((call_laws c).makes_one (facts_of roster past) t _ new.made).number)
  | inr old ↦ omega (
    arith,
    k.number,
    item_below roster past k.item.number _ (best_pending roster past r.channel old.kind k.item old.best).made,
  )
]

-- an event receives its own item or a queued one
pub receipts_below : (roster : List Member) (past : Trace) (t : ℕ) (c : Call) (X : List Completion) (i : ℕ)
    → IsLawful roster past → is_some (member_at roster t) ≡ true
    → Answers (facts_of roster past) t c X → length past + 1 < i → copied_count_among X i ≡ None
receipts_below roster past t c X i l member a above = elim a [
  | inl a ↦ accepted_receipts roster past t c X i l member a ∙ (
      elim ((receipt_of (facts_of roster past) t c))
      as (λ o. (receipt_of (facts_of roster past) t c) ≡ o → copied_by o i ≡ None) [
        | None ↦ λ is. refl
        | Some r ↦ λ is.
            let below : r.item ≤ length past + 1 =
            received_below roster past t c r ((laws_of (facts_of roster past) t c X a).receives r is) in
            rw (ne_eqb r.item i (λ same. omega arith)) refl
      ] refl)
  | inr a ↦ refused_receipts (facts_of roster past) t c X i a
]

-- no later item has been received
pub receipt_beyond : (roster : List Member) (past : Trace) (i : ℕ) → IsLawful roster past → length past < i
    → copied_count_of past i ≡ None
receipt_beyond roster [] i l h = refl
receipt_beyond roster (e ∷ past) i l h =
    rw (receipts_below roster past e.thread e.call e.completions i l.0 l.1.0 l.1.1 (omega arith))
    (receipt_beyond roster past i l.0 (omega arith))
