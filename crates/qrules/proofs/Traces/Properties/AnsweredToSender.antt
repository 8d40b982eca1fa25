-- A message gets at most one reply, by a call that may reply to it, and its sender gets this reply.
use Rattle.qrules.proofs.Common.{◌≡◌, ◌≢◌, ◌∙◌, ℕ, ◌+◌, ◌<◌, List, [], ◌∷◌, refl, ap, sym, subst, arith, cond, eqb}
use Rattle.qrules.proofs.Common.{Bool, true, false, inl, inr, is_some, is_answer, items, AnsweredToSender, AnswersIts}
use Rattle.qrules.proofs.Common.{AllByRecursion, filter_map, cons_option, option_map_or, none-some, Member}
use Rattle.qrules.proofs.Common.{IsRoster, completion_to, Outcome, Answers, item_among, Event, SentItem, Trace}
use Rattle.qrules.proofs.Common.{Completion, all_filter_map, all_more, is_among, is_on, Option, None, Some, not, ◌&&◌}
use Rattle.qrules.proofs.Common.{count_by, effect_of}
use Rattle.std.proofs.lemmas.Bool.{and_from, cases_Bool, ne_eqb, eq-eqb, eqb-true, eqb-false, true≢false}
use Rattle.std.proofs.lemmas.List.Sums.{sum_by-cons}
use Rattle.qrules.proofs.Basics.{is_for_answer, owns, threads_of, number_of, facts_of, IsLawful, is_ended, is_received}
use Rattle.qrules.proofs.Basics.{sender_of, open_known, passes_of, item_found, known, open_receipt, buffer_answer}
use Rattle.qrules.proofs.Basics.{held_for_answer, is_accepted, open_parts, held_on, buffer_on}
use Rattle.qrules.proofs.Traces.Properties.Answers.{AnswersHeld, answers_held, answers_one}
use Rattle.qrules.proofs.Traces.Properties.Events.{is_accepted_by, outcome_of}
use Rattle.qrules.proofs.Traces.Properties.ReceivedOnce.{different_calls}
use Rattle.qrules.proofs.Traces.Properties.Sends.{block_sender, open_keeps, open_over, block_on}
use Rattle.qmodel.specs.declared.open_call.OpenCall.TheVariants.{Send as InSend}

-- ---- each reply is to the message that the call names

answers_its : (roster : List Member) (past : Trace) (e : Event) (u : ℕ) (y : Completion) → IsLawful roster past
    → Outcome true (facts_of roster past) e.thread e.call e.completions
    → AnswersHeld (facts_of roster past) e.thread e.call u y → AnswersIts roster past e y
answers_its roster past e u y l a h =
    let f = facts_of roster past in
    let o = InSend h.held.send in
    let k = open_parts roster past u o h.held.is_open in
    let number : (number_of k.block) ≡ y.call = sym k.number ∙ h.number in
    let answer : is_for_answer o ≡ true = refl in
    let began : is_for_answer k.block ≡ true =
    sym (open_keeps is_for_answer roster past u o k held_for_answer buffer_answer) ∙ answer in
    let taken : is_received past (number_of k.block) ≡ true =
    subst (λ i. is_received past i ≡ true) k.number
    (open_receipt roster past u h.held.send h.held.is_open ∙ ap is_some h.held.held) in
    let s = open_over roster past u o k l answer in
    let on : is_on s.made.channel o ≡ true =
    open_keeps (is_on s.made.channel) roster past u o k (held_on s.made.channel) (buffer_on s.made.channel)
    ∙ block_on roster past u k.block s.made k.is began s.is_made in
    record {
      named = h.named;
      accepted = is_accepted_by roster e past a;
      held =
          subst (λ i. (is_received past i && not (is_ended past i)) ≡ true) number
          (and_from _ _ taken (ap not k.going));
      owner =
          subst (λ i. option_map_or (λ m. owns f e.thread m.channel) (item_among (items roster past) i) false ≡ true)
          number
          (ap (λ o. option_map_or (λ (m : SentItem). owns f e.thread m.channel) o false)
          (item_found roster past (number_of k.block) s.made s.is_made)
          ∙ ap (λ c. owns f e.thread c) (sym (eqb-true h.held.send.channel s.made.channel on))
          ∙ h.held.owner);
      sender =
          subst (λ i. sender_of past i ≡ Some y.thread) number
          (block_sender roster past u k.block k.is began ∙ ap (λ t. Some t) (sym h.thread));
    }

each_answers_its : (roster : List Member) (past : Trace) (e : Event) → IsLawful roster past
    → Answers (facts_of roster past) e.thread e.call e.completions
    → AllByRecursion (λ x. is_answer x.mark ≡ true → AnswersIts roster past e x) e.completions
each_answers_its roster past e l a = elim a [
  | inl a ↦ subst (AllByRecursion (λ x. is_answer x.mark ≡ true → AnswersIts roster past e x)) (sym a.by_row)
      (all_filter_map (λ x. is_answer x.mark ≡ true → AnswersIts roster past e x)
      (completion_to (facts_of roster past) e.thread e.call) (threads_of roster) (λ u y is answers.
      answers_its roster past e u y l a
      (answers_held (facts_of roster past) e.thread e.call u y
      (passes_of (facts_of roster past) e.thread e.call e.completions a) is answers)))
  | inr a ↦ subst (AllByRecursion (λ x. is_answer x.mark ≡ true → AnswersIts roster past e x)) (sym a.only) (
    (λ answers. absurd (true≢false (sym answers))),
    tt,
  )
]

-- ---- an accepted call that replies causes one reply

count_more : {Y : Type 0} (p : Y → Bool) (y : Y) (ys : List Y) (b : Bool) (n : ℕ) → p y ≡ b → count_by p ys ≡ n
    → count_by p (y ∷ ys) ≡ cond b 1 0 + n
count_more p y ys b n e rest = sum_by-cons (λ x. cond (p x) 1 0) y ys ∙ ap (λ k. cond k 1 0 + count_by p ys) e
    ∙ ap (λ k. cond b 1 0 + k) rest

count_none : {Y : Type 0} (p : Y → Bool) (g : ℕ → Option Y) (roster : List Member)
    → AllByRecursion (λ x. (z : Y) → g x.thread ≡ Some z → p z ≡ false) roster
    → count_by p (filter_map g (threads_of roster)) ≡ 0
count_none p g [] h = refl
count_none {Y} p g (m ∷ roster) h =
    elim (g m.thread) as (λ o. g m.thread ≡ o → count_by p (cons_option o (filter_map g (threads_of roster))) ≡ 0) [
      | None ↦ λ e. count_none p g roster h.1
      | Some z ↦ λ e. count_more p z (filter_map g (threads_of roster)) false 0 (h.0 z e) (count_none p g roster h.1)
    ] refl

-- if only one thread has a value that passes the test, exactly one value passes
count_one : {Y : Type 0} (p : Y → Bool) (g : ℕ → Option Y) (roster : List Member) (u : ℕ) (y : Y) → IsRoster roster
    → is_among (threads_of roster) u ≡ true → g u ≡ Some y → p y ≡ true
    → ((v : ℕ) (z : Y) → v ≢ u → g v ≡ Some z → p z ≡ false) → count_by p (filter_map g (threads_of roster)) ≡ 1
count_one p g [] u y r among is passes others = absurd (true≢false (sym among))
count_one {Y} p g (m ∷ roster) u y r among is passes others =
    elim (cases_Bool (eqb m.thread u)) as (λ _. count_by p (filter_map g (threads_of (m ∷ roster))) ≡ 1) [
      | inl same ↦
          let at : m.thread ≡ u = eqb-true m.thread u same in
          let here : g m.thread ≡ Some y = ap g at ∙ is in
          let rest : count_by p (filter_map g (threads_of roster)) ≡ 0 = count_none p g roster
          (all_more (λ (x : Member). m.thread < x.thread) (λ (x : Member). (z : Y) → g x.thread ≡ Some z → p z ≡ false)
          roster r.0 (λ x later z e. others x.thread z (λ s. omega arith) e)) in
          rw here (count_more p y (filter_map g (threads_of roster)) true 0 passes rest)
      | inr other ↦
          let rest : count_by p (filter_map g (threads_of roster)) ≡ 1 =
          count_one p g roster u y r.1 (rw other at among) is passes others in
          elim (g m.thread) as (λ o. g m.thread ≡ o
          → count_by p (cons_option o (filter_map g (threads_of roster))) ≡ 1) [
            | None ↦ λ e. rest
            | Some z ↦ λ e. count_more p z (filter_map g (threads_of roster)) false 1
                (others m.thread z (eqb-false m.thread u other) e) rest
          ] refl
    ]

-- an accepted call that replies to a message causes exactly one completion of that message's Send
abbrev AnswersOnce : Trace → Event → Type 0
AnswersOnce past e = (i : ℕ) → (effect_of e.call).answers ≡ Some i → is_accepted e past ≡ true
    → count_by (λ x. eqb x.call i) e.completions ≡ 1

answers_once : (roster : List Member) (past : Trace) (e : Event) → IsRoster roster → IsLawful roster past
    → Answers (facts_of roster past) e.thread e.call e.completions → AnswersOnce past e
answers_once roster past e r l a i answered was =
    let f = facts_of roster past in
    let o = outcome_of roster e past a was in
    let p = passes_of (facts_of roster past) e.thread e.call e.completions o in
    let k = answers_one (facts_of roster past) e.thread e.call i p answered in
    let other : eqb k.thread e.thread ≡ false =
    ne_eqb k.thread e.thread
    (λ same. none-some k.waiting (sym p.idle ∙ ap (λ t. f.open_call t) (sym same) ∙ k.is_open)) in
    let given : completion_to f e.thread e.call k.thread ≡ Some k.given = rw other k.is in
    rw (o.by_row) (count_one (λ x. eqb x.call i) (completion_to f e.thread e.call) roster k.thread k.given r
    (known roster k.thread (open_known roster past k.thread k.waiting l k.is_open))
    given
    (eq-eqb k.given.call i k.call)
    (λ v z apart is. subst (λ j. eqb z.call j ≡ false) k.call
    (different_calls roster past e.thread e.call e.completions o v k.thread z k.given apart is given)))

pub answered_to_sender : (roster : List Member) (past : Trace) → IsRoster roster → IsLawful roster past
    → AnsweredToSender roster past
answered_to_sender roster [] r l = tt
answered_to_sender roster (e ∷ past) r l = (
  answered_to_sender roster past r l.0,
  (
    each_answers_its roster past e l.0 l.1.1,
    answers_once roster past e r l.0 l.1.1,
  ),
)
