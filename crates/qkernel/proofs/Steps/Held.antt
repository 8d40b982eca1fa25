-- Lemmas for the calls on held messages, by the kernel's content.
use Rattle.qkernel.proofs.Common.{◌≡◌, ◌≢◌, ℕ, ◌+◌, List, [], ◌∷◌, refl, ap, sym, ◌∙◌, cond, true, false, eqb, inl}
use Rattle.qkernel.proofs.Common.{Option, None, Some, is_some, ◌||◌, ◌&&◌, refusal_completion, Finish, ends_sender}
use Rattle.qkernel.proofs.Common.{answer_completion, sender_among, refusal_unless_held, holds, is_held_for, is_held_in}
use Rattle.qkernel.proofs.Common.{is_held_of, open_in, sender_in, sent_call, SetsOpen, two_completions, filter_map}
use Rattle.qkernel.proofs.Common.{eqb-true, eq-eqb, same_Some, none-some, Srch, member_at, Member, Call, Completion}
use Rattle.qkernel.proofs.Common.{OpenCall, Thread, completion_to, row_of, channel_in, members_of}
use Rattle.qkernel.proofs.Common.{with_completion_in_place, State, IsSound, Steps, facts_in, unless, is_among}
use Rattle.qkernel.proofs.Common.{cond_same, rises, among, filter_map_same, option_map_or}
use Rattle.qmodel.specs.declared.open_call.OpenCall.TheVariants.{Receive, Send}
use Rattle.qrules.proofs.Words.Facts.{is_send, sender, threads_of}
use Rattle.qrules.proofs.Messages.{held_same as holds_by_call}
use Rattle.qkernel.proofs.Steps.Common.{counted, step_refused_alone, owned_by_member}
use Rattle.qmodel.specs.declared.call.Mark.TheVariants as mark

module _ (s : State) (t : ℕ) (m : Member) (i : ℕ) (sound : IsSound s)
    (known : member_at (members_of s.threads) t ≡ Some m) where
  held_same : (o : Option OpenCall)
      → is_held_for (facts_in s) t o ≡ option_map_or (is_held_of s.channels m.process) o false
  held_same None = refl
  held_same (Some (Receive r)) = refl
  held_same (Some (Send x)) =
      ap (λ b. is_some x.receipt && b) (owned_by_member (facts_in s) t m (channel_in s.channels x.channel) known)

  -- the rule and the kernel agree on whether the message is held
  pub is_held : holds (facts_in s) t i ≡ is_held_in s.threads s.channels m.process i
  is_held = holds_by_call (facts_in s) t i ∙ held_same (sent_call s.threads i)

  -- the call fails if no such message is held
  pub step_unheld : (c : Call) (X : List Completion)
      → (row_of (facts_in s) t c).refusal ≡ refusal_unless_held (facts_in s) t i → s.down ≡ false
      → open_in s.threads t ≡ None → is_held_in s.threads s.channels m.process i ≡ false
      → X ≡ refusal_completion (facts_in s) t c Srch ∷ [] → Steps s t c X (counted s)
  step_unheld c X row up free none is =
      step_refused_alone s t c Srch X (inl (rw (row, up, free, is_held, none) refl)) is

-- ---- the sender

among_senders : (threads : List Thread) (i u : ℕ) → sender_in threads i ≡ Some u
    → is_among (threads_of (members_of threads)) u ≡ true
among_senders threads i u e = found (threads_of (members_of threads)) e where
  found : (ts : List ℕ) → sender_among (open_in threads) i ts ≡ Some u → is_among ts u ≡ true
  found [] e = absurd (none-some u e)
  found (v ∷ ts) e =
      elim (is_send i (open_in threads v)) as (λ b. cond b (Some v) (sender_among (open_in threads) i ts) ≡ Some u
      → is_among (v ∷ ts) u ≡ true) [
        | true ↦ λ e. rw (eq-eqb v u (same_Some v u e)) refl
        | false ↦ λ e. elim (eqb v u) as (λ b. (b || is_among ts u) ≡ true) [ true ↦ refl | false ↦ found ts e ]
      ] e

-- ---- a reply

finished_thread : (finish : Finish) (u : ℕ) (o : Option OpenCall) (y : Completion)
    → answer_completion finish u o ≡ Some y → y.thread ≡ u
finished_thread finish u None y e = absurd (none-some y e)
finished_thread finish u (Some (Send s)) y e = sym (ap (λ x. x.thread) (same_Some _ y e))
finished_thread finish u (Some (Receive r)) y e = absurd (none-some y e)

module _ (s : State) (t : ℕ) (m : Member) (i : ℕ) (sound : IsSound s)
    (known : member_at (members_of s.threads) t ≡ Some m) (finish : Finish) (u : ℕ) (y : Completion)
    (up : s.down ≡ false) (free : open_in s.threads t ≡ None)
    (is_sender : sender_in s.threads i ≡ Some u) (ended : answer_completion finish u (open_in s.threads u) ≡ Some y)
  where
    -- the completion of the call that replies
    abbrev pub mine : Completion
    mine = record { call = s.made + 1; thread = t; mark = mark.Ok; buffer = [] }

    apart : t ≢ u
    apart e = none-some y (sym (ap (answer_completion finish u) (ap (open_in s.threads) (sym e) ∙ free)) ∙ ended)

    -- the completions of the two threads
    module _ (c : Call) (own : (row_of (facts_in s) t c).own ≡ Some mine)
        (others : (v : ℕ) → (row_of (facts_in s) t c).others v ≡ ends_sender (facts_in s) finish
        (sender (facts_in s) i) v) where
      pub two_ended : (X : List Completion) → X ≡ with_completion_in_place y (mine ∷ [])
          → X ≡ filter_map (completion_to (facts_in s) t c) (threads_of (members_of s.threads))
      two_ended X is =
          is ∙ two_completions mine y t u refl (finished_thread finish u (open_in s.threads u) y ended) apart
          (threads_of (members_of s.threads)) (rises (members_of s.threads) sound.roster)
          (among (members_of s.threads) t m known) (among_senders s.threads i u is_sender)
          ∙ sym (filter_map_same (completion_to (facts_in s) t c)
          (λ v. cond (eqb v t) (Some mine) (cond (eqb v u) (Some y) None)) (threads_of (members_of s.threads))
          (λ v. rw (own, others v, is_sender)
          (ap (cond (eqb v t) (Some mine))
          (elim (eqb v u) as (λ b. eqb v u ≡ b
          → cond b (answer_completion finish v (open_in s.threads v)) None ≡ cond b (Some y) None) [
            | true ↦ λ f. rw (eqb-true v u f) ended
            | false ↦ λ f. refl
          ] refl))))

      -- the sender is no longer blocked
      pub answered_calls : (threads : List Thread) → SetsOpen u None s.threads threads → (v : ℕ)
          → open_in threads v ≡ cond (eqb v t) None
          (unless (is_some ((row_of (facts_in s) t c).others v)) (open_in s.threads v))
      answered_calls threads takes v =
          rw (
            others v,
            is_sender,
          ) (takes.open_call v ∙ (elim (eqb v t) as (λ b. eqb v t ≡ b → cond (eqb v u) None (open_in s.threads v)
          ≡ cond b None (unless (is_some (cond (eqb v u) (answer_completion finish v (open_in s.threads v)) None))
          (open_in s.threads v))) [
            | true ↦ λ e. let idle : open_in s.threads v ≡ None = ap (open_in s.threads) (eqb-true v t e) ∙ free in
                rw idle (cond_same (eqb v u) None)
            | false ↦ λ e. elim (eqb v u)
                as (λ b. eqb v u ≡ b → cond b None (open_in s.threads v)
                ≡ unless (is_some (cond b (answer_completion finish v (open_in s.threads v)) None))
                (open_in s.threads v)) [
                  | true ↦ λ f. rw (eqb-true v u f, ended) refl
                  | false ↦ λ f. refl
                ] refl
          ] refl))
