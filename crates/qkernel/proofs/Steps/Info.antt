-- Info as a step of the kernel.
use Rattle.qkernel.proofs.Common.{◌≡◌, ℕ, ◌+◌, List, [], ◌∷◌, refl, ap, sym, ◌∙◌, cond, eqb, arith, true, append-nil}
use Rattle.qkernel.proofs.Common.{false, true≢false, and_parts, Info, info_of, info_of_open, info_completion}
use Rattle.qkernel.proofs.Common.{is_held_in, is_held_of, InfoAtTraces, held_sent, Option, None, Some, is_some}
use Rattle.qkernel.proofs.Common.{filter_map, member_at, IsRoster, Member, Completion, Channel, OpenCall, Thread, State}
use Rattle.qkernel.proofs.Common.{IsSound, Steps, facts_in, open_in, sender_in, members_of, channel_in, among, only_own}
use Rattle.qkernel.proofs.Common.{rises, is_of}
use Rattle.std.specs.Option.{option_and_then, option_map, option_map_or}
use Rattle.qmodel.specs.declared.open_call.OpenCall.TheVariants.{Receive, Send}
use Rattle.qmodel.specs.declared.call.Info.{Info as Told}
use Rattle.qrules.proofs.Words.Facts.{sender, threads_of}
use Rattle.qkernel_state.specs.Threads.{IsRecordOf}
use Rattle.qkernel.proofs.Steps.Common.{uncancelled, counted, stays_free}
use Rattle.qkernel.proofs.Steps.Held.{is_held}
use Rattle.qrules.proofs.Traces.Past.Waits.{some_map}

-- the information about the sender's thread
pub info_there : (s : State) (i u : ℕ) (t : Thread) → sender_in s.threads i ≡ Some u → IsRecordOf u s.threads t
    → info_of (facts_in s) (sender (facts_in s) i) ≡ info_of_open t.member t.open_call
info_there s i u t sent is =
    ap (info_of (facts_in s)) sent
    ∙ ap (option_and_then (λ m. info_of_open m (open_in s.threads u))) is.member
    ∙ ap (info_of_open t.member) is.open_call

-- there is no information if no thread is blocked in this Send
pub info_nowhere : (s : State) (i : ℕ) → sender_in s.threads i ≡ None
    → info_of (facts_in s) (sender (facts_in s) i) ≡ None
info_nowhere s i none = ap (info_of (facts_in s)) none

-- information from the kernel's content is right for every history that the kernel matches
pub info_at_traces : (s : State) (i : ℕ) (told : Option Told) → IsRoster (members_of s.threads)
    → told ≡ info_of (facts_in s) (sender (facts_in s) i) → InfoAtTraces s i told
info_at_traces s i told rises is roster past matches = is ∙ ap (λ f. info_of f (sender f i)) matches

-- there is information about a held message
told_some : (channels : List (ℕ × Channel)) (p : ℕ) (m : Member) (o : Option OpenCall)
    → option_map_or (is_held_of channels p) o false ≡ true → is_some (info_of_open m o) ≡ true
told_some channels p m None e = absurd (true≢false (sym e))
told_some channels p m (Some (Receive r)) e = absurd (true≢false (sym e))
told_some channels p m (Some (Send s)) e = some_map _ s.receipt
    ∙ (and_parts (is_some s.receipt) (is_of p (channel_in channels s.channel)) e).0

pub told_there : (channels : List (ℕ × Channel)) (p i u : ℕ) (threads : List Thread) (t : Thread)
    → sender_in threads i ≡ Some u → IsRecordOf u threads t → is_held_in threads channels p i ≡ true
    → info_of_open t.member t.open_call ≡ None → ⊥
told_there channels p i u threads t sent is held none =
    let here : option_map_or (is_held_of channels p) t.open_call false ≡ true =
    ap (λ o. option_map_or (is_held_of channels p) o false) (sym is.open_call)
    ∙ sym (held_sent channels p i u threads sent) ∙ held in
    true≢false (sym (told_some channels p t.member t.open_call here) ∙ ap is_some none)

module _ (s : State) (t : ℕ) (m : Member) (i : ℕ) (sound : IsSound s)
    (known : member_at (members_of s.threads) t ≡ Some m) (up : s.down ≡ false) (free : open_in s.threads t ≡ None)
    (held : is_held_in s.threads s.channels m.process i ≡ true) where
  pub step_info : (told_so : Told) (X : List Completion) → info_of (facts_in s) (sender (facts_in s) i) ≡ Some told_so
      → X ≡ info_completion (s.made + 1) t told_so ∷ [] → Steps s t (Info i) X (counted s)
  step_info told_so X says is = (
    true,
    record {
      answer = record {
        no_refusal = rw (up, free, is_held s t m i sound known, held) refl;
        by_row = is ∙ sym (only_own _ t (Some (info_completion (s.made + 1) t told_so))
            (rises (members_of s.threads) sound.roster) (among (members_of s.threads) t m known))
            ∙ ap (λ o. filter_map (λ u. cond (eqb u t) (option_map (info_completion (s.made + 1) t) o) None)
            (threads_of (members_of s.threads))) (sym says);
      };
      follows = record {
        roster = refl;
        number = refl;
        down = refl;
        channel = λ k. rw known refl;
        open_channels = rw known (omega arith);
        connection = λ k. rw known refl;
        live_connections = rw known (omega arith);
        open_call = λ u. rw says (stays_free s.threads t u free);
        pending =
            λ k. uncancelled s t (Info i) (rw (up, free, is_held s t m i sound known, held) refl) refl refl refl k
            (sym (append-nil _));
        priority = λ u. refl;
      };
    },
  )
