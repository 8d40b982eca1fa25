-- The blocked threads, by their records.
use Rattle.qkernel.proofs.Common.{◌≡◌, ℕ, ◌+◌, ◌<◌, List, [], ◌∷◌, ◌++◌, length, take, get_or, refl, ap, ◌∙◌}
use Rattle.qkernel.proofs.Common.{filter_map, cons_option, AllByRecursion, option_to_list}
use Rattle.qkernel.proofs.Common.{take_at_read, filter_map-append, blocked_thread, facts_of, Trace, own_open}
use Rattle.qkernel.proofs.Common.{Option, None, Some, IsRoster, Member, threads_of}
use Rattle.qkernel.proofs.Common.{MatchesAt, State, open_in, members_of, OpenCall, Thread}
use Rattle.qkernel.specs.Blocked.{blocked_threads}
use Rattle.qmodel.specs.declared.open_call.Blocked.{Blocked}

-- the list entry of each blocked thread, made from its record
abbrev pub blocked_by : List Thread → List Blocked
blocked_by threads = filter_map (λ t. blocked_thread t.member.thread t.open_call) threads

one_told : (given : Option Blocked) → cons_option given [] ≡ option_to_list given
one_told None = refl
one_told (Some b) = refl

pub blocked_more : (threads : List Thread) (i : ℕ) (d : Thread) → i < length threads
    → blocked_by (take i threads) ++ option_to_list
    (blocked_thread (get_or threads i d).member.thread (get_or threads i d).open_call) ≡ blocked_by
    (take (i + 1) threads)
blocked_more threads i d within =
    rw (
      (take_at_read threads i d within).1,
      filter_map-append (λ t. blocked_thread t.member.thread t.open_call) (take i threads) (get_or threads i d ∷ []),
      one_told (blocked_thread (get_or threads i d).member.thread (get_or threads i d).open_call),
    ) refl

same_told : (open_call : ℕ → Option OpenCall) (threads : List Thread)
    → AllByRecursion (λ x. open_call x.member.thread ≡ x.open_call) threads
    → blocked_by threads ≡ filter_map (λ u. blocked_thread u (open_call u)) (threads_of (members_of threads))
same_told open_call [] h = refl
same_told open_call (t ∷ threads) h = rw (h.0, same_told open_call threads h.1) refl

pub blocked_now : (roster : List Member) (s : State) (past : Trace) → IsRoster (members_of s.threads)
    → MatchesAt roster s past
    → blocked_by s.threads ≡ blocked_threads (facts_of roster past)
blocked_now roster s past rises matches = same_told (open_in s.threads) s.threads (own_open s.threads rises)
    ∙ ap blocked_threads matches
