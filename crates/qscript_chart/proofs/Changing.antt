-- The threads whose priority a call changed, read from the kernel's records of threads.
use Rattle.qscript_chart.proofs.Common.{AllByRecursion, IsRoster, List, Member, None, Some, MatchesAt, State, [], ap}
use Rattle.qscript_chart.proofs.Common.{arith, change_since, changed_threads, cond, eqb, facts_in, facts_of, false}
use Rattle.qscript_chart.proofs.Common.{filter_map, find, level_of, map, members_of, option_map_or, priority_in, refl}
use Rattle.qscript_chart.proofs.Common.{thread_priority, true, ℕ, ◌<◌, ◌∙◌, ◌∷◌, ◌≡◌}
use Rattle.std.proofs.lemmas.Bool.{eq-eqb, ne_eqb}
use Rattle.qrules.specs.Facts.{threads_of}
use Rattle.qrules.specs.Trace.{Trace}
use Rattle.qkernel_state.specs.declared.thread.Thread.{Thread}

-- ---- each thread has the priority of its own record

later_own : (s : Thread) (threads rest : List Thread)
    → AllByRecursion (λ m. s.member.thread < m.thread) (members_of rest)
    → AllByRecursion (λ x. thread_priority threads x.member.thread ≡ x.priority) rest
    → AllByRecursion (λ x. thread_priority (s ∷ threads) x.member.thread ≡ x.priority) rest
later_own s threads [] l h = tt
later_own s threads (x ∷ rest) l h =
    let other : eqb s.member.thread x.member.thread ≡ false =
    ne_eqb _ _ (λ e. let below : s.member.thread < x.member.thread = l.0 in omega arith) in
    (rw other (h.0), later_own s threads rest l.1 h.1)

own_priority : (threads : List Thread) → IsRoster (members_of threads)
    → AllByRecursion (λ x. thread_priority threads x.member.thread ≡ x.priority) threads
own_priority [] r = tt
own_priority (s ∷ threads) r =
    (rw (eq-eqb s.member.thread s.member.thread refl) refl, later_own s threads threads r.0 (own_priority threads r.1))

-- ---- the priorities that differ

read_before : (threads : List Thread) (u : ℕ) → priority_in (map level_of threads) u ≡ thread_priority threads u
read_before [] u = refl
read_before (t ∷ threads) u =
    elim (eqb t.member.thread u)
    as (λ b. option_map_or (λ l. l.priority)
    (cond b (Some (level_of t)) (find (λ l. eqb l.thread u) (map level_of threads))) 0 ≡ cond b t.priority
    (thread_priority threads u)) [ true ↦ refl | false ↦ read_before threads u ]

same_changes : (old : List Thread) (after : ℕ → ℕ) (threads : List Thread)
    → AllByRecursion (λ x. after x.member.thread ≡ x.priority) threads
    → filter_map (change_since (map level_of old)) (map level_of threads)
    ≡ filter_map (λ u. cond (eqb (thread_priority old u) (after u)) None
    (Some (record { thread = u; priority = after u }))) (threads_of (members_of threads))
same_changes old after [] h = refl
same_changes old after (t ∷ threads) h =
    rw (read_before old t.member.thread, h.0, same_changes old after threads h.1) refl

pub changed_now : (old new : State) → IsRoster (members_of new.threads)
    → filter_map (change_since (map level_of old.threads)) (map level_of new.threads) ≡ changed_threads (facts_in old)
    (facts_in new)
changed_now old new rises =
    same_changes old.threads (thread_priority new.threads) new.threads (own_priority new.threads rises)

pub told_changes : (old new : State) → IsRoster (members_of new.threads) → (roster : List Member) (past after : Trace)
    → MatchesAt roster old past → MatchesAt roster new after
    → filter_map (change_since (map level_of old.threads)) (map level_of new.threads) ≡ changed_threads
    (facts_of roster past) (facts_of roster after)
told_changes old new rises roster past after matched matches = changed_now old new rises
    ∙ ap (λ f. changed_threads f (facts_in new)) matched ∙ ap (changed_threads (facts_of roster past)) matches
