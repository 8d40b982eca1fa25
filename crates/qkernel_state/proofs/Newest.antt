-- The newest receiver, found by a search of only the receivers.
use Rattle.qkernel_state.proofs.Common.{◌≡◌, ◌≢◌, ◌<◌, ◌≤◌, ◌+◌, ℕ, suc, zero, List, [], ◌∷◌, drop, length, get_or}
use Rattle.qkernel_state.proofs.Common.{refl, ap, sym, ◌∙◌, arith, cond, ◌&&◌, ◌-◌, true, false, eqb, option_map}
use Rattle.qkernel_state.proofs.Common.{eqb-true, eq-eqb, ltb-false, ltb-true, true≢false, at_drop_more, drop_all}
use Rattle.qkernel_state.proofs.Common.{none-some, same_Some, has, HasNone, IsGreatest, may_take, Item, IsRoster}
use Rattle.qkernel_state.proofs.Common.{OpenCall, Receive, Send, wait_on, IndexGuesses, Thread, members_of}
use Rattle.qkernel_state.proofs.Common.{later_of_two, newest_in, newer_of, newest_of, number_and_thread, open_at}
use Rattle.qkernel_state.proofs.Common.{receive_at, IsIndexed, IsSeatIn, Option, None, Some, nat_lt, IfSome}
use Rattle.qbase.specs.declared.byte_set.ByteSet.{ByteSet}
use Rattle.qkernel_state.specs.declared.thread_ref.ThreadRef.{ThreadRef}
use Rattle.qkernel_state.proofs.Indexing.{receive_number}
use Rattle.qkernel_state.proofs.Receivers.{newest_by, newest_found}

-- ---- a search from the front finds the same receiver as a search from the back

-- the later of two receives
abbrev later_of : Option (ℕ × ℕ) → Option (ℕ × ℕ) → Option (ℕ × ℕ)
later_of None found = found
later_of (Some a) None = Some a
later_of (Some a) (Some b) = cond (nat_lt a.0 b.0) (Some b) (Some a)

later_joins : (best : Option (ℕ × ℕ)) (u : ℕ) (w : Option ℕ) (found : Option (ℕ × ℕ))
    → later_of (later_of_two best u w) found ≡ later_of best (newer_of u w found)
later_joins best u None found = refl
later_joins None u (Some m) None = refl
later_joins None u (Some m) (Some b) = refl
later_joins (Some a) u (Some m) None =
    elim (nat_lt a.0 m) as (λ p. later_of (cond p (Some (m, u)) (Some a)) None ≡ cond p (Some (m, u))
    (Some a)) [ true ↦ refl | false ↦ refl ]
later_joins (Some a) u (Some m) (Some b) =
    elim (nat_lt a.0 m) as (λ p. nat_lt a.0 m ≡ p
    → later_of (cond p (Some (m, u)) (Some a)) (Some b) ≡ later_of (Some a)
    (cond (nat_lt m b.0) (Some b) (Some (m, u)))) [
      | true ↦ λ first. elim (nat_lt m b.0)
          as (λ q. nat_lt m b.0 ≡ q
          → cond q (Some b) (Some (m, u)) ≡ later_of (Some a) (cond q (Some b) (Some (m, u)))) [
            | true ↦ λ second. let x : a.0 < m = ltb-true a.0 m first in
                let y : m < b.0 = ltb-true m b.0 second in
                rw (less_is a.0 b.0 (omega arith)) refl
            | false ↦ λ second. rw first refl
          ] refl
      | false ↦ λ first. elim (nat_lt m b.0)
          as (λ q. nat_lt m b.0 ≡ q
          → cond (nat_lt a.0 b.0) (Some b) (Some a) ≡ later_of (Some a) (cond q (Some b) (Some (m, u)))) [
            | true ↦ λ second. refl
            | false ↦ λ second. let x : m ≤ a.0 = ltb-false a.0 m first in
                let y : b.0 ≤ m = ltb-false m b.0 second in
                rw (first, more_is a.0 b.0 (omega arith)) refl
          ] refl
    ] refl where
      less_is : (m n : ℕ) → m < n → nat_lt m n ≡ true
      less_is m n l = elim (nat_lt m n) as (λ b. nat_lt m n ≡ b → b ≡ true) [
        | true ↦ λ e. refl
        | false ↦ λ e. let more : n ≤ m = ltb-false m n e in absurd (omega arith)
      ] refl

      more_is : (m n : ℕ) → n ≤ m → nat_lt m n ≡ false
      more_is m n l = elim (nat_lt m n) as (λ b. nat_lt m n ≡ b → b ≡ false) [
        | true ↦ λ e. let less : m < n = ltb-true m n e in absurd (omega arith)
        | false ↦ λ e. refl
      ] refl

found_behind : (h : ℕ) (item : Item) (best : Option (ℕ × ℕ)) (threads : List Thread)
    → newest_by h item best threads ≡ later_of best (newest_of h item threads)
found_behind h item None [] = refl
found_behind h item (Some a) [] = refl
found_behind h item best (t ∷ threads) =
    found_behind h item (later_of_two best t.member.thread (wait_on h item t.open_call)) threads
    ∙ later_joins best t.member.thread (wait_on h item t.open_call) (newest_of h item threads)

pub newest_is_found : (h : ℕ) (item : Item) (threads : List Thread) → IsRoster (members_of threads)
    → option_map (λ b. b.1) (newest_of h item threads) ≡ newest_in h item threads
newest_is_found h item threads roster = ap (option_map (λ (b : ℕ × ℕ). b.1)) (sym (found_behind h item None threads))
    ∙ newest_found h item threads roster

-- ---- a thread whose receive may take the item is RECEIVE-blocked

pub waits_receives : (h : ℕ) (item : Item) (o : Option OpenCall) (n : ℕ) → wait_on h item o ≡ Some n
    → receive_number o ≡ Some n
waits_receives h item None n e = absurd (none-some n e)
waits_receives h item (Some (Send s)) n e = absurd (none-some n e)
waits_receives h item (Some (Receive r)) n e =
    elim (eqb r.channel h && may_take r.kind item)
    as (λ b. cond b (Some r.number) None ≡ Some n → Some r.number ≡ Some n) [
      | true ↦ λ is. is
      | false ↦ λ is. absurd (none-some n is)
    ] e

-- ---- threads without such a receive are skipped

pub newest_skip : (h : ℕ) (item : Item) (threads : List Thread) (i : ℕ) → wait_on h item (open_at threads i) ≡ None
    → newest_of h item (drop i threads) ≡ newest_of h item (drop (suc i) threads)
newest_skip h item [] zero none = refl
newest_skip h item [] (suc i) none = refl
newest_skip h item (t ∷ threads) zero none = rw none refl
newest_skip h item (t ∷ threads) (suc i) none = newest_skip h item threads i none

pub newest_skips : (h : ℕ) (item : Item) (threads : List Thread) (i gap : ℕ)
    → ((j : ℕ) → i ≤ j → j < i + gap → wait_on h item (open_at threads j) ≡ None)
    → newest_of h item (drop i threads) ≡ newest_of h item (drop (i + gap) threads)
newest_skips h item threads i zero none = ap (λ k. newest_of h item (drop k threads)) (omega arith)
newest_skips h item threads i (suc gap) none =
    newest_skip h item threads i (none i (omega arith) (omega arith))
    ∙ newest_skips h item threads (suc i) gap (λ j l m. none j (omega arith) (omega arith))
    ∙ ap (λ k. newest_of h item (drop k threads)) (omega arith)

-- one more thread is searched
pub newest_more : (h : ℕ) (item : Item) (threads : List Thread) (i : ℕ) (d : Thread) → i < length threads
    → newest_of h item (drop i threads) ≡ newer_of (get_or threads i d).member.thread
    (wait_on h item (get_or threads i d).open_call) (newest_of h item (drop (i + 1) threads))
newest_more h item threads i d l = at_drop_more (newest_of h item) threads i d l

-- a thread with such a receive is the newest if none after it has one, or if the newest after it isn't newer
pub newer_alone : (u n : ℕ) (rest : Option (ℕ × ℕ)) → rest ≡ None → newer_of u (Some n) rest ≡ Some (n, u)
newer_alone u n rest e = rw e refl

pub newer_first : (u n : ℕ) (rest : Option (ℕ × ℕ)) (b : ℕ × ℕ) → rest ≡ Some b → b.0 ≤ n
    → newer_of u (Some n) rest ≡ Some (n, u)
newer_first u n rest b e least =
    rw e (elim (nat_lt n b.0) as (λ p. nat_lt n b.0 ≡ p → cond p (Some b) (Some (n, u)) ≡ Some (n, u)) [
      | true ↦ λ less. let more : n < b.0 = ltb-true n b.0 less in absurd (omega arith)
      | false ↦ λ more. refl
    ] refl)

-- ---- the receive that is newer than all others

found_waits : (h : ℕ) (item : Item) (threads : List Thread) (b : ℕ × ℕ) → newest_of h item threads ≡ Some b
    → (j : ℕ) × (wait_on h item (open_at threads j) ≡ Some b.0)
found_waits h item [] b e = absurd (none-some b e)
found_waits h item (t ∷ threads) b e =
    elim (wait_on h item t.open_call)
    as (λ w. wait_on h item t.open_call ≡ w → newer_of t.member.thread w (newest_of h item threads) ≡ Some b
    → (j : ℕ) × (wait_on h item (open_at (t ∷ threads) j) ≡ Some b.0)) [
      | None ↦ λ none is. let r = found_waits h item threads b is in (suc r.0, r.1)
      | Some m ↦ λ waits is. elim (newest_of h item threads)
          as (λ r. newest_of h item threads ≡ r → newer_of t.member.thread (Some m) r ≡ Some b
          → (j : ℕ) × (wait_on h item (open_at (t ∷ threads) j) ≡ Some b.0)) [
            | None ↦ λ empty same. (0, waits ∙ ap (λ (p : ℕ × ℕ). Some p.0) (same_Some _ b same))
            | Some best ↦ λ found same. elim (nat_lt m best.0)
                as (λ p. cond p (Some best) (Some (m, t.member.thread)) ≡ Some b
                → (j : ℕ) × (wait_on h item (open_at (t ∷ threads) j) ≡ Some b.0)) [
                  | true ↦ λ same. let r = found_waits h item threads b (found ∙ same) in (suc r.0, r.1)
                  | false ↦ λ same. (0, waits ∙ ap (λ (p : ℕ × ℕ). Some p.0) (same_Some _ b same))
                ] same
          ] refl is
    ] refl e

pub newest_is : (h : ℕ) (item : Item) (threads : List Thread) (k n : ℕ) (d : Thread) → k < length threads
    → wait_on h item (get_or threads k d).open_call ≡ Some n
    → ((j m : ℕ) → wait_on h item (open_at threads j) ≡ Some m → j ≢ k → m < n)
    → newest_of h item threads ≡ Some (n, (get_or threads k d).member.thread)
newest_is h item [] k n d l waits others = absurd (omega arith)
newest_is h item (t ∷ threads) zero n d l waits others =
    rw waits
    (elim (newest_of h item threads)
    as (λ r. newest_of h item threads ≡ r → newer_of t.member.thread (Some n) r ≡ Some (n, t.member.thread)) [
      | None ↦ λ empty. refl
      | Some best ↦ λ found. let r = found_waits h item threads best found in
          let less : best.0 < n =
          others (suc r.0) best.0 r.1 (λ e. absurd (omega arith)) in
          elim (nat_lt n best.0) as
          (λ p. nat_lt n best.0 ≡ p → cond p (Some best) (Some (n, t.member.thread)) ≡ Some (n, t.member.thread)) [
            | true ↦ λ e. let more : n < best.0 = ltb-true n best.0 e in absurd (omega arith)
            | false ↦ λ e. refl
          ] refl
    ] refl)
newest_is h item (t ∷ threads) (suc k) n d l waits others =
    rw (newest_is h item threads k n d (omega arith) waits
    (λ j m is other. others (suc j) m is (λ e. other (omega arith))))
    (elim (wait_on h item t.open_call)
    as (λ w. wait_on h item t.open_call ≡ w → newer_of t.member.thread w (Some (n, (get_or threads k d).member.thread))
    ≡ Some (n, (get_or threads k d).member.thread)) [
      | None ↦ λ none. refl
      | Some m ↦ λ waits. let less : m < n = others 0 m waits (λ e. absurd (omega arith)) in
          elim (nat_lt m n) as (λ p. nat_lt m n ≡ p
          → cond {A = Option (ℕ × ℕ)} p (Some (n, (get_or threads k d).member.thread)) (Some (m, t.member.thread))
          ≡ Some (n, (get_or threads k d).member.thread)) [
            | true ↦ λ e. refl
            | false ↦ λ e. let more : n ≤ m = ltb-false m n e in absurd (omega arith)
          ] refl
    ] refl)

-- the last receiver is the newest, if call numbers have risen
pub newest_is_last : (h : ℕ) (item : Item) (threads : List Thread) (index : IndexGuesses) (n : ℕ) (d : Thread)
    → IsIndexed threads index → index.last < length threads → index.rising ≡ true
    → wait_on h item (get_or threads index.last d).open_call ≡ Some n → n ≡ index.newest
    → newest_in h item threads ≡ Some (get_or threads index.last d).member.thread
newest_is_last h item threads index n d i l rises waits same =
    sym (newest_is_found h item threads i.roster)
    ∙ ap (option_map (λ (b : ℕ × ℕ). b.1))
    (newest_is h item threads index.last n d l waits
    (λ j m is other. rw same (i.others rises j m (waits_receives h item (open_at threads j) m is) other)))

-- ---- the search through the receivers

-- the receivers below a bound are left, and best is the newest at the bound and above
pub record Searches (h : ℕ) (item : Item) (threads : List Thread) (receivers left : ByteSet)
    (best : Option (ℕ × ThreadRef)) (turn : ℕ) : Type 0 where
  pub bound : ℕ
  pub fits : bound + turn ≤ 256
  pub passed : (j : ℕ) → bound ≤ j → j < 256 → has left j ≡ false
  pub remains : (j : ℕ) → j < bound → has left j ≡ has receivers j
  pub newest : number_and_thread best ≡ newest_of h item (drop bound threads)
  pub seat : IfSome best (λ b. IsSeatIn threads b.1)

no_waiter : (h : ℕ) (item : Item) (threads : List Thread) (receivers : ByteSet) (j : ℕ)
    → ((k n : ℕ) → receive_at threads k ≡ Some n → has receivers k ≡ true) → has receivers j ≡ false
    → wait_on h item (open_at threads j) ≡ None
no_waiter h item threads receivers j all none =
    elim (wait_on h item (open_at threads j)) as (λ w. wait_on h item (open_at threads j) ≡ w → w ≡ None) [
      | None ↦ λ e. refl
      | Some n ↦ λ e. absurd (true≢false (sym (all j n (waits_receives h item (open_at threads j) n e)) ∙ none))
    ] refl

pub search_begins : (h : ℕ) (item : Item) (threads : List Thread) (receivers : ByteSet) → length threads ≤ 64
    → Searches h item threads receivers receivers None 0
search_begins h item threads receivers few = record {
  bound = 256;
  fits = omega arith;
  passed = λ j l m. absurd (omega arith);
  remains = λ j l. refl;
  newest = ap (newest_of h item) (sym (drop_all 256 threads (omega arith)));
  seat = tt;
}

-- when no receiver is left, best is the newest of all
pub search_ends : (h : ℕ) (item : Item) (threads : List Thread) (receivers left : ByteSet)
    (best : Option (ℕ × ThreadRef)) (turn : ℕ) → ((k n : ℕ) → receive_at threads k ≡ Some n → has receivers k ≡ true)
    → Searches h item threads receivers left best turn → HasNone left
    → number_and_thread best ≡ newest_of h item threads
search_ends h item threads receivers left best turn all s none =
    let end : s.bound ≡ 0 + s.bound = omega arith in
    s.newest ∙ ap (λ k. newest_of h item (drop k threads)) end
    ∙ sym (newest_skips h item threads 0 s.bound
    (λ j l m. no_waiter h item threads receivers j all (sym (s.remains j (omega arith)) ∙ none j)))

-- no receiver is left after as many turns as there are byte values
pub search_over : (h : ℕ) (item : Item) (threads : List Thread) (receivers left : ByteSet)
    (best : Option (ℕ × ThreadRef)) (turn : ℕ) → Searches h item threads receivers left best turn → 256 ≤ turn
    → number_and_thread best ≡ newest_of h item threads
search_over h item threads receivers left best turn s over =
    (let fits : s.bound + turn ≤ 256 = s.fits in
    let end : s.bound ≡ 0 = omega arith in
    s.newest ∙ ap (λ k. newest_of h item (drop k threads)) end)

module _ (h : ℕ) (item : Item) (threads : List Thread) (receivers left : ByteSet) (best : Option (ℕ × ThreadRef))
    (turn g : ℕ) (all : (k n : ℕ) → receive_at threads k ≡ Some n → has receivers k ≡ true)
    (s : Searches h item threads receivers left best turn) (greatest : IsGreatest left g) (byte : g < 256) where
  -- the greatest receiver that is left is below the bound
  greatest_below : g < s.bound
  greatest_below = elim (nat_lt g s.bound) as (λ b. nat_lt g s.bound ≡ b → g < s.bound) [
    | true ↦ λ e. ltb-true g s.bound e
    | false ↦ λ e. absurd (true≢false (sym greatest.0 ∙ s.passed g (ltb-false g s.bound e) byte))
  ] refl

  -- no thread between it and the bound has such a receive
  pub newest_behind : number_and_thread best ≡ newest_of h item (drop (g + 1) threads)
  newest_behind =
      let below : g < s.bound = greatest_below in
      let gap : ℕ = s.bound - (g + 1) in
      let is : g + 1 + gap ≡ s.bound = omega arith in
      s.newest ∙ ap (λ k. newest_of h item (drop k threads)) (sym is)
      ∙ sym (newest_skips h item threads (g + 1) gap
      (λ j l m. no_waiter h item threads receivers j all
      (sym (s.remains j (omega (arith, is))) ∙ greatest.1 j (omega arith))))

  pub search_turns : (after : ByteSet) (newer : Option (ℕ × ThreadRef)) → has after g ≡ false
      → ((other : ℕ) → other ≢ g → has after other ≡ has left other)
      → number_and_thread newer ≡ newest_of h item (drop g threads) → IfSome newer (λ b. IsSeatIn threads b.1)
      → Searches h item threads receivers after newer (turn + 1)
  search_turns after newer removed others found seat =
      let below : g < s.bound = greatest_below in
      let fits : s.bound + turn ≤ 256 = s.fits in
      record {
        bound = g;
        fits = omega arith;
        passed = λ j l m. elim (eqb j g) as (λ b. eqb j g ≡ b → has after j ≡ false) [
          | true ↦ λ same. ap (has after) (eqb-true j g same) ∙ removed
          | false ↦ λ other. others j (λ e. true≢false (sym (eq-eqb j g e) ∙ other))
              ∙ greatest.1 j (let apart : j ≢ g = λ e. true≢false (sym (eq-eqb j g e) ∙ other) in omega arith)
        ] refl;
        remains = λ j l. others j (λ e. absurd (omega arith)) ∙ s.remains j (omega arith);
        newest = found;
        seat = seat;
      }

-- the thread that the search found
thread_found : (found : Option (ℕ × ThreadRef))
    → option_map (λ b. b.1.thread) found ≡ option_map (λ b. b.1) (number_and_thread found)
thread_found None = refl
thread_found (Some b) = refl

-- the search finds the newest receiver
pub seat_found : (h : ℕ) (item : Item) (threads : List Thread) (found : Option (ℕ × ThreadRef))
    → IsRoster (members_of threads) → number_and_thread found ≡ newest_of h item threads
    → option_map (λ b. b.1.thread) found ≡ newest_in h item threads
seat_found h item threads found roster is = thread_found found ∙ ap (option_map (λ (b : ℕ × ℕ). b.1)) is
    ∙ newest_is_found h item threads roster
