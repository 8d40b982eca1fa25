-- The content of a text can run: its threads join one roster, and its calls are made by these threads.
use Rattle.qscript.proofs.Common.{AllJoin, AllKnown, Bool, Call, CanRun, Err, List, Member, None, Ok, Option, Result}
use Rattle.qscript.proofs.Common.{[], add-one, ap, append-nil, arith, calls_more, cond, cons_option, count_by-le-length}
use Rattle.qscript.proofs.Common.{false, get_or, is_some, join_refusal, length, length-map, length-slice_split}
use Rattle.qscript.proofs.Common.{length-take, ltb-false, member_at, nat_lt, option_or, refl, roster_more, roster_with}
use Rattle.qscript.proofs.Common.{slice_split, suc, sym, take, take_all, true, with_member, zero, ℕ, ◌++◌, ◌+◌, ◌-◌}
use Rattle.qscript.proofs.Common.{◌==◌, ◌||◌, ◌∙◌, ◌∷◌, ◌≡◌, ◌≤◌, line_of}
use Rattle.std.proofs.Math.Bool.{or-false}
use Rattle.std.proofs.lemmas.Bool.Decides.{nat_tests}
use Rattle.qbase.proofs.Lists.{all_append, all_more, length-filter_map}
use Rattle.qscript_text.specs.declared.reading.line.ScriptLine.{ScriptLine}
use Rattle.qscript_text.specs.declared.reading.line.ScriptLine.TheVariants as lines
use Rattle.qscript_text.specs.declared.fault.LineFault.{LineFault}
use Rattle.qscript_text.specs.Reading.Lines.{lines_of, is_newline}
use Rattle.qscript_text.proofs.Words.{without_last_end, without_return, fault_or, fault_in}
use Rattle.qscript_text.specs.Reading.Meaning.{TooLong, Says, meaning, is_in, line_after_roster, member_in, call_in}
use Rattle.qscript_text.specs.Reading.Meaning.{roster_of, calls_of, line_behind, line_with, line_after}
use Rattle.qscript_text.specs.Reading.Meaning.{fault_at, first_fault}
use Rattle.qscript_text.proofs.Texts.Early.{bind_ok, placed_keeps, alone}
use Rattle.qscript.proofs.Joining.{enrolled_more}

-- ---- the threads in a roster

known : (r : List Member) (t : ℕ) → is_some (member_at r t) ≡ is_in t r
known [] t = refl
known (m ∷ r) t = grind (arith, known r t)

joined : (t : ℕ) (m : Member) (r : List Member) → (is_in t (with_member m r) ≡ ((m.thread == t) || is_in t r))
    × (length (with_member m r) ≡ length r + 1)
joined t m [] = (refl, refl)
joined t m (x ∷ r) = grind (arith, nat_tests, joined t m r)

enrolled : (t : ℕ) (r ms : List Member) → (is_in t (roster_with r ms) ≡ (is_in t r || is_in t ms))
    × (length (roster_with r ms) ≡ length r + length ms)
enrolled t r [] = grind (arith, or-false)
enrolled t r (m ∷ ms) = grind (arith, joined t m r, enrolled t (with_member m r) ms)

-- ---- members and callers so far

record Fine (ms : List Member) (cs : List (ℕ × Call)) : Type 0 where
  pub members : AllJoin [] ms
  pub callers : AllKnown (roster_with [] ms) cs

joins_more : (r ms : List Member) (m : Member) → AllJoin r ms → join_refusal (roster_with r ms) m.thread ≡ None
    → AllJoin r (ms ++ m ∷ [])
joins_more r [] m all new = (new, tt)
joins_more r (x ∷ ms) m all new = (all.0, joins_more (with_member x r) ms m all.1 new)

-- ---- one more line

-- the thread of a valid roster line isn't in the roster before it, and isn't the 65th
joins_next : (ms : List Member) (m : Member) (l : ScriptLine) → line_after_roster ms (lines.Roster m) ≡ Ok l
    → join_refusal (roster_with [] ms) m.thread ≡ None
joins_next ms m l h = grind (arith, nat_tests, known (roster_with [] ms) m.thread, enrolled m.thread [] ms)

calls_next : (ms : List Member) (t : ℕ) (c : Call) (l : ScriptLine) → line_after_roster ms (lines.Call t c) ≡ Ok l
    → is_some (member_at (roster_with [] ms) t) ≡ true
calls_next ms t c l h = grind (arith, known (roster_with [] ms) t, enrolled t [] ms)

fine_more : (ms : List Member) (cs : List (ℕ × Call)) (l : ScriptLine) → Fine ms cs → line_after_roster ms l ≡ Ok l
    → Fine (ms ++ cons_option (member_in (Ok l)) []) (cs ++ cons_option (call_in (Ok l)) [])
fine_more ms cs lines.Blank f h = rw (append-nil, append-nil) f
fine_more ms cs (lines.Roster m) f h = record {
  members = joins_more [] ms m f.members (joins_next ms m _ h);
  callers =
      rw (append-nil, enrolled_more [] ms m)
      (all_more _ _ cs f.callers (λ c k. grind (arith, known, joined c.0 m (roster_with [] ms))));
}
fine_more ms cs (lines.Call t c) f h = record {
  members = rw append-nil f.members;
  callers = rw append-nil (all_append _ cs ((t, c) ∷ []) f.callers (calls_next ms t c _ h, tt));
}

-- ---- all lines

fine_with : (ms : List Member) (cs : List (ℕ × Call)) (line : List ℕ) (l : ScriptLine) → Fine ms cs
    → line_with ms cs line ≡ Ok l
    → Fine (ms ++ cons_option (member_in (Ok l)) []) (cs ++ cons_option (call_in (Ok l)) [])
unfolding line_with line_behind
fine_with ms cs line l f h =
    let b = bind_ok (line_of (nat_lt 0 (length cs)) line) (line_after_roster ms) l h in
    fine_more ms cs l f (ap (line_after_roster ms) (sym (placed_keeps ms b.0 l b.2)) ∙ b.2)

-- a line without a fault has a content
no_fault_in : (n : ℕ) (r : Result ScriptLine LineFault) → fault_in n r ≡ None → (l : ScriptLine) × (r ≡ Ok l)
no_fault_in n (Ok l) h = (l, refl)
no_fault_in n (Err f) h = cc

neither : (x y : Option (ℕ × LineFault)) → option_or x y ≡ None → (x ≡ None) × (y ≡ None)
neither x y h = grind arith

fine_to : (ls : List (List ℕ)) (n : ℕ) → n ≤ length ls → first_fault ls n ≡ None
    → Fine (roster_of (take n ls)) (calls_of (take n ls))
unfolding first_fault roster_of calls_of line_after
fine_to ls zero h none = record { members = tt; callers = tt }
fine_to ls (suc n) h none =
    let both = neither (first_fault ls n) (fault_at ls n) none in
    let said = no_fault_in n (line_after (take n ls) (get_or ls n [])) both.1 in
    let more = fine_with (roster_of (take n ls)) (calls_of (take n ls)) (get_or ls n []) said.0
    (fine_to ls n (omega arith) both.0) said.1 in
    let alone_too = alone (roster_of (take n ls)) (calls_of (take n ls)) (get_or ls n []) said.0 said.1 in
    rw (sym (add-one n))
    (rw (roster_more ls n said.0 (omega arith) alone_too, calls_more ls n said.0 (omega arith) alone_too) more)

-- ---- the number of calls

few_lines : (text : List ℕ) → length (lines_of text) ≤ length text + 1
unfolding lines_of
few_lines text =
    let cut = without_last_end text in
    grind (
      arith,
      nat_tests,
      length-map (slice_split is_newline cut) without_return,
      length-slice_split is_newline cut,
      count_by-le-length is_newline cut,
      length-take (length text - 1) text,
    )

few_calls : (ls : List (List ℕ)) → length (calls_of ls) ≤ length ls
unfolding calls_of
few_calls ls = length-filter_map (λ line. call_in (line_of false line)) ls

-- ---- the whole

said_so : (long : Bool) (found : Option (ℕ × LineFault)) (ms ms' : List Member) (cs cs' : List (ℕ × Call))
    → cond long TooLong (fault_or found (Says ms cs)) ≡ Says ms' cs'
    → (long ≡ false) × (found ≡ None) × (ms ≡ ms') × (cs ≡ cs')
said_so long found ms ms' cs cs' h = grind arith

pub can_run : (text : List ℕ) (ms : List Member) (cs : List (ℕ × Call)) → meaning text ≡ Says ms cs → CanRun ms cs
unfolding meaning
can_run text ms cs h =
    let ls = lines_of text in
    let said = said_so (nat_lt 4194304 (length text)) (first_fault ls (length ls)) (roster_of ls) ms
    (calls_of ls) cs h in
    let whole : Fine ms cs =
    rw (
      sym said.2,
      sym said.3,
    ) (rw (take_all (length ls) ls (omega arith)) at (fine_to ls (length ls) (omega arith) said.1)) in
    record {
      members = whole.members;
      callers = whole.callers;
      few = omega (arith, ap length said.3, few_calls ls, few_lines text, ltb-false 4194304 (length text) said.0);
    }
