-- An accepted call completes in its own event, or its thread is blocked.
use Rattle.qrules.proofs.Common.{arith, ◌≡◌, ℕ, List, [], ◌∷◌, refl, true, Bool, option_map, sender_among, none-some}
use Rattle.qrules.proofs.Common.{member_at, row_of, effect_of, info_of, Call, OpenCall, is_among, some_of, Option, None}
use Rattle.qrules.proofs.Common.{Some, is_some, ◌||◌}
use Rattle.qrules.proofs.Words.Facts.{Facts, sender, threads_of}
use Rattle.qmodel.specs.declared.call.Call.TheVariants.{Info}
use Rattle.qrules.proofs.Traces.Calls.Held.{has_sender, held_for}
use Rattle.qrules.proofs.Traces.Past.Laws.{Passes}
use Rattle.qrules.proofs.Traces.Rosters.{among_member}

-- ---- the data of a held message

-- the sender is one of these threads
sender_is_among : (open_call : ℕ → Option OpenCall) (i : ℕ) (us : List ℕ) (s : ℕ)
    → sender_among open_call i us ≡ Some s → is_among us s ≡ true
sender_is_among open_call i [] s e = absurd (none-some s e)
sender_is_among open_call i (u ∷ us) s e = grind (arith, sender_is_among open_call i us s)

-- an accepted Info returns data
info_tells : (f : Facts) (t rcvid : ℕ) → Passes f t (Info rcvid) → is_some (info_of f (sender f rcvid)) ≡ true
info_tells f t rcvid p =
    let s = has_sender f t rcvid p.row in
    let h = held_for f t rcvid s.0 p.row s.1 in
    let m =
    some_of (member_at f.roster s.0)
    (among_member f.roster s.0 (sender_is_among f.open_call rcvid (threads_of f.roster) s.0 s.1)) in
    rw (s.1, m.1, h.is_open, h.held) refl

-- ---- by each call's row

pub some_map : {A B : Type 0} (k : A → B) (o : Option A) → is_some (option_map k o) ≡ is_some o
some_map k o = grind arith

-- the call may block
abbrev pub may_wait : Call → Bool
may_wait c = is_some (effect_of c).sends || is_some (effect_of c).receives

pub waits_or_ends : (f : Facts) (t : ℕ) (c : Call) → Passes f t c → (row_of f t c).own ≡ None → may_wait c ≡ true
waits_or_ends f t c p e = grind (arith, some_map, info_tells f t)
