-- Numbers of events, and of the calls and items that they begin. None is greater than the length of the
-- history, and each belongs to one event.
use Rattle.qrules.proofs.Common.{◌≡◌, ℕ, ◌+◌, ◌<◌, ◌≤◌, List, [], ◌∷◌, length, refl, sym, subst, ◌∙◌, arith, Bool, true}
use Rattle.qrules.proofs.Common.{false, eqb, ◌⊎◌, inl, inr, number_of, eqb-true, ne_eqb, and_parts, none-some, Member}
use Rattle.qrules.proofs.Common.{call_at, Event, Trace, Call, OpenCall, eqb_same, channel_of, Option, None, Some}
use Rattle.qrules.proofs.Common.{is_some, not, ◌&&◌}
use Rattle.qrules.proofs.Words.Past.{is_accepted, accepted_at, block, item_of}
use Rattle.qrules.proofs.Words.Facts.{is_for_answer}
use Rattle.qrules.proofs.Words.Effects.{asks}
use Rattle.qrules.proofs.Traces.Past.Laws.{is_settled}
use Rattle.qrules.proofs.Traces.Calls.{call_laws}

-- ---- the things that an event makes

-- a later event hasn't made anything
pub made_beyond : {A : Type 0} (make : Event → Option A) (past : Trace) (i : ℕ) → length past < i
    → accepted_at make past i ≡ None
made_beyond make [] i l = refl
made_beyond make (e ∷ past) i l = grind (arith, made_beyond make past i)

-- a made thing has the number of an event
pub made_below : {A : Type 0} (make : Event → Option A) (past : Trace) (i : ℕ) (x : A)
    → accepted_at make past i ≡ Some x → i ≤ length past
made_below make [] i x e = absurd (none-some x e)
made_below {A} make (e ∷ past) i x is = grind (arith, made_below make past i x)

-- the call of a number is the call of an event
pub call_below : (past : Trace) (i : ℕ) (c : Call) → call_at past i ≡ Some c → i ≤ length past
call_below [] i c e = absurd (none-some c e)
call_below (e ∷ past) i c is = grind (arith, call_below past i c)

-- an earlier call keeps its number
pub call_earlier : (e : Event) (past : Trace) (i : ℕ) → i ≤ length past → call_at (e ∷ past) i ≡ call_at past i
call_earlier e past i l = let other : eqb i (length past + 1) ≡ false = ne_eqb _ _ (λ same. omega arith) in
    rw other refl

pub call_newest : (e : Event) (past : Trace) → call_at (e ∷ past) (length past + 1) ≡ Some e.call
call_newest e past = rw (eqb_same (length past + 1)) refl

-- ---- calls that block

-- the event blocks thread u, which made the call
abbrev pub blocks : List Member → Event → Trace → ℕ → Bool
blocks roster e past u =
    (eqb e.thread u) && is_accepted e past && is_some
    (asks (length past + 1) u (channel_of (item_of roster e past)) e.call)

pub blocks_thread : (roster : List Member) (e : Event) (past : Trace) (u : ℕ) → blocks roster e past u ≡ true
    → e.thread ≡ u
blocks_thread roster e past u h = eqb-true e.thread u (and_parts _ _ (and_parts _ _ h).0).0

-- the newest blocking call of thread u is the call of the newest event
pub record IsNewest (roster : List Member) (e : Event) (past : Trace) (u : ℕ) (b : OpenCall) : Type 0 where
  pub thread : e.thread ≡ u
  pub accepted : is_accepted e past ≡ true
  pub asked : asks (length past + 1) u (channel_of (item_of roster e past)) e.call ≡ Some b

pub block_cases : (roster : List Member) (e : Event) (past : Trace) (u : ℕ) (b : OpenCall)
    → block roster (e ∷ past) u ≡ Some b → IsNewest roster e past u b ⊎ (block roster past u ≡ Some b)
block_cases roster e past u b is = grind arith

-- the call that blocked the thread, under its number
pub record Asked (past : Trace) (u : ℕ) (b : OpenCall) : Type 0 where
  pub call : Call
  pub channel : ℕ
  pub is : call_at past (number_of b) ≡ Some call
  pub asks_it : asks (number_of b) u channel call ≡ Some b

pub block_asked : (roster : List Member) (past : Trace) (u : ℕ) (b : OpenCall) → block roster past u ≡ Some b
    → Asked past u b
block_asked roster [] u b e = absurd (none-some b e)
block_asked roster (e ∷ past) u b is = elim (block_cases roster e past u b is) [
  | inl h ↦
      let channel = channel_of (item_of roster e past) in
      let number : length past + 1 ≡ number_of b =
      sym ((call_laws e.call).asks_one (length past + 1) u channel b h.asked).number in
      record {
        call = e.call;
        channel = channel;
        is = subst (λ i. call_at (e ∷ past) i ≡ Some e.call) number (call_newest e past);
        asks_it = subst (λ i. asks i u channel e.call ≡ Some b) number h.asked;
      }
  | inr h ↦
      let a = block_asked roster past u b h in
      record {
        call = a.call;
        channel = a.channel;
        is = call_earlier e past (number_of b) (call_below past (number_of b) a.call a.is) ∙ a.is;
        asks_it = a.asks_it;
      }
]

pub block_below : (roster : List Member) (past : Trace) (u : ℕ) (b : OpenCall) → block roster past u ≡ Some b
    → number_of b ≤ length past
block_below roster past u b is = let a = block_asked roster past u b is in call_below past (number_of b) a.call a.is

-- a blocking call has no receipt when it begins
pub block_fresh : (roster : List Member) (past : Trace) (u : ℕ) (b : OpenCall) → block roster past u ≡ Some b
    → is_settled b ≡ not (is_for_answer b)
block_fresh roster past u b is = let a = block_asked roster past u b is in
    ((call_laws a.call).asks_one (number_of b) u a.channel b a.asks_it).fresh

-- a number belongs to one thread
pub block_thread : (roster : List Member) (past : Trace) (u v : ℕ) (b d : OpenCall) → block roster past u ≡ Some b
    → block roster past v ≡ Some d → number_of b ≡ number_of d → u ≡ v
block_thread roster [] u v b d x y same = absurd (none-some b x)
block_thread roster (e ∷ past) u v b d x y same =
    grind (
      arith,
      block_cases roster e past u b x,
      call_laws e.call,
      block_cases roster e past v d y,
      block_below roster past v d,
      block_below roster past u b,
      block_thread roster past u v b d,
    )
