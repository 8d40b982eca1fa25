-- A buffer is the part of it that is written, followed by the rest of the buffer that its call passed in.
use Rattle.balsaeuchre_c.proofs.Common.{AllByRecursion, Answers, Call, Completion, Event, Facts, HasProperties}
use Rattle.balsaeuchre_c.proofs.Common.{IsCopied, List, Mark, Member, None, Read, ReceiveRequest, Some, TakesBest}
use Rattle.balsaeuchre_c.proofs.Common.{Trace, Write, [], all_filter_map, ap, append-nil, arith, brought_at, buffer_at}
use Rattle.balsaeuchre_c.proofs.Common.{buffer_of, common_steps, completion_to, drop, drop_all, effect_of, eq-eqb}
use Rattle.balsaeuchre_c.proofs.Common.{facts_of, inl, inr, item_in, laid_count, lay_length, lay_over, length}
use Rattle.balsaeuchre_c.proofs.Common.{length-take-le, message_at, option_map, refl, request_of, row_of, slice_get}
use Rattle.balsaeuchre_c.proofs.Common.{subst, sym, take, take-append_seam, threads_of, told_bytes, told_of, ℕ, ◌++◌}
use Rattle.balsaeuchre_c.proofs.Common.{◌+◌, ◌∙◌, ◌∷◌, ◌≡◌}
use Rattle.qrules.proofs.Traces.TraceLaws.Lengths.{writes_length}
use Rattle.qrules.specs.Properties.{IsCounted, IsLaid}
use Rattle.qmodel.specs.declared.call.Mark.TheVariants as mark

-- a property of all items holds for the item at an index
pub all_at : {A : Type 0} (P : A → Type 0) (xs : List A) (i : ℕ) (x : A) → AllByRecursion P xs
    → slice_get xs i ≡ Some x → P x
all_at P [] i x all at = cc
all_at P (y ∷ xs) i x all at = grind (arith, all_at P xs)

-- the buffer has the length of the buffer that was passed in, and consists of the written bytes and the rest
-- of that buffer
pub record Whole (buffer told brought : List ℕ) : Type 0 where
  pub size : length buffer ≡ length brought
  pub parts : buffer ≡ told ++ drop (length told) brought

-- ---- bytes

all_told : (b p : List ℕ) → length b ≡ length p → Whole b b p
all_told b p same = grind (arith, drop_all (length b) p, append-nil b)

none_told : (n : ℕ) → Whole [] (take n []) []
none_told n = grind arith

front_told : (b p m : List ℕ) (n : ℕ) → b ≡ lay_over p 0 m → n ≡ laid_count p 0 m → Whole b (take n b) p
front_told b p m n is count =
    record {
      size = ap length is ∙ lay_length p 0 m;
      parts = grind (arith, common_steps, length-take-le n m, take-append_seam);
    }

-- ---- the buffer that a call passed in

buffer_length : (past : Trace) (i : ℕ) → length (buffer_at past i) ≡ length (brought_at past i)
buffer_length past i = grind (arith, writes_length past i)

buffer_brought : (past : Trace) (i : ℕ) (r : ReceiveRequest) → request_of past i ≡ Some r
    → buffer_at past i ≡ brought_at past i
buffer_brought past i r is = grind arith

-- ---- the count of a Read or a Write

-- if a call completes no call of another thread, all completions of its event are its own
ended_alone : (f : Facts) (t : ℕ) (c : Call) (X : List Completion) (own : Completion) → (row_of f t c).own ≡ Some own
    → ((u : ℕ) → (row_of f t c).others u ≡ None) → own.call ≡ f.number → Answers f t c X
    → AllByRecursion (λ y. y.call ≡ f.number) X
ended_alone f t c X own is alone same answers = elim answers [
  | inl a ↦ subst (AllByRecursion (λ y. y.call ≡ f.number)) (sym a.by_row)
      (all_filter_map _ (completion_to f t c) (threads_of f.roster) (λ u y e. grind (arith, alone u)))
  | inr a ↦ subst (AllByRecursion (λ y. y.call ≡ f.number)) (sym a.only) (refl, tt)
]

-- ---- each completion

module _ (roster : List Member) (past : Trace) (t : ℕ) (c : Call) (X : List Completion) where
  -- the event
  abbrev v : Event
  v = record { thread = t; call = c; completions = X }

  -- a Read or a Write completes in its own event
  counted : (d : Call) (place : ℕ) (y : Completion) (n : ℕ) → Answers (facts_of roster past) t d X
      → slice_get X place ≡ Some y → IsCounted past (effect_of d).reads (effect_of d).writes y n
      → brought_at (v ∷ past) (length past + 1) ≡ buffer_of d
      → Whole y.buffer (take n y.buffer) (brought_at (v ∷ past) y.call)
  counted (Read i at room) place y n a so h brought =
      let own : y.call ≡ length past + 1 =
      all_at _ X place y (ended_alone (facts_of roster past) t (Read i at room) X _ refl (λ u. refl) refl a) so in
      rw (own, brought) (front_told y.buffer room _ n h.0 h.1)
  counted (Write i at bytes) place y n a so h brought =
      let own : y.call ≡ length past + 1 =
      all_at _ X place y (ended_alone (facts_of roster past) t (Write i at bytes) X _ refl (λ u. refl) refl a) so in
      rw (own, brought, h.0) (none_told n)
  counted d place y n a so h brought = absurd h

  by_mark : (place : ℕ) (y : Completion) (m : Mark) → Answers (facts_of roster past) t c X → slice_get X place ≡ Some y
      → IsCopied past v y m
      → ((i : ℕ) → option_map (λ r. r.number) (item_in m) ≡ Some i → TakesBest roster past v y i)
      → Whole y.buffer (told_of m y.buffer) (brought_at (v ∷ past) y.call)
  by_mark place y (mark.Message rcvid n) a so h best =
      let k = best rcvid refl in
      let laid =
      subst (λ p. IsLaid p 0 (message_at (v ∷ past) rcvid) y.buffer n)
      (buffer_brought (v ∷ past) y.call k.request k.call) h in
      front_told y.buffer (brought_at (v ∷ past) y.call) (message_at (v ∷ past) rcvid) n laid.0 laid.1
  by_mark place y (mark.Replied status n) a so h best =
      all_told y.buffer _ (ap length h.2.0 ∙ lay_length _ 0 h.0 ∙ buffer_length (v ∷ past) y.call)
  by_mark place y (mark.Count n) a so h best =
      counted c place y n a so h (rw (eq-eqb (length past + 1) (length past + 1) refl) refl)
  by_mark place y (mark.Pulse item priority what) a so h best = let k = best item refl in
      let same = h ∙ buffer_brought (v ∷ past) y.call k.request k.call in record { size = ap length same; parts = same }
  by_mark place y _ a so h best = all_told y.buffer _ (ap length h ∙ buffer_length (v ∷ past) y.call)

  -- a completion of an event that follows the rules
  pub restored : (place : ℕ) (y : Completion) → HasProperties roster (v ∷ past) → Answers (facts_of roster past) t c X
      → slice_get X place ≡ Some y
      → Whole y.buffer (told_bytes y) (brought_at (v ∷ past) y.call)
  restored place y p a so =
      by_mark place y y.mark a so (all_at _ X place y p.copied_exactly.1 so) (all_at _ X place y p.best_first.1 so)
