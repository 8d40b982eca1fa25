-- The newest receiver: it is blocked in a receive, no other receive that may take the item is later, and
-- there is one if any receive may take the item.
use Rattle.qrules.proofs.Common.{◌≡◌, ◌<◌, ◌≤◌, ◌∙◌, ℕ, List, [], ◌∷◌, refl, ap, sym, arith, eqb, true, false, inl, inr}
use Rattle.qrules.proofs.Common.{Receive, is_after, is_newest, newest_receiver_among, wait_on, list_any, none-some}
use Rattle.qrules.proofs.Common.{or-true, may_take, Item, OpenCall, newest_receiver, eqb_same, is_among, Option, None}
use Rattle.qrules.proofs.Common.{Some, is_some, ◌⊎◌, nat_lt, Bool, find}
use Rattle.std.proofs.lemmas.Bool.{cases_Bool, eqb-true, le-ltb, lt-ltb, ltb-true, or_cases, true≢false}
use Rattle.qrules.proofs.Words.Facts.{Facts, threads_of}
use Rattle.qmodel.specs.declared.open_call.OpenReceive.{OpenReceive}

-- the open call is a receive on channel h that may take the item
pub record WaitsOn (h : ℕ) (item : Item) (call : Option OpenCall) : Type 0 where
  pub receive : OpenReceive
  pub is_open : call ≡ Some (Receive receive)
  pub on : receive.channel ≡ h
  pub may : may_take receive.kind item ≡ true

wait_on_is : (h : ℕ) (item : Item) (call : Option OpenCall) (k : ℕ) → wait_on h item call ≡ Some k → WaitsOn h item call
wait_on_is h item call k e = grind arith

-- a number that is found passes the test
first_is : (p : ℕ → Bool) (ns : List ℕ) (u : ℕ) → find p ns ≡ Some u → p u ≡ true
first_is p [] u e = absurd (none-some u e)
first_is p (v ∷ ns) u e = grind (arith, first_is p ns)

-- a number that is found is among the numbers
first_among_them : (p : ℕ → Bool) (ns : List ℕ) (u : ℕ) → find p ns ≡ Some u → is_among ns u ≡ true
first_among_them p [] u e = absurd (none-some u e)
first_among_them p (v ∷ ns) u e = grind (arith, first_among_them p ns)

-- if one of the numbers passes the test, a number is found
first_there : (p : ℕ → Bool) (ns : List ℕ) (u : ℕ) → is_among ns u ≡ true → p u ≡ true → is_some (find p ns) ≡ true
first_there p [] u a is = absurd (true≢false (sym a))
first_there p (v ∷ ns) u a is = grind (arith, first_there p ns)

-- ---- receives by their numbers; wait gives the number of a thread's call, if it waits

module _ (wait : ℕ → Option ℕ) where
  -- one of these threads waits in a call later than m
  abbrev pub any_after : ℕ → List ℕ → Bool
  any_after m ts = list_any (λ v. is_after m (wait v)) ts

  -- a call that is later than m is later than an earlier call
  pub after_less : (n m : ℕ) (ts : List ℕ) → n ≤ m → any_after m ts ≡ true → any_after n ts ≡ true
  after_less n m [] less e = absurd (true≢false (sym e))
  after_less n m (v ∷ ts) less e = elim (or_cases (is_after m (wait v)) (any_after m ts) e) [
    | inl here ↦ rw (after_one (wait v) here) refl
    | inr rest ↦ rw (after_less n m ts less rest) (or-true (is_after n (wait v)))
  ] where
    after_one : (o : Option ℕ) → is_after m o ≡ true → is_after n o ≡ true
    after_one None h = absurd (true≢false (sym h))
    after_one (Some k) h = let later : m < k = ltb-true m k h in lt-ltb n k (omega arith)

  -- if no call is later than n, none is later than a later call
  none_after : (n m : ℕ) (ts : List ℕ) → n ≤ m → any_after n ts ≡ false → any_after m ts ≡ false
  none_after n m ts less e = elim (any_after m ts) as (λ b. any_after m ts ≡ b → b ≡ false) [
    | true ↦ λ some. absurd (true≢false (sym (after_less n m ts less some) ∙ e))
    | false ↦ λ _. refl
  ] refl

  -- thread u waits in call m, and none of these threads waits in a later one
  pub record Greatest (ts : List ℕ) : Type 0 where
    pub thread : ℕ
    pub call : ℕ
    pub among : is_among ts thread ≡ true
    pub waits : wait thread ≡ Some call
    pub last : any_after call ts ≡ false

  -- if none of these threads waits, none waits in a later call
  unwaited : (m : ℕ) (ts : List ℕ) → list_any (λ v. is_some (wait v)) ts ≡ false → any_after m ts ≡ false
  unwaited m [] e = refl
  unwaited m (v ∷ ts) e = grind (arith, unwaited m ts)

  greatest_or_none : (ts : List ℕ) → (list_any (λ v. is_some (wait v)) ts ≡ false) ⊎ Greatest ts
  greatest_or_none [] = inl refl
  greatest_or_none (t ∷ ts) =
      elim (wait t) as (λ o. wait t ≡ o → (list_any (λ v. is_some (wait v)) (t ∷ ts) ≡ false) ⊎ Greatest (t ∷ ts)) [
        | None ↦ λ is. elim (greatest_or_none ts) [
          | inl none ↦ inl (rw (is, none) refl)
          | inr g ↦
              inr (record {
                thread = g.thread;
                call = g.call;
                among = rw (g.among) (or-true (eqb t g.thread));
                waits = g.waits;
                last = rw (is, g.last) refl;
              })
        ]
        | Some n ↦ λ is. inr (elim (greatest_or_none ts) [
          | inl none ↦ record {
            thread = t;
            call = n;
            among = rw (eqb_same t) refl;
            waits = is;
            last = rw (is, ltb_irreflexive n, unwaited n ts none) refl;
          }
          | inr g ↦ elim (cases_Bool (nat_lt g.call n)) [
            | inl later ↦
                let less : g.call < n = ltb-true g.call n later in
                record {
                  thread = t;
                  call = n;
                  among = rw (eqb_same t) refl;
                  waits = is;
                  last = rw (is, ltb_irreflexive n, none_after g.call n ts (omega arith) g.last) refl;
                }
            | inr earlier ↦ record {
              thread = g.thread;
              call = g.call;
              among = rw (g.among) (or-true (eqb t g.thread));
              waits = g.waits;
              last = rw (is, earlier, g.last) refl;
            }
          ]
        ])
      ] refl where
        ltb_irreflexive : (k : ℕ) → nat_lt k k ≡ false
        ltb_irreflexive k = le-ltb k k (omega arith)

  -- if one of these threads waits, one waits in the greatest call
  pub greatest : (ts : List ℕ) (u m : ℕ) → is_among ts u ≡ true → wait u ≡ Some m → Greatest ts
  greatest ts u m a w = elim (greatest_or_none ts) [
    | inl none ↦ absurd (true≢false (sym (waited ts a) ∙ none))
    | inr g ↦ g
  ] where
    waited : (vs : List ℕ) → is_among vs u ≡ true → list_any (λ v. is_some (wait v)) vs ≡ true
    waited [] b = absurd (true≢false (sym b))
    waited (v ∷ vs) b = elim (or_cases (eqb v u) (is_among vs u) b) [
      | inl same ↦ let here : is_some (wait v) ≡ true = ap (λ k. is_some (wait k)) (eqb-true v u same)
          ∙ ap is_some w in rw here refl
      | inr rest ↦ rw (waited vs rest) (or-true (is_some (wait v)))
    ]

-- ---- the newest receiver

-- thread u waits on channel h for the item in call m, and none of these threads waits for it in a later call
pub record IsNewest (open_call : ℕ → Option OpenCall) (h : ℕ) (item : Item) (ts : List ℕ) (u m : ℕ) : Type 0 where
  pub among : is_among ts u ≡ true
  pub waits : wait_on h item (open_call u) ≡ Some m
  pub last : any_after (λ v. wait_on h item (open_call v)) m ts ≡ false

pub newest_parts : (open_call : ℕ → Option OpenCall) (h : ℕ) (item : Item) (ts : List ℕ) (u : ℕ)
    → newest_receiver_among open_call h item ts ≡ Some u → (m : ℕ) × IsNewest open_call h item ts u m
newest_parts open_call h item ts u e = grind (arith, first_among_them, first_is)

-- the newest receiver waits on the channel
pub newest_waits : (f : Facts) (h : ℕ) (item : Item) (r : ℕ) → newest_receiver f h item ≡ Some r
    → WaitsOn h item (f.open_call r)
newest_waits f h item r e = let n = newest_parts f.open_call h item (threads_of f.roster) r e in
    wait_on_is h item (f.open_call r) n.0 n.1.waits

pub waiting_on : (h : ℕ) (item : Item) (call : Option OpenCall) (w : WaitsOn h item call)
    → wait_on h item call ≡ Some w.receive.number
waiting_on h item call w = rw (w.is_open, w.on, eqb_same h, w.may) refl

-- if a thread of the roster waits on the channel for the item, there is a newest receiver
pub newest_there : (f : Facts) (h : ℕ) (item : Item) (u m : ℕ) → is_among (threads_of f.roster) u ≡ true
    → wait_on h item (f.open_call u) ≡ Some m → is_some (newest_receiver f h item) ≡ true
newest_there f h item u m a w =
    let ts = threads_of f.roster in
    let g = greatest (λ v. wait_on h item (f.open_call v)) ts u m a w in
    first_there (is_newest f.open_call h item ts) ts g.thread g.among (rw (g.waits, g.last) refl)

pub newest_some : (f : Facts) (h : ℕ) (item : Item) (u : ℕ) → is_among (threads_of f.roster) u ≡ true
    → WaitsOn h item (f.open_call u) → is_some (newest_receiver f h item) ≡ true
newest_some f h item u a w = newest_there f h item u w.receive.number a (waiting_on h item (f.open_call u) w)
