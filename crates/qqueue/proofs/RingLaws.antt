-- Rings of nodes: the start of a ring, one more node, and one node less.
use Rattle.qqueue.proofs.Common.{◌≡◌, ◌≢◌, ℕ, ◌<◌, List, [], ◌∷◌, ◌++◌, map, Bool, true, false, cond, refl, ap, sym}
use Rattle.qqueue.proofs.Common.{subst, ◌∙◌, arith, append-nil, append_assoc, AllByRecursion, map-append, filter-append}
use Rattle.qqueue.proofs.Common.{Slab, Item, Node, put_place, places_after, Rises, is_on, keys_on, item_of, after_of}
use Rattle.qqueue.proofs.Common.{before_of, Linked, Path, Ring, Relinked, SameLinks}
use Rattle.std.specs.Prelude.{Some, filter}
use Rattle.qqueue.proofs.PlaceLaws.{split_put, split_after}

-- ---- different keys

-- no key occurs twice
abbrev pub Apart : List ℕ → Type 0
Apart [] = Unit {0}
Apart (key ∷ keys) = AllByRecursion (λ k. k ≢ key) keys × Apart keys

pub all_split : {X : Type 0} (P : X → Type 0) (xs ys : List X) → AllByRecursion P (xs ++ ys) → AllByRecursion P xs
    × AllByRecursion P ys
all_split P [] ys all = (tt, all)
all_split P (x ∷ xs) ys all = let r = all_split P xs ys all.1 in ((all.0, r.0), r.1)

pub all_join : (P : ℕ → Type 0) (xs ys : List ℕ) → AllByRecursion P xs → AllByRecursion P ys
    → AllByRecursion P (xs ++ ys)
all_join P [] ys a b = b
all_join P (x ∷ xs) ys a b = (a.0, all_join P xs ys a.1 b)

-- the keys still differ if the first moves to the end
apart_last : (x : ℕ) (ys : List ℕ) → AllByRecursion (λ k. k ≢ x) ys → Apart ys → Apart (ys ++ x ∷ [])
apart_last x [] other apart = (tt, tt)
apart_last x (y ∷ ys) other apart =
    (all_join (λ k. k ≢ y) ys (x ∷ []) apart.0 (λ e. other.0 (sym e), tt), apart_last x ys other.1 apart.1)

-- the keys still differ if the first part of the list moves to the end
pub apart_turn : (xs ys : List ℕ) → Apart (xs ++ ys) → Apart (ys ++ xs)
apart_turn [] ys apart = rw (append-nil ys) apart
apart_turn (x ∷ xs) ys apart =
    let moved : Apart ((xs ++ ys) ++ x ∷ []) = apart_last x (xs ++ ys) apart.0 apart.1 in
    let grouped : Apart (xs ++ (ys ++ x ∷ [])) = subst Apart (append_assoc xs ys (x ∷ [])) moved in
    let turned : Apart ((ys ++ x ∷ []) ++ xs) = apart_turn xs (ys ++ x ∷ []) grouped in
    subst Apart (append_assoc ys (x ∷ []) xs) turned

-- ---- paths

-- the last of a key and the keys after it
abbrev pub last_from : ℕ → List ℕ → ℕ
last_from x [] = x
last_from x (y ∷ keys) = last_from y keys

pub last_all : (P : ℕ → Type 0) (y : ℕ) (keys : List ℕ) → P y → AllByRecursion P keys → P (last_from y keys)
last_all P y [] here all = here
last_all P y (z ∷ keys) here all = last_all P z keys all.0 all.1

module _ (s : Slab Node) where
  path_split : (x : ℕ) (xs : List ℕ) (y : ℕ) (ys : List ℕ) (z : ℕ) → Path s x (xs ++ y ∷ ys) z → Path s x xs y
      × Path s y ys z
  path_split x [] y ys z path = path
  path_split x (w ∷ xs) y ys z path = let r = path_split w xs y ys z path.1 in ((path.0, r.0), r.1)

  path_join : (x : ℕ) (xs : List ℕ) (y : ℕ) (ys : List ℕ) (z : ℕ) → Path s x xs y → Path s y ys z
      → Path s x (xs ++ y ∷ ys) z
  path_join x [] y ys z front back = (front, back)
  path_join x (w ∷ xs) y ys z front back = (front.0, path_join w xs y ys z front.1 back)

  -- a ring may begin at any of its keys
  pub ring_turn : (xs ys : List ℕ) → Ring s (xs ++ ys) → Ring s (ys ++ xs)
  ring_turn [] ys ring = rw (append-nil ys) ring
  ring_turn (x ∷ xs) [] ring = rw (append-nil xs) at ring
  ring_turn (x ∷ xs) (y ∷ ys) ring =
      let r = path_split x xs y ys x ring in path_join y ys x xs y r.1 r.0

  -- the last key of a path comes before its end
  pub path_end : (x : ℕ) (xs : List ℕ) (z : ℕ) → Path s x xs z → before_of s z ≡ Some (last_from x xs)
  path_end x [] z path = path.1
  path_end x (y ∷ xs) z path = path_end y xs z path.1

module _ (s t : Slab Node) where
  -- a path that keeps all links except the last
  walk : (u v p : ℕ) → Relinked s t u v p → (x : ℕ) (keys : List ℕ) (z end : ℕ) → Path s x keys z
      → last_from x keys ≡ u → Apart (x ∷ keys) → AllByRecursion (λ k. k ≢ v) keys → x ≢ p
      → AllByRecursion (λ k. k ≢ p) keys → Linked t u end → Path t x keys end
  walk u v p changed x [] z end path last apart not_v x_not_p not_p linked = rw last linked
  walk u v p changed x (y ∷ keys) z end path last apart not_v x_not_p not_p linked =
      let other : last_from y keys ≢ x = last_all (λ k. k ≢ x) y keys apart.0.0 apart.0.1 in
      let x_not_u : x ≢ u = λ e. other (last ∙ sym e) in (
        (changed.after x x_not_u x_not_p ∙ path.0.0, changed.before y not_v.0 not_p.0 ∙ path.0.1),
        walk u v p changed y
            keys z end path.1 last apart.1 not_v.1 not_p.0 not_p.1 linked,
      )

  -- a path without the changed links stays the same
  path_away : (u v p : ℕ) → Relinked s t u v p → (x : ℕ) (keys : List ℕ) (z : ℕ) → x ≢ u → x ≢ p
      → AllByRecursion (λ k. (k ≢ u) × (k ≢ v) × (k ≢ p)) keys → z ≢ v → z ≢ p → Path s x keys z → Path t x keys z
  path_away u v p changed x [] z xu xp all zv zp path =
      (changed.after x xu xp ∙ path.0, changed.before z zv zp ∙ path.1)
  path_away u v p changed x (y ∷ keys) z xu xp all zv zp path = (
    (changed.after x xu xp ∙ path.0.0, changed.before y all.0.1 all.0.2 ∙ path.0.1),
    path_away u v p changed y keys
        z all.0.0 all.0.2 all.1 zv zp path.1,
  )

  -- a ring without the changed links stays the same
  pub ring_away : (u v p : ℕ) → Relinked s t u v p → (keys : List ℕ)
      → AllByRecursion (λ k. (k ≢ u) × (k ≢ v) × (k ≢ p)) keys → Ring s keys → Ring t keys
  ring_away u v p changed [] all ring = tt
  ring_away u v p changed (x ∷ keys) all ring =
      path_away u v p changed x keys x all.0.0 all.0.2 all.1 all.0.1 all.0.2 ring

  path_same : SameLinks s t → (x : ℕ) (keys : List ℕ) (z : ℕ) → Path s x keys z → Path t x keys z
  path_same same x [] z path = (same.after x ∙ path.0, same.before z ∙ path.1)
  path_same same x (y ∷ keys) z path =
      ((same.after x ∙ path.0.0, same.before y ∙ path.0.1), path_same same y keys z path.1)

  -- a ring stays the same if its links do
  pub ring_same : SameLinks s t → (keys : List ℕ) → Ring s keys → Ring t keys
  ring_same same [] ring = tt
  ring_same same (x ∷ keys) ring = path_same same x keys x ring

  -- a ring with one more node after the last
  pub ring_behind : (p c : ℕ) (keys : List ℕ) → Ring s (c ∷ keys) → Apart (c ∷ keys)
      → AllByRecursion (λ k. k ≢ p) (c ∷ keys) → Relinked s t (last_from c keys) c p → Linked t (last_from c keys) p
      → Linked t p c → Ring t (c ∷ (keys ++ p ∷ []))
  ring_behind p c keys ring apart not_p changed linked closed =
      path_join t c keys p [] c
      (walk (last_from c keys) c p changed c keys c p ring refl apart apart.0 not_p.0 not_p.1 linked) closed

  -- a ring with one more node between two parts; the ring that begins at the second part begins at c
  pub ring_between : (p c : ℕ) (keys front back : List ℕ) → back ++ front ≡ c ∷ keys → Ring s (c ∷ keys)
      → Apart (c ∷ keys) → AllByRecursion (λ k. k ≢ p) (c ∷ keys) → Relinked s t (last_from c keys) c p
      → Linked t (last_from c keys) p → Linked t p c → Ring t (front ++ p ∷ back)
  ring_between p c keys front back is ring apart not_p changed linked closed =
      let whole : Ring t ((c ∷ keys) ++ p ∷ []) = ring_behind p c keys ring apart not_p changed linked closed in
      let parts : Ring t ((back ++ front) ++ p ∷ []) = subst (λ l. Ring t (l ++ p ∷ [])) (sym is) whole in
      let grouped : Ring t (back ++ (front ++ p ∷ [])) = subst (Ring t) (append_assoc back front (p ∷ [])) parts in
      subst (Ring t) (append_assoc front (p ∷ []) back) (ring_turn t back (front ++ p ∷ []) grouped)

  -- a ring without its first node
  pub ring_but_first : (p c : ℕ) (keys : List ℕ) → Ring s (p ∷ c ∷ keys) → Apart (p ∷ c ∷ keys)
      → Relinked s t (last_from c keys) c p → Linked t (last_from c keys) c → Ring t (c ∷ keys)
  ring_but_first p c keys ring apart changed linked =
      walk (last_from c keys) c p changed c keys p c ring.1 refl apart.1 apart.1.0 apart.0.0 apart.0.1 linked

-- the links of node p, given the other keys of its ring: if there are none, p is linked to itself
pub record Stands (keys : List ℕ) (p before after : ℕ) : Type 0 where
  pub alone : keys ≡ [] → after ≡ p
  pub among : (c : ℕ) (rest : List ℕ) → keys ≡ c ∷ rest → (after ≡ c) × (before ≡ last_from c rest)

pub matches : (s : Slab Node) (p before after : ℕ) (keys : List ℕ) → Ring s (p ∷ keys) → after_of s p ≡ Some after
    → before_of s p ≡ Some before → Stands keys p before after
matches s p before after [] ring next prior = record {
  alone = λ _. let r : after_of s p ≡ Some p = ring.0 in cc;
  among = λ c rest e. absurd (cc);
}
matches s p before after (d ∷ keys) ring next prior = record {
  alone = λ e. absurd (cc);
  among = λ c rest e.
      let first : d ≡ c = cc in
      let behind : keys ≡ rest = cc in
      let r : after_of s p ≡ Some d = ring.0.0 in
      let l : before_of s p ≡ Some (last_from d keys) = path_end s d keys p ring.1 in
      let a : after ≡ d = cc in
      let b : before ≡ last_from d keys = cc in
      (a ∙ first, b ∙ ap (λ x. last_from x keys) first ∙ ap (last_from c) behind);
}

-- ---- the keys of a kind and a level

pub keys_on-append : (pulse : Bool) (level : ℕ) (xs ys : List (Item × ℕ))
    → keys_on pulse level (xs ++ ys) ≡ keys_on pulse level xs ++ keys_on pulse level ys
keys_on-append pulse level xs ys =
    rw (filter-append (is_on pulse level) xs ys)
    (map-append (λ (p : Item × ℕ). p.1) (filter (is_on pulse level) xs) (filter (is_on pulse level) ys))

-- a put of a place of this kind and level puts its key somewhere among the keys
pub keys_put : (pulse : Bool) (level : ℕ) (p : Item × ℕ) (places : List (Item × ℕ)) → is_on pulse level p ≡ true
    → (front : List ℕ) × (back : List ℕ) × (keys_on pulse level places ≡ front ++ back)
    × (keys_on pulse level (put_place p places) ≡ front ++ p.1 ∷ back)
keys_put pulse level p places on =
    let split = split_put p places in
    let front = keys_on pulse level split.0 in
    let back = keys_on pulse level split.1 in
    let one : keys_on pulse level (p ∷ split.1) ≡ p.1 ∷ back = rw on refl in (
      front,
      back,
      ap (keys_on pulse level) split.2 ∙ keys_on-append pulse level split.0 split.1,
      ap (keys_on pulse level) split.3 ∙ keys_on-append pulse level split.0 (p ∷ split.1) ∙ ap (λ l. front ++ l) one,
    )

-- if the numbers rise, the key is put directly before the keys of greater numbers
pub keys_put_after : (pulse : Bool) (level : ℕ) (p : Item × ℕ) (places : List (Item × ℕ)) → Rises places
    → is_on pulse level p ≡ true
    → (front : List ℕ) × (keys_on pulse level places ≡ front ++ keys_on pulse level (places_after p.0.number places))
    × (keys_on pulse level (put_place p places) ≡ front ++ p.1 ∷ keys_on pulse level (places_after p.0.number places))
keys_put_after pulse level p places up on =
    let split = split_after p places up in
    let later = places_after p.0.number places in
    let front = keys_on pulse level split.0 in
    let one : keys_on pulse level (p ∷ later) ≡ p.1 ∷ keys_on pulse level later = rw on refl in (
      front,
      ap (keys_on pulse level) split.1 ∙ keys_on-append pulse level split.0 later,
      ap (keys_on pulse level) split.2 ∙ keys_on-append pulse level split.0 (p ∷ later) ∙ ap (λ l. front ++ l) one,
    )

-- a put of any other place doesn't change the keys
pub keys_put_other : (pulse : Bool) (level : ℕ) (p : Item × ℕ) (places : List (Item × ℕ)) → is_on pulse level p ≡ false
    → keys_on pulse level (put_place p places) ≡ keys_on pulse level places
keys_put_other pulse level p places off =
    let split = split_put p places in
    let none : keys_on pulse level (p ∷ split.1) ≡ keys_on pulse level split.1 = rw off refl in
    ap (keys_on pulse level) split.3 ∙ keys_on-append pulse level split.0 (p ∷ split.1)
    ∙ ap (λ l. keys_on pulse level split.0 ++ l) none
    ∙ sym (ap (keys_on pulse level) split.2 ∙ keys_on-append pulse level split.0 split.1)

-- a statement that holds for all places of a kind and level holds for their keys
pub all_keys : (P : ℕ → Type 0) (pulse : Bool) (level : ℕ) (places : List (Item × ℕ))
    → AllByRecursion (λ p. is_on pulse level p ≡ true → P p.1) places → AllByRecursion P (keys_on pulse level places)
all_keys P pulse level [] all = tt
all_keys P pulse level (p ∷ places) all =
    elim (is_on pulse level p)
    as (λ b. is_on pulse level p ≡ b
    → AllByRecursion P
    (map (λ (q : Item × ℕ). q.1)
    (cond b (p ∷ filter (is_on pulse level) places) (filter (is_on pulse level) places)))) [
      | true ↦ λ on. (all.0 on, all_keys P pulse level places all.1)
      | false ↦ λ off. all_keys P pulse level places all.1
    ] refl

-- the keys of items of rising numbers differ
pub keys_apart : (s : Slab Node) (pulse : Bool) (level : ℕ) (places : List (Item × ℕ)) → Rises places
    → AllByRecursion (λ p. item_of s p.1 ≡ Some p.0) places → Apart (keys_on pulse level places)
keys_apart s pulse level [] up held = tt
keys_apart s pulse level (p ∷ places) up held =
    let rest = keys_apart s pulse level places up.1 held.1 in
    elim (is_on pulse level p)
    as (λ b.
    Apart (map (λ (q : Item × ℕ). q.1)
    (cond b (p ∷ filter (is_on pulse level) places) (filter (is_on pulse level) places)))) [
      | true ↦ (all_keys (λ k. k ≢ p.1) pulse level places (other places up.0 held.1), rest)
      | false ↦ rest
    ]
  where
    other : (later : List (Item × ℕ)) → AllByRecursion (λ q. p.0.number < q.0.number) later
        → AllByRecursion (λ q. item_of s q.1 ≡ Some q.0) later
        → AllByRecursion (λ q. is_on pulse level q ≡ true → q.1 ≢ p.1) later
    other [] less there = tt
    other (q ∷ later) less there = (
      λ _ same.
          let here : item_of s p.1 ≡ Some p.0 = held.0 in
          let both : Some q.0 ≡ Some p.0 = sym there.0 ∙ ap (item_of s) same ∙ here in
          let one : q.0 ≡ p.0 = cc in
          let number : q.0.number ≡ p.0.number = ap (λ i. i.number) one in
          let below : p.0.number < q.0.number = less.0 in
          absurd (omega arith),
      other later less.1 there.1,
    )
