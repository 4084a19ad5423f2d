-- What the calls of a pad answer, from what their parts do. Assumes nothing.
use Rattle.text.proofs.ListLaws.{lt_or_le}
use Rattle.std.specs.Prelude.{Ok}
use Prim.Native.Nat.{min, ℕ, zero, suc, ◌/◌, ◌<◌, ◌≤◌}
use mathlib.Core.Path.{◌≡◌, refl, sym, ap, ◌∙◌}
use mathlib.Core.Bool.{Bool, true, false}
use mathlib.Core.List.{List, [], ◌∷◌, ◌++◌, map}
use mathlib.Core.Logic.{⊎_elim}
use native.Mathlib.Omega.{arith}
use borrow.Author.Tests.{ltb-true, ltb-false, le-leb, lt-leb}
use lib.Dec.{ltb}
use lib.ListN.{length, take, drop, set, length-map}
use lib.Seq.{length-take-le}
use Rattle.text.specs.Bytes.{pick}
use Rattle.line.specs.declared.ev.Code.{Code}
use Rattle.line.specs.declared.ev.AxisOrBtn.{AxisOrBtn}
use Rattle.line.specs.declared.mapping.Mapping.{Mapping}
use Rattle.line.specs.Elements.{code_of}
use Rattle.line.specs.Maps as M
use Rattle.line.specs.Numbers.{code_unit, entry_in}
use Rattle.pad.specs.declared.events.Raw.{Raw}
use Rattle.pad.specs.declared.events.Held.{Held}
use Rattle.pad.specs.declared.events.Event.{Event}
use Rattle.pad.specs.declared.events.Events.{Events}
use Rattle.pad.specs.declared.state.Pad.{Pad}
use Rattle.pad.specs.Pads.{put_held, value_of, changes}
use Rattle.pad.specs.States.{held_number, held_in, held_of, entries_of, pad_values, events_in, told_of}
use Rattle.pad.specs.States.{put_number}
use Rattle.pad.specs.States.{with_held, held_after_event, refused_of, raw_event_of, entry_numbers, with_map, change_map_of}
use Rattle.pad.specs.Inner.{helds_in, place_in, Touched, capped_of, grown_of}
use Rattle.pad.proofs.PlaceLaws.{placed, place_within, stored, put_onto, put_after, held_put}

-- an array of numbers has as many as its type says: what owning one tells, for `search (needs, numbers_long)`
pub numbers_long : (l : List ℕ) (n : ℕ) → length (map (λ (x : ℕ). x) l) ≡ n → length l ≡ n
numbers_long l n p = sym (length-map l (λ (x : ℕ). x)) ∙ p

-- ---- the first ones of a list
pub first_of : {A B : Type 0} (f : A → B) (xs ys : List A) → take (length xs) (map f (xs ++ ys)) ≡ map f xs
first_of f [] ys = refl
first_of {A} {B} f (x ∷ xs) ys = ap (λ (l : List B). f x ∷ l) (first_of f xs ys)

pub map-take : {A B : Type 0} (f : A → B) (n : ℕ) (xs : List A) → map f (take n xs) ≡ take n (map f xs)
map-take f zero xs = refl
map-take f (suc n) [] = refl
map-take {A} {B} f (suc n) (x ∷ xs) = ap (λ (l : List B). f x ∷ l) (map-take f n xs)

take_all : {A : Type 0} (n : ℕ) (xs : List A) → length xs ≤ n → take n xs ≡ xs
take_all zero [] h = refl
take_all zero (x ∷ xs) h = absurd (omega arith)
take_all (suc n) [] h = refl
take_all {A} (suc n) (x ∷ xs) h = ap (λ (l : List A). x ∷ l) (take_all n xs (omega arith))

-- ---- a count over 256 is read as 256
pub min_is : (n : ℕ) → min n 256 ≡ capped_of n
min_is n = by (ltb n 256) refl
  where
    by : (t : Bool) → ltb n 256 ≡ t → min n 256 ≡ pick t n 256
    by true e = omega (arith, ltb-true n 256 e)
    by false e = omega (arith, ltb-false n 256 e)

-- the values of a pad, from its parts
pub value_parts : (p : Pad) (xs ys : List ℕ) (el : AxisOrBtn) → xs ≡ take p.count p.held → ys ≡ take p.entry_count p.entries
    → value_of (map held_in xs) (map entry_in ys) el ≡ value_of (held_of p) (entries_of p) el
value_parts p xs ys el a b = rw (a, b, map-take held_in p.count p.held, map-take entry_in p.entry_count p.entries)

pub capped_take : {A : Type 0} (n : ℕ) (xs : List A) → length xs ≡ 256 → take (capped_of n) xs ≡ take n xs
capped_take {A} n xs h = by (ltb n 256) refl
  where
    by : (t : Bool) → ltb n 256 ≡ t → take (capped_of n) xs ≡ take n xs
    by true e = rw e
    by false e =
        let l = ltb-false n 256 e in
        rw e (take_all 256 xs (omega arith) ∙ sym (take_all n xs (omega arith)))

pub capped_length : {A : Type 0} (n : ℕ) (xs : List A) → length xs ≡ 256 → capped_of n ≤ 256 → length (take n xs)
    ≡ capped_of n
capped_length {A} n xs h l =
    ap (λ (ys : List A). length ys) (sym (capped_take n xs h)) ∙ length-take-le (capped_of n) xs (omega arith)

-- the held codes and the entries of a state, by the capped counts
capped_map : {A : Type 0} (f : ℕ → A) (n : ℕ) (xs : List ℕ) → length xs ≡ 256
    → take (capped_of n) (map f xs) ≡ take n (map f xs)
capped_map f n xs h = capped_take n (map f xs) (length-map xs f ∙ h)

pub held_first : (p : Pad) (n : ℕ) → length p.held ≡ 256 → n ≡ capped_of p.count → helds_in n p.held ≡ held_of p
held_first p n lh en =
    ap (λ (k : ℕ). take k (map held_in p.held)) en ∙ capped_map held_in p.count p.held lh

-- ---- the held codes, as the program has them
pub capped_most : (n : ℕ) → capped_of n ≤ 256
capped_most n = by (ltb n 256) refl
  where
    by : (t : Bool) → ltb n 256 ≡ t → pick t n 256 ≤ 256
    by true e = omega (arith, ltb-true n 256 e)
    by false e = omega arith

module _ (p : Pad) (lh : length p.held ≡ 256) (xs : List ℕ) (e : xs ≡ take p.count p.held) where
  pub codes_many : length xs ≡ capped_of p.count
  codes_many = ap (λ (l : List ℕ). length l) e ∙ capped_length p.count p.held lh (capped_most p.count)

  pub codes_first : take (length xs) p.held ≡ xs
  codes_first = ap (λ (k : ℕ). take k p.held) codes_many ∙ capped_take p.count p.held lh ∙ sym e

-- ---- a raw event: a number put at place i of the first n
module _ (xs : List ℕ) (n i x c : ℕ) (long : length xs ≡ 256) (few : n ≤ 256) (at : i ≡ place_in c (take n xs))
    (code : x / code_unit ≡ c) where
  abbrev put : List ℕ
  put = put_number x (take n xs)

  abbrev parts : List ℕ
  parts = take i (take n xs) ++ x ∷ drop (suc i) (take n xs)

  within : i ≤ n
  within = omega (arith, at, place_within c (take n xs), length-take-le n xs (omega arith))

  put_is : put ≡ parts
  put_is =
      placed x (take n xs)
      ∙ ap (λ (k : ℕ). take k (take n xs) ++ x ∷ drop (suc k) (take n xs))
      (ap (λ (y : ℕ). place_in y (take n xs)) code ∙ sym at)

  pub put_many : length put ≡ grown_of i n
  put_many = ap (λ (l : List ℕ). length l) put_is ∙ by (ltb i n) refl
    where
      by : (t : Bool) → ltb i n ≡ t → length parts ≡ grown_of i n
      by true e = rw e (put_onto xs n i x (omega arith) (ltb-true i n e))
      by false e =
          let same : i ≡ n = omega (arith, within, ltb-false i n e) in
          rw (e, same) (put_after xs n x (omega arith))

  pub put_stored : i < 256 → set xs i x ≡ put ++ drop (length put) xs
  put_stored l =
      sym (stored xs n i x (omega arith) within (omega arith))
      ∙ ap (λ (ys : List ℕ). ys ++ drop (length ys) xs) (sym put_is)

  pub grown_within : i < 256 → grown_of i n ≤ 256
  grown_within l = by (ltb i n) refl
    where
      by : (t : Bool) → ltb i n ≡ t → grown_of i n ≤ 256
      by true e = rw e few
      by false e = rw e (omega (arith, within, ltb-false i n e))

  pub grown_over : i ≡ 256 → grown_of i n ≡ 257
  grown_over e =
      let z : n ≡ 256 = omega (arith, within) in
      ap (λ (j : ℕ). grown_of j n) e ∙ ap (λ (j : ℕ). grown_of 256 j) z

  -- the held codes then
  pub held_then : i < 256 → helds_in (grown_of i n) (set xs i x) ≡ put_held (held_in x) (helds_in n xs)
  held_then l =
      ap (λ (k : ℕ). take k (map held_in (set xs i x))) (sym put_many)
      ∙ ap (λ (ys : List ℕ). take (length put) (map held_in ys)) (put_stored l)
      ∙ first_of held_in put (drop (length put) xs)
      ∙ held_put x (take n xs)
      ∙ ap (λ (hs : List Held). put_held (held_in x) hs) (map-take held_in n xs)

  code_is : (held_in x).code ≡ code_of c
  unfolding held_in
  code_is = ap code_of code

  pub touched : i < 256 → Touched (helds_in n xs) (helds_in (grown_of i n) (set xs i x)) (code_of c)
  touched l = record { put = held_in x; of = code_is; is = held_then l }

pub not_full : (i n : ℕ) → i ≤ n → n ≤ 256 → (i ≡ 256 → ⊥) → i < 256
not_full i n a b d = ⊎_elim (λ l. l) (λ l. absurd (d (omega arith))) (lt_or_le i 256)

-- ---- what a raw event answers
module _ (p : Pad) (c : Code) (raw : Raw) (n i x : ℕ) (lh : length p.held ≡ 256) (le : length p.entries ≡ 256)
    (en : n ≡ capped_of p.count) (few : n ≤ 256) (at : i ≡ place_in c.0 (take n p.held))
    (ex : x ≡ held_number c raw) (code : x / code_unit ≡ c.0) where
  after_is : put_number x (take n p.held) ≡ held_after_event p c raw
  after_is =
      ap (λ (y : ℕ). put_number y (take n p.held)) ex
      ∙ ap (λ (ys : List ℕ). put_number (held_number c raw) ys)
      (ap (λ (k : ℕ). take k p.held) en ∙ capped_take p.count p.held lh)

  many_is : length (held_after_event p c raw) ≡ grown_of i n
  many_is =
      ap (λ (l : List ℕ). length l) (sym after_is) ∙ put_many p.held n i x c.0 lh few at code

  pub turned_away : i ≡ 256 → refused_of p ≡ raw_event_of p c raw
  unfolding raw_event_of
  turned_away e =
      let k = many_is ∙ grown_over p.held n i x c.0 lh few at code e in
      let w : 256 < length (held_after_event p c raw) = omega (arith, k) in
      rw (lt-leb (length (held_after_event p c raw)) 256 w)

  -- the state that the program makes
  abbrev pub next : Pad
  next =
      record { count = grown_of i n; held = set p.held i x; entry_count = p.entry_count; entries = p.entries }

  next_is : i < 256 → next ≡ with_held p (held_after_event p c raw)
  next_is l =
      let ys = put_number x (take n p.held) in
      let a : set p.held i x ≡ ys ++ drop (length ys) p.held =
      put_stored p.held n i x c.0 lh few at code l in
      let b : grown_of i n ≡ length ys = sym (put_many p.held n i x c.0 lh few at code) in
      ap
      (λ (n : ℕ). record {
        count = n;
        held = set p.held i x;
        entry_count = p.entry_count;
        entries = p.entries;
      })
      b
      ∙ ap
      (λ (l : List ℕ). record { count = length ys; held = l; entry_count = p.entry_count; entries = p.entries })
      a
      ∙ ap (λ (l : List ℕ). with_held p l) after_is

  pub put_told : i < 256 → (es : List Event) → changes 0 (pad_values p) (pad_values next) ≡ es
      → raw_event_of p c raw ≡ record { answer = Ok tt; pad = next; events = events_in es }
  unfolding raw_event_of told_of
  put_told l es e =
      let w : length (held_after_event p c raw) ≤ 256 =
      omega (arith, many_is, grown_within p.held n i x c.0 lh few at code l) in
      let m = le-leb (length (held_after_event p c raw)) 256 w in
      rw m
      (ap (λ (y : Pad). told_of p y) (sym (next_is l))
      ∙ ap (λ (fs : List Event). record { answer = Ok tt; pad = next; events = events_in fs }) e)

  pub touched_next : i < 256 → Touched (held_of p) (held_of next) c
  touched_next l =
      rw (sym (held_first p n lh en)) (touched p.held n i x c.0 lh few at code l)

-- ---- what a change of map answers
pub map_next : (p : Pad) (m : Mapping) (many : ℕ) → length m.entries ≡ 256 → many ≡ capped_of m.count → many ≤ 256
    → (ys : List ℕ) → ys ≡ entry_numbers (M.held m)
    → record { count = p.count; held = p.held; entry_count = many; entries = ys } ≡ with_map p m
map_next p m many lm em most ys ey =
    let e : many ≡ length (M.held m) = em ∙ sym (capped_length m.count m.entries lm (omega (arith, em))) in
    rw (e, ey)

pub changed : (p : Pad) (m : Mapping) (q : Pad) (e : Events) → q ≡ with_map p m
    → e ≡ events_in (changes 0 (pad_values p) (pad_values q))
    → record { answer = Ok tt; pad = q; events = e } ≡ change_map_of p m
unfolding change_map_of told_of
changed p m q e h k =
    ap (λ (y : Events). record { answer = Ok tt; pad = q; events = y }) k ∙ ap (λ (y : Pad). told_of p y) h
