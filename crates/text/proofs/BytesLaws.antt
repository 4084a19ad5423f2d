-- Laws of `same`, `first_of`, `every` and `written`: what the library's methods say in these words, and what a writer of
-- several parts leaves.
-- Assumes nothing.
use borrow.Rule.Slice.PartMut.{put_mid}
use lib.Pointwise.{pointwise}
use Rattle.std.specs.List.{position_or_len}
use Rattle.std.specs.Prelude.{Option, Some, None, not, cond, ltb, unwrap_or}
use mathlib.Core.Path.{◌≡◌, refl, ap, sym, ◌∙◌}
use mathlib.Core.Bool.{Bool, true, false}
use mathlib.Core.List.{List, [], ◌∷◌, ◌++◌, append_assoc, append-nil}
use Prim.Native.Nat.{ℕ, suc, ◌+◌, ◌<◌, ◌≤◌}
use native.Mathlib.Numerals.{add-one}
use native.Mathlib.Omega.{arith}
use borrow.Author.Tests.{eq-eqb, ne_eqb, eqb-true, le-leb, lt-leb, leb-true, leb-false, ltb-false, eqb-false}
use lib.Dec.{eqb, leb}
use lib.ListN.{length, take, drop, get_or, set, length-append, length-take, length-drop}
use lib.ListN.{take-append-drop, drop_of_length-le}
use lib.Seq.{set_at, length-take-le, take-suc, take_at, drop_at, drop-drop}
use Rattle.text.specs.Bytes.{pick, both, same, first_of, written, write_answer, write_buffer}
use Rattle.text.specs.Inner.{every}
use Rattle.text.proofs.ListLaws.{off, both_parts, at_next}

-- ---- same

pub same_refl : (a : List ℕ) → same a a ≡ true
unfolding same
same_refl [] = refl
same_refl (x ∷ xs) = simp (eq-eqb x x refl, same_refl xs)

pub same_equal : (a b : List ℕ) → same a b ≡ true → a ≡ b
unfolding same
same_equal [] [] e = refl
same_equal [] (y ∷ ys) e = absurd (off e)
same_equal (x ∷ xs) [] e = absurd (off e)
same_equal (x ∷ xs) (y ∷ ys) e = go (eqb x y) refl e (same_equal xs ys)
  where
    go : (t : Bool) → eqb x y ≡ t → both t (same xs ys) ≡ true → (same xs ys ≡ true → xs ≡ ys) → x ∷ xs ≡ y ∷ ys
    go true p e f =
        let d : x ≡ y = eqb-true x y p in
        let r : xs ≡ ys = f e in
        cc
    go false p e f = absurd (off e)

pub unlike : (a b : List ℕ) → (a ≡ b → ⊥) → same a b ≡ false
unlike a b h = go (same a b) refl
  where
    go : (t : Bool) → same a b ≡ t → t ≡ false
    go true e = absurd (h (same_equal a b e))
    go false e = refl

pub same-lengths : (a b : List ℕ) → (length a ≡ length b → ⊥) → same a b ≡ false
same-lengths a b h = unlike a b (λ e. h (ap length e))

-- what `==` of two slices says
pub pointwise_same : (a b : List ℕ) → pointwise eqb a b ≡ same a b
unfolding same
pointwise_same [] [] = refl
pointwise_same [] (y ∷ ys) = refl
pointwise_same (x ∷ xs) [] = refl
pointwise_same (x ∷ xs) (y ∷ ys) = ap (both (eqb x y)) (pointwise_same xs ys)

pub eqb_turned : (x y : ℕ) → eqb x y ≡ eqb y x
eqb_turned x y = go (eqb x y) refl
  where
    go : (t : Bool) → eqb x y ≡ t → t ≡ eqb y x
    go true e = sym (eq-eqb y x (sym (eqb-true x y e)))
    go false e = sym (ne_eqb y x (λ z. eqb-false x y e (sym z)))

same_turned : (a b : List ℕ) → same a b ≡ same b a
unfolding same
same_turned [] [] = refl
same_turned [] (y ∷ ys) = refl
same_turned (x ∷ xs) [] = refl
same_turned (x ∷ xs) (y ∷ ys) = rw (eqb_turned x y, same_turned xs ys) refl

-- what `starts_with` says
pub starts_same : (p s : List ℕ) → pointwise eqb p (take (length p) s) ≡ same (take (length p) s) p
starts_same p s = pointwise_same p (take (length p) s) ∙ same_turned p (take (length p) s)

-- ---- first_of

pub first_at_lem : (b : ℕ) (s : List ℕ) (p : ℕ) → p < length s → get_or s p 0 ≡ b → first_of b (drop p s) ≡ 0
unfolding first_of
first_at_lem b s p h e = rw (at_next s p h) (simp (eq-eqb (get_or s p 0) b e))

pub first_on : (b : ℕ) (s : List ℕ) (p : ℕ) → p < length s → (get_or s p 0 ≡ b → ⊥)
    → first_of b (drop p s) ≡ suc (first_of b (drop (p + 1) s))
unfolding first_of
first_on b s p h e = rw (at_next s p h) (simp (ne_eqb (get_or s p 0) b e))

pub first_end : (b : ℕ) (s : List ℕ) (p : ℕ) → length s ≤ p → first_of b (drop p s) ≡ 0
unfolding first_of
first_end b s p h = rw (drop_of_length-le s h)

pub first_le : (b : ℕ) (s : List ℕ) → first_of b s ≤ length s
unfolding first_of
first_le b [] = omega arith
first_le b (x ∷ s) = bounded (eqb x b) (first_le b s)
  where
    bounded : (t : Bool) → first_of b s ≤ length s → pick t 0 (suc (first_of b s)) ≤ suc (length s)
    bounded true h = omega arith
    bounded false h = omega arith

first_is : (b : ℕ) (s : List ℕ) → position_or_len (λ x. eqb x b) s ≡ first_of b s
unfolding first_of
first_is b [] = refl
first_is b (x ∷ s) = go (eqb x b) (first_is b s)
  where
    go : (t : Bool) → position_or_len (λ x. eqb x b) s ≡ first_of b s
        → cond (not t) (1 + position_or_len (λ x. eqb x b) s) 0 ≡ pick t 0 (suc (first_of b s))
    go true e = refl
    go false e = omega arith

-- what the first place says, or else the length
pub position_first : (b : ℕ) (s : List ℕ) (r : Option ℕ)
    → r ≡ cond (ltb (position_or_len (λ x. eqb x b) s) (length s)) (Some (position_or_len (λ x. eqb x b) s)) None
    → unwrap_or r (length s) ≡ first_of b s
position_first b s r e =
    let p : position_or_len (λ x. eqb x b) s ≡ first_of b s = first_is b s in
    rw e (rw p (go (ltb (first_of b s) (length s)) refl))
  where
    go : (t : Bool) → ltb (first_of b s) (length s) ≡ t
        → unwrap_or (cond t (Some (first_of b s)) None) (length s) ≡ first_of b s
    go true h = refl
    go false h = omega (arith, ltb-false (first_of b s) (length s) h, first_le b s)

-- ---- every

pub every-none : (f : ℕ → Bool) → every f [] ≡ true
unfolding every
every-none f = refl

module _ (f : ℕ → Bool) where
  pub every_append : (xs ys : List ℕ) → every f xs ≡ true → every f ys ≡ true → every f (xs ++ ys) ≡ true
  unfolding every
  every_append [] ys p q = q
  every_append (x ∷ xs) ys p q =
      let w = both_parts (f x) (every f xs) p in
      rw w.0 (every_append xs ys w.1 q)

  every_one : (b : ℕ) → f b ≡ true → every f (b ∷ []) ≡ true
  unfolding every
  every_one b h = rw h

  pub every_snoc : (xs : List ℕ) (b : ℕ) → every f xs ≡ true → f b ≡ true → every f (xs ++ (b ∷ [])) ≡ true
  every_snoc xs b p q = every_append xs (b ∷ []) p (every_one b q)

-- a weaker test
pub every-also : (f g : ℕ → Bool) → ((b : ℕ) → f b ≡ true → g b ≡ true) → (s : List ℕ) → every f s ≡ true
    → every g s ≡ true
unfolding every
every-also f g i [] h = refl
every-also f g i (b ∷ s) h =
    let w = both_parts (f b) (every f s) h in
    rw (i b w.0) (every-also f g i s w.1)

-- ---- written

pub written-length : (l : List ℕ) (at : ℕ) (v : List ℕ) → at + length v ≤ length l → length (written l at v) ≡ length l
unfolding written
written-length l at v h = simp (length-append, length-take, length-drop) (omega arith)

-- nothing written
pub written_none : (l : List ℕ) (at : ℕ) → l ≡ written l at []
unfolding written
written_none l at = let e : at + 0 ≡ at = omega arith in rw (e, take-append-drop at l)

-- a byte more before those that are written
pub written-before : (l : List ℕ) (at : ℕ) (v : List ℕ) (b : ℕ) → at + 1 + length v ≤ length l
    → set (written l (at + 1) v) at b ≡ written l at (b ∷ v)
unfolding written
written-before l at v b h =
    let e : at + 1 + length v ≡ at + suc (length v) = omega arith in
    let p : at < length l = omega arith in
    let q : at ≤ length l = omega arith in
    rw (e, add-one, take-suc l at 0 p, append_assoc (take at l) (get_or l at 0 ∷ []) (v ++ drop (at + suc (length v)) l))
    (set_at (take at l) (get_or l at 0) (v ++ drop (at + suc (length v)) l) b at (length-take-le at l q))

-- a text after another: what every writer of a line is made of
pub written-append : (l : List ℕ) (at : ℕ) (xs ys : List ℕ) (n : ℕ) → n ≡ at + length xs → n + length ys ≤ length l
    → written (written l at xs) n ys ≡ written l at (xs ++ ys)
unfolding written
written-append l at xs ys n e h =
    let p : length (take at l ++ xs) ≡ n = simp length-append (rw (length-take-le at l (omega arith)) (sym e)) in
    let q : at + (length xs + length ys) ≡ n + length ys = omega arith in
    let w : take at l ++ (xs ++ drop (at + length xs) l) ≡ (take at l ++ xs) ++ drop n l =
    rw (← e) (sym (append_assoc (take at l) xs (drop n l))) in
    let d : drop (n + length ys) ((take at l ++ xs) ++ drop n l) ≡ drop (n + length ys) l =
    sym (drop-drop (length ys) n ((take at l ++ xs) ++ drop n l))
    ∙ ap (drop (length ys)) (drop_at (take at l ++ xs) (drop n l) n p) ∙ drop-drop (length ys) n l in
    rw (w, take_at (take at l ++ xs) (drop n l) n p, d) (simp (append_assoc, length-append, q))

-- what a part holds that `copy_from_slice` filled
pub mid_written : (l : List ℕ) (at : ℕ) (v ys : List ℕ) (k : ℕ) → k ≡ length v → ys ≡ v
    → put_mid at k l ys ≡ written l at v
unfolding written
mid_written l at v ys k h e = rw (h, e, drop-drop)

-- ---- what a writer answers and leaves, where the text fits and where it doesn't

-- what the test of a writer says, n being the text's length as a call gave it
pub fits_true : (r : Bool) (at n m k : ℕ) → r ≡ leb (at + n) m → r ≡ true → n ≡ k → at + k ≤ m
fits_true r at n m k e f g = leb-true (at + k) m (rw g at (sym e ∙ f))

pub fits_false : (r : Bool) (at n m k : ℕ) → r ≡ leb (at + n) m → r ≡ false → n ≡ k → m < at + k
fits_false r at n m k e f g = leb-false (at + k) m (rw g at (sym e ∙ f))

module _ (l : List ℕ) (at : ℕ) (v : List ℕ) where
  pub answer_fits : at + length v ≤ length l → write_answer l at v ≡ Some (at + length v)
  unfolding write_answer
  answer_fits h = simp (le-leb (at + length v) (length l) h)

  pub buffer_fits : at + length v ≤ length l → write_buffer l at v ≡ written l at v
  unfolding write_buffer
  buffer_fits h = simp (le-leb (at + length v) (length l) h)

  pub wrote : (r : ℕ) (m : List ℕ) → at + length v ≤ length l → r ≡ at + length v → m ≡ written l at v
      → (Some r ≡ write_answer l at v) × (m ≡ write_buffer l at v)
  wrote r m h e w = (ap Some e ∙ sym (answer_fits h), w ∙ sym (buffer_fits h))

  pub answer_short : length l < at + length v → write_answer l at v ≡ None
  unfolding write_answer
  answer_short h = simp (lt-leb (at + length v) (length l) h)

  pub buffer_short : length l < at + length v → write_buffer l at v ≡ l
  unfolding write_buffer
  buffer_short h = simp (lt-leb (at + length v) (length l) h)

  pub left_alone : length l < at + length v → (None ≡ write_answer l at v) × (l ≡ write_buffer l at v)
  left_alone h = (sym (answer_short h), sym (buffer_short h))

-- ---- a text that is written from its last byte to its first

-- what is left of it is still to come, the rest stands in the buffer
pub record Backward (l m : List ℕ) (at : ℕ) (text left : List ℕ) : Type 0 where
  pub done : List ℕ
  pub whole : left ++ done ≡ text
  pub holds : m ≡ written l (at + length left) done
  pub fits : at + length text ≤ length l

pub backward_none : (l : List ℕ) (at : ℕ) (text : List ℕ) → at + length text ≤ length l → Backward l l at text text
backward_none l at text h =
    record { done = []; whole = append-nil text; holds = written_none l (at + length text); fits = h }

module _ (l m : List ℕ) (at : ℕ) (text left : List ℕ) (p : Backward l m at text left) where
  backward_room : at + length left + length p.done ≤ length l
  backward_room = omega (arith, p.fits, ap length p.whole, length-append left p.done)

-- one byte more
pub backward_more : (l m : List ℕ) (at : ℕ) (text left : List ℕ) (b : ℕ) → Backward l m at text (left ++ (b ∷ []))
    → Backward l (set m (at + length left) b) at text left
backward_more l m at text left b p =
    let q : at + length (left ++ (b ∷ [])) ≡ at + length left + 1 = simp length-append (omega arith) in
    record {
      done = b ∷ p.done;
      whole = sym (append_assoc left (b ∷ []) p.done) ∙ p.whole;
      holds = ap (λ (x : List ℕ). set x (at + length left) b) (p.holds ∙ ap (λ (i : ℕ). written l i p.done) q)
          ∙ written-before l (at + length left) p.done b
          (omega (arith, backward_room l m at text (left ++ (b ∷ [])) p));
      fits = p.fits;
    }

pub backward_end : (l m : List ℕ) (at : ℕ) (text : List ℕ) → Backward l m at text [] → m ≡ written l at text
backward_end l m at text p = let q : at + 0 ≡ at = omega arith in p.holds ∙ rw (q, p.whole)

-- the same, as a store into the buffer needs it: the byte b goes to place i, where what is left of the text ends in b
pub backward_put : (l m : List ℕ) (at : ℕ) (text before left : List ℕ) (i b : ℕ) → Backward l m at text before
    → before ≡ left ++ (b ∷ []) → i ≡ at + length left
    → Backward l (set m i b) at text left
backward_put l m at text before left i b p e q = rw q (backward_more l m at text left b (rw e at p))
