-- A byte and a text sought in a text: what a turn of each search passes over.
-- Assumes nothing.
use Prim.Native.Nat.{ℕ, zero, suc, min, ◌+◌, ◌-◌, ◌≤◌, ◌<◌}
use mathlib.Core.Bool.{Bool, true, false, not, ◌&&◌}
use mathlib.Core.List.{List, [], ◌∷◌, ◌++◌}
use mathlib.Core.Logic.{◌⊎◌, inl, inr, ⊎_elim}
use mathlib.Core.Path.{◌≡◌, refl, sym, ap, subst, ◌∙◌}
use native.Mathlib.Omega.{arith}
use borrow.Author.Tests.{eqb-false, eqb-true, not-true, not-false}
use lib.Dec.{eqb}
use Rattle.std.proofs.Math.Nat.{min-le_right}
use lib.ListN.{length, take, drop, get_or, length-take, length-drop}
use lib.Seq.{get_or-take, get_or-drop, take-add}
use Rattle.std.specs.List.{All}
use Rattle.std.proofs.lemmas.List.Elements.{All-nil, All-cons, All-head, All-tail, All-append}
use Rattle.text.specs.Bytes.{pick, first_of, same}
use Rattle.text.specs.Inner.{Ends}
use Rattle.text.specs.Search.{begins_text, first_text}
use Rattle.text.proofs.ListLaws.{lt_or_le, both_parts, at_next, part_to_end}
use Rattle.text.proofs.BytesLaws.{same_equal, first_at_lem, first_on, first_end, first_le}

-- ---- bytes that pass a test

-- one byte more, tested beside those before it
pub one_passes : (P : ℕ → Bool → Type 0) (ys : List ℕ) (x : ℕ) (a b : Bool) → (a ≡ true → All (λ y. P y true) ys)
    → (t : Bool) × P x t × (b ≡ a && t) → b ≡ true → All (λ y. P y true) (ys ++ x ∷ [])
one_passes P ys x a b j k e =
    let w = both_parts a k.0 (sym k.2 ∙ e) in
    let p : P x true = subst (P x) w.1 k.1 in
    All-append (λ y. P y true) ys (x ∷ []) (j w.0) (All-cons (λ y. P y true) x [] p (All-nil (λ y. P y true)))

module _ (P : ℕ → Type 0) where
  -- n bytes more
  pub block_passes : (s : List ℕ) (i n j : ℕ) → i + n ≡ j → All P (take i s) → All P (take n (drop i s)) → All P (take j s)
  block_passes s i n j e a b =
      subst (All P) (sym (take-add i n s) ∙ ap (λ (k : ℕ). take k s) e)
      (All-append P (take i s) (take n (drop i s)) a b)

  -- a byte more
  pub byte_passes : (s : List ℕ) (i : ℕ) → i < length s → All P (take i s) → P (get_or s i 0) → All P (take (i + 1) s)
  byte_passes s i h a p =
      block_passes s i 1 (i + 1) refl a
      (subst (λ (l : List ℕ). All P (take 1 l)) (sym (at_next s i h)) (All-cons P (get_or s i 0) [] p (All-nil P)))

  -- a measure that goes down by one at a byte that passes
  pub passes_go : (m : List ℕ → ℕ) → ((b : ℕ) (s : List ℕ) → P b → m (b ∷ s) ≡ suc (m s))
      → (n : ℕ) (s : List ℕ) → n ≤ length s → All P (take n s) → n + m (drop n s) ≡ m s
  passes_go m step zero s h a = omega arith
  passes_go m step (suc n) [] h a = absurd (omega arith)
  passes_go m step (suc n) (b ∷ s) h a =
      omega (
        arith,
        step b s (All-head P b (take n s) a),
        passes_go m step n s (omega arith) (All-tail P b (take n s) a),
      )

-- the bytes before the first b
pub others_passed : (P : ℕ → Bool → Type 0) (b : ℕ) (s : List ℕ) (n : ℕ) → Ends P s n
    → ((x : ℕ) (t : Bool) → P x t → t ≡ not (eqb x b)) → n ≡ first_of b s
others_passed P b s n e told = omega (arith, go, here (lt_or_le n (length s)))
  where
    other : (x : ℕ) (l : List ℕ) → P x true → first_of b (x ∷ l) ≡ suc (first_of b l)
    other x l p = first_on b (x ∷ l) 0 (omega arith) (eqb-false x b (not-true _ (sym (told x true p))))

    go : n + first_of b (drop n s) ≡ first_of b s
    go = passes_go (λ x. P x true) (first_of b) other n s e.within e.passed

    here : (n < length s) ⊎ (length s ≤ n) → first_of b (drop n s) ≡ 0
    here (inl h) = first_at_lem b s n h (eqb-true _ b (not-false _ (sym (told _ false (e.stops h)))))
    here (inr h) = first_end b s n h

-- what is found in the part from k on lies within the text
module _ (b : ℕ) (s : List ℕ) (k r : ℕ) (e : r ≡ first_of b (take (length s - k) (drop k s))) where
  pub part_first : r ≡ first_of b (drop k s)
  part_first = e ∙ ap (first_of b) (part_to_end s k)

  pub part_within : k ≤ length s → k + r ≤ length s
  part_within h = omega (arith, part_first, first_le b (drop k s), length-drop k s)

-- ---- the first text in another

begins_long : (p s : List ℕ) → begins_text p s ≡ true → length p ≤ length s
begins_long p s e = omega (arith, simp length-take at (ap length (same_equal (take (length p) s) p e)))

module _ (p s : List ℕ) (i : ℕ) where
  text_step : i < length s → (t : Bool) → begins_text p (drop i s) ≡ t
      → first_text p (drop i s) ≡ pick t 0 (suc (first_text p (drop (i + 1) s)))
  text_step h t e = go (drop i s) (at_next s i h) e
    where
      go : (q : List ℕ) → q ≡ get_or s i 0 ∷ drop (i + 1) s → begins_text p q ≡ t
          → first_text p q ≡ pick t 0 (suc (first_text p (drop (i + 1) s)))
      go q x y = ap (first_text p) x ∙ unfold first_text in
          (ap (λ (b : Bool). pick b 0 (suc (first_text p (drop (i + 1) s)))) (ap (begins_text p) (sym x) ∙ y))

  pub text_at : i < length s → begins_text p (drop i s) ≡ true → first_text p (drop i s) ≡ 0
  text_at h e = text_step h true e

  pub text_on : i < length s → begins_text p (drop i s) ≡ false
      → first_text p (drop i s) ≡ suc (first_text p (drop (i + 1) s))
  text_on h e = text_step h false e

-- where there is one, there is room for it
pub text_within : (p s : List ℕ) → (first_text p s ≡ length s → ⊥) → first_text p s + length p ≤ length s
unfolding first_text
text_within p [] n = absurd (n refl)
text_within p (b ∷ s) n = go (begins_text p (b ∷ s)) refl n (text_within p s)
  where
    go : (t : Bool) → begins_text p (b ∷ s) ≡ t → (pick t 0 (suc (first_text p s)) ≡ suc (length s) → ⊥)
        → ((first_text p s ≡ length s → ⊥) → first_text p s + length p ≤ length s)
        → pick t 0 (suc (first_text p s)) + length p ≤ suc (length s)
    go true e n ih = omega (arith, begins_long p (b ∷ s) e)
    go false e n ih = let r : first_text p s + length p ≤ length s = ih (λ q. n (ap suc q)) in omega arith

-- nothing stands everywhere
pub first_empty : (p s : List ℕ) → (1 ≤ length p → ⊥) → 0 ≡ first_text p s
unfolding first_text same
first_empty [] [] h = refl
first_empty [] (b ∷ s) h = refl
first_empty (x ∷ p) s h = absurd (h (omega arith))

-- the place of p's rare byte
pub rare_place : {n last k : ℕ} (d : ℕ) → k ≡ min d last → (1 ≤ n) × (last ≡ n - 1) → k < n
rare_place {n} {last} d e h = omega (arith, e, h.0, h.1, min-le_right d last)

-- a text that p stands at the beginning of has p's bytes
begins-byte : (p s : List ℕ) (i d : ℕ) → d < length p → begins_text p (drop i s) ≡ true → get_or s (i + d) 0 ≡ get_or p d 0
begins-byte p s i d h e =
    sym (get_or-drop i s d 0) ∙ sym (get_or-take (length p) (drop i s) d 0 h)
    ∙ ap (λ (l : List ℕ). get_or l d 0) (same_equal (take (length p) (drop i s)) p e)

module _ (p s : List ℕ) (d : ℕ) (h : d < length p) where
  other_byte : (i : ℕ) → (get_or s (i + d) 0 ≡ get_or p d 0 → ⊥) → begins_text p (drop i s) ≡ false
  other_byte i n = by (begins_text p (drop i s)) refl
    where
      by : (t : Bool) → begins_text p (drop i s) ≡ t → t ≡ false
      by true e = absurd (n (begins-byte p s i d h e))
      by false e = refl

  abbrev rare : ℕ
  rare = get_or p d 0

  -- n places where that byte does not stand d further on
  rare_go : (n i : ℕ) → n ≡ first_of rare (drop (i + d) s) → i + n ≤ length s
      → i + n + first_text p (drop (i + n) s) ≡ i + first_text p (drop i s)
  rare_go zero i e l = let z : i + 0 ≡ i = omega arith in ap (λ (k : ℕ). k + first_text p (drop k s)) z
  rare_go (suc n) i e l =
      let inside : i + d < length s =
      ⊎_elim (λ k. k) (λ k. absurd (omega (arith, first_end rare s (i + d) k))) (lt_or_le (i + d) (length s)) in
      let unlike : get_or s (i + d) 0 ≡ rare → ⊥ = λ k. omega (arith, first_at_lem rare s (i + d) inside k) in
      let y : i + d + 1 ≡ i + 1 + d = omega arith in
      let less : n ≡ first_of rare (drop (i + 1 + d) s) =
      omega (arith, first_on rare s (i + d) inside unlike, ap (λ (k : ℕ). first_of rare (drop k s)) y) in
      let turn = text_on p s i (omega arith) (other_byte i unlike) in
      let z : i + suc n ≡ i + 1 + n = omega arith in
      ap (λ (k : ℕ). k + first_text p (drop k s)) z ∙ omega (arith, turn, rare_go n (i + 1) less (omega arith))

  -- no p begins where its byte at d would stand behind the end
  pub rare_none : (i : ℕ) → length s ≤ i + d → i ≤ first_text p s → length s ≡ first_text p s
  rare_none i l k = by (eqb (length s) (first_text p s)) refl
    where
      by : (t : Bool) → eqb (length s) (first_text p s) ≡ t → length s ≡ first_text p s
      by true e = eqb-true (length s) (first_text p s) e
      by false e =
          absurd (omega (arith, text_within p s (λ q. eqb-false (length s) (first_text p s) e (sym q))))

  -- a turn of `find_text` from i on: the byte stands r further on
  module _ (i r : ℕ) (inv : i + first_text p (drop i s) ≡ first_text p s)
      (l : i + d < length s) (e : r ≡ first_of rare (take (length s - (i + d)) (drop (i + d) s))) where
    pub rare_within : i + r + d ≤ length s
    rare_within = omega (arith, part_within rare s (i + d) r e (omega arith))

    rare_next : i + r + first_text p (drop (i + r) s) ≡ first_text p s
    rare_next = rare_go r i (part_first rare s (i + d) r e) (omega (arith, rare_within)) ∙ inv

    pub rare_last : length s ≤ i + r + d → length s ≡ first_text p s
    rare_last k = rare_none (i + r) k (omega (arith, rare_next))

    module _ (k : i + r + d < length s) (t : Bool) (f : t ≡ begins_text p (take (length s - (i + r)) (drop (i + r) s)))
      where
        begun : t ≡ begins_text p (drop (i + r) s)
        begun = f ∙ ap (begins_text p) (part_to_end s (i + r))

        pub rare_here : t ≡ true → i + r ≡ first_text p s
        rare_here g = omega (arith, rare_next, text_at p s (i + r) (omega arith) (sym begun ∙ g))

        pub rare_on : t ≡ false → i + r + 1 + first_text p (drop (i + r + 1) s) ≡ first_text p s
        rare_on g = omega (arith, rare_next, text_on p s (i + r) (omega arith) (sym begun ∙ g))
