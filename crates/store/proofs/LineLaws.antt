-- The lines of a text, one after the other: where the first one ends, and the lines behind it.
-- Assumes nothing.
use mathlib.Core.Bool.{Bool, true, false, ◌&&◌}
use mathlib.Core.List.{List, [], ◌∷◌, ◌++◌}
use mathlib.Core.Path.{◌≡◌, refl, sym, ap, ap₂, ◌∙◌}
use Prim.Native.Nat.{ℕ, zero, suc, ◌+◌, ◌-◌, ◌≤◌, ◌<◌}
use native.Mathlib.Omega.{arith}
use lib.Dec.{eqb, ltb}
use lib.ListN.{length, get_or, take, drop, drop_of_length-le, length-drop, length-append}
use lib.Seq.{drop-drop, take_all, take-suc, get_or-take, get_or-append_seam, length-take-le}
use borrow.Author.Tests.{eq-eqb, ne_eqb, lt-ltb, le-ltb, ltb-true, ltb-false, eqb-true, eqb-false}
use denote.Ref.{Bor}
use Rattle.std.specs.Prelude.{Option, Some, None}
use Rattle.std.specs.Option.{MatchOption, unwrap_or}
use Rattle.text.specs.Bytes.{pick, first_of}
use Rattle.store.specs.Inner.{without_cr, first_line}
use Rattle.store.specs.Lines.{cr, lines_of}
use Rattle.line.specs.Fields.{before}
use Rattle.text.specs.Search.{lf}
use Rattle.store.proofs.BoolLaws.{and_left, and_right}

ltb-suc : (a b : ℕ) (t : Bool) → ltb a b ≡ t → ltb (suc a) (suc b) ≡ t
ltb-suc a b true e = let l : a < b = ltb-true a b e in lt-ltb (suc a) (suc b) (omega arith)
ltb-suc a b false e = let l : b ≤ a = ltb-false a b e in le-ltb (suc a) (suc b) (omega arith)

-- a byte before the first line of the rest, unless it is the CR of an empty one
longer : (b c : ℕ) (s : List ℕ) → eqb b lf ≡ false → eqb b cr && eqb c lf ≡ false
    → first_line (b ∷ c ∷ s) ≡ b ∷ first_line (c ∷ s)
unfolding first_line first_of without_cr
longer b c s n r = go (eqb c lf) refl (ltb (first_of lf (c ∷ s)) (length (c ∷ s))) refl
  where
    go : (x : Bool) → eqb c lf ≡ x → (y : Bool) → ltb (first_of lf (c ∷ s)) (length (c ∷ s)) ≡ y
        → first_line (b ∷ c ∷ s) ≡ b ∷ first_line (c ∷ s)
    go x p false q = (rw (n, ltb-suc (first_of lf (c ∷ s)) (length (c ∷ s)) false q, q))
    go true p true q =
        let q' : eqb b cr ≡ false = right (eqb b cr) (sym (ap (λ (z : Bool). eqb b cr && z) p) ∙ r) in
        (rw (n, ltb-suc (first_of lf (c ∷ s)) (length (c ∷ s)) true q, q) (rw p (rw q' refl)))
      where
        right : (a : Bool) → a && true ≡ false → a ≡ false
        right true e = e
        right false e = refl
    go false p true q = (rw (n, ltb-suc (first_of lf (c ∷ s)) (length (c ∷ s)) true q, q) (rw p refl))

at_lf : (b : ℕ) (s : List ℕ) → eqb b lf ≡ true
    → lines_of (b ∷ s) ≡ first_line (b ∷ s) ∷ lines_of (drop (suc (first_of lf (b ∷ s))) (b ∷ s))
unfolding lines_of first_of first_line without_cr
at_lf b s e = rw e (rw (lt-ltb 0 (suc (length s)) (omega arith)) refl)

at_crlf : (b c : ℕ) (s : List ℕ) → eqb b lf ≡ false → eqb b cr && eqb c lf ≡ true
    → lines_of (b ∷ c ∷ s) ≡ first_line (b ∷ c ∷ s) ∷ lines_of (drop (suc (first_of lf (b ∷ c ∷ s))) (b ∷ c ∷ s))
unfolding lines_of first_of first_line without_cr
at_crlf b c s e f =
    let x : eqb b cr ≡ true = and_left (eqb b cr) (eqb c lf) f in
    let y : eqb c lf ≡ true = and_right (eqb b cr) (eqb c lf) f in
    rw (e, f, y) (rw (lt-ltb 1 (suc (suc (length s))) (omega arith), x) refl)

pub cut_first : (b : ℕ) (s : List ℕ)
    → lines_of (b ∷ s) ≡ first_line (b ∷ s) ∷ lines_of (drop (suc (first_of lf (b ∷ s))) (b ∷ s))
cut_first b [] = go (eqb b lf) refl (eqb b cr) refl
  where
    go : (x : Bool) → eqb b lf ≡ x → (y : Bool) → eqb b cr ≡ y
        → lines_of (b ∷ []) ≡ first_line (b ∷ []) ∷ lines_of (drop (suc (first_of lf (b ∷ []))) (b ∷ []))
    go true e y f = at_lf b [] e
    go false e true f = unfold lines_of first_of first_line in (rw (e, f))
    go false e false f = unfold lines_of first_of first_line in (rw (e, f))
cut_first b (c ∷ s) = go (eqb b lf) refl (eqb b cr && eqb c lf) refl (cut_first c s)
  where
    go : (x : Bool) → eqb b lf ≡ x → (y : Bool) → eqb b cr && eqb c lf ≡ y
        → lines_of (c ∷ s) ≡ first_line (c ∷ s) ∷ lines_of (drop (suc (first_of lf (c ∷ s))) (c ∷ s))
        → lines_of (b ∷ c ∷ s) ≡ first_line (b ∷ c ∷ s) ∷ lines_of (drop (suc (first_of lf (b ∷ c ∷ s))) (b ∷ c ∷ s))
    go true e y f ih = at_lf b (c ∷ s) e
    go false e true f ih = at_crlf b c s e f
    go false e false f ih = skip ∙ ap (before b) ih
        ∙ ap₂ (λ (x : List ℕ) (y : List (List ℕ)). x ∷ y) (sym (longer b c s e f))
        (ap (λ (k : ℕ). lines_of (drop (suc k) (b ∷ c ∷ s))) (sym up))
      where
        skip : lines_of (b ∷ c ∷ s) ≡ before b (lines_of (c ∷ s))
        skip = unfold lines_of in (rw (e, f))

        up : first_of lf (b ∷ c ∷ s) ≡ suc (first_of lf (c ∷ s))
        up = unfold first_of in (rw e)

more : (x : ℕ) → (x ≡ 0 → ⊥) → 1 ≤ x
more zero n = absurd (n refl)
more (suc x) n = omega arith

-- `line_length`
cr_last : (s : List ℕ) (n : ℕ) → n < length s → (t : Bool) → eqb (get_or s n 0) cr ≡ t
    → without_cr (take (suc n) s) ≡ pick t (take n s) (take (suc n) s)
unfolding without_cr
cr_last [] n l t e = absurd (omega arith)
cr_last (x ∷ s) zero l t e = one t e
  where
    one : (t : Bool) → eqb x cr ≡ t → pick (eqb x cr) [] (x ∷ []) ≡ pick t [] (x ∷ [])
    one t e = rw e
cr_last (x ∷ []) (suc n) l t e = absurd (omega arith)
cr_last (x ∷ y ∷ s) (suc n) l t e = ap (λ (q : List ℕ). x ∷ q) (cr_last (y ∷ s) n (omega arith) t e) ∙ push t
  where
    push : (t : Bool) → x ∷ pick t (take n (y ∷ s)) (take (suc n) (y ∷ s))
        ≡ pick t (x ∷ take n (y ∷ s)) (x ∷ take (suc n) (y ∷ s))
    push true = refl
    push false = refl

module _ (s : List ℕ) where
  whole_line : (t : Bool) → ltb (first_of lf s) (length s) ≡ t
      → first_line s ≡ pick t (without_cr (take (first_of lf s) s)) s
  unfolding first_line
  whole_line t e = rw e

  pub line_last : length s ≤ first_of lf s → take (length s) s ≡ first_line s
  line_last l = take_all (length s) s (omega arith) ∙ sym (whole_line false (le-ltb (first_of lf s) (length s) l))

  module _ (end : ℕ) (e : end ≡ first_of lf s) (l : end < length s) where
    cut : first_line s ≡ without_cr (take end s)
    cut = whole_line true (lt-ltb (first_of lf s) (length s) (omega (arith, e)))
        ∙ ap (λ (n : ℕ). without_cr (take n s)) (sym e)

    pub line_none : end ≡ 0 → take 0 s ≡ first_line s
    line_none z = sym (cut ∙ ap (λ (n : ℕ). without_cr (take n s)) z ∙ unfold without_cr in refl)

    pub line_cr : (end ≡ 0 → ⊥) → get_or s (end - 1) 0 ≡ cr → take (end - 1) s ≡ first_line s
    line_cr n c =
        let q : suc (end - 1) ≡ end = omega (arith, more end n) in
        sym (cut ∙ ap (λ (m : ℕ). without_cr (take m s)) (sym q)
        ∙ cr_last s (end - 1) (omega (arith, more end n)) true (eq-eqb _ cr c))

    pub line_plain : (end ≡ 0 → ⊥) → (get_or s (end - 1) 0 ≡ cr → ⊥) → take end s ≡ first_line s
    line_plain n c =
        let q : suc (end - 1) ≡ end = omega (arith, more end n) in
        sym (cut ∙ ap (λ (m : ℕ). without_cr (take m s)) (sym q)
        ∙ cr_last s (end - 1) (omega (arith, more end n)) false (ne_eqb _ cr c) ∙ ap (λ (m : ℕ). take m s) q)

    -- what is left of the line before the LF without one CR at its end
    pub line_stripped : (b : Bor (List ℕ)) (r : Option (Bor (List ℕ))) (u : Bor (List ℕ)) → u ≡ unwrap_or r b
        → b.now ≡ take end s
        → MatchOption r ((front : List ℕ) → take end s ≡ front ++ (cr ∷ []) → ⊥) (λ x. take end s ≡ x.now ++ (cr ∷ []))
        → (length u.now ≤ length s) × (take (length u.now) s ≡ first_line s)
    line_stripped b None u eu eb m =
        let now : u.now ≡ take end s = ap (λ (x : Bor (List ℕ)). x.now) eu ∙ eb in
        let long : length u.now ≡ end = ap length now ∙ length-take-le end s (omega (arith, l)) in
        (omega (arith, long, l), ap (λ (n : ℕ). take n s) long ∙ go (eqb end 0) refl)
      where
        go : (c : Bool) → eqb end 0 ≡ c → take end s ≡ first_line s
        go true z = ap (λ (n : ℕ). take n s) (eqb-true end 0 z) ∙ line_none (eqb-true end 0 z)
        go false z =
            let n : end ≡ 0 → ⊥ = eqb-false end 0 z in
            let q : end ≡ suc (end - 1) = omega (arith, more end n) in
            line_plain n (λ w. m (take (end - 1) s)
            (ap (λ (k : ℕ). take k s) q ∙ take-suc s (end - 1) 0 (omega (arith, l))
            ∙ ap (λ (x : ℕ). take (end - 1) s ++ (x ∷ [])) w))
    line_stripped b (Some x) u eu eb m =
        let now : u.now ≡ x.now = ap (λ (y : Bor (List ℕ)). y.now) eu in
        let long : length x.now + 1 ≡ end =
        sym (length-append x.now (cr ∷ [])) ∙ ap length (sym m) ∙ length-take-le end s (omega (arith, l)) in
        let last : end - 1 ≡ length x.now = omega (arith, long) in
        let at : get_or s (end - 1) 0 ≡ cr =
        sym (get_or-take end s (end - 1) 0 (omega (arith, long))) ∙ ap (λ (q : List ℕ). get_or q (end - 1) 0) m
        ∙ ap (λ (n : ℕ). get_or (x.now ++ (cr ∷ [])) n 0) last ∙ get_or-append_seam x.now cr [] 0 in (
          omega (arith, ap length now, long, l),
          ap (λ (n : ℕ). take n s) (ap length now ∙ sym last) ∙ line_cr (λ z. omega (arith, z, long)) at,
        )

-- the lines from `at` on: the first one, and the lines behind its LF
pub cut_at : (s : List ℕ) (at end : ℕ) → at < length s → end ≡ first_of lf (drop at s)
    → lines_of (drop at s) ≡ first_line (drop at s) ∷ lines_of (drop (at + (end + 1)) s)
cut_at s at end l e = go (drop at s) refl
  where
    go : (q : List ℕ) → drop at s ≡ q
        → lines_of (drop at s) ≡ first_line (drop at s) ∷ lines_of (drop (at + (end + 1)) s)
    go [] p = absurd (omega (arith, ap length p, length-drop at s, length_none))
      where
        length_none : length {A = ℕ} [] ≡ 0
        length_none = refl
    go (b ∷ q) p =
        ap lines_of p ∙ cut_first b q
        ∙ sym (ap (λ (x : List ℕ). first_line x ∷ lines_of (drop (suc (first_of lf x)) x)) p)
        ∙ ap (λ (x : List ℕ). first_line (drop at s) ∷ lines_of x)
        (ap (λ (n : ℕ). drop n (drop at s)) n_is ∙ drop-drop (end + 1) at s)
      where
        n_is : suc (first_of lf (drop at s)) ≡ end + 1
        n_is = omega (arith, e)

pub lines_end : (s : List ℕ) (at : ℕ) → length s ≤ at → lines_of (drop at s) ≡ []
unfolding lines_of
lines_end s at l = ap lines_of (drop_of_length-le s l)

pub plus_minus : (a b : ℕ) → a + b - a ≡ b
plus_minus a b = omega arith
