-- Laws of a pair as it is cut in one pass: how long it is, its colons, and the place of its one colon. Assumes nothing.
use Prim.Native.Nat.{ℕ, suc, ◌+◌, ◌-◌, ◌≤◌, ◌<◌}
use mathlib.Core.Path.{◌≡◌, refl, ap, sym, ◌∙◌}
use mathlib.Core.List.{List, [], ◌∷◌}
use mathlib.Core.Bool.{Bool, true, false}
use lib.ListN.{length, take, drop, get_or}
use lib.Seq.{drop-cons, drop-length, length-take-le}
use lib.Dec.{eqb}
use native.Mathlib.Numerals.{add-one}
use native.Mathlib.Omega.{arith}
use borrow.Author.Tests.{ne_eqb}
use Rattle.std.proofs.lemmas.List.{take-take, drop-take}
use Rattle.text.specs.Bytes.{pick, byte, first_of}
use Rattle.text.proofs.BytesLaws.{first_le}
use Rattle.line.specs.declared.parser.pair.Cut.{Cut}
use Rattle.line.specs.Fields.{count_of, find_from}
use Rattle.line.specs.Inner.{CutAt}
use Rattle.line.specs.Pairs.{refuse, keyed_of, pair_of}
use Rattle.line.specs.Walker.{stepped, field_step_of}
use Rattle.line.specs.declared.parser.State.TheVariants as St
use Rattle.std.specs.Prelude.{Some}
use Rattle.line.proofs.CountLaws.{first_below}

-- ---- the pass: before the first byte, after one byte more, and at the front of a text
abbrev pub uncut : Cut
uncut = record { len = 0; colons = 0; colon = 0 }

abbrev pub at_colon : Cut → Cut
at_colon c = record { len = c.len + 1; colons = c.colons + 1; colon = c.len }

abbrev pub at_other : Cut → Cut
at_other c = record { len = c.len + 1; colons = c.colons; colon = c.colon }

unfoldable pub cut_of : List ℕ → Cut → Cut
cut_of [] c = c
cut_of (x ∷ s) c =
    pick (eqb x (byte ",")) c (pick (eqb x (byte ":")) (cut_of s (at_colon c)) (cut_of s (at_other c)))

module _ (s : List ℕ) (p : ℕ) (c : Cut) where
  pub cut_stop : p < length s → get_or s p 0 ≡ byte "," → cut_of (drop p s) c ≡ c
  unfolding cut_of
  cut_stop h e = simp (drop-cons s p 0 h, e)

  pub cut_colon : p < length s → get_or s p 0 ≡ byte ":" → cut_of (drop p s) c ≡ cut_of (drop (p + 1) s) (at_colon c)
  unfolding cut_of
  cut_colon h e = simp (drop-cons s p 0 h, e, add-one p)

  pub cut_other : p < length s → (get_or s p 0 ≡ byte "," → ⊥) → (get_or s p 0 ≡ byte ":" → ⊥)
      → cut_of (drop p s) c ≡ cut_of (drop (p + 1) s) (at_other c)
  unfolding cut_of
  cut_other h e f =
      simp (drop-cons s p 0 h, ne_eqb (get_or s p 0) (byte ",") e, ne_eqb (get_or s p 0) (byte ":") f, add-one p)

  pub cut_end : length s ≤ p → p ≤ length s → cut_of (drop p s) c ≡ c
  unfolding cut_of
  cut_end h g = let e : p ≡ length s = omega arith in simp (e, drop-length s)

-- ---- what the pass tells of the pair at the front of a text
abbrev front : List ℕ → List ℕ
front s = take (first_of (byte ",") s) s

record Told (s : List ℕ) (c r : Cut) : Type 0 where
  len : r.len ≡ c.len + first_of (byte ",") s
  colons : r.colons ≡ c.colons + count_of (byte ":") (front s)
  none : count_of (byte ":") (front s) ≡ 0 → r.colon ≡ c.colon
  one : count_of (byte ":") (front s) ≡ 1 → r.colon ≡ c.len + first_of (byte ":") (front s)

told : (s : List ℕ) (c : Cut) → Told s c (cut_of s c)
unfolding cut_of first_of count_of
told [] c = record { len = omega arith; colons = omega arith; none = λ _. refl; one = λ h. absurd (omega (arith, h)) }
told (x ∷ s) c = by (eqb x (byte ",")) refl (told s (at_colon c)) (told s (at_other c))
  where
    on : (u : Bool) → eqb x (byte ":") ≡ u → eqb x (byte ",") ≡ false → Told s (at_colon c) (cut_of s (at_colon c))
        → Told s (at_other c) (cut_of s (at_other c)) → Told (x ∷ s) c (cut_of (x ∷ s) c)
    on true f e t _ =
        let n : count_of (byte ":") (front (x ∷ s)) ≡ suc (count_of (byte ":") (front s)) = rw (e, f) refl in
        let p : first_of (byte ":") (front (x ∷ s)) ≡ 0 = rw (e, f) refl in
        let l : first_of (byte ",") (x ∷ s) ≡ suc (first_of (byte ",") s) = rw e refl in
        let r : cut_of (x ∷ s) c ≡ cut_of s (at_colon c) = rw (e, f) refl in
        rw r (record {
          len = omega (arith, l, t.len);
          colons = omega (arith, n, t.colons);
          none = λ h. absurd (omega (arith, n, h));
          one = λ h. (let z : count_of (byte ":") (front s) ≡ 0 = omega (arith, n, h) in omega (arith, p, t.none z));
        })
    on false f e _ t =
        let n : count_of (byte ":") (front (x ∷ s)) ≡ count_of (byte ":") (front s) = rw (e, f) refl in
        let p : first_of (byte ":") (front (x ∷ s)) ≡ suc (first_of (byte ":") (front s)) = rw (e, f) refl in
        let l : first_of (byte ",") (x ∷ s) ≡ suc (first_of (byte ",") s) = rw e refl in
        let r : cut_of (x ∷ s) c ≡ cut_of s (at_other c) = rw (e, f) refl in
        rw r (record {
          len = omega (arith, l, t.len);
          colons = omega (arith, n, t.colons);
          none = λ h. t.none (sym n ∙ h);
          one = λ h. omega (arith, p, t.one (sym n ∙ h));
        })

    by : (u : Bool) → eqb x (byte ",") ≡ u → Told s (at_colon c) (cut_of s (at_colon c))
        → Told s (at_other c) (cut_of s (at_other c)) → Told (x ∷ s) c (cut_of (x ∷ s) c)
    by true e _ _ =
        let l : first_of (byte ",") (x ∷ s) ≡ 0 = rw e refl in
        let n : count_of (byte ":") (front (x ∷ s)) ≡ 0 = rw e refl in
        let r : cut_of (x ∷ s) c ≡ c = rw e refl in
        rw r (record {
          len = omega (arith, l);
          colons = omega (arith, n);
          none = λ _. refl;
          one = λ h. absurd (omega (arith, n, h));
        })
    by false e a b = on (eqb x (byte ":")) refl e a b

pub cut_told : (s : List ℕ) (r : Cut) → r ≡ cut_of s uncut → CutAt s r
cut_told s r e =
    let t = told s uncut in
    let le = ap (λ (c : Cut). c.len) e in
    let ce = ap (λ (c : Cut). c.colons) e in
    let l : r.len ≡ first_of (byte ",") s = omega (arith, le, t.len) in
    let n : r.colons ≡ count_of (byte ":") (front s) = omega (arith, ce, t.colons) in
    let o : (r.colons ≡ 1 → r.colon ≡ first_of (byte ":") (front s)) =
    λ h. omega (arith, ap (λ (c : Cut). c.colon) e, t.one (sym n ∙ h)) in
    rw l (refl, n, o)

-- ---- where the pair is cut
module _ (s : List ℕ) (c : Cut) (h : CutAt s c) where
  pub cut_within : c.len ≤ length s
  cut_within = omega (arith, h.0, first_le (byte ",") s)

  pub colon_within : c.colons ≡ 1 → c.colon < c.len
  colon_within e =
      let o : 0 < count_of (byte ":") (take c.len s) = omega (arith, h.1, e) in
      let b = first_below (byte ":") (take c.len s) o in
      omega (arith, h.2 e, b, length-take-le c.len s cut_within)

  pub key_of : c.colons ≡ 1 → take c.colon (take c.len s) ≡ take c.colon s
  key_of e = take-take c.colon c.len s (omega (arith, colon_within e))

  pub value_of : c.colons ≡ 1 → drop (c.colon + 1) (take c.len s) ≡ take (c.len - (c.colon + 1)) (drop (c.colon + 1) s)
  value_of e =
      let k = c.len - (c.colon + 1) in
      let p : c.len ≡ c.colon + 1 + k = omega (arith, colon_within e) in
      ap (λ (n : ℕ). drop (c.colon + 1) (take n s)) p ∙ drop-take (c.colon + 1) k s

  -- ---- the pair is that of the text before the comma
  module _ (p : ℕ) where
    pub pair_at_colon : c.colons ≡ 1
        → keyed_of (take c.colon s) (take (c.len - (c.colon + 1)) (drop (c.colon + 1) s)) p (p + (c.colon + 1))
        ≡ pair_of (take c.len s) p
    unfolding pair_of
    pair_at_colon e =
        let n : count_of (byte ":") (take c.len s) ≡ 1 = sym h.1 ∙ e in
        let f : first_of (byte ":") (take c.len s) ≡ c.colon = sym (h.2 e) in
        rw (n, f, key_of e, value_of e) refl

    pub pair_refused : (c.colons ≡ 1 → ⊥) → refuse 3 p ≡ pair_of (take c.len s) p
    unfolding pair_of
    pair_refused n =
        rw (ne_eqb (count_of (byte ":") (take c.len s)) 1 (λ q. n (h.1 ∙ q))) refl

-- the step of a pair, which is the front of what is left of the line
pub pair_stepped : (s : List ℕ) (p : ℕ) (c : Cut) (r : List ℕ) → r ≡ drop p s → CutAt r c
    → stepped (Some (pair_of (take c.len r) p)) (p + c.len + 1) St.KeyVal
    ≡ field_step_of s p (find_from (byte ",") s p) St.KeyVal
unfolding field_step_of
pair_stepped s p c r e h =
    let k = first_of (byte ",") (drop p s) in
    let l : c.len ≡ k = h.0 ∙ ap (λ (t : List ℕ). first_of (byte ",") t) e in
    let d : p + k - p ≡ k = omega arith in
    rw (l, e, d) refl
