-- The fields of a line, each with a comma after it, are the line with a comma at its end: byte by byte.
-- Assumes nothing.
use Prim.Native.Nat.{ℕ, ◌+◌}
use mathlib.Core.Path.{◌≡◌, refl, sym, ap, ◌∙◌}
use mathlib.Core.Bool.{Bool, true, false}
use mathlib.Core.List.{List, [], ◌∷◌}
use native.Mathlib.Omega.{arith}
use borrow.Author.Tests.{eqb-true}
use lib.Dec.{eqb}
use lib.ListN.{take, drop}
use Rattle.text.specs.Bytes.{pick, byte, first_of}
use Rattle.line.specs.Fields.{before, fields_of}
use Rattle.line.specs.Tiles.{tiled, closed, Tiles}
use Rattle.line.proofs.FieldLaws.{fields_cons}

before-tiled : (b : ℕ) (f : List ℕ) (fs : List (List ℕ)) → tiled (before b (f ∷ fs)) ≡ b ∷ tiled (f ∷ fs)
unfolding tiled
before-tiled b f fs = refl

pub tiles : Tiles
unfolding fields_of tiled closed
tiles [] = refl
tiles (b ∷ []) = by (eqb b (byte ","))
  where
    by : (t : Bool) → tiled (pick t ([] ∷ []) ((b ∷ []) ∷ [])) ≡ pick t (byte "," ∷ []) (b ∷ byte "," ∷ [])
    by true = refl
    by false = refl
tiles (b ∷ c ∷ s) = by (eqb b (byte ",")) refl (tiles (c ∷ s)) (fields_cons (c ∷ s) (omega arith))
  where
    by : (t : Bool) → eqb b (byte ",") ≡ t → tiled (fields_of (c ∷ s)) ≡ closed (c ∷ s)
        → fields_of (c ∷ s) ≡ take (first_of (byte ",") (c ∷ s)) (c ∷ s) ∷ fields_of
        (drop (first_of (byte ",") (c ∷ s) + 1) (c ∷ s))
        → tiled (pick t ([] ∷ fields_of (c ∷ s)) (before b (fields_of (c ∷ s)))) ≡ b ∷ closed (c ∷ s)
    by true e ih f =
        let q : byte "," ≡ b = sym (eqb-true b (byte ",") e) in
        ap (λ (l : List ℕ). byte "," ∷ l) ih ∙ ap (λ (x : ℕ). x ∷ closed (c ∷ s)) q
    by false e ih f =
        let k = first_of (byte ",") (c ∷ s) in
        ap (λ (l : List (List ℕ)). tiled (before b l)) f
        ∙ before-tiled b (take k (c ∷ s)) (fields_of (drop (k + 1) (c ∷ s)))
        ∙ ap (λ (l : List ℕ). b ∷ l) (ap tiled (sym f) ∙ ih)
