-- Numbers of a slice that are met from the last one on: the list of them begins with the one met last. Assumes nothing.
use Rattle.std.proofs.Common.{ℕ, ◌≡◌, List, [], ◌∷◌, ◌++◌, map, reverse, Bor, ap, ◌∙◌}
use mathlib.Core.List.{map-append, reverse-append}

abbrev pub met : List (Bor ℕ) → List ℕ
met xs = reverse (map (λ x. x.now) xs)

pub met-more : (xs : List (Bor ℕ)) (x : Bor ℕ) → met (xs ++ x ∷ []) ≡ x.now ∷ met xs
met-more xs x =
    ap reverse (map-append (λ (y : Bor ℕ). y.now) xs (x ∷ []))
    ∙ reverse-append (map (λ (y : Bor ℕ). y.now) xs) (x.now ∷ [])
