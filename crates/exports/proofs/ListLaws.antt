-- The look-up in two lists goes by the first place of the code. Assumes nothing.
use Prim.Native.Nat.{ℕ, suc, ◌<◌, ◌≤◌}
use mathlib.Core.Path.{◌≡◌, refl, ap, sym, ◌∙◌}
use mathlib.Core.Bool.{Bool, true, false}
use mathlib.Core.List.{List, [], ◌∷◌}
use native.Mathlib.Omega.{arith}
use lib.Dec.{eqb}
use Rattle.std.proofs.Common.{Some, None, unwrap_or}
use Rattle.std.specs.List.{position}
use Rattle.std.proofs.lemmas.List.Quantifiers.{position-Some}
use Rattle.text.proofs.BytesLaws.{position_first}
use lib.ListN.{length, get_or}
use Rattle.text.specs.Bytes.{pick, first_of}
use Rattle.line.specs.Elements.{code_of}
use Rattle.line.specs.Maps.{map_of}
use Rattle.exports.specs.declared.flat.FlatElement.{FlatElement}
use Rattle.exports.specs.declared.mapping_calls.FlatMapped.{FlatMapped}
use Rattle.exports.specs.Flat.{element_of, flat_element}
use Rattle.exports.specs.FlatLists.{listed_element, listed_entries}
use Rattle.exports.specs.FlatMaps.{flat_mapped, no_element}

pub listed_found : (cs xs : List ℕ) (c : ℕ) → first_of c cs < length cs → first_of c cs < length xs
    → map_of (listed_entries cs xs) (code_of c) ≡ Some (element_of (listed_element (get_or xs (first_of c cs) 0)))
unfolding map_of listed_entries first_of
listed_found [] xs c h l = absurd (omega arith)
listed_found (d ∷ cs) [] c h l = absurd (omega arith)
listed_found (d ∷ cs) (x ∷ xs) c h l = go (eqb d c) (listed_found cs xs c) h l
  where
    go : (t : Bool) → (first_of c cs < length cs → first_of c cs < length xs
        → map_of (listed_entries cs xs) (code_of c) ≡ Some (element_of (listed_element (get_or xs (first_of c cs) 0))))
        → pick t 0 (suc (first_of c cs)) < suc (length cs) → pick t 0 (suc (first_of c cs)) < suc (length xs)
        → pick t (Some (element_of (listed_element x))) (map_of (listed_entries cs xs) (code_of c))
        ≡ Some (element_of (listed_element (get_or (x ∷ xs) (pick t 0 (suc (first_of c cs))) 0)))
    go true f h l = refl
    go false f h l = f (omega (arith, h)) (omega (arith, l))

-- past the end of one of the two lists
pub listed-none : (cs xs : List ℕ) (c : ℕ) → (first_of c cs < length cs → first_of c cs < length xs → ⊥)
    → map_of (listed_entries cs xs) (code_of c) ≡ None
unfolding map_of listed_entries first_of
listed-none [] xs c h = refl
listed-none (d ∷ cs) [] c h = refl
listed-none (d ∷ cs) (x ∷ xs) c h = go (eqb d c) (listed-none cs xs c) h
  where
    go : (t : Bool) → ((first_of c cs < length cs → first_of c cs < length xs → ⊥)
        → map_of (listed_entries cs xs) (code_of c) ≡ None)
        → (pick t 0 (suc (first_of c cs)) < suc (length cs) → pick t 0 (suc (first_of c cs)) < suc (length xs) → ⊥)
        → pick t (Some (element_of (listed_element x))) (map_of (listed_entries cs xs) (code_of c)) ≡ None
    go true f h = absurd (h (omega arith) (omega arith))
    go false f h = f (λ l m. h (omega (arith, l)) (omega (arith, m)))

-- numbers that are an element, laid out again
pub flat_again : (e : FlatElement) → flat_element (element_of e) ≡ e
flat_again e = go e.is_axis e.number
  where
    go : (t : Bool) (n : ℕ) → flat_element (element_of (record { is_axis = t; number = n }))
        ≡ record { is_axis = t; number = n }
    go true n = refl
    go false n = refl

-- ---- the first place as `position` gives it
module _ (c : ℕ) (cs : List ℕ) where
  place : unwrap_or (position (λ x. eqb x c) cs) (length cs) ≡ first_of c cs
  place = position_first c cs (position (λ x. eqb x c) cs) refl

  pub place-found : (i : ℕ) → position (λ x. eqb x c) cs ≡ Some i → (i ≡ first_of c cs) × (i < length cs)
  place-found i e = (rw e at place, (position-Some (λ x. eqb x c) cs i 0 e).0)

  pub place-none : position (λ x. eqb x c) cs ≡ None → length cs ≤ first_of c cs
  place-none e =
      let p : length cs ≡ first_of c cs = rw e at place in
      omega (arith, p)

-- ---- what the call returns, i being the first place of the code
abbrev pub found_flat : FlatElement → FlatMapped
found_flat e = record { found = true; element = e }

module _ (cs xs : List ℕ) (c i : ℕ) (is : i ≡ first_of c cs) where
  pub found_flat_lem : (e : FlatElement) → i < length cs → i < length xs → e ≡ listed_element (get_or xs i 0)
      → found_flat e ≡ flat_mapped (map_of (listed_entries cs xs) (code_of c))
  found_flat_lem e h l p =
      let there = listed_found cs xs c (omega (arith, is)) (omega (arith, is)) in
      let same = flat_again (listed_element (get_or xs (first_of c cs) 0)) in
      sym (ap flat_mapped there ∙ ap found_flat (same ∙ ap (λ (k : ℕ). listed_element (get_or xs k 0)) (sym is) ∙ sym p))

  pub none_flat : length cs ≤ i → no_element ≡ flat_mapped (map_of (listed_entries cs xs) (code_of c))
  none_flat h = sym (ap flat_mapped (listed-none cs xs c (λ l m. absurd (omega (arith, is, h, l)))))

  pub past_flat : length xs ≤ i → no_element ≡ flat_mapped (map_of (listed_entries cs xs) (code_of c))
  past_flat h = sym (ap flat_mapped (listed-none cs xs c (λ l m. absurd (omega (arith, is, h, m)))))
