-- A line is UTF-8 exactly where each of its fields is. Assumes nothing.
use Prim.Native.Nat.{ℕ, zero, suc, ◌+◌, ◌≤◌, ◌<◌}
use mathlib.Core.Path.{◌≡◌, refl, sym, ap, subst}
use mathlib.Core.Logic.{⊎_elim}
use mathlib.Core.Bool.{Bool, true, false}
use mathlib.Core.List.{List, [], ◌∷◌, ◌++◌}
use native.Mathlib.Omega.{arith}
use borrow.Author.Tests.{eqb-true}
use lib.Dec.{eqb}
use lib.ListN.{length, drop, length-drop, drop_of_length-le}
use lib.Seq.{take_all}
use Rattle.text.specs.Bytes.{first_of}
use Rattle.text.proofs.ListLaws.{lt_or_le}
use Rattle.text.proofs.AsciiLaws.{Valid, valid_le, none_valid, valid_join, valid_split}
use Rattle.line.specs.Fields.{fields_of, first_field}
use Rattle.line.proofs.FieldLaws.{fields_cons}

-- ---- the first field and what follows its comma
abbrev later : List ℕ → List ℕ
later t = drop (first_of 44 t + 1) t

comma_cut : (t : List ℕ) → first_of 44 t < length t → first_field t ++ 44 ∷ later t ≡ t
unfolding first_of
comma_cut [] h = absurd (omega arith)
comma_cut (b ∷ s) h = by (eqb b 44) refl (comma_cut s)
  where
    by : (t : Bool) → eqb b 44 ≡ t → (first_of 44 s < length s → first_field s ++ 44 ∷ later s ≡ s)
        → first_field (b ∷ s) ++ 44 ∷ later (b ∷ s) ≡ b ∷ s
    by true e ih = let c = eqb-true b 44 e in rw e (ap (λ (x : ℕ). x ∷ s) (sym c))
    by false e ih =
        let k : suc (first_of 44 s) + 1 ≡ suc (first_of 44 s + 1) = omega arith in
        let l : first_of 44 s < length s = omega (arith, rw e at h) in
        rw (e, k) (ap (λ (x : List ℕ). b ∷ x) (ih l))

-- a text without a comma is its first field
no_comma_lem : (t : List ℕ) → length t ≤ first_of 44 t → (first_field t ≡ t) × (later t ≡ [])
no_comma_lem t h =
    let k : length t ≤ first_of 44 t + 1 = omega arith in
    (take_all (first_of 44 t) t h, drop_of_length-le t k)

pub first_valid : (t : List ℕ) → Valid t → Valid (first_field t) × Valid (later t)
first_valid t v =
    ⊎_elim (λ h. valid_split 44 (omega arith) (first_field t) (later t) (rw (comma_cut t h) v))
    (λ h. let w = no_comma_lem t h in (rw w.0 v, rw w.1 none_valid))
    (lt_or_le (first_of 44 t) (length t))

pub valid_first : (t : List ℕ) → Valid (first_field t) → Valid (later t) → Valid t
valid_first t a b =
    ⊎_elim (λ h. rw (comma_cut t h) at (valid_join 44 (omega arith) (first_field t) (later t) a b))
    (λ h. rw (no_comma_lem t h).0 at a)
    (lt_or_le (first_of 44 t) (length t))

-- ---- all fields
unfoldable pub AllValid : List (List ℕ) → Type 0
AllValid [] = Unit {0}
AllValid (f ∷ fs) = Valid f × AllValid fs

later_shorter : (t : List ℕ) (n : ℕ) → length t ≤ suc n → length (later t) ≤ n
later_shorter t n h = let l = length-drop (first_of 44 t + 1) t in omega arith

-- of texts of at most n bytes
abbrev Splits : ℕ → Type 0
Splits n = (t : List ℕ) → length t ≤ n → Valid t → AllValid (fields_of t)

abbrev Joins : ℕ → Type 0
Joins n = (t : List ℕ) → length t ≤ n → AllValid (fields_of t) → Valid t

module _ (n : ℕ) where
  split_more : Splits n → Splits (suc n)
  unfolding AllValid fields_of
  split_more ih [] h v = tt
  split_more ih (b ∷ s) h v =
      let w = first_valid (b ∷ s) v in
      let cut = sym (fields_cons (b ∷ s) (omega arith)) in
      subst (λ (l : List (List ℕ)). AllValid l) cut
      (w.0, ih (later (b ∷ s)) (later_shorter (b ∷ s) n h) w.1)

  join_more : Joins n → Joins (suc n)
  unfolding AllValid
  join_more ih [] h v = none_valid
  join_more ih (b ∷ s) h v =
      let cut = fields_cons (b ∷ s) (omega arith) in
      let w : AllValid (first_field (b ∷ s) ∷ fields_of (later (b ∷ s))) =
      subst (λ (l : List (List ℕ)). AllValid l) cut v in
      valid_first (b ∷ s) w.0 (ih (later (b ∷ s)) (later_shorter (b ∷ s) n h) w.1)

none-split : Splits 0
unfolding AllValid fields_of
none-split [] h v = tt
none-split (b ∷ s) h v = absurd (omega arith)

none-joined : Joins 0
none-joined t h v = omega (arith, valid_le t)

split_by : (n : ℕ) → Splits n
split_by zero t h v = none-split t h v
split_by (suc n) t h v = split_more n (λ u. split_by n u) t h v

join_by : (n : ℕ) → Joins n
join_by zero t h v = none-joined t h v
join_by (suc n) t h v = join_more n (λ u. join_by n u) t h v

pub fields_valid : (t : List ℕ) → Valid t → AllValid (fields_of t)
fields_valid t = split_by (length t) t (omega arith)

pub valid_fields : (t : List ℕ) → AllValid (fields_of t) → Valid t
valid_fields t = join_by (length t) t (omega arith)
