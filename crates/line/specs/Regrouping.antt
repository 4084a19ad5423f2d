-- `regrouped`: pairs in another order give the same map (document 02, P8).
-- The theorem `regrouped` rests on these definitions; they assume nothing. It stands in proofs/RegroupLaws.antt.
use Rattle.std.specs.Prelude.{ℕ, ◌≡◌, List, [], ◌∷◌, Ok}
use Rattle.line.specs.declared.mapping.Entry.{Entry}
use Rattle.line.specs.Fields.{first_field, later_fields}
use Rattle.line.specs.Effects.{entries_of}
use Rattle.line.specs.Reading.{reading_of}

-- "the same pairs in two orders": two lists that have the same members, each as often in one as in the other. Both are
-- empty; or they begin alike, the rest being in two orders; or the first two have changed places; or one order was
-- made of the other in two goes
pub data Permuted {A : Type 0} : List A → List A → Type 0 where
  none : Permuted [] []
  keep : {x : A} {xs ys : List A} → Permuted xs ys → Permuted (x ∷ xs) (x ∷ ys)
  swap : {x y : A} {zs : List A} → Permuted (x ∷ y ∷ zs) (y ∷ x ∷ zs)
  then : {xs ys zs : List A} → Permuted xs ys → Permuted ys zs → Permuted xs zs

-- x stands in a list: it is the first, or stands in the rest
pub data In {A : Type 0} (x : A) : List A → Type 0 where
  here : {xs : List A} → In x (x ∷ xs)
  there : {y : A} {xs : List A} → In x xs → In x (y ∷ xs)

-- "no code is put with two unlike entries": of all that is put, any two of one code are the same entry
abbrev pub Alike : List Entry → Type 0
Alike es = (e f : Entry) → In e es → In f es → e.code.0 ≡ f.code.0 → e ≡ f

-- "two lines that both have a name field, .. with equal first field and name, and the same pairs in two orders": the
-- first fields are the same bytes; after them both lines have the same name, then one the pairs, the other the others
pub record Regrouped (s t : List ℕ) : Type 0 where
  pub name : List ℕ
  pub pairs : List (List ℕ)
  pub others : List (List ℕ)
  pub first : first_field s ≡ first_field t
  pub in_s : later_fields s ≡ name ∷ pairs
  pub in_t : later_fields t ≡ name ∷ others
  pub order : Permuted pairs others

-- "for every two lines .., read with the same two lists, ..: if one is accepted and no code is put with two unlike
-- entries, the other is accepted and gives the same map": the whole answer is the same, with entries, name and flags
abbrev pub ReadsAlike : Type 0
ReadsAlike =
    (s t : List ℕ) (buttons axes : List ℕ) (r : Regrouped s t) → Alike (entries_of r.pairs buttons axes)
    → (reading_of s buttons axes).answer ≡ Ok tt → reading_of t buttons axes ≡ reading_of s buttons axes
