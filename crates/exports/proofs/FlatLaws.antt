-- Laws of a table that is laid out entry by entry. Assumes nothing.
use Prim.Native.Nat.{ℕ, zero, suc, ◌+◌, ◌-◌, ◌<◌, ◌≤◌}
use mathlib.Core.Path.{◌≡◌, refl, sym, ap, subst, ◌∙◌}
use mathlib.Core.List.{List, [], ◌∷◌, ◌++◌, map}
use native.Mathlib.Omega.{arith}
use native.Mathlib.Numerals.{add-one}
use lib.ListN.{length, get_or, set, take, drop, replicate, take-append-drop}
use lib.Seq.{drop-append_seam}
use Rattle.std.specs.Fn.{Called, Mut}
use Rattle.std.specs.Array.{IsFromFnResult, IsFromFnResultFrom}
use Rattle.std.proofs.lemmas.List.{same_lists, length-map, get_or-map, map-append, drop-replicate}
use mathlib.Core.Bool.{Bool, true, false}
use lib.Dec.{eqb}
use borrow.Author.Tests.{eqb-true, eqb-false}
use Rattle.line.specs.declared.mapping.Entry.{Entry}
use Rattle.line.specs.declared.mapping.Mapping.{Mapping}
use Rattle.line.specs.Maps.{codes_max, unused_entry, to_map}
use Rattle.line.specs.Shapes.{Shaped}
use Rattle.line.proofs.MapLaws.{past}
use Rattle.pad.specs.declared.events.Event.{Event}
use lib.IntN.{pos}
use Rattle.exports.specs.FlatMaps.{flat_entry, Unused}
use Rattle.exports.specs.declared.flat_mapping.FlatEntry.{FlatEntry}
use Rattle.exports.specs.declared.flat_mapping.FlatMapping.{FlatMapping}
use Rattle.exports.specs.declared.flat_data.FlatSlot.{FlatSlot}

-- an entry that is not used
abbrev pub flat_unused : FlatEntry
flat_unused =
    record { code = 0; element = record { is_axis = false; number = 0 }; input = 2; output = 2; inverted = false }

module _ {A B : Type 0} (f : A → B) where
  laid_suc : (d : A) (xs : List A) (ys : List B) (i : ℕ) → i < length xs → i < length ys
      → set (map f (take i xs) ++ drop i ys) i
      (f (get_or xs i d)) ≡ map f (take (suc i) xs) ++ drop (suc i) ys
  laid_suc d [] ys i h k = absurd (omega arith)
  laid_suc d (x ∷ xs) [] i h k = absurd (omega arith)
  laid_suc d (x ∷ xs) (y ∷ ys) zero h k = refl
  laid_suc d (x ∷ xs) (y ∷ ys) (suc i) h k =
      ap (λ (r : List B). f x ∷ r) (laid_suc d xs ys i (omega arith) (omega arith))

  -- the entry at i is laid out after those before it
  pub laid_more : (d : A) (xs : List A) (ys : List B) (i : ℕ) → i < length xs → i < length ys
      → set (map f (take i xs) ++ drop i ys) i
      (f (get_or xs i d)) ≡ map f (take (i + 1) xs) ++ drop (i + 1) ys
  laid_more d xs ys i h k = rw add-one (laid_suc d xs ys i h k)

module _ {A B : Type 0} (f : A → B) where
  from_place : {F : Type 0} (g : Mut F (ℕ × Unit {0}) B) (at : F) (xs : List A) (ys : List B) (n : ℕ) (d : A)
      → ((i : ℕ) (y : B) (q : F) → i < n → Called g at (i, tt) y q → (q ≡ at) × (y ≡ f (get_or xs i d)))
      → (k i : ℕ) → i + k ≡ n → (p : F) → p ≡ at → IsFromFnResultFrom g p ys i k
      → (j : ℕ) (e : B) → i ≤ j → j < n → get_or ys j e ≡ f (get_or xs j d)
  from_place g at xs ys n d each zero i s p same t j e low high = absurd (omega (arith, s, low, high))
  from_place g at xs ys n d each (suc k) i s p same t j e low high =
      let w = each i t.1 t.0 (omega (arith, s)) (rw same at t.3) in
      let here : get_or ys i e ≡ f (get_or xs i d) = t.2.1 e ∙ w.1 in
      go (eqb j i) refl here
      (λ more. from_place g at xs ys n d each k (i + 1) (omega (arith, s)) t.0 w.0 t.4 j e more high)
    where
      go : (b : Bool) → eqb j i ≡ b → get_or ys i e ≡ f (get_or xs i d)
          → (i + 1 ≤ j → get_or ys j e ≡ f (get_or xs j d)) → get_or ys j e ≡ f (get_or xs j d)
      go true q here more = rw (eqb-true j i q) here
      go false q here more = more (omega (arith, low, eqb-false j i q))

  -- an array whose element at each place lays out the element of xs there, as `from_fn` makes it
  pub laid : {F : Type 0} (g : Mut F (ℕ × Unit {0}) B) (at : F) (xs : List A) (ys : List B) (n : ℕ) (d : A)
      → IsFromFnResult g at ys n → length xs ≡ n
      → ((i : ℕ) (y : B) (q : F) → i < n → Called g at (i, tt) y q → (q ≡ at) × (y ≡ f (get_or xs i d)))
      → ys ≡ map f xs
  laid g at xs ys n d m h each =
      same_lists ys (map f xs) (m.long ∙ sym h ∙ sym (length-map xs f))
      (λ k e l.
      from_place g at xs ys n d each n 0 (omega arith) at refl m.each k e (omega arith) (omega (arith, m.long, l))
      ∙ sym (get_or-map f xs k d e (omega (arith, m.long, h, l))))

-- what a read past an array's end is taken to give, in a need
abbrev pub flat_past : FlatEntry
flat_past =
    record { code = 0; element = record { is_axis = false; number = 0 }; input = 0; output = 0; inverted = false }

abbrev pub no_event : Event
no_event = record { element = past.element; value = pos 0 }

abbrev pub flat_empty : FlatSlot
flat_empty = record { filled = false; code = 0 }

-- ---- those that are used are laid out
map-replicate : (n : ℕ) → map flat_entry (replicate n unused_entry) ≡ replicate n flat_unused
map-replicate zero = refl
map-replicate (suc n) = ap (λ (r : List FlatEntry). flat_unused ∷ r) (map-replicate n)

pub laid_first : (n : ℕ) (xs : List Entry) → Unused n xs
    → map flat_entry (take n xs) ++ drop n (replicate codes_max flat_unused) ≡ map flat_entry xs
laid_first n xs h =
    let e : map flat_entry (drop n xs) ≡ drop n (replicate codes_max flat_unused) =
    ap (λ (r : List Entry). map flat_entry r) h.1 ∙ map-replicate (codes_max - n)
    ∙ sym (drop-replicate n codes_max flat_unused) in
    ap (λ (r : List FlatEntry). map flat_entry (take n xs) ++ r) (sym e) ∙ sym (map-append flat_entry (take n xs) (drop n xs))
    ∙ ap (λ (r : List Entry). map flat_entry r) (take-append-drop n xs)

-- a map with its entries as they are laid out
abbrev pub laid_out : Mapping → List FlatEntry → FlatMapping
laid_out m es = record {
  count = m.count;
  entries = es;
  name_start = m.name_start;
  name_len = m.name_len;
  is_default = m.is_default;
  hats_mapped = m.hats_mapped;
}

-- ---- a map of document 01's shape has nothing after its entries
pub shaped_unused : (m : Mapping) → Shaped m → Unused m.count m.entries
unfolding to_map
shaped_unused m s =
    subst (λ (x : Mapping). Unused x.count x.entries) (sym s.is)
    (s.few, drop-append_seam s.view.list (replicate (codes_max - length s.view.list) unused_entry))
