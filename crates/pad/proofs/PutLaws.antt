-- A raw value that is put into a pad: what the parts of `put_code` tell together. Assumes nothing.
use Rattle.std.specs.Prelude.{Some, None, Ok, Err}
use Prim.Native.Nat.{ℕ, ◌/◌, ◌<◌, ◌≤◌}
use mathlib.Core.Path.{◌≡◌, refl, sym, ap, ◌∙◌}
use mathlib.Core.List.{List, map}
use native.Mathlib.Omega.{arith}
use lib.ListN.{length, take}
use lib.IntN.{ℤ}
use Rattle.line.specs.declared.ev.Code.{Code}
use Rattle.line.specs.declared.mapping.Entry.{Entry}
use Rattle.line.specs.Maps.{entry_at}
use Rattle.line.specs.Numbers.{code_unit, entry_in}
use Rattle.pad.specs.declared.events.Raw.{Raw}
use Rattle.pad.specs.declared.state.Pad.{Pad}
use Rattle.pad.specs.Refusals.{too_many}
use Rattle.pad.specs.States.{held_number, held_of, entries_of, pad_value}
use Rattle.pad.specs.Inner.{place_in, capped_of, Touched, holding, PutsCode}
use Rattle.pad.proofs.EventLaws.{none_told, some_told}
use Rattle.pad.proofs.StateLaws.{codes_many, codes_first, capped_most, map-take, not_full, turned_away, put_told, touched_next}

-- the held numbers are xs, and x goes to place i
module _ (p : Pad) (c : Code) (raw : Raw) (xs : List ℕ) (i x : ℕ) (lh : length p.held ≡ 256) (le : length p.entries ≡ 256)
    (held : xs ≡ take p.count p.held) (at : i ≡ place_in c.0 xs) (after : i ≤ length xs)
    (is : x ≡ held_number c raw) (code : x / code_unit ≡ c.0) where
  many : length xs ≡ capped_of p.count
  many = codes_many p lh xs held

  few : length xs ≤ 256
  few = omega (arith, many, capped_most p.count)

  first : i ≡ place_in c.0 (take (length xs) p.held)
  first = at ∙ ap (λ (l : List ℕ). place_in c.0 l) (sym (codes_first p lh xs held))

  pub put_away : i ≡ 256 → PutsCode p c raw (Err too_many) p
  put_away full = (sym (turned_away p c raw (length xs) i x lh le many few first is code full), refl)

  module _ (room : i ≡ 256 → ⊥) (ys : List ℕ) (rows : ys ≡ take p.entry_count p.entries) where
    within : i < 256
    within = not_full i (length xs) after few room

    touched : Touched (held_of p) (held_of (holding p (length xs) i x)) c
    touched = touched_next p c raw (length xs) i x lh le many few first is code within

    same_entries : entry_at (map entry_in ys) c ≡ entry_at (entries_of p) c
    same_entries =
        ap (λ (es : List Entry). entry_at es c)
        (ap (λ (zs : List ℕ). map entry_in zs) rows ∙ map-take entry_in p.entry_count p.entries)

    pub put_none : None ≡ entry_at (map entry_in ys) c → PutsCode p c raw (Ok None) (holding p (length xs) i x)
    put_none h = (
      put_told p c raw (length xs) i x lh le many few first is code within _
          (none_told p (holding p (length xs) i x) c touched refl (h ∙ same_entries)),
      tt,
    )

    pub put_some : (v : Entry) → Some v ≡ entry_at (map entry_in ys) c → (b l : ℤ) → b ≡ pad_value p v.element
        → l ≡ pad_value (holding p (length xs) i x) v.element
        → PutsCode p c raw (Ok (Some (record { element = v.element; before = b; later = l })))
        (holding p (length xs) i x)
    put_some v h b l eb el = (
      put_told p c raw (length xs) i x lh le many few first is code within _
          (some_told p (holding p (length xs) i x) c touched refl v (h ∙ same_entries) b l eb el),
      eb,
    )
