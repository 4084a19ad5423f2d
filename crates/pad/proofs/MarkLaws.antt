-- A code that is not marked gives nothing, one entry after the other. Assumes nothing.
use Rattle.std.specs.Prelude.{Option, Some, None, get_or}
use Rattle.std.specs.Borrow.{Bor}
use Prim.Native.Nat.{ℕ, ◌/◌, ◌%◌, ◌<◌}
use mathlib.Core.Path.{◌≡◌, refl, sym, ap, ◌∙◌}
use mathlib.Core.Bool.{Bool, true, false}
use mathlib.Core.List.{List, [], ◌∷◌, ◌++◌, map}
use borrow.Author.Tests.{eqb-true, eqb-false}
use lib.Dec.{eqb}
use lib.ListN.{length, set}
use Rattle.std.proofs.lemmas.List.{get_or-set_same, get_or-set_other}
use Rattle.text.specs.Bytes.{pick}
use Rattle.line.specs.declared.ev.AxisOrBtn.{AxisOrBtn}
use Rattle.line.specs.declared.mapping.Entry.{Entry}
use Rattle.line.specs.Elements.{same_element}
use Rattle.line.specs.Maps.{entry_at}
use Rattle.line.specs.Numbers.{code_unit, shaped_entry, entry_in}
use Rattle.pad.specs.declared.events.Raw.{Raw}
use Rattle.pad.specs.declared.events.Held.{Held}
use Rattle.pad.specs.Pads.{given_by, gives}
use Rattle.pad.specs.States.{held_in}
use Rattle.pad.specs.Inner.{Marked}
use Rattle.pad.proofs.BackLaws.{met, met-more}

pub none_marked : (el : AxisOrBtn) (marks : List Bool) → Marked el [] marks
unfolding entry_at
none_marked el marks h q = refl

-- the first entry gives nothing, nor do the others
neither : (el : AxisOrBtn) (e : Entry) (r : Option Entry) (raw : Raw) (t : Bool)
    → (t ≡ true → given_by (Some e) raw el ≡ None) → given_by r raw el ≡ None → given_by (pick t (Some e) r) raw el ≡ None
neither el e r raw true f g = f refl
neither el e r raw false f g = g

module _ (el : AxisOrBtn) (seen : List (Bor ℕ)) (x : Bor ℕ) (marks : List Bool) (e : Entry) (is : e ≡ entry_in x.now)
    (m : Marked el (met seen) marks) where
  next : (h : Held) → (eqb e.code.0 h.code.0 ≡ true → given_by (Some e) h.raw el ≡ None)
      → get_or marks (h.code.0 % 256) false ≡ false → gives (map entry_in (met (seen ++ x ∷ []))) h el ≡ None
  unfolding entry_at
  next h f q =
      rw (met-more seen x, sym is)
      (neither el e (entry_at (map entry_in (met seen)) h.code) h.raw (eqb e.code.0 h.code.0) f (m h q))

  -- an entry of another element
  pub marked_passed : same_element e.element el ≡ false → Marked el (met (seen ++ x ∷ [])) marks
  marked_passed s h q = next h (λ t. rw s) q

  -- an entry of the element: its code is marked
  pub marked_taken : (j : ℕ) → j ≡ e.code.0 % 256 → j < length marks
      → Marked el (met (seen ++ x ∷ [])) (set marks j true)
  marked_taken j at b h q = next h this (by (eqb (h.code.0 % 256) j) refl)
    where
      clash : {A : Type 0} → h.code.0 % 256 ≡ j → A
      clash w =
          let z : true ≡ false =
          sym (ap (λ (n : ℕ). get_or (set marks j true) n false) w ∙ get_or-set_same marks j true false b) ∙ q in
          absurd cc

      this : eqb e.code.0 h.code.0 ≡ true → given_by (Some e) h.raw el ≡ None
      this t = clash (ap (λ (n : ℕ). n % 256) (sym (eqb-true e.code.0 h.code.0 t)) ∙ sym at)

      by : (t : Bool) → eqb (h.code.0 % 256) j ≡ t → get_or marks (h.code.0 % 256) false ≡ false
      by true t = clash (eqb-true (h.code.0 % 256) j t)
      by false t =
          sym (get_or-set_other marks j (h.code.0 % 256) true false (eqb-false (h.code.0 % 256) j t)) ∙ q

-- the code of a number
pub code_marked : (x : ℕ) (e : Entry) → e ≡ entry_in x → x / code_unit % 256 ≡ e.code.0 % 256
unfolding entry_in shaped_entry
code_marked x e is = ap (λ (y : Entry). y.code.0 % 256) (sym is)

pub held_passed : (el : AxisOrBtn) (ys : List ℕ) (marks : List Bool) → Marked el ys marks → (x : ℕ)
    → get_or marks (x / code_unit % 256) false ≡ false → gives (map entry_in ys) (held_in x) el ≡ None
unfolding held_in
held_passed el ys marks m x q = m (held_in x) q
