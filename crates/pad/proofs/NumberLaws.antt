-- Laws of held codes and entries as numbers, one after the other. Assumes nothing.
use Rattle.text.proofs.ListLaws.{place_turn}
use Rattle.std.proofs.Common.{ℕ, suc, ◌/◌, ◌<◌, ◌≤◌, ◌≡◌, Bool, true, false, cond, Option, Some, None, Bor, List, [], ◌∷◌, ◌++◌, map, length, get_or, eqb, ltb, refl, sym, ◌∙◌, arith, position, unwrap_or}
use borrow.Author.Tests.{ltb-true, ltb-false}
use lib.IntN.{ℤ}
use Rattle.std.specs.List.{position_or_len}
use Rattle.std.proofs.lemmas.List.Recursion.{is_position_or_len}
use Rattle.text.specs.Bytes.{pick}
use Rattle.line.specs.declared.ev.Code.{Code}
use Rattle.line.specs.declared.ev.AxisOrBtn.{AxisOrBtn}
use Rattle.line.specs.declared.mapping.Entry.{Entry}
use Rattle.line.specs.Maps.{entry_at}
use Rattle.line.specs.Numbers.{code_unit, entry_in, shaped_entry}
use Rattle.pad.specs.declared.events.Held.{Held}
use Rattle.pad.specs.Pads.{gives, Chosen, preferred, prefer, choose}
use Rattle.pad.specs.States.{held_in}
use Rattle.pad.specs.Inner.{place_in}
use Rattle.pad.proofs.BackLaws.{met, met-more}
use Rattle.pad.proofs.PlaceLaws.{place_within}

-- ---- the first place of a code
place_is : (c : ℕ) (ys : List ℕ) → place_in c ys ≡ position_or_len (λ y. eqb (y / code_unit) c) ys
unfolding place_in
place_is c ys =
    is_position_or_len (place_in c) (λ y. eqb (y / code_unit) c) refl
    (λ y xs. place_turn (eqb (y / code_unit) c) (place_in c xs)) ys

module _ (c : ℕ) (ys : List ℕ) where
  abbrev pub found_at : Option ℕ
  found_at = position (λ y. eqb (y / code_unit) c) ys

  told : found_at ≡ cond (ltb (place_in c ys) (length ys)) (Some (place_in c ys)) None
  told = rw (place_is c ys)

  pub place_some : (i : ℕ) → found_at ≡ Some i → (place_in c ys ≡ i) × (i < length ys)
  place_some i h = by (ltb (place_in c ys) (length ys)) refl (sym told ∙ h)
    where
      by : (t : Bool) → ltb (place_in c ys) (length ys) ≡ t
          → ◌≡◌ {A = Option ℕ} (cond t (Some (place_in c ys)) None) (Some i) → (place_in c ys ≡ i) × (i < length ys)
      by true p q =
          let e : place_in c ys ≡ i = cc in
          let l = ltb-true (place_in c ys) (length ys) p in
          (e, omega arith)
      by false p q = absurd cc

  pub place_none : found_at ≡ None → place_in c ys ≡ length ys
  place_none h = by (ltb (place_in c ys) (length ys)) refl (sym told ∙ h)
    where
      by : (t : Bool) → ltb (place_in c ys) (length ys) ≡ t
          → ◌≡◌ {A = Option ℕ} (cond t (Some (place_in c ys)) None) None → place_in c ys ≡ length ys
      by true p q = absurd cc
      by false p q = omega (arith, ltb-false (place_in c ys) (length ys) p, place_within c ys)

  pub place_or : (o : Option ℕ) → o ≡ found_at
      → (unwrap_or o (length ys) ≡ place_in c ys) × (unwrap_or o (length ys) ≤ length ys)
  place_or None h = (sym (place_none (sym h)), omega arith)
  place_or (Some i) h = let p = place_some i (sym h) in (sym p.0, omega (arith, p.1))

-- ---- the first entry of a code
code_in : (x : ℕ) → (entry_in x).code.0 ≡ x / code_unit
unfolding entry_in shaped_entry
code_in x = refl

pub entry_of_place : (c : Code) (ys : List ℕ) (d : ℕ) → place_in c.0 ys < length ys
    → entry_at (map entry_in ys) c ≡ Some (entry_in (get_or ys (place_in c.0 ys) d))
unfolding entry_at place_in
entry_of_place c [] d h = absurd (omega arith)
entry_of_place c (y ∷ ys) d h = by (eqb (y / code_unit) c.0) refl h (λ l. entry_of_place c ys d l)
  where
    by : (t : Bool) → eqb (y / code_unit) c.0 ≡ t → pick t 0 (suc (place_in c.0 ys)) < suc (length ys)
        → (place_in c.0 ys < length ys
        → entry_at (map entry_in ys) c ≡ Some (entry_in (get_or ys (place_in c.0 ys) d)))
        → pick (eqb (entry_in y).code.0 c.0) (Some (entry_in y)) (entry_at (map entry_in ys) c)
        ≡ Some (entry_in (get_or (y ∷ ys) (pick t 0 (suc (place_in c.0 ys))) d))
    by true e l ih = rw (code_in y, e)
    by false e l ih = rw (code_in y, e) (ih (omega arith))

pub entry_none : (c : Code) (ys : List ℕ) → place_in c.0 ys ≡ length ys → entry_at (map entry_in ys) c ≡ None
unfolding entry_at place_in
entry_none c [] h = refl
entry_none c (y ∷ ys) h = by (eqb (y / code_unit) c.0) refl h (λ l. entry_none c ys l)
  where
    by : (t : Bool) → eqb (y / code_unit) c.0 ≡ t → pick t 0 (suc (place_in c.0 ys)) ≡ suc (length ys)
        → (place_in c.0 ys ≡ length ys → entry_at (map entry_in ys) c ≡ None)
        → pick (eqb (entry_in y).code.0 c.0) (Some (entry_in y)) (entry_at (map entry_in ys) c) ≡ None
    by true e l ih = absurd (omega arith)
    by false e l ih = rw (code_in y, e) (ih (omega arith))

-- ---- one held code more, after those that are met
module _ (seen : List (Bor ℕ)) (x : Bor ℕ) (es : List Entry) (el : AxisOrBtn) (h : Held) (is : h ≡ held_in x.now)
    (r : Chosen) (rest : r ≡ choose (map held_in (met seen)) es el) where
  step : choose (map held_in (met (seen ++ x ∷ []))) es el ≡ prefer h.code.0 (gives es h el) r
  unfolding choose
  step = rw (met-more seen x, is, rest)

  pub one_more : (v : ℤ) → gives es h el ≡ Some v
      → preferred h.code.0 v r ≡ choose (map held_in (met (seen ++ x ∷ []))) es el
  one_more v e = sym (step ∙ rw e)

  pub none_more : gives es h el ≡ None → r ≡ choose (map held_in (met (seen ++ x ∷ []))) es el
  none_more e = sym (step ∙ rw e)
