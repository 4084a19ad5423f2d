-- A fact of a choice is that fact of both sides. Assumes nothing.
use mathlib.Core.Bool.{Bool, true, false}
use Rattle.text.specs.Bytes.{pick}

pub picked : {A : Type 0} (P : A → Type 0) (b : Bool) {x y : A} → P x → P y → P (pick b x y)
picked P true p q = p
picked P false p q = q

pub picked₂ : {A : Type 0} (R : A → A → Type 0) (b : Bool) {x y x' y' : A} → R x x' → R y y'
    → R (pick b x y) (pick b x' y')
picked₂ R true p q = p
picked₂ R false p q = q
