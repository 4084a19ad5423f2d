-- What `map_rev` answers of a list of entries: the theorem `least_code` in ../proofs/LeastLaws.antt.
-- The theorem rests on these definitions; they assume nothing.
use Rattle.std.specs.Prelude.{◌≤◌, ◌≡◌, true, List, Option, Some, None}
use Rattle.line.specs.declared.ev.Code.{Code}
use Rattle.line.specs.declared.ev.AxisOrBtn.{AxisOrBtn}
use Rattle.line.specs.declared.mapping.Entry.{Entry}
use Rattle.line.specs.Elements.{same_element}
use Rattle.line.specs.Regrouping.{In}

-- e is an entry of that element among xs
abbrev pub Leads : List Entry → AxisOrBtn → Entry → Type 0
Leads xs el e = In e xs × (same_element e.element el ≡ true)

-- "the least code of that element": c is a code of that element, and at most each other one
pub record Least (xs : List Entry) (el : AxisOrBtn) (c : Code) : Type 0 where
  pub entry : Entry
  pub leads : Leads xs el entry
  pub code : entry.code ≡ c
  pub least : (e : Entry) → Leads xs el e → c.0 ≤ e.code.0

-- "`map_rev`: the least code of that element, or none": none exactly where no entry is of that element
abbrev pub LeastOrNone : List Entry → AxisOrBtn → Option Code → Type 0
LeastOrNone xs el (Some c) = Least xs el c
LeastOrNone xs el None = (e : Entry) → Leads xs el e → ⊥
