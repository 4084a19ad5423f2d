-- A map that the caller keeps as two lists of numbers.
-- The contracts of the exports rest on these definitions; they assume nothing.
use Rattle.std.specs.Prelude.{ℕ, ◌%◌, true, false, List, [], ◌∷◌, ltb}
use Rattle.text.specs.Bytes.{pick}
use Rattle.line.specs.declared.mapping.Entry.{Entry}
use Rattle.line.specs.Elements.{code_of}
use Rattle.line.specs.Maps.{entry_of}
use Rattle.exports.specs.declared.flat.FlatElement.{FlatElement}
use Rattle.exports.specs.Flat.{element_of}

-- an element as one number: a button's, or that of an axis counted from here
abbrev pub axes_from : ℕ
axes_from = 65536

unfoldable pub listed_element : ℕ → FlatElement
listed_element x =
    pick (ltb x axes_from) (record { is_axis = false; number = x })
    (record { is_axis = true; number = x % axes_from })

-- the entries that two lists make, as many as the shorter one has
unfoldable pub listed_entries : List ℕ → List ℕ → List Entry
listed_entries [] elements = []
listed_entries (c ∷ codes) [] = []
listed_entries (c ∷ codes) (x ∷ elements) =
    entry_of (code_of c) (element_of (listed_element x)) ∷ listed_entries codes elements
