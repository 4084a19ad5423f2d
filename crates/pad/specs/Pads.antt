-- A pad while a game runs: the values of its elements, and its events (document 02, P13).
-- Public contracts rest on these definitions; they assume nothing.
use Rattle.std.specs.Prelude.{ℕ, zero, suc, ◌+◌, ◌-◌, Bool, false, ◌&&◌, List, [], ◌∷◌, eqb, ltb, leb, set, ℤ, pos, negsuc, nat_abs, Option, Some, None}
use Rattle.text.specs.Bytes.{pick}
use Rattle.line.specs.declared.ev.AxisOrBtn.{AxisOrBtn}
use Rattle.line.specs.declared.ev.AxisOrBtn.TheVariants as El
use Rattle.line.specs.declared.mapping.Entry.{Entry}
use Rattle.line.specs.Elements.{button_last, axis_last, same_element}
use Rattle.line.specs.Maps.{entry_at}
use Rattle.pad.specs.declared.events.Raw.{Raw}
use Rattle.pad.specs.declared.events.Held.{Held}
use Rattle.pad.specs.declared.events.Event.{Event}
use Rattle.pad.specs.Values.{entry_value}

-- ---- "A pad state holds up to 256 codes with their last raw value, released buttons and axes at 0 included."
abbrev pub held_max : ℕ
held_max = 256

-- a code with its last raw value among those that are held: in the place of the one with that code, else after all of
-- them. Nothing is ever dropped.
unfoldable pub put_held : Held → List Held → List Held
put_held h [] = h ∷ []
put_held h (x ∷ xs) = pick (eqb x.code.0 h.code.0) (h ∷ xs) (x ∷ put_held h xs)

-- ---- "An element's value is, of the values its codes give by P3, the farthest from zero, between equals that of the
-- smallest code, and 0 if none."
-- what a raw value gives to an element by an entry: "its codes" are those whose first entry is of that element
abbrev pub given_by : Option Entry → Raw → AxisOrBtn → Option ℤ
given_by (Some e) raw el = pick (same_element e.element el) (entry_value e raw) None
given_by None raw el = None

-- what a held code gives to an element: "A raw value that P3 gives no value, and a code outside the map, are held too
-- and give their element nothing"
abbrev pub gives : List Entry → Held → AxisOrBtn → Option ℤ
gives es h el = given_by (entry_at es h.code) h.raw el

-- a code and the value that it gives, or none
pub data Chosen : Type 0 where
  none : Chosen
  chosen : ℕ → ℤ → Chosen

-- "the farthest from zero, between equals that of the smallest code": equals are equal distances
abbrev pub preferred : ℕ → ℤ → Chosen → Chosen
preferred c v none = chosen c v
preferred c v (chosen d w) =
    pick (ltb (nat_abs w) (nat_abs v)) (chosen c v)
    (pick (ltb (nat_abs v) (nat_abs w)) (chosen d w) (pick (ltb c d) (chosen c v) (chosen d w)))

-- a value, if there is one, and what was chosen of the other codes
abbrev pub prefer : ℕ → Option ℤ → Chosen → Chosen
prefer c (Some v) rest = preferred c v rest
prefer c None rest = rest

-- of all that are held
unfoldable pub choose : List Held → List Entry → AxisOrBtn → Chosen
choose [] es el = none
choose (h ∷ hs) es el = prefer h.code.0 (gives es h el) (choose hs es el)

-- "and 0 if none"
abbrev pub value_in : Chosen → ℤ
value_in none = pos 0
value_in (chosen c v) = v

-- the value of an element
abbrev pub value_of : List Held → List Entry → AxisOrBtn → ℤ
value_of hs es el = value_in (choose hs es el)

-- ---- "Elements other than buttons 1 to 19 and axes 1 to 8 are left out."
-- Places 0 to 26 are those of the others: "buttons then axes, ascending"
abbrev pub element_count : ℕ
element_count = button_last + axis_last

-- the element at a place
abbrev pub element_at : ℕ → AxisOrBtn
element_at k = pick (ltb k button_last) (El.Btn (record { 0 = k + 1 })) (El.Axis (record { 0 = k - button_last + 1 }))

-- a number of 1 up to the last
abbrev pub counts : ℕ → ℕ → Bool
counts last n = leb 1 n && leb n last

-- the place of such a number, the first places passed over; element_count for one that is left out
abbrev pub place_from : ℕ → ℕ → ℕ → ℕ
place_from first last n = pick (counts last n) (first + (n - 1)) element_count

-- the place of an element; element_count for one that is left out
abbrev pub place_of : AxisOrBtn → ℕ
place_of (El.Btn b) = place_from 0 button_last b.0
place_of (El.Axis a) = place_from button_last axis_last a.0

-- f of n places from k on
unfoldable pub tabulate : (ℕ → ℤ) → ℕ → ℕ → List ℤ
tabulate f zero k = []
tabulate f (suc n) k = f k ∷ tabulate f n (suc k)

-- "the values worked out afresh from the held raw values" by the entries of a map: those of the 27 elements
abbrev pub values_of : List Held → List Entry → List ℤ
values_of hs es = tabulate (λ k. value_of hs es (element_at k)) element_count 0

-- ---- "A raw event or a change of map yields one event per element whose value changed, buttons then axes, ascending."
abbrev pub sameℤ : ℤ → ℤ → Bool
sameℤ (pos a) (pos b) = eqb a b
sameℤ (pos a) (negsuc b) = false
sameℤ (negsuc a) (pos b) = false
sameℤ (negsuc a) (negsuc b) = eqb a b

-- from values to values, those from place k on
unfoldable pub changes : ℕ → List ℤ → List ℤ → List Event
changes k [] ys = []
changes k (x ∷ xs) [] = []
changes k (x ∷ xs) (y ∷ ys) =
    pick (sameℤ x y) (changes (suc k) xs ys) (record { element = element_at k; value = y } ∷ changes (suc k) xs ys)

-- "an outside reader of the events": the values that it holds, after some events more
unfoldable pub hears : List ℤ → List Event → List ℤ
hears vs [] = vs
hears vs (e ∷ es) = hears (set vs (place_of e.element) e.value) es
