-- The key names of mapping lines and the elements that they name (document 01, 'Walker' and 'Build').
-- Public contracts rest on these definitions; they assume nothing.
use Rattle.std.specs.Prelude.{ℕ, zero, suc, ◌+◌, Bool, true, false, ◌&&◌, List, [], ◌∷◌, map, ltb, eqb, get_or, Option, Some, None}
use Rattle.text.specs.Bytes.{pick, ascii, same}
use Rattle.line.specs.declared.ev.AxisOrBtn.{AxisOrBtn}
use Rattle.line.specs.declared.ev.AxisOrBtn.TheVariants.{Axis, Btn}
use Rattle.std.specs.declared.cmp.Ordering.{Ordering}
use Rattle.std.specs.declared.cmp.Ordering.TheVariants.{Less, Equal, Greater}
use Rattle.line.specs.Buttons as B
use Rattle.line.specs.Axes as A
use Rattle.line.specs.Elements.{same_element}

-- "`AXES_SDL` and `AXES`, 35 rows each in byte order of the names"
abbrev pub row_count : ℕ
row_count = 35

-- the longest name, and the bytes of a row
abbrev pub ident_max : ℕ
ident_max = 13

-- `axes_sdl`, row by row
unfoldable pub axes_sdl : List (List ℕ)
axes_sdl =
    map ascii
    (
    "a" ∷ "b" ∷ "back" ∷ "c" ∷ "dpdown" ∷ "dpleft" ∷ "dpright" ∷
    "dpup" ∷ "guide" ∷ "leftshoulder" ∷ "leftstick" ∷ "lefttrigger" ∷ "leftx" ∷ "lefty" ∷
    "leftz" ∷ "misc1" ∷ "misc2" ∷ "misc3" ∷ "misc4" ∷ "misc5" ∷ "paddle1" ∷
    "paddle2" ∷ "paddle3" ∷ "paddle4" ∷ "rightshoulder" ∷ "rightstick" ∷ "righttrigger" ∷ "rightx" ∷
    "righty" ∷ "rightz" ∷ "start" ∷ "touchpad" ∷ "x" ∷ "y" ∷ "z" ∷ [])

-- `axes_table`, row by row
unfoldable pub axes_table : List AxisOrBtn
axes_table =
    Btn B.South ∷ Btn B.East ∷ Btn B.Select ∷ Btn B.C ∷ Btn B.DPadDown ∷
    Btn B.DPadLeft ∷ Btn B.DPadRight ∷ Btn B.DPadUp ∷ Btn B.Mode ∷ Btn B.LeftTrigger ∷
    Btn B.LeftThumb ∷ Btn B.LeftTrigger2 ∷ Axis A.LeftStickX ∷ Axis A.LeftStickY ∷ Axis A.LeftZ ∷
    Btn B.Unknown ∷ Btn B.Unknown ∷ Btn B.Unknown ∷ Btn B.Unknown ∷ Btn B.Unknown ∷
    Btn B.Unknown ∷ Btn B.Unknown ∷ Btn B.Unknown ∷ Btn B.Unknown ∷ Btn B.RightTrigger ∷
    Btn B.RightThumb ∷ Btn B.RightTrigger2 ∷ Axis A.RightStickX ∷ Axis A.RightStickY ∷ Axis A.RightZ ∷
    Btn B.Start ∷ Btn B.Unknown ∷ Btn B.West ∷ Btn B.North ∷ Btn B.Z ∷ []

-- the name in a row
abbrev pub name_at : ℕ → List ℕ
name_at i = get_or axes_sdl i []

-- ---- "the key is sought in `AXES_SDL` and `AXES`"
-- the first of the names, counted from i, that is the key
unfoldable pub row_from : ℕ → List (List ℕ) → List ℕ → Option ℕ
row_from i [] key = None
row_from i (n ∷ ns) key = pick (same n key) (Some i) (row_from (suc i) ns key)

unfoldable pub key_row : List ℕ → Option ℕ
key_row key = row_from 0 axes_sdl key

-- the element that stands in a row
abbrev pub element_in : Option ℕ → Option AxisOrBtn
element_in (Some i) = Some (get_or axes_table i (Btn B.Unknown))
element_in None = None

abbrev pub key_element : List ℕ → Option AxisOrBtn
key_element key = element_in (key_row key)

-- ---- "its ident (the one name in `AXES_SDL` whose row in `AXES` is that element)"
-- the first of the elements, counted from i, that is e
unfoldable pub element_from : ℕ → List AxisOrBtn → AxisOrBtn → Option ℕ
element_from i [] e = None
element_from i (x ∷ xs) e = pick (same_element x e) (Some i) (element_from (suc i) xs e)

unfoldable pub element_row : AxisOrBtn → Option ℕ
element_row e = element_from 0 axes_table e

abbrev pub name_in_line : Option ℕ → List ℕ
name_in_line (Some i) = name_at i
name_in_line None = []

abbrev pub ident_text : AxisOrBtn → List ℕ
ident_text e = name_in_line (element_row e)

-- "the one name": how many rows an element has, and whether each of n elements from the k-th on has one
unfoldable pub how_many : AxisOrBtn → List AxisOrBtn → ℕ
how_many e [] = 0
how_many e (x ∷ xs) = pick (same_element x e) 1 0 + how_many e xs

unfoldable pub one_row : (ℕ → AxisOrBtn) → ℕ → ℕ → Bool
one_row f k zero = true
one_row f k (suc n) = eqb (how_many (f k) axes_table) 1 && one_row f (suc k) n

abbrev pub as_button : ℕ → AxisOrBtn
as_button k = Btn (record { 0 = k })

abbrev pub as_axis : ℕ → AxisOrBtn
as_axis k = Axis (record { 0 = k })

-- ---- "in byte order of the names"
-- by the first byte that differs, and a text comes after its beginnings
unfoldable pub byte_order : List ℕ → List ℕ → Ordering
byte_order [] [] = Equal
byte_order [] (y ∷ ys) = Less
byte_order (x ∷ xs) [] = Greater
byte_order (x ∷ xs) (y ∷ ys) = pick (ltb x y) Less (pick (ltb y x) Greater (byte_order xs ys))

-- how two places compare
abbrev pub place_order : ℕ → ℕ → Ordering
place_order i j = pick (ltb i j) Less (pick (ltb j i) Greater Equal)

abbrev pub same_order : Ordering → Ordering → Bool
same_order Less Less = true
same_order Less Equal = false
same_order Less Greater = false
same_order Equal Less = false
same_order Equal Equal = true
same_order Equal Greater = false
same_order Greater Less = false
same_order Greater Equal = false
same_order Greater Greater = true

-- a test holds at each entry of a list and its place, counted from i
abbrev pub every : {A : Type 0} → (ℕ → A → Bool) → ℕ → List A → Bool
every f i [] = true
every f i (x ∷ xs) = f i x && every f (suc i) xs

-- any two names compare as their places do
abbrev pub sorted : List (List ℕ) → Bool
sorted names = every (λ i n. every (λ j m. same_order (byte_order n m) (place_order i j)) 0 names) 0 names
