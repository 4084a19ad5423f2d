-- An entry as one number, and back (document 02, P2): its code, its shape and the number of its element.
-- Public contracts rest on these definitions; they assume nothing.
use Rattle.std.specs.Prelude.{ℕ, ◌+◌, ◌*◌, ◌/◌, ◌%◌, false, List, [], map, eqb, take}
use Rattle.text.specs.Bytes.{pick}
use Rattle.line.specs.declared.ev.AxisOrBtn.{AxisOrBtn}
use Rattle.line.specs.declared.ev.AxisOrBtn.TheVariants as El
use Rattle.line.specs.declared.parser.AxisRange.{AxisRange}
use Rattle.line.specs.declared.parser.AxisRange.TheVariants as Ar
use Rattle.line.specs.declared.parser.Ranges.{Ranges}
use Rattle.line.specs.declared.mapping.Entry.{Entry}
use Rattle.line.specs.Elements.{code_of}
use Rattle.line.specs.Maps.{codes_max, MapView, ranged_entry, puts_into}

-- what a code counts in the number of an entry, and what its shape does
abbrev pub code_unit : ℕ
code_unit = 4294967296

abbrev pub shape_unit : ℕ
shape_unit = 65536

-- ---- a number of an entry; 0 is the unused entry
-- a half: full 0, upper 1, lower 2
abbrev pub half_number : AxisRange → ℕ
half_number Ar.Full = 0
half_number Ar.UpperHalf = 1
half_number Ar.LowerHalf = 2

-- ranges: the input, four times the output, and 16 where inverted
abbrev pub halves_number : Ranges → ℕ
halves_number r = half_number r.input + half_number r.output * 4

unfoldable pub ranges_number : Ranges → ℕ
ranges_number r = pick r.inverted (halves_number r + 16) (halves_number r)

-- the shape: twice the ranges, and 1 for an axis
abbrev pub packed_number : ℕ → AxisOrBtn → ℕ → ℕ
packed_number c (El.Btn b) k = c * code_unit + k * 2 * shape_unit + b.0
packed_number c (El.Axis a) k = c * code_unit + (k * 2 + 1) * shape_unit + a.0

unfoldable pub entry_number : Entry → ℕ
entry_number e = packed_number e.code.0 e.element (ranges_number e.ranges)

-- ---- the entry of a number, whatever the number
abbrev pub half_in : ℕ → AxisRange
half_in k = pick (eqb k 0) Ar.Full (pick (eqb k 1) Ar.UpperHalf Ar.LowerHalf)

abbrev pub ranges_in : ℕ → Ranges
ranges_in k = record { input = half_in (k % 4); output = half_in (k / 4 % 4); inverted = eqb (k / 16 % 2) 1 }

abbrev pub element_of_kind : ℕ → ℕ → AxisOrBtn
element_of_kind kind n = pick (eqb kind 0) (El.Btn (record { 0 = n })) (El.Axis (record { 0 = n }))

unfoldable pub shaped_entry : ℕ → ℕ → ℕ → Entry
shaped_entry c shape n = ranged_entry (code_of c) (element_of_kind (shape % 2) n) (ranges_in (shape / 2))

unfoldable pub entry_in : ℕ → Entry
entry_in x = shaped_entry (x / code_unit) (x / shape_unit % shape_unit) (x % shape_unit)

-- ---- the map of numbers: the entries of the first 256, put one after the other, and the place of its name
unfoldable pub puts_view : List ℕ → ℕ → ℕ → MapView
puts_view xs start len =
    record {
      list = puts_into (take codes_max (map entry_in xs)) [];
      name_start_of = start;
      name_len_of = len;
      is_default = false;
      hat_flags = 0;
    }
