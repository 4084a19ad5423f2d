-- The map from codes to elements (document 01, 'Records' and 'Also').
-- Public contracts rest on these definitions; they assume nothing.
use Rattle.std.specs.Prelude.{ℕ, ◌-◌, ◌<◌, List, [], ◌∷◌, ◌++◌, Bool, false, length, take, drop, replicate, ltb, leb, eqb, Option, Some, None, Result, Ok, Err, ⊤}
use Rattle.text.specs.Bytes.{pick}
use Rattle.line.specs.declared.ev.Code.{Code}
use Rattle.line.specs.declared.ev.AxisOrBtn.{AxisOrBtn}
use Rattle.line.specs.declared.ev.AxisOrBtn.TheVariants.{Btn}
use Rattle.line.specs.declared.mapping.Entry.{Entry}
use Rattle.line.specs.declared.parser.Ranges.{Ranges}
use Rattle.line.specs.declared.parser.AxisRange.TheVariants as Ar
use Rattle.line.specs.declared.mapping.Mapping.{Mapping}
use Rattle.line.specs.declared.mapping.MapFull.{MapFull}
use Rattle.line.specs.Buttons as B
use Rattle.line.specs.Elements.{code_of, same_element}
use Rattle.line.specs.Refusals.{refusal, put_result_of}

-- ---- "A map is a count of at most 256 and as many entries (code, element), ascending by code"
abbrev pub codes_max : ℕ
codes_max = 256

-- an entry: a code and its element, and with document 02, P2, "input range, output range and inverted flag"
abbrev pub ranged_entry : Code → AxisOrBtn → Ranges → Entry
ranged_entry c to ranges = record { code = c; element = to; ranges = ranges }

-- "full on both sides and not inverted"
abbrev pub full_ranges : Ranges
full_ranges = record { input = Ar.Full; output = Ar.Full; inverted = false }

abbrev pub entry_of : Code → AxisOrBtn → Entry
entry_of c to = ranged_entry c to full_ranges

-- "unused entries code 0 and button 0", "full on both sides and not inverted, and so are unused entries"
abbrev pub unused_entry : Entry
unused_entry = entry_of (code_of 0) (Btn B.Unknown)

-- "besides, the name's start and length in the line, the default flag, and one byte of hat flags"
pub record MapView : Type 0 where
  pub list : List Entry
  pub name_start_of : ℕ
  pub name_len_of : ℕ
  pub is_default : Bool
  pub hat_flags : ℕ

-- the map as the program holds it: the entries, and unused ones up to 256
unfoldable pub to_map : MapView → Mapping
to_map v =
    record {
      count = length v.list;
      entries = v.list ++ replicate (codes_max - length v.list) unused_entry;
      name_start = v.name_start_of;
      name_len = v.name_len_of;
      is_default = v.is_default;
      hats_mapped = v.hat_flags;
    }

-- "an empty map by Mapping::new"
abbrev pub empty_view : MapView
empty_view = record { list = []; name_start_of = 0; name_len_of = 0; is_default = false; hat_flags = 0 }

-- the empty map, as the program holds it
unfoldable pub empty_map : Mapping
empty_map = to_map empty_view

-- the entries that a map holds: "Both read a count over 256 as 256", since there are 256 entries
abbrev pub held : Mapping → List Entry
held m = take m.count m.entries

-- "ascending by code": each code is below the next
unfoldable pub Below : ℕ → List Entry → Type 0
Below c [] = Unit {0}
Below c (x ∷ xs) = c < x.code.0

unfoldable pub Ascending : List Entry → Type 0
Ascending [] = Unit {0}
Ascending (x ∷ xs) = Below x.code.0 xs × Ascending xs

-- ---- a put
-- e among xs, "ascending by code": in the place of the entry with its code, else before the first larger one
unfoldable pub put_entry : Entry → List Entry → List Entry
put_entry e [] = e ∷ []
put_entry e (x ∷ xs) =
    pick (ltb e.code.0 x.code.0) (e ∷ x ∷ xs)
    (pick (eqb x.code.0 e.code.0) (e ∷ xs) (x ∷ put_entry e xs))

-- "A later pair replaces an earlier one of its code": entries put one after the other
unfoldable pub puts_into : List Entry → List Entry → List Entry
puts_into [] xs = xs
puts_into (e ∷ es) xs = puts_into es (put_entry e xs)

-- m with the entries es, the later ones as they were
abbrev pub with_entries : Mapping → List Entry → Mapping
with_entries m es =
    record {
      count = length es;
      entries = es ++ drop (length es) m.entries;
      name_start = m.name_start;
      name_len = m.name_len;
      is_default = m.is_default;
      hats_mapped = m.hats_mapped;
    }

-- a put: its answer, and the map after it
pub record PutAnswer : Type 0 where
  pub answer : Result ⊤ MapFull
  pub map : Mapping

-- "257 codes in a map": 11, the map unchanged
unfoldable pub put_of : Mapping → Entry → PutAnswer
put_of m e =
    pick (leb (length (put_entry e (held m))) codes_max)
    (record { answer = Ok tt; map = with_entries m (put_entry e (held m)) })
    (record { answer = put_result_of (Err (refusal 11)); map = m })

-- ---- "`map`: the first entry of that code, or none"
unfoldable pub map_of : List Entry → Code → Option AxisOrBtn
map_of [] c = None
map_of (x ∷ xs) c = pick (eqb x.code.0 c.0) (Some x.element) (map_of xs c)

-- that entry itself, with its ranges
unfoldable pub entry_at : List Entry → Code → Option Entry
entry_at [] c = None
entry_at (x ∷ xs) c = pick (eqb x.code.0 c.0) (Some x) (entry_at xs c)

-- ---- "`map_rev`: the least code of that element, or none"
abbrev pub lesser : Code → Option Code → Option Code
lesser c None = Some c
lesser c (Some d) = pick (ltb d.0 c.0) (Some d) (Some c)

unfoldable pub map_rev_of : List Entry → AxisOrBtn → Option Code
map_rev_of [] el = None
map_rev_of (x ∷ xs) el = pick (same_element x.element el) (lesser x.code (map_rev_of xs el)) (map_rev_of xs el)
