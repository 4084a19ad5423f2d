-- Maps as numbers at the C boundary, and back.
-- The contracts of the exports rest on these definitions; they assume nothing.
use Rattle.std.specs.Prelude.{ℕ, ◌-◌, ◌≤◌, ◌≡◌, Bool, true, false, List, ◌++◌, length, map, drop, replicate, Option, Some, None}
use Rattle.line.specs.declared.ev.AxisOrBtn.{AxisOrBtn}
use Rattle.line.specs.declared.mapping.Entry.{Entry}
use Rattle.line.specs.declared.mapping.Mapping.{Mapping}
use Rattle.line.specs.declared.parser.Ranges.{Ranges}
use Rattle.line.specs.declared.reading.SdlMapping.{SdlMapping}
use Rattle.line.specs.Elements.{code_of}
use Rattle.line.specs.Tables.{ident_max}
use Rattle.line.specs.Maps.{PutAnswer, codes_max, ranged_entry, unused_entry}
use Rattle.line.specs.Refusals.{put_outcome, reading_outcome}
use Rattle.exports.specs.declared.flat_mapping.FlatEntry.{FlatEntry}
use Rattle.exports.specs.declared.flat_mapping.FlatMapping.{FlatMapping}
use Rattle.exports.specs.declared.mapping_calls.FlatPut.{FlatPut}
use Rattle.exports.specs.declared.mapping_calls.FlatMapped.{FlatMapped}
use Rattle.exports.specs.declared.mapping_calls.FlatEntered.{FlatEntered}
use Rattle.exports.specs.declared.mapping_calls.FlatIdent.{FlatIdent}
use Rattle.exports.specs.declared.parser_calls.FlatReading.{FlatReading}
use Rattle.exports.specs.Flat.{flat_element, element_of, flat_outcome}
use Rattle.exports.specs.FlatTokens.{range_number, range_in}

abbrev pub flat_entry : Entry → FlatEntry
flat_entry e =
    record {
      code = e.code.0;
      element = flat_element e.element;
      input = range_number e.ranges.input;
      output = range_number e.ranges.output;
      inverted = e.ranges.inverted;
    }

-- the ranges of three numbers
abbrev pub flat_ranges : ℕ → ℕ → Bool → Ranges
flat_ranges input output inverted = record { input = range_in input; output = range_in output; inverted = inverted }

abbrev pub entry_in : FlatEntry → Entry
entry_in e =
    ranged_entry (code_of e.code) (element_of e.element) (flat_ranges e.input e.output e.inverted)

unfoldable pub flat_mapping : Mapping → FlatMapping
flat_mapping m =
    record {
      count = m.count;
      entries = map flat_entry m.entries;
      name_start = m.name_start;
      name_len = m.name_len;
      is_default = m.is_default;
      hats_mapped = m.hats_mapped;
    }

-- from n on the entries of a map are unused: what a private function needs
abbrev pub Unused : ℕ → List Entry → Type 0
Unused n es = (n ≤ codes_max) × (drop n es ≡ replicate (codes_max - n) unused_entry)

-- no entry is in use: what a map is laid out into
abbrev pub Blank : FlatMapping → Type 0
Blank f = f.entries ≡ replicate codes_max (flat_entry unused_entry)

unfoldable pub mapping_in : FlatMapping → Mapping
mapping_in m =
    record {
      count = m.count;
      entries = map entry_in m.entries;
      name_start = m.name_start;
      name_len = m.name_len;
      is_default = m.is_default;
      hats_mapped = m.hats_mapped;
    }

abbrev pub flat_put : PutAnswer → FlatPut
flat_put a = record { refusal = flat_outcome (put_outcome a.answer); map = flat_mapping a.map }

abbrev pub flat_reading : SdlMapping → FlatReading
flat_reading a = record { refusal = flat_outcome (reading_outcome a.answer); map = flat_mapping a.map }

-- an element that is not there
abbrev pub no_element : FlatMapped
no_element = record { found = false; element = record { is_axis = false; number = 0 } }

abbrev pub flat_mapped : Option AxisOrBtn → FlatMapped
flat_mapped (Some e) = record { found = true; element = flat_element e }
flat_mapped None = no_element

-- where there is none, the entry is an unused one
abbrev pub flat_entered : Option Entry → FlatEntered
flat_entered (Some e) = record { found = true; entry = flat_entry e }
flat_entered None = record { found = false; entry = flat_entry unused_entry }

-- the name of an element: its bytes, and 0 after them
abbrev pub flat_ident : List ℕ → FlatIdent
flat_ident name = record { name = name ++ replicate (ident_max - length name) 0; len = length name }
