-- What the private functions of the tables, of a put and of a reading promise. No public contract cites these.
-- Assumes nothing.
use Rattle.std.specs.Prelude.{ℕ, ◌-◌, ◌<◌, ◌≤◌, ◌≡◌, false, map, List, ◌∷◌, ◌++◌, length, take, drop, set, replicate, Option, Some, None, Result, Ok, Err, ⊤}
use Rattle.text.specs.Bytes.{byte, first_of, same}
use Rattle.line.specs.Fields.{count_of}
use Rattle.line.specs.declared.parser.pair.Cut.{Cut}
use Rattle.line.specs.declared.reading.ParseSdlMappingError.{ParseSdlMappingError}
use Rattle.line.specs.declared.parser.Error.{Error}
use Rattle.line.specs.declared.parser.Token.{Token}
use Rattle.line.specs.declared.mapping.Entry.{Entry}
use Rattle.line.specs.declared.mapping.Mapping.{Mapping}
use Rattle.line.specs.declared.parser.ErrorKind.{ErrorKind}
use Rattle.line.specs.declared.reading.draft.Draft.{Draft}
use Rattle.line.specs.declared.refusal.Refusal.{Refusal}
use Rattle.line.specs.Maps.{codes_max, unused_entry, MapView, held, put_entry}
use Rattle.line.specs.Numbers.{entry_in}
use Rattle.line.specs.Tables.{row_count, name_at}
use Rattle.line.specs.Refusals.{reading_refusal}
use Rattle.line.specs.Reading.{taken}

-- xs with e before the entry at k
abbrev pub insert_at : ℕ → Entry → List Entry → List Entry
insert_at k e xs = take k xs ++ e ∷ drop k xs

-- where e goes among xs: onto an entry, or before one
abbrev pub Placed : List Entry → Entry → Result ℕ ℕ → Type 0
Placed xs e (Ok k) = (k < length xs) × (put_entry e xs ≡ set xs k e)
Placed xs e (Err k) = (k ≤ length xs) × (put_entry e xs ≡ insert_at k e xs)

-- a refusal of the walker by its case
abbrev pub refused_as : ErrorKind → ℕ → Option (Result Token Error)
refused_as k p = Some (Err (record { kind = k; position = p }))

-- the pair at the front of a text, up to a comma or the end: how long it is, its colons, and the place of its one colon
abbrev pub CutAt : List ℕ → Cut → Type 0
CutAt s c =
    (c.len ≡ first_of (byte ",") s) × (c.colons ≡ count_of (byte ":") (take c.len s))
    × (c.colons ≡ 1 → c.colon ≡ first_of (byte ":") (take c.len s))

-- the map that a draft comes to: its numbers as entries
unfoldable pub draft_map : Draft → Mapping
draft_map d =
    record {
      count = d.count;
      entries = map entry_in d.numbers;
      name_start = d.name_start;
      name_len = d.name_len;
      is_default = false;
      hats_mapped = d.hats_mapped;
    }

-- no name in the rows before the k-th is the key
abbrev pub NotBefore : List ℕ → ℕ → Type 0
NotBefore key k = (k ≤ row_count) × ((i : ℕ) → i < k → same (name_at i) key ≡ false)

-- the view of a map, whatever stands behind its entries
abbrev pub view_of : Mapping → MapView
view_of m =
    record {
      list = held m;
      name_start_of = m.name_start;
      name_len_of = m.name_len;
      is_default = m.is_default;
      hat_flags = m.hats_mapped;
    }

-- behind the entries that count are unused ones: the map is that of its view
abbrev pub Padded : Mapping → Type 0
Padded m =
    (m.count ≡ length (held m)) × (m.entries ≡ held m ++ replicate (codes_max - length (held m)) unused_entry)

-- an answer and the map after it
abbrev pub outcome : Result ⊤ ParseSdlMappingError → Mapping → Result MapView Refusal
outcome (Ok u) m = Ok (view_of m)
outcome (Err e) m = Err (reading_refusal e)

-- a turn's answer, and the map that it leaves, are what y says
abbrev pub Turned : Result MapView Refusal → Result ⊤ ParseSdlMappingError → Mapping → Type 0
Turned y r m = (y ≡ outcome r m) × Padded m

-- what a step of the walker answers at p; the end puts nothing
unfoldable pub step_taken : MapView → Option (Result Token Error) → ℕ → ℕ → List ℕ → List ℕ → Result MapView Refusal
step_taken v (Some a) p q buttons axes = taken v a p q buttons axes
step_taken v None p q buttons axes = Ok v
