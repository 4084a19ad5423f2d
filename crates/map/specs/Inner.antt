-- What the contracts of private functions say.
-- No public contract rests on these: a reader may leave them out.
use Rattle.std.specs.Prelude.{ℕ, zero, suc, ◌+◌, ◌-◌, ◌<◌, ◌≤◌, ◌≡◌, Bool, false, List, [], ◌∷◌, ◌++◌, map, leb, ltb, length, get_or, Option, Result, MatchResult, None, Ok, Err, ⊤}
use Rattle.arrayvec.specs.ArrayVec.{ArrayVec}
use Rattle.text.specs.Bytes.{byte, pick}
use Rattle.text.specs.Decimal.{decimal}
use Rattle.text.specs.Inner.{Put}
use Rattle.text.specs.Uuid.{uuid_text}
use Rattle.text.specs.declared.uuid.Uuid.{Uuid}
use Rattle.line.specs.declared.ev.Code.{Code}
use Rattle.line.specs.declared.mapping.Entry.{Entry}
use Rattle.line.specs.declared.mapping.Mapping.{Mapping}
use Rattle.line.specs.Maps.{MapView, codes_max, puts_into, to_map}
use Rattle.line.specs.Reading.{list_max}
use Rattle.line.specs.declared.ev.AxisOrBtn.{AxisOrBtn}
use Rattle.line.specs.Tables.{ident_text, as_button, as_axis}
use Rattle.map.specs.declared.error.MappingError.{MappingError}
use Rattle.map.specs.declared.from_data.filled.Pairs.{Pairs}
use Rattle.map.specs.declared.from_data.output.Output.{Output}
use Rattle.map.specs.declared.from_data.filled.Placed.{Placed}
use Rattle.map.specs.declared.from_data.gather.Kind.{Kind}
use Rattle.map.specs.declared.from_data.gather.Kind.TheVariants as Kd
use Rattle.map.specs.declared.mapping_data.MappingData.{MappingData}
use Rattle.map.specs.Lists.{place_of}
use Rattle.map.specs.Slots.{empty_slot}
use Rattle.map.specs.Build.{name_max, filled_from, filled_buttons, filled_axes, missing_of, when_missing, name_start_of}
use Rattle.map.specs.Default.{flagged_map, put_kept}

-- ---- the filled slots that the program has gathered
-- an entry with the place of its code, and several
abbrev pub placed_at : List ℕ → Entry → Placed
placed_at codes e = record { entry = e; place = place_of e.code codes }

abbrev pub placed_in : List ℕ → List Entry → List Placed
placed_in codes es = map (placed_at codes) es

-- what slots are for: the element of a number, and what stands before an index
abbrev pub element_of : Kind → ℕ → AxisOrBtn
element_of Kd.Button n = as_button n
element_of Kd.Axis n = as_axis n

abbrev pub letter_of : Kind → ℕ
letter_of Kd.Button = byte "b"
letter_of Kd.Axis = byte "a"

-- the filled ones from number i on
abbrev pub filled_after : Kind → List (Option Code) → ℕ → List Entry
filled_after kind slots i =
    filled_from (λ k. get_or slots k empty_slot) (element_of kind) (length slots - i) i

-- they are gathered, each with its place in the list, or the first code that is missing there is refused
abbrev pub Gathers : List ℕ → Kind → List (Option Code) → Result ⊤ MappingError → ArrayVec Placed → Type 0
Gathers codes kind slots r f =
    MatchResult r
    (λ _. (missing_of (filled_after kind slots 0) codes ≡ None)
    × (f.items ≡ placed_in codes (filled_after kind slots 0)))
    (λ e. (rest : Result ⊤ MappingError) → when_missing (missing_of (filled_after kind slots 0) codes) rest ≡ Err e)

-- a check hands back what P says where it passes, and the refusal else
abbrev pub Passes : {A : Type 0} → Result A MappingError → Result ⊤ MappingError → (A → Type 0) → Type 0
Passes r checks P = MatchResult r (λ x. (checks ≡ Ok tt) × P x) (λ e. checks ≡ Err e)

-- no pair is gathered yet
abbrev pub Ungathered : Pairs → Type 0
Ungathered p = (p.buttons.items ≡ []) × (p.axes.items ≡ [])

-- the pairs are those of the slots
pub record Gathered (d : MappingData) (buttons axes : List ℕ) (p : Pairs) : Type 0 where
  pub first : p.buttons.items ≡ placed_in buttons (filled_buttons d)
  pub last : p.axes.items ≡ placed_in axes (filled_axes d)

-- ---- the line in parts
abbrev pub with_comma : List ℕ → List ℕ
with_comma v = v ++ byte "," ∷ []

abbrev pub value_text : ℕ → ℕ → List ℕ
value_text letter n = (byte ":" ∷ letter ∷ []) ++ decimal n

-- the pair of an entry whose code has the place n, and those of entries, each with its comma
abbrev pub pair_at : ℕ → ℕ → Entry → List ℕ
pair_at letter n e = with_comma (ident_text e.element ++ value_text letter n)

abbrev pub pair_field : ℕ → List ℕ → Entry → List ℕ
pair_field letter codes e = pair_at letter (place_of e.code codes) e

unfoldable pub pair_fields : ℕ → List ℕ → List Entry → List ℕ
pair_fields letter codes [] = []
pair_fields letter codes (e ∷ es) = pair_field letter codes e ++ pair_fields letter codes es

-- the same of slots that have their places
abbrev pub pair_of : ℕ → Placed → List ℕ
pair_of letter s = pair_at letter s.place s.entry

unfoldable pub pairs_of : ℕ → List Placed → List ℕ
pairs_of letter [] = []
pairs_of letter (s ∷ ss) = pair_of letter s ++ pairs_of letter ss

-- what stands before the pairs
abbrev pub head_text : Uuid → List ℕ → List ℕ
head_text uuid name = with_comma (uuid_text uuid) ++ with_comma name

abbrev pub line_text : Pairs → List ℕ → Uuid → List ℕ
line_text p name uuid =
    (head_text uuid name ++ pairs_of (byte "b") p.buttons.items) ++ pairs_of (byte "a") p.axes.items

-- a text fits from a place on
abbrev pub Room : List ℕ → ℕ → List ℕ → Type 0
Room out at v = at + length v ≤ length out

-- an output has room for a text after what is put, and the text was put there
abbrev pub Holds : Output → List ℕ → Type 0
Holds o v = Room o.out.now o.at v

abbrev pub Puts : Output → List ℕ → Output → Type 0
Puts o v p = (p.out.ghost_name ≡ o.out.ghost_name) × Put o.out.now o.at v p.at p.out.now

-- ---- lengths
abbrev pub length_at : ℕ → Entry → ℕ
length_at n e = length (ident_text e.element) + 2 + length (decimal n) + 1

abbrev pub pair_length : List ℕ → Entry → ℕ
pair_length codes e = length_at (place_of e.code codes) e

unfoldable pub pairs_length : List ℕ → List Entry → ℕ
pairs_length codes [] = 0
pairs_length codes (e ∷ es) = pair_length codes e + pairs_length codes es

-- the same of slots that have their places
abbrev pub length_of : Placed → ℕ
length_of s = length_at s.place s.entry

unfoldable pub lengths_of : List Placed → ℕ
lengths_of [] = 0
lengths_of (s ∷ ss) = length_of s + lengths_of ss

abbrev pub line_length : MappingData → List ℕ → List ℕ → List ℕ → ℕ
line_length d buttons axes name =
    name_start_of + length name + 1 + pairs_length buttons (filled_buttons d) + pairs_length axes (filled_axes d)

abbrev pub line_len_of : Pairs → List ℕ → ℕ
line_len_of p name = name_start_of + length name + 1 + lengths_of p.buttons.items + lengths_of p.axes.items

-- an output of `room` bytes is too short for n, unless it holds every line
abbrev pub built_line_max : ℕ
built_line_max = 8544

abbrev pub short_of : ℕ → ℕ → Bool
short_of room n = pick (leb built_line_max room) false (ltb room n)

-- ---- the map of both
-- entries put into a view of a map
abbrev pub with_puts : MapView → List Entry → MapView
with_puts v es =
    record {
      list = puts_into es v.list;
      name_start_of = v.name_start_of;
      name_len_of = v.name_len_of;
      is_default = v.is_default;
      hat_flags = v.hat_flags;
    }

-- into a map that has room for them, the entries of slots are put
abbrev pub PutsSlots : List Placed → Mapping → Mapping → Type 0
PutsSlots ss before after =
    (v : MapView) → before ≡ to_map v → length v.list + length ss ≤ codes_max
    → after ≡ to_map (with_puts v (map (λ s. s.entry) ss))

unfoldable pub put_map_of : Pairs → ℕ → Mapping
put_map_of p n =
    to_map (record {
      list = puts_into (map (λ s. s.entry) p.buttons.items ++ map (λ s. s.entry) p.axes.items) [];
      name_start_of = name_start_of;
      name_len_of = n;
      is_default = false;
      hat_flags = 0;
    })

-- ---- how long a built line is at most
-- a pair: its ident, `:b` or `:a`, the digits of the greatest place in a list, a comma
abbrev pub pair_max : AxisOrBtn → ℕ
pair_max e = length (ident_text e) + 2 + length (decimal (list_max - 1)) + 1

-- the pairs of n elements from number k on
unfoldable pub pairs_max : (ℕ → AxisOrBtn) → ℕ → ℕ → ℕ
pairs_max to zero k = 0
pairs_max to (suc n) k = pair_max (to k) + pairs_max to n (suc k)

-- the UUID and the longest name, each with a comma, and the 19 buttons and six axes that have an ident
unfoldable pub built_max : ℕ
built_max = name_start_of + name_max + 1 + pairs_max as_button 19 1 + pairs_max as_axis 6 1

-- ---- the default map
-- into a map with the default flag that has room, an entry is put if its code is in its list
abbrev pub PutsListed : List ℕ → List ℕ → Entry → Mapping → Mapping → Type 0
PutsListed buttons axes e before after =
    (es : List Entry) → length es < codes_max → before ≡ to_map (flagged_map es)
    → after ≡ to_map (flagged_map (put_kept buttons axes es (e ∷ [])))
