-- The reading of a line (document 01, 'Reading'), pair by pair, over the list of a map's entries.
-- Public contracts rest on these definitions; they assume nothing.
use Rattle.std.specs.Prelude.{ℕ, ◌+◌, List, [], ◌∷◌, Bool, ◌&&◌, eqb, leb, length, drop, Option, Some, None, Result, Ok, Err}
use Rattle.std.specs.Int.Bits.{bit_or}
use Rattle.text.specs.declared.uuid.Spelled.{Spelled}
use Rattle.line.specs.declared.parser.Error.{Error}
use Rattle.line.specs.declared.parser.Token.{Token}
use Rattle.line.specs.declared.parser.Token.TheVariants as Tk
use Rattle.text.specs.Bytes.{pick, byte, first_of}
use Rattle.text.specs.Utf8.{valid_run, is_utf8}
use Rattle.line.specs.declared.mapping.Entry.{Entry}
use Rattle.line.specs.declared.mapping.Mapping.{Mapping}
use Rattle.line.specs.declared.parser.ErrorKind.{ErrorKind}
use Rattle.line.specs.declared.reading.puts.Puts.{Puts}
use Rattle.line.specs.declared.reading.puts.Puts.TheVariants.{Nothing, Name, One, Two, UnknownHatDirection}
use Rattle.line.specs.declared.reading.ParseSdlMappingError.{ParseSdlMappingError}
use Rattle.line.specs.declared.reading.SdlMapping.{SdlMapping}
use Rattle.line.specs.declared.refusal.Refusal.{Refusal}
use Rattle.line.specs.Maps.{codes_max, MapView, to_map, empty_view, empty_map, put_entry}
use Rattle.line.specs.Kinds.{kind_number}
use Rattle.line.specs.Refusals.{refusal, refusal_at, error_refusal, reading_error_of}
use Rattle.line.specs.Fields.{fields_of, first_field}
use Rattle.line.specs.Pairs.{pair_of}
use Rattle.line.specs.Walker.{guid_of}
use Rattle.line.specs.Puts.{puts_of}

-- ---- what a part of a line comes to: the map so far, or a refusal by document 01's number and its place
-- what follows an accepted part; a refusal stays
abbrev pub follow : Result MapView Refusal → (MapView → Result MapView Refusal) → Result MapView Refusal
follow (Ok v) rest = rest v
follow (Err r) rest = Err r

-- the map with other entries
abbrev pub with_list : MapView → List Entry → MapView
with_list v es =
    record {
      list = es;
      name_start_of = v.name_start_of;
      name_len_of = v.name_len_of;
      is_default = v.is_default;
      hat_flags = v.hat_flags;
    }

-- "Name start": the map with that name's start and length
abbrev pub with_name : MapView → ℕ → ℕ → MapView
with_name v start len =
    record {
      list = v.list;
      name_start_of = start;
      name_len_of = len;
      is_default = v.is_default;
      hat_flags = v.hat_flags;
    }

-- "The direction is or-ed into the flags."
abbrev pub with_hat : MapView → ℕ → MapView
with_hat v d =
    record {
      list = v.list;
      name_start_of = v.name_start_of;
      name_len_of = v.name_len_of;
      is_default = v.is_default;
      hat_flags = bit_or v.hat_flags d;
    }

-- ---- one token
-- an entry put by the pair at p; "257 codes in a map": 11 at p
unfoldable pub put_one : MapView → Entry → ℕ → Result MapView Refusal
put_one v e p =
    pick (leb (length (put_entry e v.list)) codes_max) (Ok (with_list v (put_entry e v.list))) (Err (refusal_at 11 p))

-- one after an accepted put; the flags after accepted puts
abbrev pub then_put : Result MapView Refusal → Entry → ℕ → Result MapView Refusal
then_put r e p = follow r (λ v. put_one v e p)

abbrev pub flagged : Result MapView Refusal → ℕ → Result MapView Refusal
flagged r flags = follow r (λ v. Ok (with_hat v flags))

-- the puts of the field at p, in order; then the flags
abbrev pub put_all : MapView → Puts → ℕ → Result MapView Refusal
put_all v Nothing p = Ok v
put_all v (Name start len) p = Ok (with_name v start len)
put_all v (One e flags) p = flagged (put_one v e p) flags
put_all v (Two e f flags) p = flagged (then_put (put_one v e p) f p) flags
put_all v UnknownHatDirection p = Err (refusal_at 7 0)

-- "An 8 is skipped"
abbrev pub skips : ErrorKind → Bool
skips k = eqb (kind_number k) 8

-- what the walker says of the field at p, after which the line goes on at q
unfoldable pub taken : MapView → Result Token Error → ℕ → ℕ → List ℕ → List ℕ → Result MapView Refusal
taken v (Ok t) p q buttons axes = put_all v (puts_of t q buttons axes) p
taken v (Err e) p q buttons axes = pick (skips e.kind) (Ok v) (Err (error_refusal e))

-- ---- a line
-- the pairs, the first of them at p, "then line order"
unfoldable pub pairs_from : ℕ → List (List ℕ) → MapView → List ℕ → List ℕ → Result MapView Refusal
pairs_from p [] v buttons axes = Ok v
pairs_from p (f ∷ fs) v buttons axes =
    follow (taken v (pair_of f p) p (p + length f + 1) buttons axes)
    (λ w. pairs_from (p + length f + 1) fs w buttons axes)

-- the fields after the first comma, the first of them at p: the name, then the pairs
unfoldable pub named_from : ℕ → List (List ℕ) → MapView → List ℕ → List ℕ → Result MapView Refusal
named_from p [] v buttons axes = Ok v
named_from p (f ∷ fs) v buttons axes =
    follow (taken v (Ok (Tk.Name p (length f))) p (p + length f + 1) buttons axes)
    (λ w. pairs_from (p + length f + 1) fs w buttons axes)

-- the first field, which is the first k bytes of s: no UUID, 1; no comma, 2; else its token, then the fields after it
abbrev pub headed : Option Spelled → ℕ → List ℕ → List ℕ → List ℕ → Result MapView Refusal
headed None k s buttons axes = Err (refusal_at 1 0)
headed (Some u) k s buttons axes =
    pick (eqb k (length s)) (Err (refusal_at 2 0))
    (follow (taken empty_view (Ok (Tk.Uuid u.id)) 0 (k + 1) buttons axes)
    (λ v. named_from (k + 1) (fields_of (drop (k + 1) s)) v buttons axes))

-- the line s: "empty line 0, 0"
unfoldable pub read_line : List ℕ → List ℕ → List ℕ → Result MapView Refusal
read_line [] buttons axes = Ok empty_view
read_line (b ∷ s) buttons axes =
    headed (guid_of (first_field (b ∷ s))) (first_of (byte ",") (b ∷ s)) (b ∷ s) buttons axes

-- "a list over 1024 codes": 12
abbrev pub list_max : ℕ
list_max = 1024

abbrev pub lists_fit : List ℕ → List ℕ → Bool
lists_fit buttons axes = leb (length buttons) list_max && leb (length axes) list_max

-- "Order: reading 10, 12, then line order."
unfoldable pub read_view : List ℕ → List ℕ → List ℕ → Result MapView Refusal
read_view s buttons axes =
    pick (is_utf8 s)
    (pick (lists_fit buttons axes) (read_line s buttons axes) (Err (refusal 12)))
    (Err (refusal_at 10 (valid_run s)))

-- ---- what a reading returns
-- "A refused reading .. returns the empty map, flags and lengths 0"
abbrev pub refused_of : ParseSdlMappingError → SdlMapping
refused_of e = record { answer = Err e; map = empty_map }

abbrev pub accepted_of : Mapping → SdlMapping
accepted_of m = record { answer = Ok tt; map = m }

abbrev pub returned : Result MapView Refusal → SdlMapping
returned (Ok v) = accepted_of (to_map v)
returned (Err r) = refused_of (reading_error_of r)

-- the reading of a line: what it comes to, made a map here, once
unfoldable pub reading_of : List ℕ → List ℕ → List ℕ → SdlMapping
reading_of s buttons axes = returned (read_view s buttons axes)
