-- A pair that starts at p of the line (document 01, 'Walker'): "checks in this order".
-- Public contracts rest on these definitions; they assume nothing.
use Rattle.std.specs.Prelude.{ℕ, ◌+◌, List, Bool, false, eqb, length, take, drop, Option, Some, None, Result, Ok, Err}
use Rattle.line.specs.declared.ev.AxisOrBtn.{AxisOrBtn}
use Rattle.line.specs.declared.parser.Error.{Error}
use Rattle.line.specs.declared.parser.Token.{Token}
use Rattle.text.specs.Bytes.{pick, byte, ascii, same, first_of}
use Rattle.line.specs.declared.parser.AxisRange.{AxisRange}
use Rattle.line.specs.declared.parser.AxisRange.TheVariants as Ar
use Rattle.line.specs.declared.parser.Ranges.{Ranges}
use Rattle.line.specs.declared.parser.Token.TheVariants as Tk
use Rattle.line.specs.declared.parser.value.Value.{Value}
use Rattle.line.specs.declared.parser.value.Value.TheVariants as Vl
use Rattle.line.specs.Kinds.{kind_of}
use Rattle.line.specs.Tables.{key_element}
use Rattle.line.specs.Fields.{count_of}
use Rattle.line.specs.Values.{starts_with, value_of}

-- a refusal by document 01's number, at a place
abbrev pub refuse : ℕ → ℕ → Result Token Error
refuse n p = Err (record { kind = kind_of n; position = p })

-- "a leading `+` or `-` of the key sets the output half and is cut off"
unfoldable pub half_of : List ℕ → AxisRange
half_of k = pick (starts_with (byte "+") k) Ar.UpperHalf (pick (starts_with (byte "-") k) Ar.LowerHalf Ar.Full)

-- the bytes of the sign that is cut off
abbrev pub skip_of : AxisRange → ℕ
skip_of Ar.UpperHalf = 1
skip_of Ar.LowerHalf = 1
skip_of Ar.Full = 0

-- the half of the input (the value's sign) and of the output (the key's), and whether it is inverted
abbrev pub ranges_of : AxisRange → AxisRange → Bool → Ranges
ranges_of input output inverted = record { input = input; output = output; inverted = inverted }

-- "Last, the key is sought in `AXES_SDL` and `AXES`, ..: not there, 5 for an `a` value, else 6."
abbrev pub axis_token : ℕ → Ranges → Option AxisOrBtn → ℕ → Result Token Error
axis_token n r (Some e) p = Ok (Tk.AxisMapping n e r)
axis_token n r None p = refuse 5 p

abbrev pub button_token : ℕ → Ranges → Option AxisOrBtn → ℕ → Result Token Error
button_token n r (Some e) p = Ok (Tk.ButtonMapping n e r)
button_token n r None p = refuse 6 p

abbrev pub hat_token : ℕ → ℕ → Ranges → Option AxisOrBtn → ℕ → Result Token Error
hat_token h d r (Some e) p = Ok (Tk.HatMapping h d e r)
hat_token h d r None p = refuse 6 p

-- the value (4) comes before the key (5, 6)
abbrev pub mapped_of : Result Value ℕ → AxisRange → Option AxisOrBtn → ℕ → Result Token Error
mapped_of (Err place) out to p = refuse 4 place
mapped_of (Ok (Vl.Axis n half inverted)) out to p = axis_token n (ranges_of half out inverted) to p
mapped_of (Ok (Vl.Button n)) out to p = button_token n (ranges_of Ar.Full out false) to p
mapped_of (Ok (Vl.Hat h d)) out to p = hat_token h d (ranges_of Ar.Full out false) to p

-- a key and its value, which stands at place `at` of the line: "empty value, 8; key `platform`, a platform token"
unfoldable pub keyed_of : List ℕ → List ℕ → ℕ → ℕ → Result Token Error
keyed_of k v p at =
    pick (eqb (length v) 0) (refuse 8 p)
    (pick (same k (ascii "platform")) (Ok (Tk.Platform at (length v)))
    (mapped_of (value_of p v) (half_of k) (key_element (drop (skip_of (half_of k)) k)) p))

-- "not exactly one colon, 3"; else the pair is cut at the colon
unfoldable pub pair_of : List ℕ → ℕ → Result Token Error
pair_of s p =
    let colon = first_of (byte ":") s in
    pick (eqb (count_of (byte ":") s) 1)
    (keyed_of (take colon s) (drop (colon + 1) s) p (p + (colon + 1)))
    (refuse 3 p)
