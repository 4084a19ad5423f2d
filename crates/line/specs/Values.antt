-- The value of a pair that starts at p of the line (document 01, 'Walker').
-- Public contracts rest on these definitions; they assume nothing.
use Rattle.std.specs.Prelude.{ℕ, ◌+◌, ◌-◌, List, Bool, true, false, eqb, length, take, drop, get_or, Option, Some, None, Result, Ok, Err}
use Rattle.text.specs.Bytes.{pick, byte, first_of}
use Rattle.text.specs.Decimal.{index_number}
use Rattle.line.specs.declared.parser.AxisRange.{AxisRange}
use Rattle.line.specs.declared.parser.AxisRange.TheVariants as Ar
use Rattle.line.specs.declared.parser.value.Value.{Value}
use Rattle.line.specs.declared.parser.value.Value.TheVariants as Vl

-- the first byte is b; an empty text has none
abbrev pub starts_with : ℕ → List ℕ → Bool
starts_with b s = eqb (get_or s 0 0) b

-- "a bad N .. gives 4 at p"
abbrev pub axis_numbered : ℕ → AxisRange → Bool → Option ℕ → Result Value ℕ
axis_numbered p half inverted (Some n) = Ok (Vl.Axis n half inverted)
axis_numbered p half inverted None = Err p

-- what follows the `a`: "each with optional last `~` (inverted)"
unfoldable pub axis_value_of : ℕ → AxisRange → List ℕ → Result Value ℕ
axis_value_of p half s =
    pick (eqb (get_or s (length s - 1) 0) (byte "~"))
    (axis_numbered p half true (index_number (take (length s - 1) s)))
    (axis_numbered p half false (index_number s))

-- what follows the sign of "`+a`N, `-a`N"
unfoldable pub signed_of : ℕ → AxisRange → List ℕ → Result Value ℕ
signed_of p half s = pick (starts_with (byte "a") s) (axis_value_of p half (drop 1 s)) (Err p)

abbrev pub button_value_of : ℕ → Option ℕ → Result Value ℕ
button_value_of p (Some n) = Ok (Vl.Button n)
button_value_of p None = Err p

-- "bad H, 4 at p+1; bad D, 4 at p + (dot's place in the value) + 1"
abbrev pub hat_numbers : ℕ → ℕ → Option ℕ → Option ℕ → Result Value ℕ
hat_numbers p dot None d = Err (p + 1)
hat_numbers p dot (Some h) None = Err (p + dot + 1)
hat_numbers p dot (Some h) (Some d) = Ok (Vl.Hat h d)

-- what follows the `h`: "`h`H.D is cut at the first dot: no dot, 4 at p". The dot's place in the value counts the `h`.
unfoldable pub hat_of : ℕ → List ℕ → Result Value ℕ
hat_of p s =
    let dot = first_of (byte ".") s in
    pick (eqb dot (length s)) (Err p)
    (hat_numbers p (dot + 1) (index_number (take dot s)) (index_number (drop (dot + 1) s)))

-- "Values: `a`N, `+a`N, `-a`N, .. and `b`N; a bad N or any other start gives 4 at p."
unfoldable pub value_of : ℕ → List ℕ → Result Value ℕ
value_of p v =
    pick (starts_with (byte "a") v) (axis_value_of p Ar.Full (drop 1 v))
    (pick (starts_with (byte "+") v) (signed_of p Ar.UpperHalf (drop 1 v))
    (pick (starts_with (byte "-") v) (signed_of p Ar.LowerHalf (drop 1 v))
    (pick (starts_with (byte "b") v) (button_value_of p (index_number (drop 1 v)))
    (pick (starts_with (byte "h") v) (hat_of p (drop 1 v))
    (Err p)))))
