-- Index numbers in base ten: how one is written, and which number a text is (`parse::<u16>`).
-- Public contracts rest on these definitions; they assume nothing.
use Rattle.std.specs.Prelude.{ℕ, zero, suc, ◌+◌, ◌*◌, ◌-◌, ◌/◌, ◌%◌, Bool, ◌&&◌, List, [], ◌∷◌, ◌++◌, ltb, leb, eqb, Option, Some, None}
use Rattle.text.specs.Bytes.{pick, byte}

-- "value at most 65535"
abbrev pub number_max : ℕ
number_max = 65535

-- ---- reading

-- a digit: a byte from `0` to `9`
abbrev pub is_digit : ℕ → Bool
is_digit b = leb (byte "0") b && leb b (byte "9")

-- digits to the end, after those that made a: "value at most 65535; leading zeros allowed"
unfoldable pub read_digits : ℕ → List ℕ → Option ℕ
read_digits a [] = pick (leb a number_max) (Some a) None
read_digits a (d ∷ ds) = pick (is_digit d) (read_digits (a * 10 + (d - byte "0")) ds) None

-- "one or more digits"
unfoldable pub unsigned : List ℕ → Option ℕ
unsigned [] = None
unsigned (d ∷ ds) = read_digits 0 (d ∷ ds)

-- "one optional `+`, then one or more digits"
unfoldable pub index_number : List ℕ → Option ℕ
index_number [] = None
index_number (b ∷ bs) = pick (eqb b (byte "+")) (unsigned bs) (unsigned (b ∷ bs))

-- ---- writing

-- the last digit of n, as a text
abbrev pub last_digit : ℕ → List ℕ
last_digit n = (byte "0" + n % 10) ∷ []

-- n in base ten, of at most k + 1 digits: the digits of n / 10, then the last digit
unfoldable pub digits : ℕ → ℕ → List ℕ
digits zero n = last_digit n
digits (suc k) n = pick (ltb n 10) (last_digit n) (digits k (n / 10) ++ last_digit n)

-- n in base ten, with no leading zero; n has at most n + 1 digits
unfoldable pub decimal : ℕ → List ℕ
decimal n = digits n n
