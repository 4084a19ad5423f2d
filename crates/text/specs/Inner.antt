-- What the contracts of private functions and the laws for the layers above say.
-- No public contract rests on these: a reader may leave them out.
use Rattle.std.specs.Prelude.{ℕ, ◌+◌, ◌≤◌, ◌<◌, ◌≡◌, Bool, true, false, ◌&&◌, List, [], ◌∷◌, ltb, length, take, drop, get_or, Option, Some, None}
use Rattle.std.specs.List.{All}
use Rattle.text.specs.Bytes.{byte, written}
use Rattle.text.specs.Decimal.{is_digit}
use Rattle.text.specs.Utf8.{valid_run}
use Rattle.text.specs.Uuid.{read_hex, is_from}

-- the digits of ys after those that made h
abbrev pub after : Option ℕ → List ℕ → Option ℕ
after (Some v) ys = read_hex v ys
after None ys = None

-- v was written at a place where it fits, and next is the place after its last byte
abbrev pub Put : List ℕ → ℕ → List ℕ → ℕ → List ℕ → Type 0
Put l at v next after = (next ≡ at + length v) × (after ≡ written l at v)

-- every byte passes the test
unfoldable pub every : (ℕ → Bool) → List ℕ → Bool
every f [] = true
every f (b ∷ bs) = f b && every f bs

-- an ASCII byte
abbrev pub is_ascii : ℕ → Bool
is_ascii b = ltb b 128

-- from i to j are whole characters
abbrev pub Passed : List ℕ → ℕ → ℕ → Type 0
Passed s i j = (i ≤ j) × (j ≤ length s) × (j + valid_run (drop j s) ≡ i + valid_run (drop i s))

-- the bytes before n pass a test, and the one at n doesn't; P b t: the test may answer t of b
pub record Ends (P : ℕ → Bool → Type 0) (s : List ℕ) (n : ℕ) : Type 0 where
  pub within : n ≤ length s
  pub passed : All (λ b. P b true) (take n s)
  pub stops : n < length s → P (get_or s n 0) false

-- digits alone
abbrev pub all_digits_of : List ℕ → Bool
all_digits_of s = every is_digit s

-- either of two tests holds
abbrev pub either : Bool → Bool → Bool
either true b = true
either false b = b

-- a digit, or a letter from `a` to `f`
abbrev pub is_lower_hex : ℕ → Bool
is_lower_hex b = either (is_digit b) (is_from (byte "a") (byte "f") b)
