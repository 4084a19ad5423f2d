-- UTF-8 by the ABNF of RFC 3629, section 4. Each alternative of a rule is the list of the ranges of its octets.
-- Public contracts rest on these definitions; they assume nothing.
use Rattle.std.specs.Prelude.{ℕ, zero, suc, ◌+◌, ◌<◌, ◌≤◌, ◌≡◌, Bool, true, false, ◌&&◌, List, [], ◌∷◌, ◌++◌, leb, eqb, length, drop, Option, Some, None, option_map, unwrap_or}
use Rattle.text.specs.Bytes.{pick}

-- `%xLOW-HIGH` of the ABNF; one octet `%xE0` is %x 0xE0 0xE0
pub record Range : Type 0 where
  pub low : ℕ
  pub high : ℕ

abbrev pub %x : ℕ → ℕ → Range
%x a b = record { low = a; high = b }

-- an alternative of a rule: the ranges of its octets, in order
abbrev pub Alternative : Type 0
Alternative = List Range

-- UTF8-tail = %x80-BF
abbrev pub utf8_tail : Range
utf8_tail = %x 0x80 0xBF

-- UTF8-1 = %x00-7F
abbrev pub utf8_1 : List Alternative
utf8_1 = (%x 0x00 0x7F ∷ []) ∷ []

-- UTF8-2 = %xC2-DF UTF8-tail
abbrev pub utf8_2 : List Alternative
utf8_2 = (%x 0xC2 0xDF ∷ utf8_tail ∷ []) ∷ []

-- UTF8-3 = %xE0 %xA0-BF UTF8-tail / %xE1-EC 2( UTF8-tail ) / %xED %x80-9F UTF8-tail / %xEE-EF 2( UTF8-tail )
abbrev pub utf8_3 : List Alternative
utf8_3 =
    (%x 0xE0 0xE0 ∷ %x 0xA0 0xBF ∷ utf8_tail ∷ [])
    ∷ (%x 0xE1 0xEC ∷ utf8_tail ∷ utf8_tail ∷ [])
    ∷ (%x 0xED 0xED ∷ %x 0x80 0x9F ∷ utf8_tail ∷ [])
    ∷ (%x 0xEE 0xEF ∷ utf8_tail ∷ utf8_tail ∷ [])
    ∷ []

-- UTF8-4 = %xF0 %x90-BF 2( UTF8-tail ) / %xF1-F3 3( UTF8-tail ) / %xF4 %x80-8F 2( UTF8-tail )
abbrev pub utf8_4 : List Alternative
utf8_4 =
    (%x 0xF0 0xF0 ∷ %x 0x90 0xBF ∷ utf8_tail ∷ utf8_tail ∷ [])
    ∷ (%x 0xF1 0xF3 ∷ utf8_tail ∷ utf8_tail ∷ utf8_tail ∷ [])
    ∷ (%x 0xF4 0xF4 ∷ %x 0x80 0x8F ∷ utf8_tail ∷ utf8_tail ∷ [])
    ∷ []

-- UTF8-char = UTF8-1 / UTF8-2 / UTF8-3 / UTF8-4
abbrev pub utf8_char : List Alternative
utf8_char = utf8_1 ++ (utf8_2 ++ (utf8_3 ++ utf8_4))

-- an octet is in the range
abbrev pub in_range : Range → ℕ → Bool
in_range r b = leb r.low b && leb b r.high

-- the bytes begin with an octet of each range, in order
unfoldable pub begins : Alternative → List ℕ → Bool
begins [] s = true
begins (r ∷ rs) [] = false
begins (r ∷ rs) (b ∷ bs) = in_range r b && begins rs bs

-- the length of the first alternative that the bytes begin with
unfoldable pub first_length : List Alternative → List ℕ → Option ℕ
first_length [] s = None
first_length (a ∷ others) s = pick (begins a s) (Some (length a)) (first_length others s)

-- the length of the character that the bytes begin with
unfoldable pub char_length : List ℕ → Option ℕ
char_length s = first_length utf8_char s

-- at most k characters, one after the other
unfoldable pub run_of : ℕ → List ℕ → ℕ
run_of zero s = 0
run_of (suc k) s = unwrap_or (option_map (λ n. n + run_of k (drop n s)) (char_length s)) 0

-- "the length of the longest valid run of whole characters from the first byte on" (UTF8-octets = *( UTF8-char ))
unfoldable pub valid_run : List ℕ → ℕ
valid_run s = run_of (length s) s

-- the whole is UTF-8: the run is all of it
unfoldable pub is_utf8 : List ℕ → Bool
is_utf8 s = eqb (valid_run s) (length s)

-- "whole characters": each is one character, and nothing after it
unfoldable pub AllWhole : List (List ℕ) → Type 0
AllWhole [] = Unit {0}
AllWhole (c ∷ cs) = ((0 < length c) × (char_length c ≡ Some (length c))) × AllWhole cs

-- characters one after the other
unfoldable pub together : List (List ℕ) → List ℕ
together [] = []
together (c ∷ cs) = c ++ together cs

-- a cut of the bytes into whole characters, which take so many bytes, and the rest
pub record WholeCut (s : List ℕ) (n : ℕ) : Type 0 where
  pub chars : List (List ℕ)
  pub rest : List ℕ
  pub whole : AllWhole chars
  pub bytes : together chars ++ rest ≡ s
  pub many : length (together chars) ≡ n

-- the theorem `longest_run`: the run is such a cut, and no other cut is longer
pub record LongestRun (s : List ℕ) : Type 0 where
  pub run : WholeCut s (valid_run s)
  pub longest : (n : ℕ) → WholeCut s n → n ≤ valid_run s
