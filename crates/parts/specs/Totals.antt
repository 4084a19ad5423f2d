-- How many cases were run. Public contracts rest on these definitions; they assume nothing.
use Rattle.std.specs.Prelude.{ℕ, ◌+◌, ◌-◌, ◌^◌, min, Bool, true, false}
use Rattle.parts.specs.declared.totals.Totals.{Totals}

-- a count goes up to the largest of 64 bits
abbrev pub sum_upto : ℕ → ℕ → ℕ
sum_upto a b = min (a + b) (2 ^ 64 - 1)

abbrev pub missed : Bool → ℕ
missed true = 0
missed false = 1

abbrev pub with_case : Totals → Bool → Totals
with_case t right = record { cases = sum_upto t.cases 1; wrong = sum_upto t.wrong (missed right) }

abbrev pub sum_of : Totals → Totals → Totals
sum_of a b = record { cases = sum_upto a.cases b.cases; wrong = sum_upto a.wrong b.wrong }
