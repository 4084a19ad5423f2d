-- The rest's reading, after the digits that made `value`, is the whole's.
use mathlib.Core.Path.{◌≡◌}
use Prim.Native.Nat.{◌≤◌}
use lib.ListN.{drop}
use Rattle.text.specs.Decimal.{read_digits, unsigned}
use Rattle.text.proofs.decimal.parse_unsigned.Given as goal

abbrev pub invariant-loop-b : goal.invariant-loop-b
invariant-loop-b l = (l.value ≤ 65535) × (read_digits l.value (drop l.b-index l.s) ≡ unsigned l.s)
