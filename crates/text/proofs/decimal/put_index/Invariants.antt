-- From the last digit to the first: so many digits of `upper` as places are left are still to come, those behind them
-- stand in the buffer.
-- Assumes nothing.
use Prim.Native.Nat.{◌-◌, ◌≤◌}
use Rattle.text.specs.Decimal.{decimal}
use Rattle.text.proofs.BytesLaws.{Backward}
use Rattle.text.proofs.DecimalLaws.{last_digits}
use Rattle.text.proofs.decimal.put_index.Given as goal

abbrev pub invariant-loop-place : goal.invariant-loop-place
invariant-loop-place l =
    (l.at ≤ l.place) × Backward l.initial.out l.out l.at (decimal l.n) (last_digits (l.place - l.at) l.upper)
