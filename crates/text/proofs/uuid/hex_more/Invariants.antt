-- The rest's reading, after the digits that made `value`, is the whole's; sixteen digits fit 64 bits.
use mathlib.Core.Path.{◌≡◌}
use Prim.Native.Nat.{◌<◌, ◌-◌, ◌+◌, ◌^◌}
use lib.ListN.{length, drop}
use Rattle.text.specs.Uuid.{read_hex}
use Rattle.text.proofs.uuid.hex_more.Given as goal

abbrev pub invariant-loop-b : goal.invariant-loop-b
invariant-loop-b l =
    (l.value < 16 ^ (16 - length l.s + l.b-index)) × (read_hex l.value (drop l.b-index l.s) ≡ read_hex l.first l.s)
