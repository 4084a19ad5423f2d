-- The digits that are left to write are those of the number divided by sixteen.
use Rattle.text.specs.Uuid.{hex_text}
use Rattle.text.proofs.BytesLaws.{Backward}
use Rattle.text.proofs.uuid.put_half.Given as goal

abbrev pub invariant-loop-i : goal.invariant-loop-i
invariant-loop-i l = Backward l.initial.out l.out l.at (hex_text 16 l.n) (hex_text l.i l.rest)
