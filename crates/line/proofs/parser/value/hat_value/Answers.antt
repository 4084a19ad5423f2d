use mathlib.Core.Path.{sym}
use native.Mathlib.Omega.{arith}
use lib.Seq.{length-take-le}
use Rattle.text.specs.Bytes.{byte}
use Rattle.text.proofs.BytesLaws.{first_le}
use Rattle.line.proofs.parser.value.hat_value.Goals as goal

pub slice_bounds-parse_u16-end : goal.slice_bounds-parse_u16-end
slice_bounds-parse_u16-end c =
    sym (length-take-le _ _ (omega (arith, c.find_byte-dot.ensures, first_le (byte ".") c.args.s.now)))
