-- The key ends before the pair does.
use mathlib.Core.Path.{sym}
use lib.Seq.{length-take-le}
use native.Mathlib.Omega.{arith}
use Rattle.line.proofs.CutLaws.{cut_within, colon_within}
use Rattle.line.proofs.parser.pair.read_pair.Goals as goal

pub slice_bounds-keyed-end : goal.slice_bounds-keyed-end
slice_bounds-keyed-end c =
    let s = c.args.s.now in
    let h = c.requires.is in
    sym (length-take-le c.args.pair.colon s (omega (
      arith,
      cut_within s c.args.pair h,
      colon_within s c.args.pair h c.if-pair-ne1.false,
    )))
