use native.Mathlib.Omega.{arith}
use mathlib.Core.Path.{sym, ◌∙◌}
use Rattle.line.specs.Numbers.{ranges_number}
use Rattle.line.proofs.NumberLaws.{inverted_in, upright_in}
use Rattle.line.proofs.mapping.packing.ranges_number.Goals as goal

pub returns-then-r : goal.returns-then-r
unfolding ranges_number
returns-then-r c =
    let i = c.half_number in
    let o = c.half_number-2 in (
      inverted_in i.result o.result i.ensures.1 o.ensures.1
          ∙ rw (i.ensures.0, o.ensures.0, sym c.if-r.true),
      omega (arith, i.ensures.1, o.ensures.1),
      rw (c.if-r.true, i.ensures.2, o.ensures.2),
    )

pub returns : goal.returns
unfolding ranges_number
returns c =
    let i = c.half_number in
    let o = c.half_number-2 in (
      upright_in i.result o.result i.ensures.1 o.ensures.1
          ∙ rw (i.ensures.0, o.ensures.0, sym c.if-r.false),
      omega (arith, i.ensures.1, o.ensures.1),
      rw (c.if-r.false, i.ensures.2, o.ensures.2),
    )
