-- A line's record stands there with at least one byte, or a share's is looked for.
use mathlib.Core.Path.{sym, ap, ◌∙◌}
use native.Mathlib.Omega.{arith}
use Rattle.std.specs.Prelude.{Some}
use Rattle.store.specs.declared.records.Head.{Head}
use Rattle.store.specs.Walks.{line_stands}
use Rattle.store.proofs.HeadLaws.{whole_some}
use Rattle.store.proofs.StepLaws.{told_share, told_line}
use Rattle.store.proofs.walk.record_told.Goals as goal

pub returns-then-not-stands : goal.returns-then-not-stands
returns-then-not-stands c =
    c.share_told.ensures
    ∙ sym (told_share c.args.index.now (ap (λ (h : Head). h.size) (sym (c.stands.ensures.1 c.if-not-stands.true))))

pub returns : goal.returns
returns c =
    let e = c.whole_head-head.ensures in
    ap (λ (h : Head). Some (line_stands h)) e
    ∙ sym (told_line c.args.index.now
    (λ z. omega (
      arith,
      z,
      ap (λ (h : Head). h.size) e,
      whole_some c.args.index.now (c.stands.ensures.0 c.if-not-stands.false) _ e,
    )))
