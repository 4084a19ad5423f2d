-- 10, 12, then line order.
use mathlib.Core.Path.{refl}
use Rattle.line.specs.Reading.{read_view}
use Rattle.text.specs.Utf8.{is_utf8}
use borrow.Author.Tests.{eq-eqb, ne_eqb, le-leb, lt-leb}
use Rattle.line.proofs.ViewLaws.{empty_padded}
use Rattle.line.proofs.reading.read.Goals as goal

pub returns-then-run-line : goal.returns-then-run-line
unfolding read_view is_utf8
returns-then-run-line c =
    simp (← c.valid_up_to-run.ensures, ne_eqb _ _ c.if-run-line.true) (refl, rw c.requires empty_padded)

pub returns-then-buttons-gt-LIST_MAX : goal.returns-then-buttons-gt-LIST_MAX
unfolding read_view is_utf8
returns-then-buttons-gt-LIST_MAX c =
    simp (← c.valid_up_to-run.ensures, eq-eqb _ _ c.if-run-line.false, lt-leb _ _ c.if-buttons-gt-LIST_MAX.true)
    (refl, rw c.requires empty_padded)

pub returns-then-axes-gt-LIST_MAX : goal.returns-then-axes-gt-LIST_MAX
unfolding read_view is_utf8
returns-then-axes-gt-LIST_MAX c =
    simp (
      ← c.valid_up_to-run.ensures,
      eq-eqb _ _ c.if-run-line.false,
      le-leb _ _ c.if-buttons-gt-LIST_MAX.false,
      lt-leb _ _ c.if-axes-gt-LIST_MAX.true,
    )
    (refl, rw c.requires empty_padded)

pub returns : goal.returns
unfolding read_view is_utf8
returns c =
    simp (
      ← c.valid_up_to-run.ensures,
      eq-eqb _ _ c.if-run-line.false,
      le-leb _ _ c.if-buttons-gt-LIST_MAX.false,
      le-leb _ _ c.if-axes-gt-LIST_MAX.false,
    )
    c.read_fields.ensures
