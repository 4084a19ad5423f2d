-- The LF's place, and whether a CR stands before it, say where the line ends.
use native.Mathlib.Omega.{arith}
use borrow.Author.Rules.{rules}
use mathlib.Core.Path.{refl}
use Rattle.std.proofs.lemmas.Bool.Decides.{Decides-eqb}
use Rattle.std.proofs.lemmas.Slice.Eq.{strip_suffix_is}
use Rattle.store.proofs.LineLaws.{line_last, line_stripped}
use Rattle.store.proofs.lines.line_length.Goals as goal

pub returns-then-s-end : goal.returns-then-s-end
returns-then-s-end c = (search rules, line_last c.args.s.now (omega (arith, c.requires)))

pub returns : goal.returns
returns c =
    line_stripped c.args.s.now c.args.end c.requires (omega (arith, c.if-s-end.false)) _ _ _ c.unwrap_or.ensures refl
    (strip_suffix_is Decides-eqb _ _ _ c.strip_suffix.ensures.cases)
