-- `parser::start_state` meets its contract: whether the line is UTF-8. Assumes nothing.
use mathlib.Core.Path.{sym, ◌∙◌}
use Rattle.line.specs.Walker.{start_of}
use Rattle.line.proofs.parser.start_state.Goals as goal

pub returns-then-is_utf8 : goal.returns-then-is_utf8
unfolding start_of
returns-then-is_utf8 c = simp (sym c.is_utf8.ensures ∙ c.if-is_utf8.true)

pub returns : goal.returns
unfolding start_of
returns c = simp (sym c.is_utf8.ensures ∙ c.if-is_utf8.false)
