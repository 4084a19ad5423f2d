-- `default` meets its contract: by the test of the lists. Assumes nothing.
use mathlib.Core.Path.{sym, ◌∙◌}
use Rattle.map.specs.Default.{default_of}
use Rattle.map.proofs.default.default.Goals as goal

pub returns-then-fit : goal.returns-then-fit
unfolding default_of
returns-then-fit c = rw (sym c.fit.ensures ∙ c.if-fit.true, c.kept_map.ensures)

pub returns-else-fit : goal.returns-else-fit
unfolding default_of
returns-else-fit c = rw (sym c.fit.ensures ∙ c.if-fit.false, c.new.ensures)
