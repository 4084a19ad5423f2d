-- A wanted line has its form's number, any other 0; a first field of 32 bytes has no other form.
use mathlib.Core.Path.{sym, ◌∙◌}
use native.Mathlib.Omega.{arith}
use Rattle.store.proofs.OtherLaws.{others_simple}
use Rattle.store.proofs.spellings.other_spelling.Goals as goal

pub returns-then-find_far-eq32 : goal.returns-then-find_far-eq32
returns-then-find_far-eq32 c = (
  others_simple c.args.line.now (sym c.find_far.ensures ∙ c.if-find_far-eq32.true),
  omega arith,
)
