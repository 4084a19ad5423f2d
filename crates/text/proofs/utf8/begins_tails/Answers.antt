-- `all` of the first n bytes, where there are as many.
use mathlib.Core.Path.{◌∙◌}
use borrow.Author.Rules.{rules}
use borrow.Author.Tests.{tests, lt-leb}
use lib.ListN.{take}
use Rattle.std.proofs.lemmas.Iterator.{YieldsList-from_slice}
use Rattle.std.proofs.lemmas.Iterator.Search.{all_from_yields_List}
use Rattle.text.specs.Utf8.{utf8_tail, in_range}
use Rattle.text.proofs.Utf8Laws.{all_tails, short_tails}
use Rattle.text.proofs.utf8.begins_tails.Goals as goal

pub returns-then-n-s : goal.returns-then-n-s
returns-then-n-s c =
    let a = c.args in
    all_from_yields_List (in_range utf8_tail) _ _ _ c.all.ensures.ran (YieldsList-from_slice (take a.n a.s.now) cc)
    (λ x b q k. search (rules, tests))
    ∙ all_tails a.n a.s.now c.if-n-s.true

pub returns-else-n-s : goal.returns-else-n-s
returns-else-n-s c =
    let a = c.args in
    lt-leb _ _ c.if-n-s.false ∙ short_tails a.n a.s.now c.if-n-s.false
