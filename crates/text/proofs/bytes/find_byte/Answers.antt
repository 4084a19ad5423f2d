-- The place that `position` gives, or the length where it gives none.
use mathlib.Core.Path.{◌∙◌}
use borrow.Author.Rules.{rules}
use borrow.Author.Tests.{tests}
use lib.Dec.{eqb}
use Rattle.std.proofs.lemmas.Iterator.{YieldsList-from_slice}
use Rattle.std.proofs.lemmas.Iterator.Search.{position_from_yields_List}
use Rattle.text.proofs.BytesLaws.{position_first}
use Rattle.text.proofs.bytes.find_byte.Goals as goal

pub returns : goal.returns
returns c =
    let a = c.args in
    c.unwrap_or.ensures
    ∙ position_first a.b a.s.now c.position.result
    (position_from_yields_List (λ x. eqb x a.b) _ _ _ c.position.ensures.ran (YieldsList-from_slice a.s.now cc)
    (λ x b q k. search (rules, tests)))
