-- The first place of the element in the table.
use borrow.Author.Rules.{rules}
use borrow.Author.Tests.{tests}
use Rattle.std.proofs.lemmas.Iterator.{YieldsList-from_slice}
use Rattle.std.proofs.lemmas.Iterator.Search.{position_from_yields_List}
use Rattle.line.specs.Elements.{same_element}
use Rattle.line.specs.Tables.{axes_table}
use Rattle.line.proofs.KeyLaws.{element_found}
use Rattle.line.proofs.tables.find_row.Goals as goal

pub returns : goal.returns
unfolding axes_table
returns c =
    element_found c.args.e c.position.result
    (position_from_yields_List (λ x. same_element x c.args.e) _ _ _ c.position.ensures.ran
    (YieldsList-from_slice axes_table c.iter.ensures.rest) (λ x b q k. search (rules, tests)))
