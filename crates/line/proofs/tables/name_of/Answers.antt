-- The name in the row of the element.
use mathlib.Core.Path.{sym, ap, ◌∙◌}
use native.Mathlib.Omega.{arith}
use Rattle.line.specs.Tables.{name_in_line}
use Rattle.line.proofs.KeyLaws.{element_bound, name_bound, ident_told}
use Rattle.line.proofs.tables.name_of.Goals as goal

pub offset_bounds-names-row : goal.offset_bounds-names-row
offset_bounds-names-row c =
    let h = element_bound c.args.e c.in-Some.row (sym c.find_row.ensures ∙ c.in-Some.is) in
    omega arith

pub bounds-names-row : goal.bounds-names-row
bounds-names-row c =
    name_bound c.args.names.now c.requires c.args.e c.in-Some.row (sym c.find_row.ensures ∙ c.in-Some.is)

pub returns-in-Some : goal.returns-in-Some
returns-in-Some c =
    ident_told c.args.names.now c.requires c.args.e c.in-Some.row _ (sym c.find_row.ensures ∙ c.in-Some.is)

pub returns-in-None : goal.returns-in-None
returns-in-None c = (ap name_in_line (sym c.in-None.is ∙ c.find_row.ensures), omega arith)
