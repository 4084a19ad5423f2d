-- A cut lies within the list, and the next line starts further on.
use native.Mathlib.Omega.{arith}
use borrow.Author.Rules.{rules}
use mathlib.Core.Path.{sym, ◌∙◌}
use Rattle.store.proofs.CutLaws.{cut_in}
use Rattle.corpus.proofs.read_lines.Goals as goal

pub overflow_add-line : goal.overflow_add-line
overflow_add-line c =
    let k = cut_in c.args.list.now c.loop-cut.at c.in-Some.cut (sym c.next_line.ensures ∙ c.in-Some.is) in
    search (rules, k.line)

pub slice_bounds-line-end : goal.slice_bounds-line-end
slice_bounds-line-end c =
    let k = cut_in c.args.list.now c.loop-cut.at c.in-Some.cut (sym c.next_line.ensures ∙ c.in-Some.is) in
    search (rules, k.line)

pub loop-cut-smaller : goal.loop-cut-smaller
loop-cut-smaller c =
    let k = cut_in c.args.list.now c.loop-cut.at c.in-Some.cut (sym c.next_line.ensures ∙ c.in-Some.is) in
    omega (arith, k.further, k.within)
