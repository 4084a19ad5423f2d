-- Two walks, one behind the other; before the second the numbers that are taken are put into the tree.
use Rattle.std.specs.Prelude.{Ok}
use mathlib.Core.Path.{◌≡◌}
use Prim.Native.Nat.{◌≤◌}
use native.Mathlib.Omega.{arith}
use borrow.Author.Rules.{rules}
use lib.ListN.{length}
use Rattle.store.proofs.BatchLaws.{some_on, takes_both}
use Rattle.store.proofs.table.Filing.take_all.Goals as goal

pub take_lines-rest-requires : goal.take_lines-rest-requires
take_lines-rest-requires g c =
    let first = c.take_lines-some in
    let done : c.take_lines-some.result.answer ≡ Ok tt = search rules in
    let some = some_on first.ensures.takes_lines done c.requires.some_rows in
    let rows_long : length c.take_lines-some.new.table.rows ≡ g.row.N = search rules in
    let long : length c.args.table.now.heads ≡ g.row.N = search rules in
    let nodes_long : length c.grow.new.nodes ≡ g.row.N = search rules in
    let most : g.row.N ≤ 65535 = omega (arith, c.requires.some_rows.1.1.1.1.in_rows.chained.most, long) in (
      search rules,
      (
        (first.ensures.went.within, search rules),
        (some, λ p. (omega (arith, rows_long, nodes_long), (omega (arith, most, nodes_long), c.grow.ensures))),
      ),
    )

pub returns-clause-takes_lines : goal.returns-clause-takes_lines
returns-clause-takes_lines g c =
    let done : c.take_lines-some.result.answer ≡ Ok tt = search rules in
    takes_both c.take_lines-some.ensures.takes_lines done c.take_lines-rest.ensures.takes_lines
