-- The row that is written leaves the keys before it, and so the tree of them.
use mathlib.Core.List.{List}
use mathlib.Core.Path.{sym, ap, ◌∙◌}
use Prim.Native.Nat.{◌<◌}
use native.Mathlib.Omega.{arith}
use borrow.Author.Rules.{rules}
use lib.ListN.{length}
use Rattle.store.specs.declared.rows.Row.{Row}
use Rattle.store.specs.Rows.{key_in, row_key}
use Rattle.store.proofs.TreeLaws.{treed_keys}
use Rattle.store.proofs.WriteLaws.{row_other}
use Rattle.store.proofs.chains.Table.add_by.Goals as goal

pub put-requires-clause-treed : goal.put-requires-clause-treed
put-requires-clause-treed g c =
    let args = c.args in
    let rows = args.self.now.rows in
    let some : 0 < length args.nodes.now = search rules in
    treed_keys (key_in rows) _ args.nodes.now args.n
    (λ k l. sym (ap (λ (v : List Row). key_in v k) c.add_row.ensures.rows_after
    ∙ ap row_key (row_other rows args.n args.key args.start args.len k (λ e. omega arith))))
    (c.requires.searched some).1.1
