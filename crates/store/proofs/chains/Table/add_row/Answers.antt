use mathlib.Core.Path.{◌≡◌, sym, ap}
use Prim.Native.Nat.{◌≤◌}
use native.Mathlib.Omega.{arith}
use borrow.Author.Rules.{rules}
use lib.ListN.{length}
use Rattle.store.specs.Rows.{key_in, row_key}
use Rattle.store.proofs.TableLaws.{chained_agree}
use Rattle.store.proofs.WriteLaws.{put_long, row_other}
use Rattle.store.proofs.chains.Table.add_row.Goals as goal

pub link-requires : goal.link-requires
link-requires g c =
    let args = c.args in
    let pre = c.requires in
    let row = c.put.new.self in
    let long : length args.self.now.heads ≡ g.row.N = search rules in
    let most : g.row.N ≤ 65535 = omega (arith, pre.chained.most, long) in (
      search rules,
      (
        omega (arith, pre.n_lt_rows, put_long args.self.now.rows args.n (row_key row) row.start row.len),
        chained_agree (key_in args.self.now.rows) _ args.n
            (λ k l. sym (ap row_key (row_other args.self.now.rows args.n (row_key row) row.start row.len k
            (λ e. omega arith))))
            args.self.now.heads args.self.now.links pre.chained,
      ),
    )
