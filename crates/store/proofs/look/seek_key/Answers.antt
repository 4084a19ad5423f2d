-- The key is the last of the numbers: `put_ready`.
use Prim.Native.Nat.{◌≤◌}
use native.Mathlib.Omega.{arith}
use borrow.Author.Rules.{rules}
use lib.ListN.{length, set}
use mathlib.Core.Path.{◌≡◌, refl, ap}
use Rattle.store.specs.declared.rows.Row.{Row}
use Rattle.store.specs.Rows.{row_put}
use Rattle.store.proofs.LookLaws.{put_ready}
use Rattle.store.proofs.look.seek_key.Goals.{After-put}
use Rattle.store.proofs.look.seek_key.Goals as goal

written : (g : _) (c : After-put g) → set c.args.table.now.rows c.args.fill.count c.put.new.self
    ≡ row_put c.args.table.now.rows c.args.fill.count c.args.key 0 0
written g c = ap (λ (r : Row). set c.args.table.now.rows c.args.fill.count r) c.put.ensures

pub seek_before-requires : goal.seek_before-requires
seek_before-requires g c =
    let ready = put_ready c.args.key c.requires (written g (goal.at.seek_before-requires g c).After-put) in
    let long : length c.args.table.now.heads ≡ g.row.N = search rules in
    let most : g.row.N ≤ 65535 = omega (arith, c.requires.chained.most, long) in
    (search rules, (ready.few, ready.chained))

pub returns : goal.returns
returns g c = record {
  ready = put_ready c.args.key c.requires (written g (goal.at.returns g c).After-put);
  chains_kept = (refl, refl);
  rows_after = written g (goal.at.returns g c).After-put;
  sought = c.seek_before.ensures.sought;
  upper_bound = c.seek_before.ensures.upper_bound;
}
