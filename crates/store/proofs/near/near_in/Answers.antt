-- 19 where the store is not sound; else both tries are made among the lines that are written down: `near_stock`.
use Prim.Native.Nat.{◌≤◌}
use borrow.Author.Rules.{rules}
use Rattle.store.proofs.LookLaws.{stock_ready}
use Rattle.store.proofs.NearLaws.{near_unsound, near_stock}
use Rattle.store.proofs.SurveyLaws.{stock_refused}
use Rattle.store.proofs.near.near_in.Goals as goal

pub returns-in_err-stock : goal.returns-in_err-stock
returns-in_err-stock g c =
    let args = c.args in
    let w = stock_refused _ _ _ _ c.take_stock.ensures _ _ c.in_err-stock.ensures.value _ c.from_residual.ensures.1 in
    rw w.0 (near_unsound args.key args.index.now args.text.now w.1)

pub try_both-requires : goal.try_both-requires
try_both-requires g c =
    let most : g.row.N ≤ 65535 = c.requires.most in
    (search rules, stock_ready (rw c.in_ok-stock.ensures.ok_part at c.take_stock.ensures))

pub returns : goal.returns
returns g c = near_stock (rw c.in_ok-stock.ensures.ok_part at c.take_stock.ensures) c.args.key _ c.try_both.ensures
