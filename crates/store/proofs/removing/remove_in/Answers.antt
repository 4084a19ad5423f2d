-- 19 where the store is not sound; else the row of the key's line is struck out, and what is left written: `remove_done`.
use Prim.Native.Nat.{◌≤◌}
use borrow.Author.Rules.{rules}
use Rattle.store.proofs.LookLaws.{stock_ready}
use Rattle.store.proofs.LoadLaws.{loads_extend}
use Rattle.store.proofs.PartLaws.{stock_loads}
use Rattle.store.proofs.RemovingLaws.{remove_unsound, remove_settles, remove_none, remove_done}
use Rattle.store.proofs.SurveyLaws.{stock_refused}
use Rattle.store.proofs.removing.remove_in.Goals as goal

pub returns-in_err-stock : goal.returns-in_err-stock
returns-in_err-stock g c =
    let args = c.args in
    let w = stock_refused _ _ _ _ c.take_stock.ensures _ _ c.in_err-stock.ensures.value _ c.from_residual.ensures.1 in
    rw w.0 (remove_unsound args.key args.index.now args.text.now w.1)

pub strike_row-held-requires : goal.strike_row-held-requires
strike_row-held-requires g c =
    let most : g.row.N ≤ 65535 = c.requires.most in
    (search rules, stock_ready (rw c.in_ok-stock.ensures.ok_part at c.take_stock.ensures))

pub settle-requires : goal.settle-requires
settle-requires g c =
    let w = rw c.in_ok-stock.ensures.ok_part at c.take_stock.ensures in record {
      extends = loads_extend _ _ _ _ _ _ (stock_loads w (λ k. search rules));
      settles = remove_settles w (λ k. search rules) c.args.key c.strike_row-held.ensures;
    }

pub returns-then-held : goal.returns-then-held
returns-then-held g c =
    let w = rw c.in_ok-stock.ensures.ok_part at c.take_stock.ensures in
    remove_done w (λ k. search rules) c.args.key c.strike_row-held.ensures c.if-held.true c.settle.ensures

pub returns-else-held : goal.returns-else-held
returns-else-held g c =
    let w = rw c.in_ok-stock.ensures.ok_part at c.take_stock.ensures in
    remove_none w (λ k. search rules) c.args.key c.strike_row-held.ensures c.if-held.false
