-- 19 where the store is not sound; else `file_line` says whether there was room, in the part behind the shares.
use Prim.Native.Nat.{◌≤◌}
use mathlib.Core.Path.{refl}
use borrow.Author.Rules.{rules}
use Rattle.std.proofs.lemmas.Result.{err_from_is_err_and}
use Rattle.store.proofs.PartLaws.{stock_lines, stock_loads, stock_adds, stock_owed}
use Rattle.store.proofs.SaveLaws.{file_unsound, file_stocked}
use Rattle.store.proofs.SurveyLaws.{stock_refused}
use Rattle.store.proofs.saving.file_in.Goals as goal

pub returns-in_err-stock : goal.returns-in_err-stock
returns-in_err-stock g c =
    let args = c.args in
    let w = stock_refused _ _ _ _ c.take_stock.ensures _ _ c.in_err-stock.ensures.value _ c.from_residual.ensures.1 in
    rw w.0 (file_unsound args.index.now args.text.now (record { key = args.key; line = args.line.now }) w.1)

pub dues_of-dues-requires : goal.dues_of-dues-requires
dues_of-dues-requires g c = stock_adds (rw c.in_ok-stock.ensures.ok_part at c.take_stock.ensures) (λ k. search rules)

pub file_line-requires : goal.file_line-requires
file_line-requires g c =
    let w = rw c.in_ok-stock.ensures.ok_part at c.take_stock.ensures in
    let most : g.row.N ≤ 65535 = c.requires.enough.most in (
      search rules,
      (
        stock_lines w (λ k. search rules),
        (
          c.requires.in_bounds,
          (
            (stock_loads w (λ k. search rules), w.loads.1),
            (_, stock_owed w (λ k. search rules) c.args.key.owner _ c.dues_of-dues.ensures),
          ),
        ),
      ),
    )

pub returns-in_err-file_line : goal.returns-in_err-file_line
returns-in_err-file_line g c =
    let w = rw c.in_ok-stock.ensures.ok_part at c.take_stock.ensures in
    let p = err_from_is_err_and c.from_residual-in_err-file_line.result c.from_residual-in_err-file_line.ensures.1 in
    file_stocked _ _ (record { key = c.args.key; line = c.args.line.now }) w (λ k. search rules)
    _ c.dues_of-dues.ensures _ _ _ c.in_err-file_line.ensures _ (rw (p.1, p.2) refl)

pub returns : goal.returns
returns g c =
    let w = rw c.in_ok-stock.ensures.ok_part at c.take_stock.ensures in
    file_stocked _ _ (record { key = c.args.key; line = c.args.line.now }) w (λ k. search rules)
    _ c.dues_of-dues.ensures _ _ _ c.in_ok-file_line.ensures _ refl
