-- The shares are read and the uses added up: `told_sound`.
use mathlib.Core.Path.{ap, ◌∙◌}
use mathlib.Core.List.{List}
use Prim.Native.Nat.{ℕ}
use native.Mathlib.Omega.{arith}
use lib.ListN.{get_or}
use borrow.Author.Rules.{rules}
use Rattle.store.proofs.ShareCallLaws.{Stocked, stocked, told_unsound, told_sound}
use Rattle.store.proofs.SurveyLaws.{stock_refused}
use Rattle.store.proofs.sharing.share_in.Goals.{In_ok-stock}
use Rattle.store.proofs.sharing.share_in.Goals as goal

pub returns-in_err-stock : goal.returns-in_err-stock
returns-in_err-stock g c =
    let args = c.args in
    let w = stock_refused _ _ _ _ c.take_stock.ensures _ _ c.in_err-stock.ensures.value _ c.from_residual.ensures.1 in
    rw w.0 (told_unsound args.index.now args.text.now args.owner w.1)

-- what the store of which stock is taken holds
held : (g : _) (c : In_ok-stock g)
    → Stocked c.args.index.now c.args.text.now c.take_stock.new.self.shares c.take_stock.new.self.table.rows
    c.in_ok-stock.stock
held g c = stocked (λ k. search rules) (rw c.in_ok-stock.ensures.ok_part at c.take_stock.ensures)

pub invariant_of-listed : goal.invariant_of-listed
invariant_of-listed g c = record { addable = (held g (goal.at.invariant_of-listed g c).In_ok-stock).addable }

pub returns : goal.returns
returns g c =
    let args = c.args in
    let w = held g (goal.at.returns g c).In_ok-stock in
    told_sound args.index.now args.text.now args.owner w.all w.is _ _
    (ap (λ (q : List ℕ). get_or q args.owner 0) w.shares)
    (c.add_uses.ensures.1 args.owner (omega (arith, c.ranges)) ∙ w.used args.owner (omega (arith, c.ranges)))
