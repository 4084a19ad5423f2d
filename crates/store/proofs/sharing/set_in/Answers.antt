-- The store is taken stock of; whether there is room decides, and the record is written: `set-done`.
use mathlib.Core.Path.{refl}
use native.Mathlib.Omega.{arith}
use borrow.Author.Rules.{rules}
use Rattle.std.proofs.lemmas.Result.{err_from_is_err_and}
use Rattle.store.proofs.ShareCallLaws.{share_unsound, set_large}
use Rattle.store.proofs.ShareCallLaws.{Setting, set_addable, set_four, end_most, end_less}
use Rattle.store.proofs.ShareCallLaws.{set_refused, set_writes, set-done}
use Rattle.store.proofs.SurveyLaws.{stock_refused}
use Rattle.store.proofs.sharing.set_in.Goals.{Else-room-bytes}
use Rattle.store.proofs.sharing.set_in.Goals as goal

-- stock is taken, and the share is within the text
setting : (g : _) (c : Else-room-bytes g)
    → Setting c.args.index.now c.args.text.now c.take_stock.new.self c.in_ok-stock.stock c.args.owner c.args.bytes
setting g c = record {
  bytes = λ k. search rules;
  stock = rw c.in_ok-stock.ensures.ok_part at c.take_stock.ensures;
  owner = omega (arith, c.ranges);
  fits = c.if-room-bytes.false;
}

pub returns-in_err-stock : goal.returns-in_err-stock
returns-in_err-stock g c =
    let args = c.args in
    let w = stock_refused _ _ _ _ c.take_stock.ensures _ _ c.in_err-stock.ensures.value _ c.from_residual.ensures.1 in
    rw w.0 (share_unsound args.index.now args.text.now args.owner args.bytes w.1)

pub returns-then-room-bytes : goal.returns-then-room-bytes
returns-then-room-bytes g c =
    set_large (λ k. search rules) (rw c.in_ok-stock.ensures.ok_part at c.take_stock.ensures)
    c.args.owner c.args.bytes (omega (arith, c.ranges)) c.if-room-bytes.true

pub overflow_cast-share : goal.overflow_cast-share
overflow_cast-share g c = omega (arith, set_four (setting g (goal.at.overflow_cast-share g c).Else-room-bytes))

pub overflow_add-end : goal.overflow_add-end
overflow_add-end g c = omega (arith, end_most (setting g (goal.at.overflow_add-end g c).Else-room-bytes) refl refl)

pub overflow_add-end-2 : goal.overflow_add-end-2
overflow_add-end-2 g c =
    omega (arith, end_most (setting g (goal.at.overflow_add-end-2 g c).Else-room-bytes) c.share_size.ensures refl)

pub overflow_sub-end : goal.overflow_sub-end
overflow_sub-end g c =
    end_less (setting g (goal.at.overflow_sub-end g c).Else-room-bytes) c.share_size.ensures c.share_size-2.ensures

pub invariant_of-listed : goal.invariant_of-listed
invariant_of-listed g c = record { addable = set_addable (setting g (goal.at.invariant_of-listed g c).Else-room-bytes) }

pub returns-in_err-share_room : goal.returns-in_err-share_room
returns-in_err-share_room g c =
    let p = err_from_is_err_and c.from_residual-in_err-share_room.result c.from_residual-in_err-share_room.ensures.1 in
    rw (p.1, p.2) (set_refused (setting g (goal.at.returns-in_err-share_room g c).Else-room-bytes) c.share_size.ensures
    c.share_size-2.ensures c.in_err-share_room.ensures refl)

pub write_share-requires : goal.write_share-requires
write_share-requires g c =
    set_writes (setting g (goal.at.write_share-requires g c).Else-room-bytes) c.share_size.ensures c.share_size-2.ensures
    c.in_ok-share_room.ensures refl refl

pub returns : goal.returns
returns g c =
    set-done (setting g (goal.at.returns g c).Else-room-bytes) c.share_size.ensures c.share_size-2.ensures
    c.in_ok-share_room.ensures refl refl c.write_share.ensures
