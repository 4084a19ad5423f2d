-- The number goes to the place of its code, and its element alone may change. Assumes nothing.
use Rattle.std.proofs.Common.{rules}
use Rattle.pad.proofs.StateLaws.{numbers_long}
use Rattle.pad.proofs.PutLaws.{put_away, put_none, put_some}
use Rattle.pad.proofs.BiasLaws.{answered_value}
use Rattle.pad.proofs.put.put_code.Goals as goal

pub returns-then-i-eq-HELD_MAX-clause-told : goal.returns-then-i-eq-HELD_MAX-clause-told
returns-then-i-eq-HELD_MAX-clause-told c =
    let i = c.held_place-i.ensures in
    let x = c.held_number-x.ensures in
    put_away c.args.pad.now c.args.code c.args.raw _ _ _ (search (rules, numbers_long)) (search (rules, numbers_long))
    c.codes-held.ensures i.0 i.1 x.0 x.1 c.if-i-eq-HELD_MAX.true

pub returns-in-Some-clause-told : goal.returns-in-Some-clause-told
returns-in-Some-clause-told c =
    let i = c.held_place-i.ensures in
    let x = c.held_number-x.ensures in
    let b = c.value_of-before in
    let v = c.value_of-later in
    let eb = answered_value b.result _ b.type_inv b.ensures in
    let el = answered_value v.result _ v.type_inv (rw c.hold.ensures at v.ensures) in
    rw c.hold.ensures
    (put_some c.args.pad.now c.args.code c.args.raw _ _ _ (search (rules, numbers_long)) (search (rules, numbers_long))
    c.codes-held.ensures i.0 i.1 x.0 x.1 c.if-i-eq-HELD_MAX.false _ c.rows.ensures.are c.in-Some.e c.in-Some.ensures
    _ _ eb el)

pub returns-in-None-clause-told : goal.returns-in-None-clause-told
returns-in-None-clause-told c =
    let i = c.held_place-i.ensures in
    let x = c.held_number-x.ensures in
    rw c.hold-in-None.ensures
    (put_none c.args.pad.now c.args.code c.args.raw _ _ _ (search (rules, numbers_long)) (search (rules, numbers_long))
    c.codes-held.ensures i.0 i.1 x.0 x.1 c.if-i-eq-HELD_MAX.false _ c.rows.ensures.are c.in-None.ensures)
