-- The length, the kind, and behind kind 3 the owner decide.
use Rattle.store.proofs.HeadLaws.{stands_short, stands_hall, stands_cut, stands_owned}
use Rattle.store.proofs.records.stands.Goals as goal

pub returns-then-index-lt-HALL_SIZE : goal.returns-then-index-lt-HALL_SIZE
returns-then-index-lt-HALL_SIZE c = stands_short c.args.index.now c.if-index-lt-HALL_SIZE.true

pub returns-then-index-eq1 : goal.returns-then-index-eq1
returns-then-index-eq1 c = stands_hall c.args.index.now c.if-index-lt-HALL_SIZE.false c.if-index-eq1.true

pub returns-then-index-lt-OWNED_SIZE : goal.returns-then-index-lt-OWNED_SIZE
returns-then-index-lt-OWNED_SIZE c =
    stands_cut c.args.index.now c.if-index-ne3.false c.if-index-lt-OWNED_SIZE.true

pub returns : goal.returns
returns c = stands_owned c.args.index.now c.if-index-ne3.false c.if-index-lt-OWNED_SIZE.false
