-- The two tests of `room_by`, in order.
use native.Mathlib.Omega.{arith}
use Rattle.store.proofs.FilingLaws.{lacks_index, lacks_text, lacks_none}
use Rattle.store.proofs.table.Filing.room.Goals as goal

pub returns-then-self-fill : goal.returns-then-self-fill
returns-then-self-fill c = lacks_index _ _ _ _ c.if-self-fill.true

pub claimed-requires-clause-theirs_le_used : goal.claimed-requires-clause-theirs_le_used
claimed-requires-clause-theirs_le_used c = (c.requires.theirs, omega (arith, c.requires.used))

pub claimed-requires-clause-others_bound : goal.claimed-requires-clause-others_bound
claimed-requires-clause-others_bound c = (c.requires.others, c.requires.share)

pub returns-then-self-claimed : goal.returns-then-self-claimed
returns-then-self-claimed c =
    lacks_text _ _ _ _ c.if-self-fill.false _ c.claimed.ensures c.if-self-claimed.true

pub returns : goal.returns
returns c = lacks_none _ _ _ _ c.if-self-fill.false _ c.claimed.ensures c.if-self-claimed.false
