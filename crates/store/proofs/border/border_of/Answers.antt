use Rattle.store.proofs.MovedLaws.{all_near, none_near}
use Rattle.store.proofs.border.border_of.Goals as goal

pub returns-then-fill-le-SHORT_MAX : goal.returns-then-fill-le-SHORT_MAX
returns-then-fill-le-SHORT_MAX c =
    all_near c.args.rows.now c.args.fill.count c.args.fill.used c.if-fill-le-SHORT_MAX.true c.requires.is

pub advance-requires-clause-near : goal.advance-requires-clause-near
advance-requires-clause-near c = none_near c.args.rows.now c.args.fill.count
