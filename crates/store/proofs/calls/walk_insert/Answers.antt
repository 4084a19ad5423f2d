-- 19 where the index is too long; else as the function for its table says.
use Rattle.store.proofs.InsertLaws.{walk_unsound}
use Rattle.store.proofs.SurveyLaws.{too_long}
use Rattle.store.proofs.calls.walk_insert.Goals as goal

pub returns-in-None : goal.returns-in-None
returns-in-None c =
    let args = c.args in
    walk_unsound args.owner args.index.now args.text.now args.lines.now
    (too_long args.index.now args.text.now c.area_for.ensures c.in-None.is)
