-- 19 where the index is too long; else as the function for its table says.
use Rattle.store.proofs.RemovingLaws.{remove_unsound}
use Rattle.store.proofs.SurveyLaws.{too_long}
use Rattle.store.proofs.removing.remove_by.Goals as goal

pub returns-in-None : goal.returns-in-None
returns-in-None c =
    let args = c.args in
    remove_unsound args.key args.index.now args.text.now
    (too_long args.index.now args.text.now c.area_for.ensures c.in-None.is)
