-- 19 where the index is too long; else as the function for its table says.
use Rattle.store.proofs.SaveLaws.{file_unsound}
use Rattle.store.proofs.SurveyLaws.{too_long}
use Rattle.store.proofs.saving.file_built.Goals as goal

pub returns-in-None : goal.returns-in-None
returns-in-None c =
    let args = c.args in
    file_unsound args.index.now args.text.now (record { key = args.key; line = args.line.now })
    (too_long args.index.now args.text.now c.area_for.ensures c.in-None.is)
