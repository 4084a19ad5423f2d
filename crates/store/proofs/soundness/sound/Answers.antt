-- An index that is too long is no store's.
use mathlib.Core.Path.{sym}
use Rattle.store.proofs.SurveyLaws.{too_long}
use Rattle.store.proofs.soundness.sound.Goals as goal

pub returns-in-None : goal.returns-in-None
returns-in-None c = sym (too_long c.args.index.now c.args.text.now c.area_for.ensures c.in-None.is)
