-- By the run's length.
-- Assumes nothing.
use Rattle.text.specs.Utf8.{is_utf8}
use Rattle.text.proofs.utf8.is_utf8.Goals as goal

pub returns : goal.returns
unfolding is_utf8
returns c = rw c.valid_up_to.ensures
