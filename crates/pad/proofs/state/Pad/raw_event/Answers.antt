-- A code that was put, and one that was refused. Assumes nothing.
use Rattle.std.proofs.Common.{sym}
use Rattle.std.proofs.lemmas.Result.{err_from_is_err_and}
use Rattle.pad.specs.States.{refused_of}
use Rattle.pad.proofs.state.Pad.raw_event.Goals as goal

pub returns-in_err-put_code : goal.returns-in_err-put_code
unfolding refused_of
returns-in_err-put_code c =
    let told = c.in_err-put_code.ensures.told in
    let w = err_from_is_err_and c.from_residual.result c.from_residual.ensures.1 in
    (rw (w.1, told.1) (sym told.0), c.in_err-put_code.ensures.within)
