-- The test decides between what `put_bytes` leaves and the buffer as it was.
-- Assumes nothing.
use mathlib.Core.Path.{refl}
use Rattle.text.proofs.BytesLaws.{fits_true, fits_false, wrote, left_alone}
use Rattle.text.proofs.bytes.write_bytes.Goals as goal

pub put_bytes-requires : goal.put_bytes-requires
put_bytes-requires c = fits_true _ _ _ _ _ c.fits.ensures c.if-fits.true refl

pub returns-then-fits : goal.returns-then-fits
returns-then-fits c =
    let called = c.put_bytes in
    let a = c.args in
    wrote a.out.now a.at a.v.now _ _
    (fits_true _ _ _ _ _ c.fits.ensures c.if-fits.true refl)
    called.ensures.0
    called.ensures.1

pub returns : goal.returns
returns c =
    let a = c.args in
    left_alone a.out.now a.at a.v.now (fits_false _ _ _ _ _ c.fits.ensures c.if-fits.false refl)
