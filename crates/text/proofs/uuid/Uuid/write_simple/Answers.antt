-- The test decides between what `put_simple` leaves and the buffer as it was.
-- Assumes nothing.
use mathlib.Core.Path.{refl, sym}
use Rattle.text.specs.Uuid.{uuid_text}
use Rattle.text.proofs.BytesLaws.{fits_true, fits_false, wrote, left_alone}
use Rattle.text.proofs.UuidLaws.{uuid_text-length}
use Rattle.text.proofs.uuid.Uuid.write_simple.Goals as goal

pub put_simple-requires : goal.put_simple-requires
put_simple-requires c = fits_true _ _ _ _ _ c.fits.ensures c.if-fits.true refl

pub returns-then-fits : goal.returns-then-fits
returns-then-fits c =
    let called = c.put_simple in
    let a = c.args in
    wrote a.out.now a.at (uuid_text a.self) _ _
    (fits_true _ _ _ _ _ c.fits.ensures c.if-fits.true
    (sym (uuid_text-length a.self)))
    called.ensures.0
    called.ensures.1

pub returns : goal.returns
returns c =
    let a = c.args in
    left_alone a.out.now a.at (uuid_text a.self)
    (fits_false _ _ _ _ _ c.fits.ensures c.if-fits.false (sym (uuid_text-length a.self)))
