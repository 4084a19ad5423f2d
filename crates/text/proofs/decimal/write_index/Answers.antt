-- The test decides between what `put_index` leaves and the buffer as it was.
-- Assumes nothing.
use Rattle.text.specs.Decimal.{decimal}
use Rattle.text.proofs.BytesLaws.{fits_true, fits_false, wrote, left_alone}
use Rattle.text.proofs.decimal.write_index.Goals as goal

pub put_index-requires : goal.put_index-requires
put_index-requires c = fits_true _ _ _ _ _ c.fits.ensures c.if-fits.true c.index_len.ensures

pub returns-then-fits : goal.returns-then-fits
returns-then-fits c =
    let called = c.put_index in
    let a = c.args in
    wrote a.out.now a.at (decimal a.n) _ _
    (fits_true _ _ _ _ _ c.fits.ensures c.if-fits.true
    c.index_len.ensures) called.ensures.0 called.ensures.1

pub returns : goal.returns
returns c =
    let a = c.args in
    left_alone a.out.now a.at (decimal a.n)
    (fits_false _ _ _ _ _ c.fits.ensures c.if-fits.false c.index_len.ensures)
