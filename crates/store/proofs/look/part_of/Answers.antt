-- The key is the last of the numbers, and its chain tells the one before: `spot_line`.
use mathlib.Core.Path.{refl, ◌∙◌}
use Rattle.store.proofs.LookLaws.{spot_none, spot_line, put_agree, put_new}
use Rattle.store.proofs.look.part_of.Goals as goal

pub returns-then-len-eq0 : goal.returns-then-len-eq0
returns-then-len-eq0 g c =
    let s = c.seek_key-r.ensures in
    let k = c.args.key in record {
      ready = s.ready;
      chains_kept = s.chains_kept;
      agree = put_agree k c.requires s.rows_after;
      spots = λ i t b hs ag x.
          spot_none _ x (λ j l. ag j l ∙ put_agree k c.requires s.rows_after j l) (put_new k c.requires s.rows_after)
          s.sought s.upper_bound c.len_before-len.ensures c.if-len-eq0.true;
    }

pub returns : goal.returns
returns g c =
    let s = c.seek_key-r.ensures in
    let k = c.args.key in record {
      ready = s.ready;
      chains_kept = s.chains_kept;
      agree = put_agree k c.requires s.rows_after;
      spots = λ i t b hs ag x.
          spot_line _ x (λ j l. ag j l ∙ put_agree k c.requires s.rows_after j l) (put_new k c.requires s.rows_after)
          s.sought s.upper_bound c.len_before-len.ensures c.if-len-eq0.false refl;
    }
