use mathlib.Core.Path.{◌≡◌, refl, ap, ◌∙◌}
use Prim.Native.Nat.{suc, ◌+◌, ◌≤◌}
use native.Mathlib.Omega.{arith}
use lib.ListN.{length}
use borrow.Author.Rules.{rules}
use Rattle.store.specs.Decode.{walk}
use Rattle.store.specs.Inner.{known}
use Rattle.store.proofs.SoundLaws.{Walking}
use Rattle.store.proofs.SurveyLaws.{survey_first, survey_tail, survey_end, survey_bad, survey_on}
use Rattle.store.proofs.SurveyLaws.{some_size, survey_less, survey_fits, survey_turn}
use Rattle.store.proofs.WriteLaws.{put_long}
use Rattle.store.proofs.soundness.survey.Goals.{Else-not-head_fits}
use Rattle.store.proofs.soundness.survey.Goals as goal

pub loop-head-init : goal.loop-head-init
loop-head-init g c =
    let args = c.args in
    let pre = c.requires in (
      survey_first args.index.now args.text.now _ args.table.now.heads args.table.now.links pre.enough pre.chained,
      refl,
    )

pub returns-then-not-head_fits : goal.returns-then-not-head_fits
returns-then-not-head_fits g c = record {
  once = survey_bad c.loop-head.invariant.0 (c.stands.ensures.0 c.loop-head-test.true) _ c.whole_head-head.ensures _
      c.head_fits.ensures c.if-not-head_fits.true;
  rows_kept = c.loop-head.invariant.1;
}

-- a record on
on : (g : _) (c : Else-not-head_fits g)
    → Walking c.args.index.now c.args.text.now (known (walk (suc (length c.args.index.now)) 0 c.args.index.now c.args.text.now))
    (c.loop-head.at + c.whole_head-head.result.size) (c.loop-head.used + c.whole_head-head.result.len)
on g c =
    survey_on c.loop-head.invariant.0 (c.stands.ensures.0 c.loop-head-test.true) _ c.whole_head-head.ensures _
    c.head_fits.ensures c.if-not-head_fits.false

pub add_row-r-requires : goal.add_row-r-requires
add_row-r-requires g c =
    let long : length c.args.table.now.heads ≡ g.row.N = search rules in
    let most : g.row.N ≤ 65535 = omega (arith, c.requires.chained.most, long) in (
      search rules,
      (
        survey_less c.loop-head.invariant.0,
        (
          survey_fits c.loop-head.invariant.0 (c.stands.ensures.0 c.loop-head-test.true) _ c.whole_head-head.ensures _
              c.head_fits.ensures c.if-not-head_fits.false c.requires.text_len_bound,
          c.loop-head.invariant.0.loading.chained,
        ),
      ),
    )

pub overflow_add-at : goal.overflow_add-at
overflow_add-at g c = omega (arith, (on g (goal.at.overflow_add-at g c).Else-not-head_fits).index)

pub overflow_add-used : goal.overflow_add-used
overflow_add-used g c =
    omega (arith, (on g (goal.at.overflow_add-used g c).Else-not-head_fits).text, c.requires.text_len_bound)

pub loop-head-smaller : goal.loop-head-smaller
loop-head-smaller g c =
    let some = some_size c.loop-head.invariant.0 (c.stands.ensures.0 c.loop-head-test.true) _ c.whole_head-head.ensures _
    c.head_fits.ensures in
    omega (arith, (on g (goal.at.loop-head-smaller g c).Else-not-head_fits).index, some)

pub loop-head-preserved : goal.loop-head-preserved
loop-head-preserved g c =
    let put = c.add_row-r.ensures in
    let head = c.whole_head-head.result in (
      survey_turn c.loop-head.invariant.0 (c.stands.ensures.0 c.loop-head-test.true) _ c.whole_head-head.ensures _
          c.head_fits.ensures c.if-not-head_fits.false _ put.rows_after _ _ put.chained_2 c.add_row-r.result
          put.sought _ c.told-verdict.ensures,
      ap length put.rows_after ∙ put_long c.loop-head.table.rows c.loop-head.n head.key head.off head.len
          ∙ c.loop-head.invariant.1,
    )

pub returns-then-not-zero_behind : goal.returns-then-not-zero_behind
returns-then-not-zero_behind g c = record {
  once = survey_tail c.loop-head.invariant.0 (c.stands.ensures.1 c.loop-head-test.false) _ c.zero_behind.ensures
      c.if-not-zero_behind.true;
  rows_kept = c.loop-head.invariant.1;
}

pub returns : goal.returns
returns g c = record {
  once = survey_end c.loop-head.invariant.0 (c.stands.ensures.1 c.loop-head-test.false) _ c.zero_behind.ensures
      c.if-not-zero_behind.false (λ k. search rules);
  rows_kept = c.loop-head.invariant.1;
}
