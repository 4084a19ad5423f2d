-- The walk writes the lines of a sound store down, `take_lines` files by number, and `settle` writes out.
use native.Mathlib.Omega.{arith}
use mathlib.Core.List.{List}
use mathlib.Core.Option.{some}
use mathlib.Core.Path.{◌≡◌, ◌∙◌}
use Prim.Native.Nat.{◌≤◌}
use lib.ListN.{length}
use borrow.Author.Rules.{rules}
use Rattle.store.specs.Claims.{Owed, row_lengths}
use Rattle.store.specs.Decode.{decode}
use Rattle.store.specs.Held.{Held, text_max}
use Rattle.store.specs.Table.{Surveys}
use Rattle.store.proofs.BatchLaws.{both_most, loads_held, batch_settles, batch_end, takes_behind, went_behind}
use Rattle.text.proofs.LentLaws.{tail_part}
use Rattle.store.proofs.LoadLaws.{loads_extend}
use Rattle.store.proofs.StandingLaws.{loads_border}
use Rattle.store.proofs.SurveyLaws.{walk_of, survey_some, survey_of}
use Rattle.store.proofs.UseLaws.{loads_addable, loads_owed}
use Rattle.store.proofs.batch.insert_batch.Goals.{After-dues_of-dues}
use Rattle.store.proofs.batch.insert_batch.Goals as goal

pub survey-requires : goal.survey-requires
survey-requires g c =
    let most : g.row.N ≤ 65535 = c.requires.enough.most in
    let long : length c.new-table.result.rows ≡ g.row.N = search rules in (
      search rules,
      (
        rw long c.requires.enough,
        (
          (both_most c.args.index.now c.args.text.now (λ k. search rules) c.requires.text_value).1,
          c.new-table.ensures,
        ),
      ),
    )

pub unwrap-seen-requires : goal.unwrap-seen-requires
unwrap-seen-requires g c =
    survey_some c.args.index.now c.args.text.now _ _ _ _ c.survey.ensures.once
    (walk_of c.args.index.now c.args.text.now (λ k. search rules) c.requires.text_value)

pub dues_of-dues-requires : goal.dues_of-dues-requires
dues_of-dues-requires g c =
    let walked = survey_of c.args.index.now c.args.text.now _ _ _ _ c.survey.ensures.once _ c.unwrap-seen.ensures in
    loads_addable c.args.index.now c.args.text.now _ _ _ c.unwrap-seen.result.fill walked.loads c.requires.text_value

-- the lines are walked, and what is owed is told by them
walked : (g : _) (c : After-dues_of-dues g)
    → Surveys c.args.index.now c.args.text.now c.survey.new.table.rows c.survey.new.table.heads
    c.survey.new.table.links c.unwrap-seen.result
walked g c = survey_of _ _ _ _ _ _ c.survey.ensures.once _ c.unwrap-seen.ensures

owed : (g : _) (c : After-dues_of-dues g) (hs : List Held) → decode c.args.index.now c.args.text.now ≡ some hs
    → Owed c.args.shares.now c.args.owner hs c.dues_of-dues.result
owed g c = loads_owed c.args.index.now c.args.text.now _ _ _ _ (walked g c).loads _ _ _ c.dues_of-dues.ensures
    (λ k. search rules)

border : (g : _) (c : After-dues_of-dues g)
    → ((c.unwrap-seen.result.fill.count ≤ length c.survey.new.table.rows) × (c.unwrap-seen.result.fill.used ≤ text_max))
    × (c.unwrap-seen.result.fill.used ≡ row_lengths c.survey.new.table.rows c.unwrap-seen.result.fill.count)
border g c = loads_border c.args.index.now c.args.text.now _ _ _ _ (walked g c).loads c.requires.text_value

pub border_of-requires-clause-within : goal.border_of-requires-clause-within
border_of-requires-clause-within g c = (border g (goal.at.border_of-requires-clause-within g c).After-dues_of-dues).0

pub border_of-requires-clause-is : goal.border_of-requires-clause-is
border_of-requires-clause-is g c = (border g (goal.at.border_of-requires-clause-is g c).After-dues_of-dues).1

pub take_all-part-requires : goal.take_all-part-requires
take_all-part-requires g c =
    let from = (goal.at.take_all-part-requires g c).After-dues_of-dues in
    let most : g.row.N ≤ 65535 = c.requires.enough.most in (
      search rules,
      (
        (omega arith, omega arith),
        loads_held _ _ _ _ _ _ _ _ _ _ (walked g from).loads _ c.border_of.ensures (owed g from) c.requires.text_value,
      ),
    )

pub settle-requires : goal.settle-requires
settle-requires g c =
    let from = (goal.at.settle-requires g c).After-dues_of-dues in
    record {
      extends = loads_extend _ _ _ _ _ _ (walked g from).loads;
      settles = batch_settles _ _ _ _ _ _ _ _ _ _ (walked g from).loads _ c.border_of.ensures (owed g from) 0 _ _
          c.take_all-part.ensures.takes_lines c.requires.text_value;
    }

pub returns : goal.returns
returns g c =
    let from = (goal.at.returns g c).After-dues_of-dues in
    let long : length c.new-table.result.rows ≡ g.row.N = search rules in
    record {
      batches = λ hs e.
          takes_behind c.args.lines.now _ c.args.from (tail_part c.args.from c.args.lines.now) _ _ hs _
          (batch_end _ _ _ _ _ _ _ _ _ _ (walked g from).loads _ c.border_of.ensures (owed g from) 0 _ _
          c.take_all-part.ensures.takes_lines _ _ c.settle.ensures hs e);
      went = rw (c.survey.ensures.rows_kept ∙ long) at (went_behind c.args.lines.now _ c.args.from (tail_part c.args.from c.args.lines.now) _ _ _ (walked g from).most c.requires.from_in_bounds c.take_all-part.ensures.went);
    }
