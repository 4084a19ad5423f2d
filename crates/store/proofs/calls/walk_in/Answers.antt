-- 19 and 10 where they apply; else the part behind the shares is lent to `insert_all`.
use Rattle.store.proofs.LoadLaws.{enough_less}
use Rattle.store.proofs.SurveyLaws.{part_less}
use mathlib.Core.Path.{sym, ◌∙◌}
use borrow.Author.Rules.{rules}
use Rattle.store.proofs.InsertLaws.{walk_unsound, walk-not_utf8, walk_lent}
use Rattle.store.proofs.PartLaws.{part_lines}
use Rattle.store.proofs.calls.walk_in.Goals as goal

pub returns-then-not-sound_in : goal.returns-then-not-sound_in
returns-then-not-sound_in g c =
    let args = c.args in
    walk_unsound args.owner args.index.now args.text.now args.lines.now
    (sym c.sound_in.ensures ∙ c.if-not-sound_in.true)

pub returns-then-not-is_utf8 : goal.returns-then-not-is_utf8
returns-then-not-is_utf8 g c =
    let args = c.args in
    walk-not_utf8 args.owner args.index.now args.text.now args.lines.now
    (λ k. search rules)
    (sym c.sound_in.ensures ∙ c.if-not-sound_in.false)
    (sym c.is_utf8.ensures ∙ c.if-not-is_utf8.true) c.valid_up_to.result
    c.valid_up_to.ensures

pub insert_all-requires : goal.insert_all-requires
insert_all-requires g c =
    let args = c.args in
    let front = c.read_shares-front in
    record {
      enough = enough_less (part_less front.ensures c.requires.within) c.requires;
      text_value = part_lines args.index.now args.text.now _ front.result front.ensures
          (λ k. search rules) (sym c.sound_in.ensures ∙ c.if-not-sound_in.false);
    }

pub returns : goal.returns
returns g c =
    let args = c.args in
    let front = c.read_shares-front in
    let all = c.insert_all in
    walk_lent args.owner args.index.now args.text.now args.lines.now _ front.result front.ensures
    (λ k. search rules)
    (sym c.sound_in.ensures ∙ c.if-not-sound_in.false)
    (sym c.is_utf8.ensures ∙ c.if-not-is_utf8.false) all.result _ _
    all.ensures
