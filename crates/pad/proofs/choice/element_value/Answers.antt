-- The value of what was chosen by the entries that count, or by all, or 0. Assumes nothing.
use Rattle.std.proofs.Common.{rules, map, Some, refl, ap, ◌≡◌, ◌∙◌}
use mir.Syntax.{w16}
use mir.Val.{to_z, of_z}
use Rattle.line.specs.Numbers.{entry_in}
use Rattle.pad.specs.Pads.{choose, value_in}
use Rattle.pad.specs.States.{held_in}
use Rattle.pad.specs.Inner.{chosen_by}
use Rattle.pad.proofs.ListedLaws.{listed_choose, own_wanted}
use Rattle.pad.proofs.choice.element_value.Goals as goal
use Rattle.pad.proofs.choice.element_value.Goals.{then-entries-gt-CODES_MAX, else-entries-gt-CODES_MAX}

pub returns : goal.returns
returns c =
    let a = c.args in
    let hs = map held_in a.held.now in
    let same : choose hs (map entry_in c.if-entries-gt-CODES_MAX.own.now) a.el
    ≡ choose hs (map entry_in a.entries.now) a.el = elim c.if-entries-gt-CODES_MAX.branch [
      | then-entries-gt-CODES_MAX w ↦ rw w.own-is refl
      | else-entries-gt-CODES_MAX w ↦
          rw w.own-is
          (listed_choose (Some a.el) a.entries.now _ w.list_entries-n.ensures.0 a.el (own_wanted a.el) hs)
    ] in
    let v : to_z w16 (of_z w16 c.map_or.result) ≡ value_in (chosen_by c.best_of.result) = search rules in
    v ∙ ap value_in (c.best_of.ensures ∙ same)
