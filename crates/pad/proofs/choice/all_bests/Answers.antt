-- The entries that count give each element what all entries give it. Assumes nothing.
use Rattle.std.proofs.Common.{map, None, refl, ◌≡◌, ◌∙◌}
use Rattle.line.specs.Numbers.{entry_in}
use Rattle.pad.specs.Pads.{element_at, choose}
use Rattle.pad.specs.States.{held_in}
use Rattle.pad.proofs.ListedLaws.{listed_choose, placed_wanted}
use Rattle.pad.proofs.choice.all_bests.Goals as goal
use Rattle.pad.proofs.choice.all_bests.Goals.{then-entries-gt-CODES_MAX, else-entries-gt-CODES_MAX}

pub returns : goal.returns
returns c k l =
    let a = c.args in
    let hs = map held_in a.held.now in
    let same : choose hs (map entry_in c.if-entries-gt-CODES_MAX.counted.now) (element_at k)
    ≡ choose hs (map entry_in a.entries.now) (element_at k) = elim c.if-entries-gt-CODES_MAX.branch [
      | then-entries-gt-CODES_MAX w ↦ rw w.counted-is refl
      | else-entries-gt-CODES_MAX w ↦
          rw w.counted-is
          (listed_choose None a.entries.now _ w.list_entries-n.ensures.0 (element_at k) (placed_wanted k l) hs)
    ] in
    c.bests_of.ensures k l ∙ same
