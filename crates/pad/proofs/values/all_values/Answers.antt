-- The value of what was chosen, or 0, at each place. Assumes nothing.
use Rattle.std.proofs.Common.{ℕ, ◌+◌, ◌≡◌, arith, rules, ap, ◌∙◌}
use lib.IntN.{ℤ, pos}
use Rattle.std.specs.Prelude.{Option, None, get_or}
use Rattle.pad.specs.declared.choice.Best.{Best}
use Rattle.pad.specs.Inner.{chosen_by}
use Rattle.pad.specs.Pads.{element_at, value_in, value_of}
use Rattle.pad.specs.States.{held_of, entries_of}
use Rattle.pad.proofs.ListLaws.{all_tabulated}
use Rattle.pad.proofs.StateLaws.{value_parts}
use Rattle.pad.proofs.values.all_values.Goals as goal

pub returns : goal.returns
returns c =
    let p = c.args.pad.now in
    let f : ℕ → ℤ = λ k. value_of (held_of p) (entries_of p) (element_at k) in
    all_tabulated f 27 0 c.map.result c.map.ensures.items.long (λ k l.
    let b : Option Best = get_or c.all_bests.result k None in
    let w = c.map.ensures.items.at k None (pos 0) l in
    let v : get_or c.map.result k (pos 0) ≡ value_in (chosen_by b) = search (rules, w) in
    let z : 0 + k ≡ k = omega arith in
    rw z (v ∙ ap value_in (c.all_bests.ensures k l)
    ∙ value_parts p c.codes.result.now c.rows.result.now (element_at k) c.codes.ensures c.rows.ensures.are))
