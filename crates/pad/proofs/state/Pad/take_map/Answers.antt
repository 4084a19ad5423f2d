-- A count over 256 is read as 256. Assumes nothing.
use Rattle.std.proofs.Common.{◌≡◌, length, arith, rules, ◌∙◌}
use Rattle.line.proofs.MapLaws.{entries_long}
use Rattle.pad.proofs.StateLaws.{min_is, capped_most, map_next}
use Rattle.pad.proofs.state.Pad.take_map.Goals as goal

pub returns : goal.returns
returns c =
    let m = c.args.map in
    let lm : length m.entries ≡ 256 = search (rules, entries_long) in
    let em = c.min-self.ensures ∙ min_is m.count in (
      map_next c.args.self.now m c.min-self.result lm em (omega (arith, em, capped_most m.count))
          c.entry_numbers-self.result c.entry_numbers-self.ensures.0,
      c.entry_numbers-self.ensures.1,
    )
