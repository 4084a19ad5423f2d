-- The put of the map, over its view.
use Rattle.std.proofs.Common.{rules, tests}
use mathlib.Core.Path.{◌≡◌}
use Rattle.line.specs.Inner.{draft_map}
use Rattle.line.proofs.ViewLaws.{told_at, put_turned}
use Rattle.line.proofs.reading.put_one.Goals as goal

pub returns : goal.returns
returns c =
    let a = c.args in
    let t : c.map_err.result ≡ told_at a.p c.put-answer.result = search (rules, tests) in
    rw (t, c.put-answer.ensures.0, c.put-answer.ensures.1) (put_turned (draft_map a.draft.now) a.e a.p c.requires)
