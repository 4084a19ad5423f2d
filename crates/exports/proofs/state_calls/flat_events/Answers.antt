-- The events are laid out one by one. Assumes nothing.
use Rattle.std.proofs.Common.{rules}
use Rattle.exports.specs.FlatPads.{flat_event}
use Rattle.exports.proofs.FlatLaws.{laid, no_event}
use Rattle.exports.proofs.state_calls.flat_events.Goals as goal

pub returns : goal.returns
returns c =
    laid flat_event _ _ c.args.events.now.list c.from_fn.result 27 no_event c.from_fn.ensures.items (search rules) (λ i y q l e. (search rules, search rules))
