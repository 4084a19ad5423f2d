-- The kind says where the body starts.
use mathlib.Core.Path.{ap, ◌∙◌}
use native.Mathlib.Omega.{arith}
use lib.ListN.{length, length-drop}
use Rattle.text.proofs.ListLaws.{part_to_end}
use Rattle.store.specs.Decode.{body_at}
use Rattle.store.proofs.HeadLaws.{body_long, whole_is}
use Rattle.store.proofs.records.head_in.Goals as goal

pub read_body-body-requires : goal.read_body-body-requires
read_body-body-requires c =
    let owner = c.owner_in-owner in
    let start = c.body_start-start in
    omega (
      arith,
      start.ensures c.args.long,
      body_long c.args.index.now c.args.long c.requires owner.result owner.ensures,
      ap length (part_to_end c.args.index.now start.result),
      length-drop start.result c.args.index.now,
    )

pub returns : goal.returns
returns c =
    let owner = c.owner_in-owner in
    let start = c.body_start-start in
    let body = c.read_body-body in
    c.head_with.ensures
    ∙ whole_is c.args.index.now c.args.long c.requires owner.result owner.ensures c.size_by.result start.result
    start.ensures c.size_by.ensures body.result
    (body.ensures ∙ ap (body_at c.args.long) (part_to_end c.args.index.now start.result))
