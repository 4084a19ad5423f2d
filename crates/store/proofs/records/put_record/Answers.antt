-- The body is written behind kind and owner, then these.
use mathlib.Core.Bool.{Bool}
use mathlib.Core.List.{List, ◌++◌}
use mathlib.Core.Path.{ap, ◌∙◌}
use Prim.Native.Nat.{ℕ}
use native.Mathlib.Omega.{arith}
use lib.ListN.{take, drop}
use Rattle.text.proofs.LentLaws.{tail_lent, tail_length}
use Rattle.store.specs.Held.{is_long}
use Rattle.store.specs.Inner.{body_bytes_of, body_size}
use Rattle.store.proofs.RecordLaws.{record_put, record_fits}
use Rattle.store.proofs.records.put_record.Goals as goal

pub slice_bounds-put_body-count : goal.slice_bounds-put_body-count
slice_bounds-put_body-count c =
    omega (arith, c.body_start-start.ensures (is_long c.args.off), record_fits c.args.index.now c.args.key c.args.off c.args.len c.requires)

pub slice_bounds-put_body-start : goal.slice_bounds-put_body-start
slice_bounds-put_body-start c =
    omega (arith, c.body_start-start.ensures (is_long c.args.off), record_fits c.args.index.now c.args.key c.args.off c.args.len c.requires)

pub put_body-requires : goal.put_body-requires
put_body-requires c =
    let start = c.body_start-start in
    omega (
      arith,
      start.ensures (is_long c.args.off),
      record_fits c.args.index.now c.args.key c.args.off c.args.len c.requires,
      tail_length start.result c.args.index.now,
    )

pub put_kind-requires : goal.put_kind-requires
put_kind-requires c =
    omega (
      arith,
      record_fits c.args.index.now c.args.key c.args.off c.args.len c.requires,
    )

pub returns : goal.returns
returns c =
    let start = c.body_start-start in
    let long : Bool = is_long c.args.off in
    let body : List ℕ = body_bytes_of long c.args.key.uuid c.args.off c.args.len in
    c.put_kind.ensures
    ∙ record_put c.args.index.now _ c.args.key c.args.off c.args.len c.requires
    (tail_lent start.result c.args.index.now (λ (x : List ℕ). body ++ drop (body_size long) x) _
    c.put_body.ensures
    ∙ ap (λ (n : ℕ). take n c.args.index.now ++ (body ++ drop (body_size long) (drop n c.args.index.now)))
    (start.ensures long))
