-- The fields, each read from its bytes.
use mathlib.Core.Path.{ap, ◌∙◌}
use Prim.Native.Nat.{ℕ, ◌+◌}
use Rattle.store.specs.Decode.{word}
use Rattle.store.proofs.BodyLaws.{body_is}
use Rattle.store.proofs.records.read_body.Goals as goal

pub returns : goal.returns
returns c =
    let args = c.args in
    let high = c.u64_at in
    let low = c.u64_at-2 in
    body_is args.long args.s.now high.result low.result c.read_offset.result c.word_at.result
    high.ensures low.ensures c.read_offset.ensures
    (c.word_at.ensures.0 ∙ ap (λ (n : ℕ). word args.s.now (16 + n)) c.offset_width.ensures)
