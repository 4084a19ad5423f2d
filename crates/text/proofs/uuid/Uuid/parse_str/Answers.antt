-- What stands before the hyphenated form after `urn:uuid:`.
use mathlib.Core.Path.{ap, sym, ◌∙◌}
use Rattle.text.specs.Bytes.{ascii}
use Rattle.text.specs.Uuid.{hyphenated}
use Rattle.text.specs.declared.uuid.Form.TheVariants as F
use Rattle.text.proofs.BytesLaws.{starts_same}
use Rattle.text.proofs.ListLaws.{part_to_end}
use Rattle.text.proofs.UuidLaws.{uuid_45}
use Rattle.text.proofs.uuid.Uuid.parse_str.Goals as goal

pub returns-in-45 : goal.returns-in-45
returns-in-45 c =
    let s = c.args.s.now in
    c.hyphenated_uuid-in-45.ensures ∙ ap (hyphenated F.Urn) (part_to_end s 9)
    ∙ sym (uuid_45 s c.in-45.is
    ∙ rw (sym (starts_same (ascii "urn:uuid:") s) ∙ sym c.starts_with.ensures.value ∙ c.if-starts_with.true))

pub returns-in_default-3 : goal.returns-in_default-3
returns-in_default-3 c =
    let s = c.args.s.now in
    sym (uuid_45 s c.in-45.is
    ∙ rw (sym (starts_same (ascii "urn:uuid:") s) ∙ sym c.starts_with.ensures.value ∙ c.if-starts_with.false))
