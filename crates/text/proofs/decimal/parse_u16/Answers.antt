-- A leading `+` is cut off, and the rest is read by `parse_unsigned`.
use mathlib.Core.Path.{refl, ap, ◌∙◌}
use Rattle.std.proofs.Common.{Bor}
use Rattle.text.specs.Decimal.{unsigned}
use Rattle.text.proofs.DecimalLaws.{index_strip}
use Rattle.text.proofs.decimal.parse_u16.Goals as goal

pub returns : goal.returns
returns c =
    c.parse_unsigned.ensures
    ∙ ap (λ (x : Bor _). unsigned x.now) c.unwrap_or.ensures
    ∙ index_strip c.args.s.now c.args.s c.strip_prefix.result refl c.strip_prefix.ensures.cases
