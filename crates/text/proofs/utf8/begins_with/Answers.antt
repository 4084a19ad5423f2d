-- Where the first two octets are as asked, the tails decide.
use mathlib.Core.Path.{◌≡◌, refl, sym, ◌∙◌}
use mathlib.Core.Bool.{Bool, true, false}
use lib.ListN.{replicate}
use Rattle.text.specs.Bytes.{both}
use Rattle.text.specs.Utf8.{%x, utf8_tail}
use Rattle.text.proofs.ListLaws.{off}
use Rattle.text.proofs.Utf8Laws.{begins_two, part_says}
use Rattle.text.proofs.utf8.begins_with.Goals as goal
use Rattle.text.proofs.utf8.begins_with.Goals.{then-in_range, else-in_range}

both_hold : (x y z : Bool) → x ≡ true → y ≡ true → both x (both y z) ≡ z
both_hold true true z p q = refl
both_hold true false z p q = absurd (off q)
both_hold false y z p q = absurd (off p)

pub returns-then-in_range-2 : goal.returns-then-in_range-2
returns-then-in_range-2 c =
    let a = c.args in
    let e = begins_two (%x a.low a.high) (%x a.low2 a.high2) (replicate a.n utf8_tail) a.s.now c.in-len2-up.len_at_least in
    let t = part_says (replicate a.n utf8_tail) a.s.now 2 _ c.begins_tails.ensures in
    elim c.if-in_range.branch [
      | then-in_range w ↦ sym (e ∙ both_hold _ _ _ (sym c.in_range.ensures ∙ w.if-in_range.true)
          (sym w.in_range-then-in_range.ensures ∙ sym w.value-is ∙ c.if-in_range-2.true) ∙ sym t)
      | else-in_range w ↦ absurd (off (sym w.if-in_range.false ∙ sym w.value-is ∙ c.if-in_range-2.true))
    ]
