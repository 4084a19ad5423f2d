use mathlib.Core.Path.{◌≡◌, sym, ap}
use Prim.Native.Nat.{◌+◌, ◌-◌, ◌/◌, ◌%◌}
use native.Mathlib.Omega.{arith}
use Rattle.text.specs.Uuid.{hex_text, lower_digit}
use Rattle.text.proofs.BytesLaws.{backward_none, backward_put, backward_end}
use Rattle.text.proofs.UuidLaws.{hex_text-length, hex_text_more, hex_text-none}
use Rattle.text.proofs.uuid.put_half.Goals as goal

pub loop-i-init : goal.loop-i-init
loop-i-init c =
    let a = c.args in
    backward_none a.out.now a.at (hex_text 16 a.n) (omega (arith, c.requires, hex_text-length 16 a.n))

pub loop-i-preserved : goal.loop-i-preserved
loop-i-preserved c =
    let a = c.args in
    let l = c.loop-i in
    let left = hex_text (l.i - 1) (l.rest / 16) in
    rw c.lower_digit.ensures
    (backward_put a.out.now l.out a.at (hex_text 16 a.n) (hex_text l.i l.rest) left _
    (lower_digit (l.rest % 16)) l.invariant (hex_text_more l.i l.rest c.loop-i-test.true)
    (ap (λ k. a.at + k) (sym (hex_text-length (l.i - 1) (l.rest / 16)))))

pub returns : goal.returns
returns c =
    let a = c.args in
    let l = c.loop-i in
    let z : l.i ≡ 0 = omega arith in
    backward_end a.out.now l.out a.at (hex_text 16 a.n) (rw (← hex_text-none l.rest) (rw z at l.invariant))
