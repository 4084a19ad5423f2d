use mathlib.Core.Path.{◌≡◌, sym, ◌∙◌}
use Prim.Native.Nat.{◌-◌, ◌+◌}
use native.Mathlib.Omega.{arith}
use lib.ListN.{length, get_or, drop_of_length-le}
use Rattle.text.proofs.UuidLaws.{grown, room, digit_small, hex_step, hex_stop, hex_end}
use Rattle.text.proofs.uuid.hex_more.Goals as goal

pub overflow_mul-value : goal.overflow_mul-value
overflow_mul-value c =
    let l = c.loop-b in
    omega (arith, room l.value (16 - length c.args.s.now + l.b-index) (omega arith) l.invariant.0)

pub returns-in_err-value : goal.returns-in_err-value
returns-in_err-value c =
    let l = c.loop-b in
    c.from_residual.ensures
    ∙ sym (hex_stop c.args.s.now l.value l.b-index _ (omega arith) c.hex_digit.ensures c.in_err-value.was)
    ∙ l.invariant.1

pub overflow_add-value : goal.overflow_add-value
overflow_add-value c =
    let s = c.args.s.now in
    let l = c.loop-b in
    let d = digit_small (get_or s l.b-index 0) c.in_ok-value.field-0 (sym c.hex_digit.ensures ∙ c.in_ok-value.was) in
    omega (arith, room l.value (16 - length s + l.b-index) (omega arith) l.invariant.0)

pub loop-b-preserved : goal.loop-b-preserved
loop-b-preserved c =
    let s = c.args.s.now in
    let l = c.loop-b in
    let k = 16 - length s + l.b-index in
    let d = digit_small (get_or s l.b-index 0) c.in_ok-value.field-0 (sym c.hex_digit.ensures ∙ c.in_ok-value.was) in
    let z : 16 - length s + (l.b-index + 1) ≡ k + 1 = omega arith in (
      rw z (grown l.value c.in_ok-value.field-0 k d l.invariant.0),
      hex_step s l.value l.b-index c.in_ok-value.field-0 _ (omega arith) c.hex_digit.ensures c.in_ok-value.was
          ∙ l.invariant.1,
    )

pub returns : goal.returns
returns c =
    let l = c.loop-b in
    sym (hex_end l.value) ∙ rw (← drop_of_length-le c.args.s.now c.loop-b-test.false) l.invariant.1
