-- The three checks, and the reader's answer.
use mathlib.Core.Path.{sym, ap, ◌∙◌}
use Prim.Native.Nat.{ℕ}
use native.Mathlib.Omega.{arith}
use lib.ListN.{take}
use lib.Seq.{length-take-le}
use Rattle.text.specs.Bytes.{byte}
use Rattle.text.proofs.BytesLaws.{first_le}
use Rattle.line.specs.Walker.{guid_of}
use Rattle.line.proofs.FormLaws.{form_not_utf8, form_no_comma, form_read}
use Rattle.line.proofs.parser.first_form.Goals as goal

pub returns-then-not-is_utf8 : goal.returns-then-not-is_utf8
returns-then-not-is_utf8 c =
    form_not_utf8 c.args.line.now
    (sym c.is_utf8.ensures ∙ c.if-not-is_utf8.true)

pub returns-then-end-line : goal.returns-then-end-line
returns-then-end-line c =
    form_no_comma c.args.line.now
    (sym c.is_utf8.ensures ∙ c.if-not-is_utf8.false)
    (sym c.find_byte-end.ensures ∙ c.if-end-line.true)

pub slice_bounds-read_guid-end : goal.slice_bounds-read_guid-end
slice_bounds-read_guid-end c =
    sym (length-take-le _ _ (omega (arith, c.find_byte-end.ensures, first_le (byte ",") c.args.line.now)))

pub returns-in_err-read_guid : goal.returns-in_err-read_guid
returns-in_err-read_guid c =
    let s = c.args.line.now in
    let read = c.read_guid in
    let end = c.find_byte-end in
    c.from_residual.ensures
    ∙ form_read s (sym c.is_utf8.ensures ∙ c.if-not-is_utf8.false)
    (λ z. c.if-end-line.false (end.ensures ∙ z)) _
    (sym (read.ensures ∙ ap (λ (n : ℕ). guid_of (take n s)) end.ensures)
    ∙ c.in_err-read_guid.was)

pub returns : goal.returns
returns c =
    let s = c.args.line.now in
    let read = c.read_guid in
    let end = c.find_byte-end in
    form_read s (sym c.is_utf8.ensures ∙ c.if-not-is_utf8.false)
    (λ z. c.if-end-line.false (end.ensures ∙ z)) _
    (sym (read.ensures ∙ ap (λ (n : ℕ). guid_of (take n s)) end.ensures)
    ∙ c.in_ok-read_guid.was)
