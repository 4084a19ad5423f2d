-- Where `platform:` stands, its nine bytes are within the line, and what follows up to a comma is compared.
use mathlib.Core.Path.{sym, ap, ◌∙◌}
use Prim.Native.Nat.{ℕ, ◌+◌, ◌-◌}
use native.Mathlib.Omega.{arith}
use lib.ListN.{take, drop}
use Rattle.text.specs.Bytes.{byte, same, first_of}
use Rattle.text.proofs.ListLaws.{part_to_end}
use Rattle.text.proofs.BytesLaws.{pointwise_same}
use Rattle.store.specs.Lines.{platform}
use Rattle.store.proofs.LineLaws.{plus_minus}
use Rattle.store.proofs.WantedLaws.{platform-none, platform-some, key_within, value_within}
use Rattle.store.proofs.lines.for_platform.Goals as goal

pub returns-then-at-line : goal.returns-then-at-line
returns-then-at-line c =
    let l = c.args.line.now in
    sym (platform-none l (sym c.find_text-at.ensures ∙ c.if-at-line.true))

pub overflow_add-start : goal.overflow_add-start
overflow_add-start c = omega (arith, key_within c.args.line.now c.find_text-at.ensures c.if-at-line.false)

pub slice_bounds-find_byte-count : goal.slice_bounds-find_byte-count
slice_bounds-find_byte-count c = omega (arith, key_within c.args.line.now c.find_text-at.ensures c.if-at-line.false)

pub slice_bounds-find_byte-start : goal.slice_bounds-find_byte-start
slice_bounds-find_byte-start c = omega (arith, key_within c.args.line.now c.find_text-at.ensures c.if-at-line.false)

pub overflow_add-start-2 : goal.overflow_add-start-2
overflow_add-start-2 c =
    omega (arith, value_within c.args.line.now c.find_text-at.ensures c.if-at-line.false c.find_byte-end.ensures)

pub slice_bounds-eq-end : goal.slice_bounds-eq-end
slice_bounds-eq-end c =
    omega (arith, value_within c.args.line.now c.find_text-at.ensures c.if-at-line.false c.find_byte-end.ensures)

pub returns : goal.returns
returns c =
    let l = c.args.line.now in
    let at = c.find_text-at in
    let end = c.find_byte-end in
    let start = at.result + 9 in
    c.eq.ensures ∙ pointwise_same (take (start + end.result - start) (drop start l)) platform
    ∙ ap (λ (n : ℕ). same (take n (drop start l)) platform)
    (plus_minus start end.result ∙ end.ensures ∙ ap (first_of (byte ",")) (part_to_end l start))
    ∙ ap (λ (n : ℕ). same (take (first_of (byte ",") (drop (n + 9) l)) (drop (n + 9) l)) platform) at.ensures
    ∙ sym (platform-some l (λ q. c.if-at-line.false (at.ensures ∙ q)))
