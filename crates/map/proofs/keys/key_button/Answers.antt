-- The number at a place of the table is that of its code; outside there is none. Assumes nothing.
use Prim.Native.Nat.{ℕ, ◌+◌, ◌-◌, ◌≤◌, ◌<◌}
use mathlib.Core.Path.{◌≡◌, ap, ◌∙◌}
use native.Mathlib.Omega.{arith}
use lib.ListN.{get_or}
use Rattle.line.specs.declared.ev.Button.{Button}
use Rattle.map.specs.Keys.{key_first, key_count, key_number, keys}
use Rattle.map.proofs.KeyLaws.{key_rule}
use Rattle.map.proofs.keys.key_button.Goals as goal

abbrev numbered : ℕ → Button
numbered n = record { 0 = n }

-- the number of a code's place
placed : (k : ℕ) → key_first ≤ k → k - key_first < key_count → get_or keys (k - key_first) 0 ≡ key_number k
placed k h l =
    let e : key_first + (k - key_first) ≡ k = omega arith in
    key_rule (k - key_first) l ∙ ap (λ (j : ℕ). key_number j) e

pub returns-in-Some-get : goal.returns-in-Some-get
unfolding keys
returns-in-Some-get c =
    let at = rw c.in-Some.is at c.checked_sub.ensures in
    let there = rw c.in-Some-get.is at c.get.ensures.lookup in
    let l : c.args.code.0 - key_first < key_count = omega (arith, at.1, there.3.0) in
    let is : c.in-Some-get.number.now ≡ get_or keys (c.args.code.0 - key_first) 0 =
    there.4 (omega arith) 0 ∙ ap (λ (i : ℕ). get_or keys i 0) at.1 in
    ap (λ (n : ℕ). numbered n) (c.from.ensures ∙ is ∙ placed c.args.code.0 at.0 l)
