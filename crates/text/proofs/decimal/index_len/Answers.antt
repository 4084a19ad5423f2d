-- By the logarithm, where there is one.
use Prim.Native.Nat.{ℕ, ◌+◌}
use mathlib.Core.Path.{◌≡◌}
use borrow.Author.Rules.{rules}
use Rattle.std.specs.Prelude.{MatchOption}
use Rattle.text.proofs.DecimalLaws.{decimal_log}
use Rattle.text.proofs.decimal.index_len.Goals as goal

pub returns : goal.returns
returns c =
    let l = c.checked_ilog10 in
    let e : MatchOption l.result (c.map_or.result ≡ 1) (λ (k : ℕ). c.map_or.result ≡ k + 1) = search rules in
    decimal_log c.args.n c.map_or.result l.result l.ensures.none l.ensures.power_le l.ensures.next_power_gt e
