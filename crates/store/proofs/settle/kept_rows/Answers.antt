use mathlib.Core.Path.{◌≡◌, subst}
use Prim.Native.Nat.{ℕ}
use native.Mathlib.Omega.{arith}
use lib.ListN.{length-take}
use Rattle.store.specs.Held.{Key}
use Rattle.store.specs.Inner.{Sized}
use Rattle.store.specs.Table.{Keeps}
use Rattle.store.proofs.ClosingLaws.{keep-first, keep_end, taken_fits, taken-turn}
use Rattle.store.proofs.settle.kept_rows.Goals as goal

sized : {a b : Key} (off size : ℕ) → a ≡ b → Sized a off size → Sized b off size
sized off size e z = subst (λ (u : Key). Sized u off size) e z

pub loop-k-init : goal.loop-k-init
loop-k-init c = keep-first _ c.args.old c.requires

pub overflow_add-at : goal.overflow_add-at
overflow_add-at c =
    omega (
      arith,
      (taken_fits _ _ _ _ _ c.loop-k.invariant (omega arith) c.if-row-eq0.false _ (sized _ _ c.key.ensures c.record_size-at.ensures)).0,
    )

pub overflow_add-off : goal.overflow_add-off
overflow_add-off c =
    omega (
      arith,
      (taken_fits _ _ _ _ _ c.loop-k.invariant (omega arith) c.if-row-eq0.false _ (sized _ _ c.key.ensures c.record_size-at.ensures)).1,
    )

pub loop-k-preserved : goal.loop-k-preserved
loop-k-preserved c =
    taken-turn _ _ _ _ _ c.loop-k.invariant (omega arith) c.if-row-eq0.false _
    (sized _ _ c.key.ensures c.record_size-at.ensures)

pub returns : goal.returns
returns c =
    let args = c.args in
    let loop = c.loop-k in
    let g = c.requires.tabled in
    let e : loop.k ≡ args.old =
    omega (arith, length-take args.old args.rows.now, loop.invariant.rows, g.olds, g.most) in
    subst (λ (n : ℕ). Keeps args.rows.now args.old (record { rows = n; at = loop.at; off = loop.off })) e
    (keep_end _ _ _ _ _ loop.invariant)
