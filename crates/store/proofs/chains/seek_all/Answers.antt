use native.Mathlib.Omega.{arith}
use borrow.Author.Rules.{rules}
use Prim.Native.Nat.{ℕ}
use lib.ListN.{length}
use Rattle.store.specs.Held.{Key}
use Rattle.store.specs.Keys.{bucket, Last, Seeks, Sought}
use Rattle.store.specs.Rows.{key_in}
use Rattle.store.proofs.ChainLaws.{chain_from, chain_sought, apart_turn, found_twice, tells_apart, tells_twice}
use Rattle.store.proofs.chains.seek_all.Goals.{After-from}
use Rattle.store.proofs.chains.seek_all.Goals as goal

-- the chain of number k, and that what it says all numbers before k say
module _ (c : After-from) where
  abbrev K : ℕ → Key
  K = key_in c.args.keys.rows.now

  abbrev N : ℕ
  N = length c.args.keys.links.now

  chain : Last N K (bucket N (K c.loop-k.k)) c.loop-k.k c.from.result
  chain = chain_from N K c.args.keys.links.now _ _ _ c.args.keys.linked (omega arith) c.from.ensures

  whole : {r : ℕ} → Seeks K c.loop-k.k c.from.result r → Sought K c.loop-k.k r
  whole x = chain_sought N K _ _ chain _ x

pub loop-k-init : goal.loop-k-init
loop-k-init c = (search rules, λ a b l m e. omega arith)

pub seek-r-requires : goal.seek-r-requires
seek-r-requires c =
    let last = chain (goal.at.seek-r-requires c).After-from in
    record {
      k_lt_rows = (omega (arith, c.args.keys.few.0), (omega (arith, c.args.keys.few.1.0), last.within));
      linked = λ a l. c.args.keys.linked a (omega arith);
      tagged = (c.args.keys.linked c.loop-k.k (omega arith)).1;
      kin = last.kin;
    }

pub returns-then-r-gt0 : goal.returns-then-r-gt0
returns-then-r-gt0 c =
    let from = (goal.at.returns-then-r-gt0 c).After-from in
    tells_twice _ _ (found_twice _ _ c.loop-k.k c.seek-r.result (omega arith) (whole from c.seek-r.ensures.seeks)
    (c.seek-r.ensures.upper_bound (omega (arith, (chain from).within))) (omega arith))

pub loop-k-preserved : goal.loop-k-preserved
loop-k-preserved c = (
  omega arith,
  apart_turn _ _ _ c.loop-k.invariant.1 (whole (goal.at.loop-k-preserved c).After-from c.seek-r.ensures.seeks)
      (omega arith),
)

pub returns : goal.returns
returns c = tells_apart _ _ (λ a b l m e. c.loop-k.invariant.1 a b l (omega arith) e)
