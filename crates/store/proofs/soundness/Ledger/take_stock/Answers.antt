-- The tests are those of `content`, in its order; the lines are walked in the part behind the shares.
use mathlib.Core.Bool.{Bool}
use mathlib.Core.Path.{◌≡◌, sym, ◌∙◌}
use Prim.Native.Nat.{◌≤◌}
use native.Mathlib.Omega.{arith}
use lib.ListN.{length}
use borrow.Author.Rules.{rules}
use Rattle.store.specs.Decode.{content}
use Rattle.store.specs.Inner.{known}
use Rattle.store.specs.Keys.{Tells}
use Rattle.store.specs.Rows.{key_in}
use Rattle.store.proofs.LoadLaws.{enough_less}
use Rattle.store.proofs.SurveyLaws.{stock_text, part_less, stock_none, stock_once, stock_walked}
use Rattle.store.proofs.soundness.Ledger.take_stock.Goals.{Else-text-gt-TEXT_MAX, In_ok-seen}
use Rattle.store.proofs.soundness.Ledger.take_stock.Goals as goal

pub returns-then-text-gt-TEXT_MAX : goal.returns-then-text-gt-TEXT_MAX
returns-then-text-gt-TEXT_MAX g c =
    stock_text c.args.index.now c.args.text.now c.requires.enough.within c.if-text-gt-TEXT_MAX.true

-- as many rows as the type says
most : (g : _) (c : Else-text-gt-TEXT_MAX g) → g.row.N ≤ 65535
most g c =
    let long : length c.args.self.now.table.rows ≡ g.row.N = search rules in
    omega (arith, c.requires.enough.most, long)

pub survey-requires : goal.survey-requires
survey-requires g c =
    let few = most g (goal.at.survey-requires g c).Else-text-gt-TEXT_MAX in (
      search rules,
      (
        enough_less (part_less c.read_shares-front.ensures c.requires.enough.within) c.requires.enough,
        (c.if-text-gt-TEXT_MAX.false, c.requires.fresh.chained),
      ),
    )

pub returns-in_err-seen : goal.returns-in_err-seen
returns-in_err-seen g c =
    rw c.from_residual.ensures (stock_none c.read_shares-front.ensures c.requires.enough.within _
    c.if-text-gt-TEXT_MAX.false c.in_err-seen.ensures.once)

-- the store is sound where each key stands once
once : (g : _) (c : In_ok-seen g) {b : Bool} → Tells (key_in c.survey.new.table.rows) c.in_ok-seen.seen.fill.count b
    → b ≡ known (content c.args.index.now c.args.text.now)
once g c x = stock_once c.read_shares-front.ensures c.requires.enough.within c.in_ok-seen.ensures.once
    c.if-text-gt-TEXT_MAX.false (λ k. search rules) x

pub returns-then-not-each_once : goal.returns-then-not-each_once
returns-then-not-each_once g c =
    sym (once g (goal.at.returns-then-not-each_once g c).In_ok-seen c.each_once.ensures) ∙ c.if-not-each_once.true

pub returns : goal.returns
returns g c = record {
  is = sym (once g (goal.at.returns g c).In_ok-seen c.each_once.ensures) ∙ c.if-not-each_once.false;
  front = c.read_shares-front.ensures;
  most = c.requires.enough.within;
  loads = stock_walked c.read_shares-front.ensures c.requires.enough.within c.in_ok-seen.ensures.once;
}
