-- The two tests of 23, else both buffers are zeroes.
use Rattle.store.proofs.ClearLaws.{clear_index, clear_text, clear_done}
use Rattle.store.proofs.calls.clear.Goals as goal

pub returns-then-index-gt-INDEX_MAX : goal.returns-then-index-gt-INDEX_MAX
returns-then-index-gt-INDEX_MAX c =
    let args = c.args in
    clear_index args.index.now args.text.now c.if-index-gt-INDEX_MAX.true

pub returns-then-text-gt-TEXT_MAX : goal.returns-then-text-gt-TEXT_MAX
returns-then-text-gt-TEXT_MAX c =
    let args = c.args in
    clear_text args.index.now args.text.now c.if-text-gt-TEXT_MAX.true

pub returns : goal.returns
returns c =
    let args = c.args in
    let if1 = c.if-index-gt-INDEX_MAX in
    let if2 = c.if-text-gt-TEXT_MAX in
    clear_done args.index.now args.text.now if1.false if2.false _ _ (c.fill.ensures.after (λ y e. e))
    (c.fill-2.ensures.after (λ y e. e))
