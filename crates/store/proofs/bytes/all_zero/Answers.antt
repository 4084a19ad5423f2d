-- One byte more, and its test.
use Rattle.std.proofs.Common.{◌≡◌, subst, refl, rules}
use Rattle.std.proofs.lemmas.Fn.{fold_over, slice_gives, fronts}
use Rattle.store.specs.Decode.{zeroes}
use Rattle.store.proofs.ByteLaws.{zeroes_push}
use Rattle.store.proofs.bytes.all_zero.Goals as goal

pub returns : goal.returns
unfolding zeroes
returns c = subst (λ l. c.fold.result ≡ zeroes l) c.iter.ensures.rest
    (fold_over fronts (λ y. y.now) _ (λ ys b. b ≡ zeroes ys) _
    (λ ys a x b f' j k. let more = zeroes_push ys x.now in search rules)
    _ _ _ _ (slice_gives c.iter.result) refl c.fold.ensures.ran)
