-- One byte more, and its test.
use Rattle.std.proofs.Common.{◌≡◌, ℕ, Bool, true, subst, rules}
use Rattle.std.specs.List.{All}
use Rattle.std.proofs.lemmas.Fn.{fold_over, slice_gives, fronts}
use Rattle.std.proofs.lemmas.List.Elements.{All-nil}
use Rattle.text.proofs.SeekLaws.{one_passes}
use Rattle.text.proofs.search.all_pass.Goals as goal

pub returns : goal.returns
returns g c =
    let P = λ (b : ℕ) (t : Bool). goal.F-post g c.args.test.now b t in
    subst (λ l. c.fold.result ≡ true → All (λ b. P b true) l) c.iter.ensures.rest
    (fold_over fronts (λ y. y.now) _ (λ ys b. b ≡ true → All (λ b. P b true) ys) _
    (λ ys a x b f' j k. (one_passes P ys x.now a b j (search rules), search rules))
    _ _ _ _ (slice_gives c.iter.result) (λ e. All-nil (λ b. P b true)) c.fold.ensures.ran)
