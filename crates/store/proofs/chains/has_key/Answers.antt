-- A key has one tag: where the tags differ, the keys do.
use mathlib.Core.Bool.{Bool, true, false}
use mathlib.Core.Path.{◌≡◌, refl, sym, ap, ap₂, ◌∙◌}
use Rattle.store.specs.Held.{Key, same_key}
use Rattle.store.specs.Keys.{tag_of}
use Rattle.store.specs.Rows.{key_in}
use Rattle.store.proofs.HeldLaws.{same_eq}
use Rattle.store.proofs.chains.has_key.Goals as goal

apart : (a b : Key) → (tag_of a ≡ tag_of b → ⊥) → (t : Bool) → same_key a b ≡ t → false ≡ same_key a b
apart a b n true e = absurd (n (ap tag_of (same_eq a b e)))
apart a b n false e = sym e

pub returns-then-links-a : goal.returns-then-links-a
returns-then-links-a c =
    let args = c.args in
    let tagged = c.requires.tagged in
    apart (key_in args.rows.now args.a) (key_in args.rows.now args.k)
    (λ e. c.if-links-a.true (tagged.0 ∙ e ∙ sym tagged.1)) _ refl

pub returns : goal.returns
unfolding same_key
returns c = c.eq.ensures ∙ ap₂ same_key c.key.ensures c.key-2.ensures
