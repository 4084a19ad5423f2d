-- Laws of wanted lines: the first text in another, what is read behind it, and that a wanted line has a byte and a
-- UUID of 128 bits.
-- Assumes nothing.
use Rattle.std.specs.Prelude.{Some, None}
use mathlib.Core.Bool.{Bool, true, false}
use mathlib.Core.List.{List, [], ◌∷◌}
use mathlib.Core.Path.{◌≡◌, refl, sym, ◌∙◌}
use Prim.Native.Nat.{ℕ, ◌+◌, ◌-◌, ◌≤◌}
use native.Mathlib.Omega.{arith}
use lib.ListN.{length, take, drop}
use borrow.Author.Tests.{eq-eqb, ne_eqb}
use Rattle.text.proofs.BytesLaws.{first_le}
use Rattle.text.proofs.LentLaws.{tail_length}
use Rattle.text.proofs.SmallLaws.{uuid_small}
use Rattle.text.specs.Bytes.{byte, same, first_of}
use Rattle.text.specs.Uuid.{Small}
use Rattle.text.specs.Uuid.{uuid_of}
use Rattle.text.specs.declared.uuid.Spelled.{Spelled}
use Rattle.store.specs.Lines.{platform, for_platform, wanted}
use Rattle.line.specs.Fields.{first_field}
use Rattle.text.specs.Search.{first_text, platform_key}
use Rattle.text.proofs.SeekLaws.{text_within}

-- ---- the platform

module _ (l : List ℕ) where
  pub platform-none : first_text platform_key l ≡ length l → for_platform l ≡ true
  unfolding for_platform
  platform-none e = rw (eq-eqb _ _ e)

  pub platform-some : (first_text platform_key l ≡ length l → ⊥)
      → for_platform l ≡ same (first_field (drop (first_text platform_key l + length platform_key) l)) platform
  unfolding for_platform
  platform-some n = rw (ne_eqb _ _ n)

-- where `platform:` stands at `at`, it lies within the line, and so does what follows up to a comma
module _ (l : List ℕ) {at : ℕ} (e : at ≡ first_text platform_key l) (n : at ≡ length l → ⊥) where
  pub key_within : at + 9 ≤ length l
  key_within = omega (arith, e, text_within platform_key l (λ q. n (e ∙ q)))

  pub value_within : {end : ℕ} → end ≡ first_of (byte ",") (take (length l - (at + 9)) (drop (at + 9) l))
      → at + 9 + end ≤ length l
  value_within f = omega (
    arith,
    key_within,
    f,
    first_le (byte ",") (take (length l - (at + 9)) (drop (at + 9) l)),
    tail_length (at + 9) l,
  )

-- ---- the UUID

pub wanted-not : (l : List ℕ) → for_platform l ≡ false → wanted l ≡ None
unfolding wanted
wanted-not l e = rw e

pub wanted_is : (l : List ℕ) → for_platform l ≡ true → wanted l ≡ uuid_of (first_field l)
unfolding wanted
wanted_is l e = rw e

pub wanted_uuid : (l : List ℕ) (u : Spelled) → wanted l ≡ Some u → uuid_of (first_field l) ≡ Some u
wanted_uuid l u e = go (for_platform l) refl
  where
    go : (t : Bool) → for_platform l ≡ t → uuid_of (first_field l) ≡ Some u
    go true p = sym (wanted_is l p) ∙ e
    go false p = let q : None ≡ Some u = sym (wanted-not l p) ∙ e in let z : ◌≡◌ {A = ℕ} 0 1 = cc in
        absurd (omega arith)

pub wanted-some : (l : List ℕ) (u : Spelled) → wanted l ≡ Some u → 1 ≤ length l
wanted-some [] u e = let q : None ≡ Some u = sym none ∙ wanted_uuid [] u e in let z : ◌≡◌ {A = ℕ} 0 1 = cc in
    absurd (omega arith)
  where
    none : uuid_of (first_field []) ≡ None
    none = unfold uuid_of first_of in refl
wanted-some (b ∷ l) u e = omega arith

pub wanted_small : (l : List ℕ) (u : Spelled) → wanted l ≡ Some u → Small u.id
wanted_small l u e = uuid_small (first_field l) u (wanted_uuid l u e)
