-- Room for a line, in the numbers that `file_row` goes by: where the records end with it, and what all parties then
-- claim.
-- Assumes nothing.
use Rattle.std.specs.Prelude.{Result, Ok, Err, ⊤}
use mathlib.Core.Bool.{Bool, true, false}
use mathlib.Core.List.{List}
use mathlib.Core.Path.{◌≡◌, refl, sym, ap, ap₂, ◌∙◌}
use Prim.Native.Nat.{ℕ, ◌+◌, ◌-◌, ◌≤◌, ◌<◌}
use native.Mathlib.Omega.{arith}
use lib.Dec.{ltb}
use lib.ListN.{length}
use borrow.Author.Tests.{ltb-true, ltb-false, lt-ltb, le-ltb}
use Rattle.text.specs.Bytes.{pick}
use Rattle.store.specs.declared.claims.Dues.{Dues}
use Rattle.store.specs.declared.table.Fill.{Fill}
use Rattle.store.specs.Book.{room_for}
use Rattle.store.specs.Claims.{Owed}
use Rattle.store.specs.Held.{Held, file}
use Rattle.store.specs.Inner.{sizes, behind}
use Rattle.store.specs.Layout.{texts}
use Rattle.store.specs.Shares.{larger, claims}
use Rattle.store.specs.Table.{room_by}
use Rattle.store.proofs.ClaimLaws.{not_of-file, lengths-texts}
use Rattle.store.proofs.RoomLaws.{fits_index, fits_claims, index_full, text_full, both_fit}
use Rattle.store.specs.declared.table.Full.TheVariants as R
use Rattle.store.specs.declared.table.Full.{Full}

-- ---- the two tests of `room`, in order

module _ (d : Dues) (n m : ℕ) (f : Fill) where
  abbrev told : Bool → Bool → Result ⊤ Full
  told b c = pick b (Err R.Index) (pick c (Err R.Text) (Ok tt))

  pub lacks_index : n < f.end → Err R.Index ≡ room_by d n m f
  unfolding room_by
  lacks_index l = sym (ap (λ (b : Bool). told b (ltb m (d.others + larger (f.used - d.theirs) d.share)))
      (lt-ltb n f.end l))

  module _ (l : f.end ≤ n) (all : ℕ) (e : all ≡ d.others + larger (f.used - d.theirs) d.share) where
    pub lacks_text : m < all → Err R.Text ≡ room_by d n m f
    unfolding room_by
    lacks_text k = sym (ap₂ told (le-ltb n f.end l) (ap (ltb m) (sym e) ∙ lt-ltb m all k))

    pub lacks_none : all ≤ m → Ok tt ≡ room_by d n m f
    unfolding room_by
    lacks_none k = sym (ap₂ told (le-ltb n f.end l) (ap (ltb m) (sym e) ∙ le-ltb m all k))

-- ---- and what they are of the book

module _ (g i t : List ℕ) (h : Held) (hs : List Held) (d : Dues) (owed : Owed g h.key.owner hs d) (f : Fill)
    (ends : f.end ≡ sizes 0 (file h hs)) (uses : f.used ≡ length (texts (file h hs))) where
  pub others_less : d.theirs ≤ f.used
  others_less = omega (arith, uses, lengths-texts (file h hs), owed.least (file h hs) (not_of-file h hs))

  abbrev claimed : ℕ
  claimed = d.others + larger (f.used - d.theirs) d.share

  claimed_is : d.others + larger (f.used - d.theirs) d.share ≡ claims g (file h hs)
  claimed_is =
      ap (λ (v : ℕ). d.others + larger (v - d.theirs) d.share) (uses ∙ sym (lengths-texts (file h hs)))
      ∙ owed.sum (file h hs) (not_of-file h hs)

  pub room_is : room_by d (length i) (length t) f ≡ room_for (behind g i t h.key.owner) h hs
  unfolding room_by
  room_is = go (ltb (length i) f.end) (ltb (length t) claimed) refl refl
    where
      go : (b c : Bool) → ltb (length i) f.end ≡ b → ltb (length t) claimed ≡ c
          → ◌≡◌ {A = Result ⊤ Full} (pick b (Err R.Index) (pick c (Err R.Text) (Ok tt)))
          (room_for (behind g i t h.key.owner) h hs)
      go true c e q = sym (index_full (behind g i t h.key.owner) h hs
          (omega (arith, ends, ltb-true (length i) f.end e)))
      go false true e q = sym (text_full (behind g i t h.key.owner) h hs
          (omega (arith, ends, ltb-false (length i) f.end e))
          (omega (arith, claimed_is, ltb-true (length t) claimed q)))
      go false false e q = sym (both_fit (behind g i t h.key.owner) h hs
          (omega (arith, ends, ltb-false (length i) f.end e))
          (omega (arith, claimed_is, ltb-false (length t) claimed q)))

  -- where there is room
  module _ (e : room_by d (length i) (length t) f ≡ Ok tt) where
    pub index_there : f.end ≤ length i
    index_there = omega (arith, ends, fits_index (behind g i t h.key.owner) h hs (sym room_is ∙ e))

    pub text_there : length (texts (file h hs)) ≤ length t
    text_there = omega (
      arith,
      fits_claims (behind g i t h.key.owner) h hs (sym room_is ∙ e),
      lengths-texts (file h hs),
      owed.used (file h hs) (not_of-file h hs),
    )
