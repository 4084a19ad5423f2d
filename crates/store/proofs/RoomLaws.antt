-- Document 01's and 02's sums: there is room exactly when the records of the shares and of the filed list, as they would
-- then stand, fit in the index, and what all parties then claim fits in the text.
-- Assumes nothing.
use Rattle.std.specs.Prelude.{Result, Ok, Err, ⊤}
use mathlib.Core.Bool.{Bool, true, false}
use mathlib.Core.List.{List, [], ◌∷◌, ◌++◌}
use mathlib.Core.Path.{◌≡◌, refl, sym, ap, ap₂, ◌∙◌}
use Prim.Native.Nat.{ℕ, ◌+◌, ◌≤◌, ◌<◌}
use native.Mathlib.Omega.{arith}
use lib.Dec.{eqb, ltb}
use lib.ListN.{length, length-append}
use borrow.Author.Tests.{ltb-false, lt-ltb, le-ltb}
use Rattle.text.specs.Bytes.{pick}
use Rattle.store.specs.Book.{Caller, record_sizes, no_index_of, no_text, room_for, by_room}
use Rattle.store.specs.Inner.{sizes}
use Rattle.store.specs.Held.{Held, file, is_long, record_size}
use Rattle.store.specs.Shares.{claims, share_sizes}
use Rattle.store.specs.Layout.{share_records, records}
use Rattle.store.proofs.RecordLaws.{length-record}
use Rattle.store.proofs.RowLaws.{sizes_cons, sizes-none}
use Rattle.store.proofs.ShareLaws.{length_shares}
use Rattle.store.specs.declared.table.Full.TheVariants as R
use Rattle.store.specs.declared.table.Full.{Full}

-- each takes some
pub size_least : (o off : ℕ) → 1 ≤ record_size o off
size_least o off = go (is_long off) (eqb o 0)
  where
    go : (b c : Bool) → 1 ≤ pick b (pick c 23 24) (pick c 21 22)
    go true true = omega arith
    go true false = omega arith
    go false true = omega arith
    go false false = omega arith

pub sizes_sum : (hs : List Held) (off : ℕ) → sizes off hs ≡ record_sizes off hs
unfolding record_sizes
sizes_sum [] off = sizes-none off
sizes_sum (h ∷ hs) off =
    sizes_cons off h hs
    ∙ ap₂ (λ (x y : ℕ). x + y) (length-record h.key off (length h.line))
    (sizes_sum hs (off + length h.line))

-- ---- what there is room for fits

pub index_not : ◌≡◌ {A = Result ⊤ Full} (Err R.Index) (Ok tt) → ⊥
index_not e = let z : ◌≡◌ {A = ℕ} 0 1 = ap (λ (r : Result ⊤ Full). by_room r 0 0 1) e in absurd (omega arith)

pub text_not : ◌≡◌ {A = Result ⊤ Full} (Err R.Text) (Ok tt) → ⊥
text_not e = let z : ◌≡◌ {A = ℕ} 0 1 = ap (λ (r : Result ⊤ Full). by_room r 0 0 1) e in absurd (omega arith)

both_false : (a b : Bool) → ◌≡◌ {A = Result ⊤ Full} (pick a (Err R.Index) (pick b (Err R.Text) (Ok tt))) (Ok tt) → (a ≡ false) × (b ≡ false)
both_false true b e = absurd (index_not e)
both_false false true e = absurd (text_not e)
both_false false false e = (refl, refl)

module _ (c : Caller) (h : Held) (hs : List Held) where
  pub fits_index : room_for c h hs ≡ Ok tt → share_sizes c.shares + sizes 0 (file h hs) ≤ c.index
  unfolding room_for no_index_of
  fits_index e = omega (
    arith,
    sizes_sum (file h hs) 0,
    ltb-false c.index _ (both_false _ (no_text c h hs) e).0,
  )

  pub fits_claims : room_for c h hs ≡ Ok tt → claims c.shares (file h hs) ≤ c.text
  unfolding room_for no_text
  fits_claims e = ltb-false c.text (claims c.shares (file h hs)) (both_false (no_index_of c h hs) _ e).1

  -- and it is told so
  pub index_full : c.index < share_sizes c.shares + sizes 0 (file h hs) → room_for c h hs ≡ Err R.Index
  unfolding room_for no_index_of
  index_full l = ap (λ (b : Bool). pick b (Err R.Index) (pick (no_text c h hs) (Err R.Text) (Ok tt)))
      (lt-ltb c.index _ (omega (arith, sizes_sum (file h hs) 0)))

  module _ (l : share_sizes c.shares + sizes 0 (file h hs) ≤ c.index) where
    within : no_index_of c h hs ≡ false
    unfolding no_index_of
    within = le-ltb c.index _ (omega (arith, sizes_sum (file h hs) 0))

    pub text_full : c.text < claims c.shares (file h hs) → room_for c h hs ≡ Err R.Text
    unfolding room_for no_text
    text_full m = ap₂ (λ (a b : Bool). pick a (Err R.Index) (pick b (Err R.Text) (Ok tt))) within
        (lt-ltb c.text (claims c.shares (file h hs)) m)

    pub both_fit : claims c.shares (file h hs) ≤ c.text → room_for c h hs ≡ Ok tt
    unfolding room_for no_text
    both_fit m = ap₂ (λ (a b : Bool). pick a (Err R.Index) (pick b (Err R.Text) (Ok tt))) within
        (le-ltb c.text (claims c.shares (file h hs)) m)

-- ---- exactly when the encoding of the filed list fits

-- the records of the shares and of the filed list, as they would lie in the index, and what is then claimed of the text
pub room_fits : (c : Caller) (h : Held) (hs : List Held)
    → room_for c h hs
    ≡ pick (ltb c.index (length (share_records 0 c.shares ++ records 0 (file h hs)))) (Err R.Index)
    (pick (ltb c.text (claims c.shares (file h hs))) (Err R.Text) (Ok tt))
unfolding room_for no_index_of no_text
room_fits c h hs =
    ap (λ (k : ℕ). pick (ltb c.index k) (Err R.Index)
    (pick (ltb c.text (claims c.shares (file h hs))) (Err R.Text) (Ok tt))) (sym long)
  where
    long : length (share_records 0 c.shares ++ records 0 (file h hs))
        ≡ share_sizes c.shares + record_sizes 0 (file h hs)
    long =
        length-append (share_records 0 c.shares) (records 0 (file h hs))
        ∙ ap₂ (λ (x y : ℕ). x + y) (length_shares 0 c.shares) (sizes_sum (file h hs) 0)
