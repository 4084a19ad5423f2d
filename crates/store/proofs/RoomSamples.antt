-- 21 at the border, computed: the records are added up as they would then stand.
-- Assumes nothing.
use mathlib.Core.Bool.{false, true}
use mathlib.Core.List.{List, [], ◌∷◌, ◌++◌}
use mathlib.Core.Path.{◌≡◌, refl}
use Prim.Native.Nat.{ℕ}
use lib.ListN.{replicate}
use Rattle.text.specs.declared.uuid.Uuid.{Uuid}
use Rattle.store.specs.Book.{caller, under, record_sizes, no_index_of}
use Rattle.store.specs.Held.{Held, same_key, strike, file}
use Rattle.store.specs.Shares.{no_shares, share_sizes}

id : ℕ → Uuid
id n = record { high = 0; low = n }

-- a line of the hall of so many bytes
line : ℕ → ℕ → Held
line n k = under 0 (id n) (replicate k 97)

-- four lines of the hall
four : ℕ → List Held
four k = line 1 k ∷ line 2 k ∷ line 3 k ∷ line 4 k ∷ []

module _ where
  -- a line of 40 bytes is held, and is filed again as it is: it goes last, to 65536, and its record grows by two bytes
  grows : no_index_of (caller 105 70000 no_shares 0) (line 0 40) (line 0 40 ∷ four 16384) ≡ true
  unfolding no_index_of record_sizes share_sizes strike file same_key id line four
  grows = refl

  grows_fits : no_index_of (caller 107 70000 no_shares 0) (line 0 40) (line 0 40 ∷ four 16384) ≡ false
  unfolding no_index_of record_sizes share_sizes strike file same_key id line four
  grows_fits = refl

  -- a line at 65572 has a record of 23 bytes; once the first line, of 40 bytes, is filed anew behind it, it starts at
  -- 65532 and has 21. So the six records have 128 bytes, the new one 23 of them, and not 130
  shrinks : no_index_of (caller 128 70000 no_shares 0) (line 0 41) (line 0 40 ∷ (four 16383 ++ (line 5 40 ∷ []))) ≡ false
  unfolding no_index_of record_sizes share_sizes strike file same_key id line four
  shrinks = refl

  shrinks_enough : no_index_of (caller 127 70000 no_shares 0) (line 0 41) (line 0 40 ∷ (four 16383 ++ (line 5 40 ∷ [])))
      ≡ true
  unfolding no_index_of record_sizes share_sizes strike file same_key id line four
  shrinks_enough = refl

  -- a line at 65535 is near, one at 65536 is not
  at_65535 : record_sizes 65535 (line 0 1 ∷ []) ≡ 21
  unfolding record_sizes line
  at_65535 = refl

  at_65536 : record_sizes 65536 (line 0 1 ∷ []) ≡ 23
  unfolding record_sizes line
  at_65536 = refl
