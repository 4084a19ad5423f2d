-- Lines taken out, computed by the definitions.
-- Assumes nothing.
use Rattle.std.specs.Prelude.{Ok, Err}
use mathlib.Core.Bool.{false, true}
use mathlib.Core.Path.{◌≡◌, refl}
use mathlib.Core.List.{List, [], ◌∷◌, ◌++◌}
use Prim.Native.Nat.{ℕ}
use lib.ListN.{replicate}
use Rattle.text.specs.Bytes.{ascii}
use Rattle.text.specs.Uuid.{big_endian}
use Rattle.text.specs.declared.uuid.Uuid.{Uuid}
use Rattle.store.specs.declared.parties.Party.TheVariants as P
use Rattle.store.specs.Held.{key_by, same_key, strike, holds, distinct}
use Rattle.store.specs.Layout.{record_bytes, records, texts, padded, share_records, encode_index, encode_text}
use Rattle.store.specs.Decode.{body_at, kind_at, head_at, head_fits, zeroes, walk, decode, front_share, is_share_of}
use Rattle.store.specs.Decode.{is_long_share_of, shares_at, content}
use Rattle.store.specs.Store.{unchanged}
use Rattle.store.specs.Removing.{remove_by, store_remove}
use Rattle.store.specs.declared.calls.LookError.TheVariants as L

nil : Uuid
nil = record { high = 0; low = 0 }

one : Uuid
one = record { high = 0; low = 1 }

-- the record of an owner's line under a UUID, at an offset, with a length
rec : ℕ → Uuid → ℕ → ℕ → List ℕ
rec o k off len = record_bytes (key_by o k) off len

-- organiser 3 has a share of 5 bytes; the hall and organiser 3 have a line under one UUID, and the hall another one
index : List ℕ
index = 4 ∷ 3 ∷ 0 ∷ 5 ∷ (rec 0 nil 0 1 ++ (rec 3 nil 1 2 ++ rec 0 one 3 1))

module _ where
  -- the smallest store: one line of one byte
  only_line : store_remove (rec 0 nil 0 1) (ascii "a") P.Hall nil
      ≡ record { answer = Ok true; index = replicate 21 0; text = 0 ∷ [] }
  unfolding store_remove remove_by content shares_at front_share is_share_of is_long_share_of decode walk head_at
      kind_at head_fits body_at zeroes distinct holds same_key strike encode_index share_records encode_text records texts
      padded record_bytes big_endian rec nil
  only_line = refl

  -- the others move down, in their order, and the share stays
  first_of_three : store_remove index (ascii "abbc") P.Hall nil
      ≡ record {
        answer = Ok true;
        index = 4 ∷ 3 ∷ 0 ∷ 5 ∷ (rec 3 nil 0 2 ++ (rec 0 one 2 1 ++ replicate 21 0));
        text = ascii "bbc" ++ (0 ∷ []);
      }
  unfolding store_remove remove_by content shares_at front_share is_share_of is_long_share_of decode walk head_at
      kind_at head_fits body_at zeroes distinct holds same_key strike encode_index share_records encode_text records texts
      padded record_bytes big_endian rec nil one index
  first_of_three = refl

  -- an organiser's own, and not the hall's under that UUID
  of_organiser : store_remove index (ascii "abbc") (P.Organiser 3) nil
      ≡ record {
        answer = Ok true;
        index = 4 ∷ 3 ∷ 0 ∷ 5 ∷ (rec 0 nil 0 1 ++ (rec 0 one 1 1 ++ replicate 22 0));
        text = ascii "ac" ++ (0 ∷ 0 ∷ []);
      }
  unfolding store_remove remove_by content shares_at front_share is_share_of is_long_share_of decode walk head_at
      kind_at head_fits body_at zeroes distinct holds same_key strike encode_index share_records encode_text records texts
      padded record_bytes big_endian rec nil one index
  of_organiser = refl

  none_held : store_remove index (ascii "abbc") (P.Organiser 3) one ≡ unchanged index (ascii "abbc") (Ok false)
  unfolding store_remove remove_by content shares_at front_share is_share_of is_long_share_of decode walk head_at
      kind_at head_fits body_at zeroes distinct holds same_key record_bytes big_endian rec nil one index
  none_held = refl

  -- 19, and before it 24
  damaged : store_remove (9 ∷ []) (ascii "a") P.Hall nil ≡ unchanged (9 ∷ []) (ascii "a") (Err L.Unsound)
  unfolding store_remove remove_by content shares_at front_share is_share_of is_long_share_of decode walk head_at
      kind_at zeroes nil
  damaged = refl

  nobody : store_remove (9 ∷ []) (ascii "a") (P.Organiser 0) nil ≡ unchanged (9 ∷ []) (ascii "a") (Err L.NoOwner)
  unfolding store_remove
  nobody = refl
