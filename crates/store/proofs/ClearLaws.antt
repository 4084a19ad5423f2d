-- The exits of `clear`.
-- Assumes nothing.
use Rattle.std.specs.Prelude.{Result, Ok, Err, ⊤}
use mathlib.Core.Bool.{Bool, true, false}
use mathlib.Core.List.{List}
use mathlib.Core.Path.{◌≡◌, sym, ap, ap₂, ◌∙◌}
use Prim.Native.Nat.{ℕ, ◌≤◌, ◌<◌}
use lib.Dec.{leb}
use lib.ListN.{length, replicate}
use borrow.Author.Tests.{lt-leb, le-leb}
use Rattle.text.specs.Bytes.{pick}
use Rattle.store.specs.Held.{index_max, text_max}
use Rattle.store.specs.Store.{Done, fitting, store_clear}
use Rattle.store.proofs.BoolLaws.{and_both, and_false_left, and_false_right}
use Rattle.store.specs.declared.calls.StoreError.TheVariants as E
use Rattle.store.specs.declared.calls.StoreError.{StoreError}

module _ (i t : List ℕ) where
  abbrev kept : Done (Result ⊤ StoreError)
  kept = record { answer = Err E.BufferTooLarge; index = i; text = t }

  cleared_if : (b : Bool) → fitting i t ≡ b
      → store_clear i t ≡ pick b (record
      { answer = Ok tt; index = replicate (length i) 0; text = replicate (length t) 0 }) kept
  unfolding store_clear
  cleared_if b e = ap (λ (c : Bool). pick c
      (record { answer = Ok tt; index = replicate (length i) 0; text = replicate (length t) 0 }) kept) e

  pub clear_index : index_max < length i → kept ≡ store_clear i t
  clear_index l = sym (cleared_if false (and_false_left _ _ (lt-leb _ index_max l)))

  pub clear_text : text_max < length t → kept ≡ store_clear i t
  clear_text l = sym (cleared_if false (and_false_right (leb (length i) index_max) _ (lt-leb _ text_max l)))

  pub clear_done : length i ≤ index_max → length t ≤ text_max → (i' t' : List ℕ) → i' ≡ replicate (length i) 0
      → t' ≡ replicate (length t) 0
      → record { answer = Ok tt; index = i'; text = t' } ≡ store_clear i t
  clear_done li lt i' t' ei et =
      ap₂ (λ (x y : List ℕ). record { answer = Ok tt; index = x; text = y }) ei et
      ∙ sym (cleared_if true (and_both _ _ (le-leb _ index_max li) (le-leb _ text_max lt)))
