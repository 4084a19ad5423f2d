-- A filing that leaves its party within its share is never refused for text: it changes what its own party claims and
-- nobody else's, and that is then the share, which it was at least before.
-- Assumes nothing.
use Rattle.std.specs.Prelude.{Result, Ok, Err, ⊤, Some}
use mathlib.Core.Bool.{Bool, true, false}
use mathlib.Core.List.{List, ◌∷◌, ◌++◌}
use mathlib.Core.Path.{◌≡◌, refl, sym, ap, subst, ◌∙◌}
use Prim.Native.Nat.{ℕ, suc, ◌≤◌, ◌<◌}
use native.Mathlib.Omega.{arith}
use lib.ListN.{length, get_or}
use borrow.Author.Tests.{le-ltb}
use Rattle.text.specs.Bytes.{pick}
use Rattle.text.specs.Utf8.{is_utf8}
use Rattle.text.specs.declared.uuid.Spelled.{Spelled}
use Rattle.store.specs.declared.calls.Inserted.{Inserted}
use Rattle.store.specs.declared.calls.Tally.{Tally}
use Rattle.store.specs.Parties.{owner_of, Named}
use Rattle.store.specs.Held.{Held, file, index_max, text_max, line_max}
use Rattle.store.specs.Shares.{use_of, claims}
use Rattle.store.specs.Lines.{lines_of, wanted}
use Rattle.store.specs.Refusals.{number}
use Rattle.store.specs.Book.{Caller, no_index_of, no_text, room_for, by_room, Turn, under, insert_turn, insert_lines}
use Rattle.store.specs.Book.{inserted_of, insert, save, Reply, inserted, saved, number_of}
use Rattle.store.specs.Saves.{SaveCall, Passes, refused_save, saving}
use Rattle.store.specs.Guarantee.{Calls, booked, book_lines, caller_after, next, built_held, built_save}
use Rattle.store.specs.SharesKept.{share_after, AllKept}
use Rattle.store.proofs.BookLaws.{owner_byte, Fits, keeps_lines, fits_lines}
use Rattle.store.proofs.ClaimLaws.{larger_most, larger_share, not_of-file, claims_swap}
use Rattle.store.proofs.Saves.{builds, whole_guarantee}
use Rattle.store.proofs.StoreLaws.{still_fits}
use Rattle.store.proofs.WalkLaws.{count_least}
use Rattle.store.specs.declared.calls.StoreError.TheVariants as E
use Rattle.store.specs.declared.calls.SaveError.TheVariants as Sv
use Rattle.store.specs.declared.table.Full.TheVariants as R
use Rattle.store.specs.declared.table.Full.{Full}

-- ---- one filing

module _ (c : Caller) (h : Held) (hs : List Held) (byte : h.key.owner < length c.shares)
    (before : claims c.shares hs ≤ c.text)
    (within : use_of h.key.owner (file h hs) ≤ get_or c.shares h.key.owner 0) where
  abbrev o : ℕ
  o = h.key.owner

  abbrev share : ℕ
  share = get_or c.shares o 0

  no_more : claims c.shares (file h hs) ≤ claims c.shares hs
  no_more = omega (
    arith,
    claims_swap o c.shares hs (file h hs) byte (not_of-file h hs),
    larger_most (use_of o (file h hs)) share share within (omega arith),
    larger_share (use_of o hs) share,
  )

  enough : no_text c h hs ≡ false
  unfolding no_text
  enough = le-ltb c.text (claims c.shares (file h hs)) (omega (arith, no_more, before))

  pub never_text : room_for c h hs ≡ Err R.Text → ⊥
  unfolding room_for
  never_text e =
      go (no_index_of c h hs)
      (sym (ap (λ (b : Bool). pick (no_index_of c h hs) (Err R.Index) (pick b (Err R.Text) (Ok tt))) enough) ∙ e)
    where
      go : (b : Bool) → ◌≡◌ {A = Result ⊤ Full} (pick b (Err R.Index) (Ok tt)) (Err R.Text) → ⊥
      go true q = let z : ◌≡◌ {A = ℕ} 0 1 = cc in absurd (omega arith)
      go false q = let z : ◌≡◌ {A = ℕ} 0 1 = cc in absurd (omega arith)

-- ---- after every list of calls

module _ (n m : ℕ) (ln : n ≤ index_max) (lm : m ≤ text_max) (xs : Calls) where
  fits : Fits n m (booked n m xs).content
  fits = still_fits n m ln lm saving builds xs

  -- an owner is one of those that have a share
  has_share : (p : Named) (o : ℕ) → owner_of p.party ≡ Some o → o < length (booked n m xs).content.shares
  has_share p o own = omega (arith, owner_byte p o own, fits.given.each)

  save_keeps : (p : Named) (o : ℕ) → owner_of p.party ≡ Some o → (c : SaveCall) → Passes c.args
      → use_of o (file (built_held o c.args) (book_lines n m xs)) ≤ share_after n m xs o
      → number_of (next n m xs (save p c)).answer ≡ 25 → ⊥
  save_keeps p o own c ok within e =
      go (room_for by h (book_lines n m xs)) refl
      (sym (ap number_of ((whole_guarantee n m ln lm xs).save_room p o own c ok).answer) ∙ e)
    where
      by : Caller
      by = caller_after n m xs o

      h : Held
      h = built_held o c.args

      go : (r : Result ⊤ Full) → room_for by h (book_lines n m xs) ≡ r
          → number_of {S = saving} (by_room r (saved (refused_save Sv.NoRoom)) (saved (refused_save Sv.NoText))
          (saved (built_save c.args))) ≡ 25 → ⊥
      go (Err R.Index) q z = omega (arith, z)
      go (Err R.Text) q z = never_text by h (book_lines n m xs) (has_share p o own) fits.within within q
      go (Ok u) q z = omega (arith, z)

  same_inserted : (x y : Inserted) → ◌≡◌ {A = Reply saving} (inserted x) (inserted y) → x ≡ y
  same_inserted x y e = cc

  insert_keeps : (p : Named) (o : ℕ) → owner_of p.party ≡ Some o
      → (s : List ℕ) (passed : List (List ℕ)) (l : List ℕ) (rest : List (List ℕ)) (u : Spelled) (hs : List Held)
      → is_utf8 s ≡ true → lines_of s ≡ passed ++ (l ∷ rest)
      → insert_lines (caller_after n m xs o) (book_lines n m xs) 0 passed ≡ insert_turn hs (Ok tt) (length passed)
      → wanted l ≡ Some u → length l ≤ line_max
      → use_of o (file (under o u.id l) hs) ≤ share_after n m xs o
      → (r : Inserted) → (next n m xs (insert p s)).answer ≡ inserted r → r.count ≡ length passed
      → number r.answer ≡ 25 → ⊥
  insert_keeps p o own s passed l rest u hs valid cut reached e q within r answer count e25 =
      go (room_for by h hs) refl
      (sym ((whole_guarantee n m ln lm xs).insert_room p o own s passed l rest u hs valid cut reached e q).answer
      ∙ answer)
    where
      by : Caller
      by = caller_after n m xs o

      h : Held
      h = under o u.id l

      -- what is held when the line is reached
      held : claims (booked n m xs).content.shares hs ≤ m
      held =
          subst (λ (ks : List Held). claims (booked n m xs).content.shares ks ≤ m)
          (ap (λ (w : Turn Tally). w.held) reached)
          (keeps_lines n m (booked n m xs).content.shares fits.given fits.front o (owner_byte p o own) passed
          (book_lines n m xs) 0 (fits_lines n m (booked n m xs).content fits)).within

      onward : Tally
      onward = (insert_lines by (file h hs) (suc (length passed)) rest).answer

      go : (w : Result ⊤ Full) → room_for by h hs ≡ w
          → ◌≡◌ {A = Reply saving} (by_room w
          (inserted (inserted_of s (record { answer = Err E.NoRoom; count = length passed })))
          (inserted (inserted_of s (record { answer = Err E.NoText; count = length passed })))
          (inserted (inserted_of s onward))) (inserted r)
          → ⊥
      go (Err R.Index) w z =
          omega (arith, e25, ap (λ (x : Inserted). number x.answer) (same_inserted _ r z))
      go (Err R.Text) w z = never_text by h hs (has_share p o own) held within w
      go (Ok u) w z =
          omega (
            arith,
            count,
            ap (λ (x : Inserted). x.count) (same_inserted (inserted_of s onward) r z),
            count_least by rest (file h hs) (suc (length passed)),
          )

-- P10's promise
pub shares_kept : (n m : ℕ) → n ≤ index_max → m ≤ text_max → AllKept n m
shares_kept n m ln lm xs = record {
  within = (fits n m ln lm xs).within;
  save_kept = save_keeps n m ln lm xs;
  insert_kept = insert_keeps n m ln lm xs;
}
