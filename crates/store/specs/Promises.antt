-- What demands 1 and 3 say of single calls, in plain shape, proved as `refusals_leave`, `build_leaves` in
-- ../proofs/RefusedLaws.antt and `saved_again`, `saved_is_found` in ../proofs/FoundLaws.antt.
-- The theorems rest on these definitions; they assume nothing.
use Rattle.std.specs.Prelude.{◌≡◌, Bool, true, false, List, [], ◌∷◌, ◌++◌, ℕ, zero, suc, eqb, length, take, Some, Ok, Err}
use Rattle.std.proofs.Math.Option.{none}
use Rattle.text.specs.Bytes.{pick}
use Rattle.text.specs.Search.{lf}
use Rattle.text.specs.Utf8.{is_utf8}
use Rattle.text.specs.declared.uuid.Uuid.{Uuid}
use Rattle.text.specs.declared.uuid.Form.TheVariants as Fm
use Rattle.map.specs.declared.error.MappingError.{MappingError}
use Rattle.map.specs.declared.mapping_data.MappingData.{MappingData}
use Rattle.map.specs.Build.{built_line, build_of, output_of}
use Rattle.store.specs.declared.calls.Saved.{Saved}
use Rattle.store.specs.declared.parties.Party.{Party}
use Rattle.store.specs.Parties.{owner_of, Named}
use Rattle.store.specs.Held.{key_by}
use Rattle.store.specs.Lines.{lines_of, wanted}
use Rattle.store.specs.Refusals.{number, save_number}
use Rattle.store.specs.Book.{clear, insert, save, share, saved}
use Rattle.store.specs.Store.{Done, unchanged, store_clear, store_insert, store_share, look_up, found}
use Rattle.store.specs.Saves.{SaveArgs, SaveCall, store_save, saving, ReadsBack}
use Rattle.store.specs.Filings.{Filing, filings, last_filed}
use Rattle.store.specs.Guarantee.{Calls, stored, booked, next, built_save}

-- ---- demand 1: "A refusal leaves the lent buffers unchanged; only an insert stopped at one line has filed the lines
-- before it."

-- the buffers are as they were
abbrev pub Untouched : {A : Type 0} → List ℕ → List ℕ → Done A → Type 0
Untouched i t d = d ≡ unchanged i t d.answer

-- a party's insert of the text s leaves what its insert of those lines of s leaves that it counts, and that one answers
-- done
pub record LinesBefore (i t : List ℕ) (p : Party) (s before : List ℕ) : Type 0 where
  pub answer : (store_insert i t p before).answer.answer ≡ Ok tt
  pub count : (store_insert i t p before).answer.count ≡ (store_insert i t p s).answer.count
  pub index : (store_insert i t p before).index ≡ (store_insert i t p s).index
  pub text : (store_insert i t p before).text ≡ (store_insert i t p s).text

-- the text of the first k lines of a text, each with its end
unfoldable pub first_lines : ℕ → List ℕ → List ℕ
first_lines zero s = []
first_lines (suc k) [] = []
first_lines (suc k) (b ∷ s) = b ∷ pick (eqb b lf) (first_lines k s) (first_lines (suc k) s)

-- every refusal, whatever the two buffers hold and whoever calls
pub record RefusalsLeave (i t : List ℕ) : Type 0 where
  pub clear_refused : (number (store_clear i t).answer ≡ 0 → ⊥) → Untouched i t (store_clear i t)
  pub save_refused : (p : Party) (a : SaveArgs) → (save_number (store_save i t p a).answer.answer ≡ 0 → ⊥)
      → Untouched i t (store_save i t p a)
  pub share_refused : (o b : ℕ) → (number (store_share i t o b).answer ≡ 0 → ⊥) → Untouched i t (store_share i t o b)
  pub insert_24 : (p : Party) (s : List ℕ) → number (store_insert i t p s).answer.answer ≡ 24
      → Untouched i t (store_insert i t p s)
  pub insert_19 : (p : Party) (s : List ℕ) → number (store_insert i t p s).answer.answer ≡ 19
      → Untouched i t (store_insert i t p s)
  pub insert_10 : (p : Party) (s : List ℕ) → number (store_insert i t p s).answer.answer ≡ 10
      → Untouched i t (store_insert i t p s)
  -- stopped at a line, or at none: the text of the lines that were walked, and any text that has those lines
  pub insert_front : (p : Party) (s : List ℕ) → is_utf8 s ≡ true
      → (number (store_insert i t p s).answer.answer ≡ 24 → ⊥)
      → (number (store_insert i t p s).answer.answer ≡ 19 → ⊥)
      → LinesBefore i t p s (first_lines (store_insert i t p s).answer.count s)
  pub insert_stopped : (p : Party) (s before : List ℕ) → is_utf8 s ≡ true → is_utf8 before ≡ true
      → lines_of before ≡ take (store_insert i t p s).answer.count (lines_of s)
      → (number (store_insert i t p s).answer.answer ≡ 24 → ⊥)
      → (number (store_insert i t p s).answer.answer ≡ 19 → ⊥)
      → LinesBefore i t p s before

-- a refused build leaves the output as it was
abbrev pub BuildLeaves : Type 0
BuildLeaves =
    (d : MappingData) (buttons axes name : List ℕ) (u : Uuid) (out : List ℕ) (e : MappingError)
    → (build_of d buttons axes name u (length out)).answer ≡ Err e → output_of d buttons axes name u out ≡ out

-- ---- 22, "saved name has LF or `platform:`": any other saved line is wanted under its own UUID

-- the line of a save
abbrev pub saved_line : SaveArgs → List ℕ
saved_line a = built_line a.slots a.buttons a.axes a.name a.uuid

-- an insert of that line alone wants it under the save's UUID; where the party that inserts it holds it, every look-up of
-- every party stays as it was
pub record SavedAgain (n m : ℕ) (xs : Calls) (a : SaveArgs) : Type 0 where
  pub is_wanted : wanted (saved_line a) ≡ Some (record { id = a.uuid; form = Fm.Simple })
  pub one_line : lines_of (saved_line a) ≡ saved_line a ∷ []
  pub same : (p : Named) → look_up p.party a.uuid (stored n m xs).index (stored n m xs).text ≡ found (saved_line a)
      → (q : Party) (u : Uuid)
      → look_up q u (next n m xs (insert p (saved_line a))).index (next n m xs (insert p (saved_line a))).text
      ≡ look_up q u (stored n m xs).index (stored n m xs).text

-- ---- the price list: "every saved mapping is found again and reads back the same"

-- whether a list of calls clears the store somewhere
unfoldable pub has_clear : Calls → Bool
has_clear [] = false
has_clear (clear ∷ xs) = true
has_clear (insert p s ∷ xs) = has_clear xs
has_clear (save p c ∷ xs) = has_clear xs
has_clear (share q b ∷ xs) = has_clear xs

-- what the calls ys file after the calls xs
abbrev pub filed_after : ℕ → ℕ → Calls → Calls → List (Filing saving)
filed_after n m xs ys = filings (length xs) n m (booked n m xs).content [] ys

-- the calls xs, a save, and the calls ys
abbrev pub around : Calls → Named → SaveCall → Calls → Calls
around xs p c ys = (xs ++ (save p c ∷ [])) ++ ys

-- after any list of calls, a party's save that answers done, and then any list in which nothing is cleared and that
-- party files nothing under its UUID: its look-up hands back build's line, and it reads back what the save returned
abbrev pub SavedIsFound : ℕ → ℕ → Type 0
SavedIsFound n m =
    (xs : Calls) (p : Named) (o : ℕ) → owner_of p.party ≡ Some o → (c : SaveCall) (v : Saved) (ys : Calls)
    → (next n m xs (save p c)).answer ≡ saved v → v.answer ≡ Ok tt
    → has_clear ys ≡ false → last_filed (key_by o c.args.uuid) (filed_after n m (xs ++ (save p c ∷ [])) ys) ≡ none
    → (look_up p.party c.args.uuid (stored n m (around xs p c ys)).index (stored n m (around xs p c ys)).text
    ≡ found (saved_line c.args))
    × ((v ≡ built_save c.args) × ReadsBack c.args (saved_line c.args) v)
