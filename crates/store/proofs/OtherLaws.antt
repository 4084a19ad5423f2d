-- Lines in another form than 32 digits: counted line by line, and those that an insert filed.
-- Assumes nothing.
use Rattle.std.specs.Prelude.{Some, Option, None}
use mathlib.Core.Bool.{Bool, true, false}
use mathlib.Core.List.{List, [], ◌∷◌}
use mathlib.Core.Path.{◌≡◌, refl, sym, ap, ◌∙◌}
use Prim.Native.Nat.{ℕ, zero, suc, ◌+◌, ◌-◌, ◌≤◌, ◌<◌}
use native.Mathlib.Omega.{arith}
use lib.ListN.{length, take, drop}
use lib.Seq.{length-take-le}
use Rattle.text.specs.Bytes.{byte, first_of}
use Rattle.text.specs.Uuid.{uuid_of}
use Rattle.text.specs.Spellings.{form_length}
use Rattle.text.specs.declared.uuid.Form.{Form}
use Rattle.text.specs.declared.uuid.Form.TheVariants as Fm
use Rattle.text.proofs.BytesLaws.{first_le}
use Rattle.text.proofs.SpellingLaws.{reader_forms}
use Rattle.line.specs.Fields.{first_field}
use Rattle.text.specs.Search.{lf}
use Rattle.store.specs.declared.calls.Tally.{Tally}
use Rattle.store.specs.Book.{other_form, other_spelling, other_spellings, inserted_of, nobody_inserts}
use Rattle.store.specs.Inner.{first_line}
use Rattle.store.specs.Lines.{lines_of, for_platform, wanted}
use Rattle.store.specs.Store.{Done, unchanged, store_walk, own_insert, store_insert}
use Rattle.store.specs.declared.parties.Party.{Party}
use Rattle.store.specs.Parties.{owner_of, by_owner, Owner}
use Rattle.store.proofs.LineLaws.{cut_at, lines_end, plus_minus}
use Rattle.store.proofs.WantedLaws.{wanted_is, wanted-not}
use Rattle.text.specs.declared.uuid.Spelled.{Spelled}

others_cons : (l : List ℕ) (ls : List (List ℕ)) → other_spellings (l ∷ ls) ≡ other_spelling (wanted l) + other_spellings ls
unfolding other_spellings
others_cons l ls = refl

others_none : (k : ℕ) → other_spellings (take k []) ≡ 0
unfolding other_spellings
others_none zero = refl
others_none (suc k) = refl

others_zero : (ls : List (List ℕ)) → other_spellings (take 0 ls) ≡ 0
unfolding other_spellings
others_zero ls = refl

-- a first field of 32 bytes is in the form with 32 digits, or in none
simple_form : (f : Form) → 32 ≡ form_length f → 0 ≡ other_form f
simple_form Fm.Simple e = refl
simple_form Fm.Hyphenated e = absurd (omega (arith, e))
simple_form Fm.Braced e = absurd (omega (arith, e))
simple_form Fm.Urn e = absurd (omega (arith, e))
simple_form Fm.Xinput e = absurd (omega (arith, e))

simple_read : (s : List ℕ) → length s ≡ 32 → (w : Option Spelled) → uuid_of s ≡ w → 0 ≡ other_spelling w
simple_read s l None e = refl
simple_read s l (Some g) e = simple_form g.form (sym l ∙ (reader_forms s g e).fits)

pub others_simple : (l : List ℕ) → first_of (byte ",") l ≡ 32 → 0 ≡ other_spelling (wanted l)
others_simple l e = go (for_platform l) refl
  where
    long : length (first_field l) ≡ 32
    long = length-take-le (first_of (byte ",") l) l (first_le (byte ",") l) ∙ e

    go : (b : Bool) → for_platform l ≡ b → 0 ≡ other_spelling (wanted l)
    go true p = simple_read (first_field l) long (wanted l) (sym (wanted_is l p))
    go false p = sym (ap (λ (w : Option Spelled). other_spelling w) (wanted-not l p))

-- the loop of `other_spellings`: what is counted and what is left make up the whole
pub record Othering (s : List ℕ) (count at left other : ℕ) : Type 0 where
  pub within : at ≤ length s + 1
  pub few : other ≤ at
  pub run : other + other_spellings (take left (lines_of (drop at s))) ≡ other_spellings (take count (lines_of s))

module _ (s : List ℕ) (count : ℕ) where
  module _ (at left other : ℕ) (w : Othering s count at left other) where
    pub other_turn : at < length s → 0 < left → (end : ℕ) → end ≡ first_of lf (drop at s) → at + end ≤ length s
        → (line : List ℕ) → line ≡ first_line (drop at s) → (v : ℕ) → v ≡ other_spelling (wanted line) → v ≤ 1
        → Othering s count (at + (end + 1)) (left - 1) (other + v)
    other_turn l p end e b line el v ev most = record {
      within = omega arith;
      few = omega (arith, w.few);
      run = sum ∙ w.run;
    }
      where
        rest : ℕ
        rest = other_spellings (take (left - 1) (lines_of (drop (at + (end + 1)) s)))

        cut : other_spellings (take left (lines_of (drop at s))) ≡ v + rest
        cut =
            let one : left ≡ suc (left - 1) = omega arith in
            ap (λ (k : ℕ). other_spellings (take k (lines_of (drop at s)))) one
            ∙ ap (λ (ls : List (List ℕ)). other_spellings (take (suc (left - 1)) ls)) (cut_at s at end l e)
            ∙ others_cons (first_line (drop at s)) (take (left - 1) (lines_of (drop (at + (end + 1)) s)))
            ∙ ap (λ (x : List ℕ). other_spelling (wanted x) + rest) (sym el) ∙ ap (λ (k : ℕ). k + rest) (sym ev)

        sum : other + v + rest ≡ other + other_spellings (take left (lines_of (drop at s)))
        sum = omega (arith, cut)

    pub other_end : length s ≤ at → other ≡ other_spellings (take count (lines_of s))
    other_end l =
        let none : other_spellings (take left (lines_of (drop at s))) ≡ 0
        = ap (λ (ls : List (List ℕ)). other_spellings (take left ls)) (lines_end s at l) ∙ others_none left in
        omega (arith, none, w.run)

    pub other_all : left ≤ 0 → other ≡ other_spellings (take count (lines_of s))
    other_all l =
        let z : left ≡ 0 = omega arith in
        let none : other_spellings (take left (lines_of (drop at s))) ≡ 0
        = ap (λ (k : ℕ). other_spellings (take k (lines_of (drop at s)))) z ∙ others_zero (lines_of (drop at s)) in
        omega (arith, none, w.run)

-- the line that the loop cut off
pub other_part : (s : List ℕ) (at len v : ℕ) → v ≡ other_spelling (wanted (take (at + len - at) (drop at s)))
    → v ≡ other_spelling (wanted (take len (drop at s)))
other_part s at len v e = e ∙ ap (λ (k : ℕ). other_spelling (wanted (take k (drop at s)))) (plus_minus at len)

-- what an owner's walk comes to, with that number
pub insert_told : (p : Party) (o : ℕ) → owner_of p ≡ Some o → (i t s i' t' : List ℕ) (w : Tally) (k : ℕ)
    → record { answer = w; index = i'; text = t' } ≡ store_walk i t o s
    → k ≡ other_spellings (take w.count (lines_of s))
    → record {
      answer = record { answer = w.answer; count = w.count; not_simple = k };
      index = i';
      text = t';
    } ≡ store_insert i t p s
unfolding store_insert own_insert
insert_told p o own i t s i' t' w k e q =
    ap (λ (j : ℕ). record {
      answer = record { answer = w.answer; count = w.count; not_simple = j };
      index = i';
      text = t';
    }) q
    ∙ ap (λ (d : Done Tally). record { answer = inserted_of s d.answer; index = d.index; text = d.text }) e
    ∙ sym (ap (λ (x : Owner). by_owner x (unchanged i t nobody_inserts) (λ v. own_insert i t v s)) own)
