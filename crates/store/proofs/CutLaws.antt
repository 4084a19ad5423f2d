-- The lines that are cut off a text, one after the other, are those that an insert finds.
-- Assumes nothing.
use mathlib.Core.Bool.{Bool, true, false}
use mathlib.Core.List.{List, ◌∷◌}
use mathlib.Core.Path.{◌≡◌, refl, sym, ap, ap₂, ◌∙◌, subst}
use Prim.Native.Nat.{ℕ, zero, suc, ◌+◌, ◌-◌, ◌≤◌, ◌<◌}
use native.Mathlib.Omega.{arith}
use lib.Dec.{eqb, ltb}
use lib.ListN.{length, get_or, take, drop, length-drop}
use lib.Seq.{length-take-le}
use borrow.Author.Tests.{eqb-true, eqb-false, ltb-true, ltb-false}
use Rattle.std.specs.Prelude.{Option as Optional, Some, None}
use Rattle.text.specs.Bytes.{pick, first_of}
use Rattle.text.specs.Search.{lf}
use Rattle.store.specs.declared.walk.Cut.{Cut}
use Rattle.store.specs.Inner.{first_line}
use Rattle.store.specs.Lines.{cr, lines_of}
use Rattle.store.specs.Walks.{behind_line, next_line}
use Rattle.store.specs.Walks.{on_cut, lines_from}
use Rattle.store.specs.Walks.{LinesWalk}
use Rattle.store.proofs.LineLaws.{line_last, line_none, line_cr, line_plain, lines_end}
use Rattle.store.proofs.StepLaws.{cut_none, cut_some, cut_first}

-- the first line stands at the text's front
record Front (q : List ℕ) : Type 0 where
  long : ℕ
  within : long ≤ length q
  is : take long q ≡ first_line q

front : (q : List ℕ) → Front q
front q = go (ltb end (length q)) refl
  where
    end : ℕ
    end = first_of lf q

    last : end < length q → (end ≡ 0 → ⊥) → (b : Bool) → eqb (get_or q (end - 1) 0) cr ≡ b → Front q
    last l n true e = record {
      long = end - 1;
      within = omega (arith, l);
      is = line_cr q end refl l n (eqb-true _ cr e);
    }
    last l n false e = record { long = end; within = omega (arith, l); is = line_plain q end refl l n (eqb-false _ cr e) }

    some : end < length q → (b : Bool) → eqb end 0 ≡ b → Front q
    some l true e = record { long = 0; within = omega arith; is = line_none q end refl l (eqb-true end 0 e) }
    some l false e = last l (eqb-false end 0 e) (eqb (get_or q (end - 1) 0) cr) refl

    go : (b : Bool) → ltb end (length q) ≡ b → Front q
    go true e = some (ltb-true end (length q) e) (eqb end 0) refl
    go false e = record { long = length q; within = omega arith; is = line_last q (ltb-false end (length q) e) }

first_taken : (q : List ℕ) → take (length (first_line q)) q ≡ first_line q
first_taken q =
    let f : Front q = front q in
    ap (λ (n : ℕ). take n q) (ap length (sym f.is) ∙ length-take-le f.long q f.within) ∙ f.is

-- the next line starts further on, and the lines from there on are the others
record Further (s : List ℕ) (at n : ℕ) : Type 0 where
  on : at < n
  within : n ≤ length s
  rest : lines_of (drop n s) ≡ lines_of (drop (at + (first_of lf (drop at s) + 1)) s)

further : (s : List ℕ) (at : ℕ) → at < length s → Further s at (behind_line s at)
unfolding behind_line
further s at l = go (ltb end (length (drop at s))) refl
  where
    end : ℕ
    end = first_of lf (drop at s)

    go : (b : Bool) → ltb end (length (drop at s)) ≡ b → Further s at (pick b (at + (end + 1)) (length s))
    go true e =
        let m : end < length (drop at s) = ltb-true end (length (drop at s)) e in
        record { on = omega arith; within = omega (arith, m, length-drop at s); rest = refl }
    go false e =
        let m : length (drop at s) ≤ end = ltb-false end (length (drop at s)) e in
        record {
          on = l;
          within = omega arith;
          rest = lines_end s (length s) (omega arith)
              ∙ sym (lines_end s (at + (end + 1)) (omega (arith, m, length-drop at s)));
        }

-- a cut lies within the text, and the next one starts further on
pub record CutIn (s : List ℕ) (at : ℕ) (c : Cut) : Type 0 where
  pub line : at + c.len ≤ length s
  pub further : at < c.next
  pub within : c.next ≤ length s

some_cut : (a b : Cut) → ◌≡◌ {A = Optional Cut} (Some a) (Some b) → a ≡ b
some_cut a b e = cc

none_cut : (c : Cut) → ◌≡◌ {A = Optional Cut} None (Some c) → ⊥
none_cut c e = let z : ◌≡◌ {A = ℕ} 0 1 = cc in omega arith

pub cut_in : (s : List ℕ) (at : ℕ) (c : Cut) → next_line s at ≡ Some c → CutIn s at c
cut_in s at c e = go (ltb at (length s)) refl
  where
    q : List ℕ
    q = drop at s

    here : at < length s → CutIn s at (record { len = length (first_line q); next = behind_line s at })
    here l =
        let f : Front q = front q in
        let n : Further s at (behind_line s at) = further s at l in
        record {
          line = omega (
            arith,
            l,
            f.within,
            length-drop at s,
            length-take-le f.long q f.within,
            ap length f.is,
          );
          further = n.on;
          within = n.within;
        }

    go : (b : Bool) → ltb at (length s) ≡ b → CutIn s at c
    go false p = absurd (none_cut c (cut_none s at (ltb-false at (length s) p) ∙ e))
    go true p =
        let l : at < length s = ltb-true at (length s) p in
        subst (CutIn s at) (some_cut _ c (sym (cut_some s at l) ∙ e)) (here l)

-- the lines from a place on; no step is left at the end alone
lines_on : (n : ℕ) (s : List ℕ) (at : ℕ) → length s ≤ at + n → lines_from n s at ≡ lines_of (drop at s)
unfolding lines_from
lines_on zero s at l = sym (lines_end s at (omega (arith, l)))
lines_on (suc n) s at l = go (ltb at (length s)) refl (λ (b : ℕ) (m : at < b). lines_on n s b (omega (arith, l, m)))
  where
    onto : Optional Cut → List (List ℕ)
    onto o = on_cut o (λ c. take c.len (drop at s) ∷ lines_from n s c.next)

    go : (b : Bool) → ltb at (length s) ≡ b → ((b : ℕ) → at < b → lines_from n s b ≡ lines_of (drop b s))
        → onto (next_line s at) ≡ lines_of (drop at s)
    go false e ih =
        let m : length s ≤ at = ltb-false at (length s) e in
        ap onto (sym (cut_none s at m)) ∙ sym (lines_end s at m)
    go true e ih =
        let m : at < length s = ltb-true at (length s) e in
        let f : Further s at (behind_line s at) = further s at m in
        ap onto (cut_some s at m)
        ∙ ap₂ (λ (p : List ℕ) (q : List (List ℕ)). p ∷ q) (first_taken (drop at s)) (ih (behind_line s at) f.on ∙ f.rest)
        ∙ sym (cut_first s at m)

pub lines_walk : LinesWalk
lines_walk s n l = lines_on n s 0 (omega (arith, l))
