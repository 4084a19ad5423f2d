-- One step of a walk: the record that stands at a place of an index, and the line from a place of a text on.
-- Assumes nothing.
use mathlib.Core.Bool.{Bool}
use mathlib.Core.List.{List, [], ◌∷◌}
use mathlib.Core.Path.{◌≡◌, refl, sym, ap, ap₂, ◌∙◌}
use Prim.Native.Nat.{ℕ, ◌+◌, ◌-◌, ◌≤◌, ◌<◌}
use native.Mathlib.Omega.{arith}
use lib.ListN.{length, get_or, take, drop, drop_of_length-le, length-drop}
use lib.Seq.{length-take-le}
use borrow.Author.Tests.{eq-eqb, ne_eqb, lt-ltb, le-ltb}
use Rattle.std.specs.Prelude.{Some, None}
use Rattle.text.specs.Bytes.{pick, first_of}
use Rattle.text.specs.Search.{lf}
use Rattle.store.specs.Decode.{kind_at, head_at, is_share_of, is_long_share_of, front_share}
use Rattle.store.specs.Inner.{first_line}
use Rattle.store.specs.Lines.{lines_of}
use Rattle.store.specs.Shares.{share_size}
use Rattle.store.specs.Walks.{share_in, share_stands, share_told, line_stands, record_told, record_at, behind_line, cut_at}
use Rattle.store.specs.Walks.{next_line}
use Rattle.store.proofs.LineLaws.{cut_at as first_cut, lines_end}

-- ---- records

module _ (i : List ℕ) where
  pub told_share : (head_at i).size ≡ 0 → record_told i ≡ share_told i
  unfolding record_told
  told_share e = ap (λ (b : Bool). pick b (share_told i) (Some (line_stands (head_at i)))) (eq-eqb _ 0 e)

  pub told_line : ((head_at i).size ≡ 0 → ⊥) → record_told i ≡ Some (line_stands (head_at i))
  unfolding record_told
  told_line n = ap (λ (b : Bool). pick b (share_told i) (Some (line_stands (head_at i)))) (ne_eqb _ 0 n)

  -- what the front's owner byte and the share of that owner tell
  pub share_none : front_share (get_or i 1 0) i ≡ 0 → None ≡ share_told i
  unfolding share_told
  share_none z = sym (ap (share_stands (get_or i 1 0)) z)

  pub share_some : (b size : ℕ) → b ≡ front_share (get_or i 1 0) i → (b ≡ 0 → ⊥) → size ≡ share_size b
      → Some (share_in size (get_or i 1 0) b) ≡ share_told i
  unfolding share_told
  share_some b size e n s =
      ap (λ (z : ℕ). Some (share_in z (get_or i 1 0) b)) s
      ∙ sym (ap (λ (c : Bool). pick c None (Some (share_in (share_size b) (get_or i 1 0) b))) (ne_eqb b 0 n))
      ∙ ap (share_stands (get_or i 1 0)) e

nothing_told : record_told [] ≡ None
unfolding record_told share_told head_at kind_at front_share is_share_of is_long_share_of
nothing_told = refl

pub place_none : (i : List ℕ) (at : ℕ) → length i ≤ at → None ≡ record_at i at
unfolding record_at
place_none i at l = sym (ap record_told (drop_of_length-le i l) ∙ nothing_told)

pub place_is : (i : List ℕ) (at : ℕ) → record_at i at ≡ record_told (drop at i)
unfolding record_at
place_is i at = refl

-- ---- lines

module _ (s : List ℕ) (at : ℕ) where
  pub cut_none : length s ≤ at → None ≡ next_line s at
  unfolding next_line
  cut_none l = sym (ap (cut_at s at) (lines_end s at l))

  -- the first line from there on
  pub cut_first : at < length s
      → lines_of (drop at s) ≡ first_line (drop at s) ∷ lines_of (drop (at + (first_of lf (drop at s) + 1)) s)
  cut_first l = first_cut s at (first_of lf (drop at s)) l refl

  pub cut_some : at < length s → next_line s at
      ≡ Some (record { len = length (first_line (drop at s)); next = behind_line s at })
  unfolding next_line
  cut_some l = ap (cut_at s at) (cut_first l)

  -- what `next_line` counts
  pub cut_counted : at < length s → (len next : ℕ) → len ≤ length (drop at s)
      → take len (drop at s) ≡ first_line (drop at s) → next ≡ behind_line s at
      → Some (record { len = len; next = next }) ≡ next_line s at
  cut_counted l len next m e n =
      ap₂ (λ (a b : ℕ). Some (record { len = a; next = b })) (sym (length-take-le len (drop at s) m) ∙ ap length e) n
      ∙ sym (cut_some l)

  pub behind_end : (end : ℕ) → end ≡ first_of lf (drop at s) → length s - at ≤ end → length s ≡ behind_line s at
  unfolding behind_line
  behind_end end e l =
      sym (ap (λ (b : Bool). pick b (at + (first_of lf (drop at s) + 1)) (length s))
      (le-ltb (first_of lf (drop at s)) (length (drop at s)) (omega (arith, l, e, length-drop at s))))

  pub behind_lf : (end : ℕ) → end ≡ first_of lf (drop at s) → end < length s - at → at + end + 1 ≡ behind_line s at
  unfolding behind_line
  behind_lf end e l =
      let is : at + end + 1 ≡ at + (first_of lf (drop at s) + 1) = omega (arith, e) in
      is ∙ sym (ap (λ (b : Bool). pick b (at + (first_of lf (drop at s) + 1)) (length s))
      (lt-ltb (first_of lf (drop at s)) (length (drop at s)) (omega (arith, l, e, length-drop at s))))
