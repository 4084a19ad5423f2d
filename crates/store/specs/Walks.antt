-- The records of an index and the lines of a text, one after the other (document 01, 'Records' and 'Store'; document 02,
-- P9, P10 and P12). What such walks show is proved as `records_walk` in ../proofs/WalkedLaws.antt and `lines_walk` in
-- ../proofs/CutLaws.antt.
-- Public contracts rest on these definitions; they assume nothing.
use Rattle.std.specs.Prelude.{◌≡◌, List, [], ◌∷◌, ◌++◌, ℕ, zero, suc, ◌+◌, ◌≤◌, eqb, ltb, length, get_or, take, drop}
use Rattle.std.specs.Prelude.{Option, Some, None}
use Rattle.std.proofs.Math.Option.{some}
use Rattle.text.specs.Bytes.{pick, first_of}
use Rattle.text.specs.Search.{lf}
use Rattle.store.specs.declared.records.Head.{Head}
use Rattle.store.specs.declared.walk.Cut.{Cut}
use Rattle.store.specs.declared.walk.Record.{Record}
use Rattle.store.specs.declared.walk.Record.TheVariants as R
use Rattle.store.specs.declared.walk.Stands.{Stands}
use Rattle.store.specs.Held.{Held}
use Rattle.store.specs.Shares.{Content, share_size}
use Rattle.store.specs.Decode.{head_at, front_share, content}
use Rattle.store.specs.Lines.{lines_of}

-- ---- the record at a place of an index

-- the record of a share of b bytes of owner o; "share 0 has no record"
abbrev pub share_in : ℕ → ℕ → ℕ → Stands
share_in size o b = record { told = R.Share (record { owner = o; share = b }); size = size }

abbrev pub share_stands : ℕ → ℕ → Option Stands
share_stands o b = pick (eqb b 0) None (Some (share_in (share_size b) o b))

-- the share at an index's front: "kind 4, that byte, share (2)"; "kind 6, the owner byte and four bytes of share"
unfoldable pub share_told : List ℕ → Option Stands
share_told i = share_stands (get_or i 1 0) (front_share (get_or i 1 0) i)

abbrev pub line_stands : Head → Stands
line_stands h = record { told = R.Line (record { key = h.key; off = h.off; len = h.len }); size = h.size }

-- the record at an index's front, of a line or of a share; None where no whole one stands there
unfoldable pub record_told : List ℕ → Option Stands
record_told i = pick (eqb (head_at i).size 0) (share_told i) (Some (line_stands (head_at i)))

-- the record that stands at a place of an index
unfoldable pub record_at : List ℕ → ℕ → Option Stands
record_at i at = record_told (drop at i)

-- ---- the line from a place of a text on

-- the place behind the LF that ends it, or the text's end
unfoldable pub behind_line : List ℕ → ℕ → ℕ
behind_line s at = pick (ltb (first_of lf (drop at s)) (length (drop at s))) (at + (first_of lf (drop at s) + 1)) (length s)

-- the first of those lines, and that place
abbrev pub cut_at : List ℕ → ℕ → List (List ℕ) → Option Cut
cut_at s at [] = None
cut_at s at (l ∷ ls) = Some (record { len = length l; next = behind_line s at })

-- "Insert cuts the text at LF": the first of the lines that it finds from that place on
unfoldable pub next_line : List ℕ → ℕ → Option Cut
next_line s at = cut_at s at (lines_of (drop at s))

-- ---- what walks show

abbrev pub on_stands : {A : Type 0} → Option Stands → (Stands → List A) → List A
on_stands None f = []
on_stands (Some r) f = f r

-- the records from a place of an index on, each behind the one before it; at most so many
unfoldable pub records_from : ℕ → List ℕ → ℕ → List Record
records_from zero i at = []
records_from (suc n) i at = on_stands (record_at i at) (λ r. r.told ∷ records_from n i (at + r.size))

abbrev pub on_cut : {A : Type 0} → Option Cut → (Cut → List A) → List A
on_cut None f = []
on_cut (Some c) f = f c

-- the lines from a place of a text on, in the same way
unfoldable pub lines_from : ℕ → List ℕ → ℕ → List (List ℕ)
lines_from zero s at = []
lines_from (suc n) s at = on_cut (next_line s at) (λ c. take c.len (drop at s) ∷ lines_from n s c.next)

-- the records of shares, by owner from that one on
unfoldable pub shares_told : ℕ → List ℕ → List Record
shares_told o [] = []
shares_told o (b ∷ bs) =
    pick (eqb b 0) (shares_told (suc o) bs)
    (R.Share (record { owner = o; share = b }) ∷ shares_told (suc o) bs)

-- the records of lines in list order, of which the first lies at that offset
unfoldable pub lines_told : ℕ → List Held → List Record
lines_told off [] = []
lines_told off (h ∷ hs) =
    R.Line (record { key = h.key; off = off; len = length h.line }) ∷ lines_told (off + length h.line) hs

-- the lines that records tell of, read off a text
unfoldable pub lines_read : List ℕ → List Record → List Held
lines_read t [] = []
lines_read t (R.Share b ∷ rs) = lines_read t rs
lines_read t (R.Line l ∷ rs) = record { key = l.key; line = take l.len (drop l.off t) } ∷ lines_read t rs

-- the records of a store that holds c: the shares by owner, then the lines in list order, which lie where they say
pub record Lists (t : List ℕ) (c : Content) (rs : List Record) : Type 0 where
  pub records : rs ≡ shares_told 0 c.shares ++ lines_told 0 c.held
  pub lines : lines_read t rs ≡ c.held

-- the theorem `records_walk`: a walk over the index of a sound store, of no fewer steps than the index has bytes
abbrev pub RecordsWalk : Type 0
RecordsWalk =
    (i t : List ℕ) (c : Content) → content i t ≡ some c → (n : ℕ) → length i ≤ n → Lists t c (records_from n i 0)

-- the theorem `lines_walk`: cut off one after the other, a text's lines are those that an insert finds
abbrev pub LinesWalk : Type 0
LinesWalk = (s : List ℕ) (n : ℕ) → length s ≤ n → lines_from n s 0 ≡ lines_of s
