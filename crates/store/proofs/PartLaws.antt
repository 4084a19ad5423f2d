-- A sound store by its two parts: the records of the shares, and the part of the index behind them.
-- Assumes nothing.
use mathlib.Core.List.{List, ◌++◌}
use mathlib.Core.Option.{some}
use mathlib.Core.Bool.{true}
use mathlib.Core.Path.{◌≡◌, sym, ap, ap₂, ◌∙◌, subst}
use Prim.Native.Nat.{ℕ, ◌+◌, ◌-◌, ◌≤◌}
use native.Mathlib.Omega.{arith}
use lib.ListN.{length, take, drop, length-append, length-drop}
use lib.Seq.{take_at}
use borrow.Rule.Slice.PartMut.{mid_of}
use Rattle.text.proofs.LentLaws.{tail_part}
use Rattle.store.specs.declared.claims.Dues.{Dues}
use Rattle.store.specs.declared.soundness.Ledger.{Ledger}
use Rattle.store.specs.declared.soundness.Stock.{Stock}
use Rattle.store.specs.Book.{caller}
use Rattle.store.specs.Claims.{Addable, row_lengths, DuesFrom, Owed}
use Rattle.store.specs.Decode.{decode, content}
use Rattle.store.specs.Fronts.{Fronts}
use Rattle.store.specs.Held.{Held}
use Rattle.store.specs.Inner.{known, behind}
use Rattle.store.specs.Layout.{Bytes, Given, share_records, encode_records, encode_index}
use Rattle.store.specs.Shares.{Content, share_sizes}
use Rattle.store.specs.Table.{Loads, Stocks}
use Rattle.store.proofs.BodyLaws.{bytes_part}
use Rattle.store.proofs.ShareLaws.{length_shares, front_is, given_front, encode_split}
use Rattle.store.proofs.SurveyLaws.{Holds, sound_holds}
use Rattle.store.proofs.UseLaws.{loads_addable, loads_owed}

-- where p is the end of the shares g
pub record Whole (i t g : List ℕ) (p : ℕ) : Type 0 where
  pub all : Content
  pub is : content i t ≡ some all
  pub lines : decode (drop p i) t ≡ some all.held
  pub given : Given g
  -- who calls
  pub caller : (o : ℕ) → caller (length i) (length t) all.shares o ≡ behind g (drop p i) t o
  -- the index with another part
  pub encoded : (part : List ℕ) (ks : List Held) → part ≡ encode_records (length (drop p i)) ks
      → take p i ++ part ≡ encode_index (length i) all.shares ks

module _ (i t g : List ℕ) (p : ℕ) (f : Fronts i g p) (b : Bytes i) where
  split : i ≡ share_records 0 g ++ drop p i
  split = front_is i b
      ∙ ap₂ (λ (x y : List ℕ). share_records 0 x ++ y) (sym f.shares) (sym f.rest)

  long : length i ≡ share_sizes g + length (drop p i)
  long = ap length split ∙ length-append (share_records 0 g) (drop p i)
      ∙ ap (λ (k : ℕ). k + length (drop p i)) (length_shares 0 g)

  pub ends : p ≡ share_sizes g
  ends = omega (arith, long, length-drop p i, f.within)

  front : take p i ≡ share_records 0 g
  front = ap (take p) split ∙ take_at (share_records 0 g) (drop p i) p (length_shares 0 g ∙ sym ends)

  pub whole : known (content i t) ≡ true → Whole i t g p
  whole k =
      let h : Holds i t g p = sound_holds i t g p f k in
      record {
        all = h.all;
        is = h.is;
        lines = h.lines;
        given = subst (λ (x : List ℕ). Given x) (sym f.shares) (given_front i b);
        caller = λ o. ap₂ (λ (n : ℕ) (x : List ℕ). caller n (length t) x o) long (sym h.shares);
        encoded = λ part ks e.
            let n : length (drop p i) ≡ length i - share_sizes g = omega (arith, long) in
            ap₂ (λ (x y : List ℕ). x ++ y) front (e ∙ ap (λ (m : ℕ). encode_records m ks) n)
            ∙ sym (encode_split (length i) g ks (omega (arith, long)))
            ∙ ap (λ (x : List ℕ). encode_index (length i) x ks) h.shares;
      }

  -- the part as it is lent
  pub part_lines : known (content i t) ≡ true → known (decode (mid_of p (length i - p) i) t) ≡ true
  part_lines k = ap known (ap (λ (q : List ℕ). decode q t) (tail_part p i) ∙ (whole k).lines)

  pub part_bytes : Bytes (mid_of p (length i - p) i)
  part_bytes = bytes_part i p (mid_of p (length i - p) i) (tail_part p i) b

-- ---- what `take_stock` says of a sound store

module _ {N : ℕ} {i t : List ℕ} {l : Ledger N} {r : Stock} (w : Stocks i t l r) (b : Bytes i) where
  pub stock_lines : known (decode (mid_of r.front (length i - r.front) i) t) ≡ true
  stock_lines = part_lines i t l.shares r.front w.front b w.is

  pub stock_loads : Loads (mid_of r.front (length i - r.front) i) l.table.rows l.table.heads l.table.links r.fill
  stock_loads = subst (λ (q : List ℕ). Loads q l.table.rows l.table.heads l.table.links r.fill) (sym (tail_part r.front i)) w.loads.0

  pub stock_adds : Addable l.table.rows r.fill.count × (row_lengths l.table.rows r.fill.count ≤ r.fill.used)
  stock_adds = loads_addable (mid_of r.front (length i - r.front) i) t l.table.rows l.table.heads l.table.links r.fill stock_loads stock_lines

  pub stock_owed : (o : ℕ) (d : Dues) → DuesFrom l.table.rows r.fill l.shares o d → (hs : List Held)
      → decode (mid_of r.front (length i - r.front) i) t ≡ some hs → Owed l.shares o hs d
  stock_owed o d f hs q =
      loads_owed (mid_of r.front (length i - r.front) i) t l.table.rows l.table.heads l.table.links r.fill stock_loads l.shares o d f
      (part_bytes i t l.shares r.front w.front b) hs q
