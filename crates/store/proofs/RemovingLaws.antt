-- A line taken out: its key is struck out by number, and what is left takes no more room than before.
-- Assumes nothing.
use mathlib.Core.Bool.{Bool, true, false, not, ◌||◌}
use mathlib.Core.List.{List, [], ◌∷◌}
use mathlib.Core.Option.{Option, none, some}
use mathlib.Core.Path.{◌≡◌, refl, sym, ap, ap₂, ◌∙◌, subst}
use Prim.Native.Nat.{ℕ, ◌+◌, ◌-◌, ◌≤◌, ◌<◌}
use native.Mathlib.Omega.{arith}
use lib.Dec.{eqb, ltb}
use lib.ListN.{length, drop}
use borrow.Author.Tests.{eqb-true, eqb-false, ltb-true, ltb-false}
use Rattle.std.specs.Prelude.{Some, None, Ok, Err}
use borrow.Rule.Slice.PartMut.{put_mid, mid_of}
use Rattle.text.proofs.LentLaws.{tail_part, tail_back}
use Rattle.store.specs.declared.chains.Link.{Link}
use Rattle.store.specs.declared.soundness.Ledger.{Ledger}
use Rattle.store.specs.declared.soundness.Stock.{Stock}
use Rattle.store.specs.Decode.{content}
use Rattle.store.specs.Shares.{Content, with_held}
use Rattle.store.specs.Store.{unchanged, holding}
use Rattle.store.specs.Removing.{removed_from, remove_by}
use Rattle.store.specs.declared.calls.LookError.TheVariants as L
use Rattle.store.proofs.BoolLaws.{true-false}
use Rattle.store.proofs.PartLaws.{Whole, whole}
use Rattle.text.specs.Bytes.{pick}
use Rattle.store.specs.declared.rows.Row.{Row}
use Rattle.store.specs.declared.table.Fill.{Fill}
use Rattle.store.specs.declared.look.Part.{Part}
use Rattle.store.specs.Held.{Key, Held, same_key, strike, find, holds, size_by, record_size, short_max}
use Rattle.store.specs.Inner.{known, sizes}
use Rattle.store.specs.Book.{record_sizes}
use Rattle.store.specs.Keys.{Sought}
use Rattle.store.specs.Layout.{Bytes, texts}
use Rattle.store.specs.Rows.{key_in, row_put, len_before, put_before}
use Rattle.store.specs.Sights.{Ready, Agree, Spot, nowhere, there}
use Rattle.store.specs.Table.{Tabled, InRows, Stocks, Settles, Settled, StrikesRow}
use Rattle.store.proofs.LookLaws.{spot_none, spot_line, put_agree, put_new}
use Rattle.store.proofs.RoomLaws.{sizes_sum}
use Rattle.store.proofs.RowLaws.{texts_cons}
use Rattle.store.proofs.StruckLaws.{Struck, struck, Before, before, inside_still, ahead_still, stands_still}

-- ---- lines that lie further in front, and fewer of them, take no more

size_short : (o : ℕ) → size_by o false ≤ size_by o true
size_short o = go (eqb o 0)
  where
    go : (b : Bool) → pick b 21 22 ≤ pick b 23 24
    go true = omega arith
    go false = omega arith

size_front : (o off off' : ℕ) → off ≤ off' → record_size o off ≤ record_size o off'
size_front o off off' l = go (ltb short_max off) (ltb short_max off') refl refl
  where
    go : (b c : Bool) → ltb short_max off ≡ b → ltb short_max off' ≡ c → size_by o b ≤ size_by o c
    go true true p q = omega arith
    go true false p q = absurd (omega (arith, ltb-true short_max off p, ltb-false short_max off' q))
    go false true p q = size_short o
    go false false p q = omega arith

sizes_front : (hs : List Held) (off off' : ℕ) → off ≤ off' → record_sizes off hs ≤ record_sizes off' hs
unfolding record_sizes
sizes_front [] off off' l = omega arith
sizes_front (h ∷ hs) off off' l = omega (
  arith,
  size_front h.key.owner off off' l,
  sizes_front hs (off + length h.line) (off' + length h.line) (omega arith),
)

sizes_struck : (k : Key) (hs : List Held) (off : ℕ) → record_sizes off (strike k hs) ≤ record_sizes off hs
unfolding record_sizes strike
sizes_struck k [] off = omega arith
sizes_struck k (h ∷ hs) off =
    go (same_key k h.key) (sizes_struck k hs off) (sizes_struck k hs (off + length h.line))
  where
    go : (b : Bool) → record_sizes off (strike k hs) ≤ record_sizes off hs
        → record_sizes (off + length h.line) (strike k hs) ≤ record_sizes (off + length h.line) hs
        → record_sizes off (pick b (strike k hs) (h ∷ strike k hs))
        ≤ record_size h.key.owner off + record_sizes (off + length h.line) hs
    go true p q = omega (arith, p, sizes_front hs off (off + length h.line) (omega arith))
    go false p q = omega (arith, q)

pub room_struck : (k : Key) (hs : List Held) → sizes 0 (strike k hs) ≤ sizes 0 hs
room_struck k hs = omega (arith, sizes_sum (strike k hs) 0, sizes_sum hs 0, sizes_struck k hs 0)

pub texts_struck : (k : Key) (hs : List Held) → length (texts (strike k hs)) ≤ length (texts hs)
unfolding strike
texts_struck k [] = omega arith
texts_struck k (h ∷ hs) = go (same_key k h.key) (texts_struck k hs)
  where
    go : (b : Bool) → length (texts (strike k hs)) ≤ length (texts hs)
        → length (texts (pick b (strike k hs) (h ∷ strike k hs))) ≤ length (texts (h ∷ hs))
    go true p = omega (arith, p, texts_cons h hs)
    go false p = omega (arith, p, texts_cons h hs, texts_cons h (strike k hs))

-- ---- the row of the key's line, struck out

module _ {k : Key} {i t : List ℕ} {a : List Row} {heads : List ℕ} {links : List Link} {f : Fill} {hs : List Held}
    (x : InRows i t [] a heads links f.count f hs) (few : f.count < length a) where
  pub struck_tabled : {b : List Row} → Struck x k 0 0 few b → Tabled i t [] b f.count f.count (strike k hs)
  struck_tabled {b} y = record {
    is = y.lines;
    inside = inside_still x k 0 0 few b y;
    ahead = ahead_still x k 0 0 few b y;
    stands = stands_still x k 0 0 few b y;
    olds = x.tabled.olds;
    most = omega (arith, x.tabled.most, y.long);
    good = record {
      index = omega (arith, room_struck k hs, x.tabled.good.index);
      text = omega (arith, texts_struck k hs, x.tabled.good.text);
    };
  }

-- a key is held exactly where its line is found
pub find_holds : (k : Key) (hs : List Held) (o : Option (List ℕ)) → find k hs ≡ o → holds k hs ≡ known o
unfolding find holds
find_holds k [] o e = ap known e
find_holds k (h ∷ hs) o e = go (same_key k h.key) e (find_holds k hs o)
  where
    go : (b : Bool) → pick b (some h.line) (find k hs) ≡ o → (find k hs ≡ o → holds k hs ≡ known o)
        → b || holds k hs ≡ known o
    go true q ih = ap known q
    go false q ih = ih q

-- what `strike_row` says: the key is put behind the rows, and the line of the number before it struck out
module _ (k : Key) {a : List Row} {heads : List ℕ} {links : List Link} {f : Fill} (ready : Ready a heads links f.count)
    {b : List Row} (eb : b ≡ row_put a f.count k 0 0) {r : ℕ} (so : Sought (key_in b) f.count r) (rl : r ≤ f.count)
    {had : ℕ} (eh : had ≡ len_before b r) {d : List Row} (ed : d ≡ put_before b r 0) where
  module _ {i t : List ℕ} {hs : List Held} (x : InRows i t [] a heads links f.count f hs) where
    agree : Agree a b f.count
    agree = put_agree k ready eb

    told : (c : Bool) → eqb had 0 ≡ c → not c ≡ holds k hs
    told true q = go (spot_none b x agree (put_new k ready eb) so rl eh (eqb-true had 0 q))
      where
        go : Spot t (find k hs) None → false ≡ holds k hs
        go (nowhere e z) = sym (find_holds k hs none e)
        go (there p e z w) = let y : ◌≡◌ {A = ℕ} 0 1 = cc in absurd (omega arith)
    told false q = go (spot_line b x agree (put_new k ready eb) so rl eh (eqb-false had 0 q) refl)
      where
        go : {p : Part} → Spot t (find k hs) (Some p) → true ≡ holds k hs
        go (nowhere e z) = let y : ◌≡◌ {A = ℕ} 0 1 = cc in absurd (omega arith)
        go (there p e z w) = sym (find_holds k hs (some _) e)

    out : Struck x k 0 0 ready.few d
    out = struck x k 0 0 ready.few d
        (subst (Before x k 0 0 ready.few) (sym (ed ∙ ap (λ (v : List Row). put_before v r 0) eb))
        (before x k 0 0 ready.few r (subst (λ (v : List Row). Sought (key_in v) f.count r) eb so) rl))

  pub strikes_row : StrikesRow a heads links f k d (not (eqb had 0))
  strikes_row i t hs x = (told x (eqb had 0) refl, struck_tabled x ready.few (out x))

-- ---- the exits of the call

module _ (k : Key) (i t : List ℕ) where
  pub remove_unsound : known (content i t) ≡ false
      → record { answer = Err L.Unsound; index = i; text = t } ≡ remove_by k i t
  unfolding remove_by
  remove_unsound e = sym (go (content i t) e)
    where
      go : (o : Option Content) → known o ≡ false → removed_from k i t o ≡ unchanged i t (Err L.Unsound)
      go none q = refl
      go (some c) q = absurd (true-false q)

  -- of a store that holds c
  remove_from : (c : Content) → content i t ≡ some c → (r : Bool) → r ≡ holds k c.held
      → remove_by k i t
      ≡ pick r (holding i t (Ok true) (with_held c (strike k c.held))) (unchanged i t (Ok false))
  unfolding remove_by
  remove_from c e r q =
      ap (removed_from k i t) e
      ∙ ap (λ (b : Bool). pick b (holding i t (Ok true) (with_held c (strike k c.held))) (unchanged i t (Ok false)))
      (sym q)

-- in a store of which stock is taken
module _ {N : ℕ} {i t : List ℕ} {l : Ledger N} {s : Stock} (w : Stocks i t l s) (b : Bytes i) (k : Key)
    {d : List Row} {r : Bool} (y : StrikesRow l.table.rows l.table.heads l.table.links s.fill k d r) where
  a : Whole i t l.shares s.front
  a = whole i t l.shares s.front w.front b w.is

  gone : (r ≡ holds k a.all.held) × Tabled (drop s.front i) t [] d s.fill.count s.fill.count (strike k a.all.held)
  gone = y (drop s.front i) t a.all.held (w.loads.0 t [] a.all.held a.lines)

  pub remove_settles : Settles (mid_of s.front (length i - s.front) i) t [] d s.fill s.fill.count
  remove_settles =
      subst (λ (q : List ℕ). Settles q t [] d s.fill s.fill.count) (sym (tail_part s.front i))
      (strike k a.all.held, gone.1)

  pub remove_none : r ≡ false → record { answer = Ok r; index = i; text = t } ≡ remove_by k i t
  remove_none e =
      ap (λ (v : Bool). record { answer = Ok v; index = i; text = t }) e
      ∙ sym (remove_from k i t a.all a.is r gone.0
      ∙ ap (λ (v : Bool). pick v (holding i t (Ok true) (with_held a.all (strike k a.all.held)))
      (unchanged i t (Ok false))) e)

  pub remove_done : r ≡ true → {part t' : List ℕ}
      → Settled (mid_of s.front (length i - s.front) i) t [] d s.fill s.fill.count part t'
      → record { answer = Ok r; index = put_mid s.front (length i - s.front) i part; text = t' } ≡ remove_by k i t
  remove_done e {part} {t'} z =
      let v = subst (λ (q : List ℕ). Settled q t [] d s.fill s.fill.count part t') (tail_part s.front i) z
      (strike k a.all.held) gone.1 in
      ap (λ (v : Bool). record { answer = Ok v; index = put_mid s.front (length i - s.front) i part; text = t' }) e
      ∙ ap₂ (λ (p q : List ℕ). record { answer = Ok true; index = p; text = q })
      (tail_back s.front i part ∙ a.encoded part (strike k a.all.held) v.0) v.1
      ∙ sym (remove_from k i t a.all a.is r gone.0
      ∙ ap (λ (v : Bool). pick v (holding i t (Ok true) (with_held a.all (strike k a.all.held)))
      (unchanged i t (Ok false))) e)
