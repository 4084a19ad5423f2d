-- The records of the shares read one after the other; a share set: its record written, taken out or put in between.
-- Assumes nothing.
use mathlib.Core.Bool.{Bool, true, false}
use mathlib.Core.List.{List, [], ◌∷◌, ◌++◌, append_assoc}
use mathlib.Core.Path.{◌≡◌, refl, sym, ap, ap₂, ◌∙◌}
use Prim.Native.Nat.{ℕ, zero, suc, ◌+◌, ◌-◌, ◌*◌, ◌≤◌, ◌<◌}
use native.Mathlib.Numerals.{add-one}
use native.Mathlib.Omega.{arith}
use lib.Dec.{leb}
use borrow.Rule.Slice.PartMut.{mid_of}
use Rattle.text.proofs.LentLaws.{tail_part}
use lib.ListN.{length, get_or, set, take, drop, replicate, length-append, length-replicate, length-drop}
use lib.ListN.{replicate-append-replicate}
use Rattle.std.proofs.lemmas.List.{drop-take, drop-append-le}
use lib.Seq.{drop-drop, take_at, drop_at, set_at, length-take-le}
use lib.Seq.{append_snoc}
use borrow.Author.Tests.{ne_eqb}
use Rattle.std.specs.Bool.{MatchBool}
use Rattle.std.specs.List.{All, AllWithin, HoldsAt}
use Rattle.std.proofs.lemmas.List.Elements.{All-from_all_within}
use Rattle.text.specs.Bytes.{written}
use Rattle.text.specs.Uuid.{big_endian}
use Rattle.store.specs.Decode.{front_share, Fronted, and_share, shares_at, fronted}
use Rattle.store.specs.Fronts.{starts_share, Fronts, Moved, Changes, Changed}
use Rattle.store.specs.Held.{short_max}
use Rattle.store.specs.Inner.{be2, be4}
use Rattle.store.specs.Layout.{Bytes, share_bytes}
use Rattle.store.specs.Shares.{owners, no_shares, share_size, share_sizes}
use Rattle.store.proofs.BodyLaws.{bytes_behind, be4_is}
use Rattle.store.proofs.BoolLaws.{true-false, and_false_right, or_false}
use Rattle.store.proofs.ShareRecordLaws.{share_none, share_short, share_long, size_none, size_short, size_long}
use Rattle.store.proofs.ShareRecordLaws.{size_most, length_share, front_stop, front_read, share_drop}
use Rattle.store.proofs.ShareRecordLaws.{shares_more, shares_done}

-- ---- `read_shares`

-- no share stands there
shares_stop : (k o : ℕ) (i : List ℕ) → starts_share i ≡ false
    → shares_at k o i ≡ record { shares = replicate k 0; rest = i }
shares_stop zero o i e = shares_done o i
shares_stop (suc k) o i e =
    shares_more k o i ∙ ap (λ (b : ℕ). and_share b (shares_at k (suc o) (drop (share_size b) i))) (front_stop o i e)
    ∙ ap (and_share 0) (shares_stop k (suc o) i e)

pub shares_none : (k o : ℕ) (i : List ℕ) → (get_or i 0 0 ≡ 4 → ⊥) → (get_or i 0 0 ≡ 6 → ⊥)
    → shares_at k o i ≡ record { shares = replicate k 0; rest = i }
shares_none k o i m n =
    shares_stop k o i (or_false _ _ (and_false_right (leb 4 (length i)) _ (ne_eqb _ 4 m))
    (and_false_right (leb 6 (length i)) _ (ne_eqb _ 6 n)))

abbrev onto : List ℕ → Fronted → Fronted
onto s f = record { shares = s ++ f.shares; rest = f.rest }

-- the shares of the owners before o are read; what stands from `at` on is still to be read
pub record Reading (i g : List ℕ) (at o : ℕ) : Type 0 where
  pub within : at ≤ length i
  pub most : o ≤ owners
  pub done : List ℕ
  pub long : length done ≡ o
  pub array : g ≡ done ++ replicate (owners - o) 0
  pub is : fronted i ≡ onto done (shares_at (owners - o) o (drop at i))

pub reading : (i g : List ℕ) → g ≡ no_shares → Reading i g 0 0
reading i g e = record { within = omega arith; most = omega arith; done = []; long = refl; array = e; is = refl }

module _ {i g : List ℕ} {at o : ℕ} (w : Reading i g at o) where
  -- the rest of the index, as it is lent
  abbrev rest : List ℕ
  rest = mid_of at (length i - at) i

  module _ (y : Bytes i) (l : o < owners) {b n : ℕ} (e : b ≡ front_share o rest) (en : n ≡ share_size b) where
    share_is : b ≡ front_share o (drop at i)
    share_is = e ∙ ap (front_share o) (tail_part at i)

    pub reading_within : at + n ≤ length i
    reading_within =
        omega (
          arith,
          w.within,
          en ∙ ap share_size share_is,
          (front_read o (drop at i) (bytes_behind i at y)).within,
          length-drop at i,
        )

    pub reading_turn : Reading i (set g o b) (at + n) (o + 1)
    reading_turn =
        let k : ℕ = owners - (o + 1) in
        let one : owners - o ≡ suc k = omega (arith, l) in
        let up : suc o ≡ o + 1 = omega arith in
        let step : shares_at (owners - o) o (drop at i) ≡ and_share b (shares_at k (o + 1) (drop (at + n) i))
        = ap (λ (m : ℕ). shares_at m o (drop at i)) one ∙ shares_more k o (drop at i)
        ∙ ap₂ (λ (x m : ℕ). and_share x (shares_at k m (drop (share_size x) (drop at i)))) (sym share_is) up
        ∙ ap (λ (q : List ℕ). and_share b (shares_at k (o + 1) q))
        (drop-drop (share_size b) at i ∙ ap (λ (m : ℕ). drop (at + m) i) (sym en)) in
        record {
          within = reading_within;
          most = omega (arith, l);
          done = w.done ++ (b ∷ []);
          long = length-append w.done (b ∷ []) ∙ omega (arith, w.long);
          array = ap (λ (q : List ℕ). set q o b) (w.array ∙ ap (λ (m : ℕ). w.done ++ replicate m 0) one)
              ∙ set_at w.done 0 (replicate k 0) b o w.long
              ∙ sym (append_snoc w.done b (replicate k 0));
          is = w.is ∙ ap (onto w.done) step
              ∙ ap (λ (q : List ℕ). record {
                shares = q;
                rest = (shares_at k (o + 1) (drop (at + n) i)).rest;
              }) (sym (append_snoc w.done b (shares_at k (o + 1) (drop (at + n) i)).shares));
        }

  ended : shares_at (owners - o) o (drop at i) ≡ record { shares = replicate (owners - o) 0; rest = drop at i }
      → Fronts i g at
  ended e =
      let f : fronted i ≡ record { shares = g; rest = drop at i }
      = w.is ∙ ap (onto w.done) e
      ∙ ap (λ (q : List ℕ). record { shares = q; rest = drop at i }) (sym w.array) in
      record {
        within = w.within;
        shares = ap (λ (x : Fronted). x.shares) (sym f);
        rest = ap (λ (x : Fronted). x.rest) (sym f);
      }

  pub reading_all : owners ≤ o → Fronts i g at
  reading_all l =
      let z : owners - o ≡ 0 = omega (arith, l) in
      ended (ap (λ (k : ℕ). shares_at k o (drop at i)) z ∙ shares_done o (drop at i)
      ∙ ap (λ (k : ℕ). record { shares = replicate k 0; rest = drop at i }) (sym z))

  pub reading_stop : starts_share rest ≡ false → Fronts i g at
  reading_stop e = ended (shares_stop (owners - o) o (drop at i) (ap starts_share (sym (tail_part at i)) ∙ e))

-- ---- `any_share`

all_none : (s : List ℕ) → All (λ (x : ℕ). x ≡ 0) s → s ≡ replicate (length s) 0
all_none [] a = refl
all_none (x ∷ s) a =
    ap₂ (λ (y : ℕ) (q : List ℕ). y ∷ q) (a 0 0 (omega arith)) (all_none s (λ k d l. a (suc k) d (omega arith)))

pub no_share : (s : List ℕ) (r : Bool) → length s ≡ owners
    → MatchBool r ((k : ℕ) × (k < length s) × HoldsAt (λ (x : ℕ). x ≡ 0 → ⊥) s k) (AllWithin (λ (x : ℕ). x ≡ 0) s 0 (length s))
    → r ≡ false → s ≡ no_shares
no_share s true l h e = absurd (true-false e)
no_share s false l h e =
    all_none s (All-from_all_within (λ (x : ℕ). x ≡ 0) s h) ∙ ap (λ (k : ℕ). replicate {A = ℕ} k 0) l

-- ---- `share_place`

pub place-turn : (s : List ℕ) (o : ℕ) → share_sizes (take o s) + share_size (get_or s o 0) ≡ share_sizes (take (o + 1) s)
unfolding share_sizes
place-turn s o = go s o ∙ ap (λ (k : ℕ). share_sizes (take k s)) (sym (add-one o))
  where
    go : (s : List ℕ) (o : ℕ) → share_sizes (take o s) + share_size (get_or s o 0) ≡ share_sizes (take (suc o) s)
    go [] zero = refl
    go [] (suc o) = refl
    go (b ∷ s) zero = omega arith
    go (b ∷ s) (suc o) =
        let ih : share_sizes (take o s) + share_size (get_or s o 0) ≡ share_sizes (take (suc o) s) = go s o in
        omega (arith, ih)

pub place_most : (s : List ℕ) (o : ℕ) → share_sizes (take o s) ≤ 6 * o
unfolding share_sizes
place_most s zero = omega arith
place_most [] (suc o) = omega arith
place_most (b ∷ s) (suc o) = omega (arith, place_most s o, size_most b)

-- ---- `put_share`

module _ (o b : ℕ) where
  pub put_none : (d : List ℕ) → b ≡ 0 → d ≡ share_bytes o b ++ drop (share_size b) d
  put_none d e = sym (ap₂ (λ (p : List ℕ) (n : ℕ). p ++ drop n d) (share_none o b e) (size_none b e))

  pub put_short : (d : List ℕ) → (b ≡ 0 → ⊥) → b ≤ short_max → share_size b ≤ length d
      → written (set (set d 1 o) 0 4) 2 (be2 b) ≡ share_bytes o b ++ drop (share_size b) d
  unfolding written big_endian
  put_short d n l m =
      at d (omega (arith, m, size_short b n l))
      ∙ sym (ap₂ (λ (p : List ℕ) (k : ℕ). p ++ drop k d) (share_short o b n l) (size_short b n l))
    where
      at : (d : List ℕ) → 4 ≤ length d
          → written (set (set d 1 o) 0 4) 2 (be2 b) ≡ (4 ∷ o ∷ big_endian 2 b) ++ drop 4 d
      at [] m = absurd (omega (arith, m))
      at (x ∷ []) m = absurd (omega (arith, m))
      at (x ∷ y ∷ d) m = refl

  pub put_long : (d : List ℕ) → short_max < b → share_size b ≤ length d
      → written (set (set d 1 o) 0 6) 2 (be4 b) ≡ share_bytes o b ++ drop (share_size b) d
  unfolding written
  put_long d l m =
      at d (omega (arith, m, size_long b l))
      ∙ ap (λ (q : List ℕ). (6 ∷ o ∷ q) ++ drop 6 d) (be4_is b)
      ∙ sym (ap₂ (λ (p : List ℕ) (k : ℕ). p ++ drop k d) (share_long o b l) (size_long b l))
    where
      at : (d : List ℕ) → 6 ≤ length d → written (set (set d 1 o) 0 6) 2 (be4 b) ≡ (6 ∷ o ∷ be4 b) ++ drop 6 d
      at [] m = absurd (omega (arith, m))
      at (x ∷ []) m = absurd (omega (arith, m))
      at (x ∷ y ∷ d) m = refl

-- ---- `fit_record`

zeros_cut : (b : List ℕ) (m more k : ℕ) → m ≡ more + k
    → b ++ replicate m 0 ≡ (b ++ replicate more 0) ++ replicate k 0
zeros_cut b m more k e =
    ap (λ (n : ℕ). b ++ replicate n 0) e ∙ ap (λ (q : List ℕ). b ++ q) (sym (replicate-append-replicate more k 0))
    ∙ sym (append_assoc b (replicate more 0) (replicate k 0))

-- without the zeros at its end
cut : (s b : List ℕ) (k n : ℕ) → s ≡ b ++ replicate k 0 → length s ≡ n + k → take n s ≡ b
cut s b k n e l =
    ap (take n) e
    ∙ take_at b (replicate k 0) n
    (omega (arith, l, ap length e, length-append b (replicate k 0), length-replicate {A = ℕ} k 0))

module _ (part : List ℕ) (was size : ℕ) (lw : was ≤ length part) (ls : size ≤ length part) where
  abbrev n : ℕ
  n = length part

  pub moved_up : was < size → (p : List ℕ) → p ≡ take (size - was) part ++ take (n - (size - was)) part
      → Moved part was size p
  moved_up l p e = record { long = long; rest = rest }
    where
      k : ℕ
      k = size - was

      long : length p ≡ n
      long =
          ap length e ∙ length-append (take k part) (take (n - k) part)
          ∙ ap₂ (λ (x y : ℕ). x + y) (length-take-le k part (omega arith)) (length-take-le (n - k) part (omega arith))
          ∙ omega arith

      rest : (behind : List ℕ) (zeros more : ℕ) → drop was part ≡ behind ++ replicate zeros 0
          → size + more ≡ was + zeros → drop size p ≡ behind ++ replicate more 0
      rest behind zeros more d m =
          let z : zeros ≡ more + k = omega arith in
          let s : size ≡ k + was = omega arith in
          let r : n - k ≡ was + (n - size) = omega arith in
          let b : List ℕ = behind ++ replicate more 0 in
          let tail : drop was part ≡ b ++ replicate k 0 = d ∙ zeros_cut behind zeros more k z in
          let up : List ℕ = take k part ++ take (n - k) part in
          let kept : drop k up ≡ take (was + (n - size)) part
          = drop_at (take k part) (take (n - k) part) k (length-take-le k part (omega arith))
          ∙ ap (λ (x : ℕ). take x part) r in
          ap₂ drop s e ∙ sym (drop-drop was k up)
          ∙ ap (drop was) kept ∙ drop-take was (n - size) part
          ∙ cut (drop was part) b k (n - size) tail (omega (arith, length-drop was part))

  pub moved_down : size < was → (p : List ℕ) → p ≡ drop (was - size) part ++ replicate (was - size) 0
      → Moved part was size p
  moved_down l p e = record { long = long; rest = rest }
    where
      k : ℕ
      k = was - size

      long : length p ≡ n
      long =
          ap length e ∙ length-append (drop k part) (replicate k 0)
          ∙ ap₂ (λ (x y : ℕ). x + y) (length-drop k part) (length-replicate {A = ℕ} k 0) ∙ omega arith

      rest : (behind : List ℕ) (zeros more : ℕ) → drop was part ≡ behind ++ replicate zeros 0
          → size + more ≡ was + zeros → drop size p ≡ behind ++ replicate more 0
      rest behind zeros more d m =
          let z : zeros + k ≡ more = omega arith in
          let s : k + size ≡ was = omega arith in
          ap (drop size) e ∙ drop-append-le size (drop k part) (replicate k 0) (omega (arith, length-drop k part))
          ∙ ap (λ (x : List ℕ). x ++ replicate k 0)
          (drop-drop size k part ∙ ap (λ (x : ℕ). drop x part) s ∙ d)
          ∙ sym (zeros_cut behind more zeros k (sym z))

  pub moved_none : size ≤ was → was ≤ size → Moved part was size part
  moved_none l m = record {
    long = refl;
    rest = λ behind zeros more d e.
        let s : size ≡ was = omega arith in
        let z : zeros ≡ more = omega arith in
        ap (λ (x : ℕ). drop x part) s ∙ d ∙ ap (λ (x : ℕ). behind ++ replicate x 0) z;
  }

-- ---- `change_share`

module _ {part : List ℕ} {o had share : ℕ} (w : Changes part o had share) where
  long : length part ≡ share_size had + (length w.behind + w.zeros)
  long =
      ap length w.is ∙ length-append (share_bytes o had) (w.behind ++ replicate w.zeros 0)
      ∙ ap₂ (λ (x y : ℕ). x + y) (length_share o had) (length-append w.behind (replicate w.zeros 0)
      ∙ ap (λ (y : ℕ). length w.behind + y) (length-replicate w.zeros 0))

  pub change_fits : {x y : ℕ} → x ≡ share_size had → y ≡ share_size share → (x ≤ length part) × (y ≤ length part)
  change_fits e f = (omega (arith, e, long), omega (arith, f, long, w.room))

  pub change_long : {x y : ℕ} {p : List ℕ} → y ≡ share_size share → Moved part x y p → share_size share ≤ length p
  change_long f m = omega (arith, m.long, long, w.room)

  pub change_done : {x y : ℕ} {p q : List ℕ} → x ≡ share_size had → y ≡ share_size share → Moved part x y p
      → q ≡ share_bytes o share ++ drop (share_size share) p → Changed part o had share q
  change_done {x} {y} {p} e f m g behind zeros more is k =
      g ∙ ap (λ (r : List ℕ). share_bytes o share ++ r)
      (ap (λ (n : ℕ). drop n p) (sym f)
      ∙ m.rest behind zeros more
      (ap₂ drop e is ∙ share_drop o had (behind ++ replicate zeros 0)) (omega (arith, e, f, k)))
