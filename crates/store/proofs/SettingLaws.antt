-- A share setting written: the index with its record.
-- Assumes nothing.
use mathlib.Core.List.{List, [], ◌∷◌, ◌++◌, append_assoc}
use mathlib.Core.Path.{◌≡◌, sym, ap, ap₂, ◌∙◌}
use Prim.Native.Nat.{ℕ, zero, suc, ◌+◌, ◌-◌, ◌≤◌, ◌<◌}
use native.Mathlib.Nat.{zero-add}
use native.Mathlib.Omega.{arith}
use lib.ListN.{length, get_or, set, take, drop, replicate, length-append, length-set}
use lib.Seq.{take_at, drop_at, take-set-le, drop-set-lt, get_or-set_same}
use borrow.Rule.Slice.PartMut.{put_mid, mid_of}
use Rattle.text.proofs.LentLaws.{tail_part, tail_back}
use Rattle.store.specs.Fronts.{Changes, Changed}
use Rattle.store.specs.Held.{Held}
use Rattle.store.specs.Inner.{sizes}
use Rattle.store.specs.Layout.{records, share_bytes, share_records, padded, encode_index}
use Rattle.store.specs.Settings.{Writes}
use Rattle.store.specs.Shares.{share_size, share_sizes}
use Rattle.store.proofs.ShareLaws.{length_shares}

-- ---- the records before a share and behind it

split_at : (p o : ℕ) (g : List ℕ) → o < length g
    → share_records p g
    ≡ share_records p (take o g) ++ (share_bytes (p + o) (get_or g o 0) ++ share_records (suc (p + o)) (drop (suc o) g))
unfolding share_records
split_at p o [] l = absurd (omega arith)
split_at p zero (b ∷ g) l =
    let e : p ≡ p + 0 = omega arith in
    ap (λ (k : ℕ). share_bytes k b ++ share_records (suc k) g) e
split_at p (suc o) (b ∷ g) l =
    let e : suc p + o ≡ p + suc o = omega arith in
    ap (λ (q : List ℕ). share_bytes p b ++ q)
    (split_at (suc p) o g (omega arith)
    ∙ ap (λ (k : ℕ). share_records (suc p) (take o g)
    ++ (share_bytes k (get_or g o 0) ++ share_records (suc k) (drop (suc o) g))) e)
    ∙ sym (append_assoc (share_bytes p b) (share_records (suc p) (take o g))
    (share_bytes (p + suc o) (get_or g o 0) ++ share_records (suc (p + suc o)) (drop (suc o) g)))

pub sizes-set : (g : List ℕ) (o b : ℕ) → o < length g
    → share_sizes (set g o b) + share_size (get_or g o 0) ≡ share_sizes g + share_size b
unfolding share_sizes
sizes-set [] o b l = absurd (omega arith)
sizes-set (x ∷ g) zero b l = omega arith
sizes-set (x ∷ g) (suc o) b l =
    let ih : share_sizes (set g o b) + share_size (get_or g o 0) ≡ share_sizes g + share_size b
    = sizes-set g o b (omega arith) in
    omega (arith, ih)

abbrev front : List ℕ → ℕ → List ℕ
front g o = share_records 0 (take o g)

abbrev behind : List ℕ → ℕ → List Held → List ℕ
behind g o hs = share_records (suc o) (drop (suc o) g) ++ records 0 hs

abbrev unused : ℕ → List ℕ → List Held → ℕ
unused n g hs = n - (share_sizes g + sizes 0 hs)

encode_at : (n o : ℕ) (g : List ℕ) (hs : List Held) → o < length g
    → encode_index n g hs
    ≡ front g o ++ (share_bytes o (get_or g o 0) ++ (behind g o hs ++ replicate (unused n g hs) 0))
unfolding encode_index padded
encode_at n o g hs l =
    let z : List ℕ = replicate (unused n g hs) 0 in
    let s : List ℕ = share_bytes o (get_or g o 0) in
    let r : List ℕ = share_records (suc o) (drop (suc o) g) in
    let long : length (share_records 0 g ++ records 0 hs) ≡ share_sizes g + sizes 0 hs
    = length-append (share_records 0 g) (records 0 hs) ∙ ap (λ (k : ℕ). k + sizes 0 hs) (length_shares 0 g) in
    let at : share_records 0 g ≡ front g o ++ (s ++ r)
    = split_at 0 o g l
    ∙ ap (λ (k : ℕ). front g o ++ (share_bytes k (get_or g o 0) ++ share_records (suc k) (drop (suc o) g))) (zero-add o) in
    ap (λ (k : ℕ). (share_records 0 g ++ records 0 hs) ++ replicate (n - k) 0) long
    ∙ ap (λ (q : List ℕ). (q ++ records 0 hs) ++ z) at
    ∙ ap (λ (q : List ℕ). q ++ z) (append_assoc (front g o) (s ++ r) (records 0 hs))
    ∙ append_assoc (front g o) ((s ++ r) ++ records 0 hs) z
    ∙ ap (λ (q : List ℕ). front g o ++ (q ++ z)) (append_assoc s r (records 0 hs))
    ∙ ap (λ (q : List ℕ). front g o ++ q) (append_assoc s (r ++ records 0 hs) z)

-- ---- `write_share`

module _ {i s : List ℕ} {o had share : ℕ} {g : List ℕ} {hs : List Held} (w : Writes i s o had share g hs) where
  is : i ≡ front g o ++ (share_bytes o had ++ (behind g o hs ++ replicate (unused (length i) g hs) 0))
  is = w.index ∙ encode_at (length i) o g hs w.owner
      ∙ ap (λ (b : ℕ). front g o ++ (share_bytes o b ++ (behind g o hs ++ replicate (unused (length i) g hs) 0)))
      (sym w.former)

  swaps : share_sizes s + share_size had ≡ share_sizes g + share_size share
  swaps =
      ap₂ (λ (x : List ℕ) (b : ℕ). share_sizes x + share_size b) w.later w.former
      ∙ sizes-set g o share w.owner

  module _ {at : ℕ} (e : at ≡ share_sizes (take o s)) where
    place : length (front g o) ≡ at
    place =
        length_shares 0 (take o g)
        ∙ ap share_sizes (sym (ap (take o) w.later ∙ take-set-le o g o share (omega arith))) ∙ sym e

    pub write_within : at ≤ length i
    write_within =
        omega (
          arith,
          place,
          ap length is,
          length-append (front g o)
              (share_bytes o had ++ (behind g o hs ++ replicate (unused (length i) g hs) 0)),
        )

    part_is : mid_of at (length i - at) i
        ≡ share_bytes o had ++ (behind g o hs ++ replicate (unused (length i) g hs) 0)
    part_is =
        tail_part at i ∙ ap (drop at) is
        ∙ drop_at (front g o) (share_bytes o had ++ (behind g o hs ++ replicate (unused (length i) g hs) 0)) at place

    pub write_changes : Changes (mid_of at (length i - at) i) o had share
    write_changes = record {
      behind = behind g o hs;
      zeros = unused (length i) g hs;
      is = part_is;
      room = omega (arith, swaps, w.fits, w.room);
      most = w.most;
    }

    pub write_done : {p : List ℕ} → Changed (mid_of at (length i - at) i) o had share p
        → put_mid at (length i - at) i p ≡ encode_index (length i) s hs
    write_done {p} x =
        let v : o < length s = omega (arith, w.owner, ap length w.later, length-set g o share) in
        let new : p ≡ share_bytes o share ++ (behind g o hs ++ replicate (unused (length i) s hs) 0)
        = x (behind g o hs) (unused (length i) g hs) (unused (length i) s hs) part_is
        (omega (arith, swaps, w.fits, w.room)) in
        let first : take at i ≡ front s o
        = ap (take at) is
        ∙ take_at (front g o) (share_bytes o had ++ (behind g o hs ++ replicate (unused (length i) g hs) 0)) at place
        ∙ ap (share_records 0) (sym (ap (take o) w.later ∙ take-set-le o g o share (omega arith))) in
        let later : drop (suc o) g ≡ drop (suc o) s
        = sym (ap (drop (suc o)) w.later ∙ drop-set-lt (suc o) g o share (omega arith)) in
        let own : share ≡ get_or s o 0
        = sym (ap (λ (q : List ℕ). get_or q o 0) w.later ∙ get_or-set_same g o share 0 w.owner) in
        tail_back at i p
        ∙ ap₂ (λ (x y : List ℕ). x ++ y) first
        (new
        ∙ ap₂ (λ (b : ℕ) (q : List ℕ). share_bytes o b
        ++ ((share_records (suc o) q ++ records 0 hs) ++ replicate (unused (length i) s hs) 0)) own later)
        ∙ sym (encode_at (length i) o s hs v)
