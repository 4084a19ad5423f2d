-- Writing out the lines that are still held: one line moved down or copied, a number's turn, and the end.
-- Assumes nothing.
use mathlib.Core.Bool.{Bool, true, false}
use mathlib.Core.List.{List, ◌++◌, append_assoc}
use mathlib.Core.Path.{◌≡◌, refl, sym, ap, ap₂, ◌∙◌, subst}
use Prim.Native.Nat.{ℕ, ◌+◌, ◌-◌, ◌≤◌, ◌<◌}
use native.Mathlib.Omega.{arith}
use lib.Dec.{ltb}
use lib.ListN.{length, take, drop, replicate, length-append, length-replicate, length-drop, take-append-drop}
use lib.Seq.{take_at, drop_at, drop-drop, take-add, drop-append-le, length-take-le}
use borrow.Author.Tests.{ltb-true}
use borrow.Rule.Slice.PartMut.{put_mid, mid_of}
use Rattle.text.specs.Bytes.{pick, written, write_buffer}
use Rattle.text.proofs.BytesLaws.{buffer_fits, written-length}
use Rattle.store.specs.declared.rows.Row.{Row}
use Rattle.store.specs.Held.{Held}
use Rattle.store.specs.Inner.{sizes, Sized}
use Rattle.store.specs.Layout.{record_bytes, records, texts, padded, encode_records, encode_text}
use Rattle.store.specs.Table.{living, held_at, line_at, Tabled}
use Rattle.store.specs.Rows.{key_in, start_in, len_in}
use Rattle.store.proofs.BufferLaws.{written_part}
use Rattle.store.proofs.LivingLaws.{sizes_within, texts_within, skipped, line_long, records_more, texts_more}
use Rattle.store.proofs.LivingLaws.{used_more}
use Rattle.store.proofs.RowLaws.{padded_is, zeros-append, drop-zeros}

-- ---- one line

pub from_text : (t s : List ℕ) (b : Bool) (n : ℕ) → b ≡ true → n ≤ length (pick b t s) → n ≤ length t
from_text t s b n e l = subst (λ (x : Bool). n ≤ length (pick x t s)) e l

pub from_lines : (t s : List ℕ) (b : Bool) (n : ℕ) → b ≡ false → n ≤ length (pick b t s) → n ≤ length s
from_lines t s b n e l = subst (λ (x : Bool). n ≤ length (pick x t s)) e l

-- a line of the text, moved down within the part that is lent
module _ (t s : List ℕ) (off start len : ℕ) (b : Bool) where
  pub moved_line : b ≡ true → off ≤ start → start + len ≤ length t → (ys : List ℕ)
      → ys ≡ drop (start - off) (mid_of off (start + len - off) t)
      ++ drop (length (mid_of off (start + len - off) t) - (start - off)) (mid_of off (start + len - off) t)
      → put_mid off (start + len - off) t ys ≡ written t off (take len (drop start (pick b t s)))
  moved_line e l h ys q =
      let back : List ℕ = drop off t in
      let part : List ℕ = take (start + len - off) back in
      let v : List ℕ = take len (drop start t) in
      let size : start + len - off ≡ start - off + len = omega arith in
      let fits : start + len - off ≤ length back = rw (length-drop off t) (omega arith) in
      let gone : length (take (start - off) back) ≡ start - off
      = length-take-le (start - off) back (rw (length-drop off t) (omega arith)) in
      let there : off + (start - off) ≡ start = omega arith in
      let line : drop (start - off) part ≡ v
      = ap (λ (m : ℕ). drop (start - off) (take m back)) size
      ∙ ap (drop (start - off)) (take-add (start - off) len back)
      ∙ drop_at (take (start - off) back) (take len (drop (start - off) back)) (start - off) gone
      ∙ ap (take len) (drop-drop (start - off) off t ∙ ap (λ (m : ℕ). drop m t) there) in
      let whole : length part ≡ start + len - off = length-take-le (start + len - off) back fits in
      let rest : length part - (start - off) ≡ len = omega arith in
      let long : length v ≡ len = length-take-le len (drop start t) (rw (length-drop start t) (omega arith)) in
      let behind : drop len part ++ drop (start + len - off) back ≡ drop len back
      = sym (drop-append-le len part (drop (start + len - off) back) (omega arith))
      ∙ ap (drop len) (take-append-drop (start + len - off) back) in
      ap (λ (x : List ℕ). take off t ++ (x ++ drop (start + len - off) back))
      (q ∙ ap₂ (λ (x : List ℕ) (m : ℕ). x ++ drop m part) line rest)
      ∙ ap (λ (x : List ℕ). take off t ++ x) (append_assoc v (drop len part) (drop (start + len - off) back)
      ∙ ap (λ (x : List ℕ). v ++ x) behind
      ∙ ap (λ (m : ℕ). v ++ drop m back) (sym long))
      ∙ sym (written_part t off v)
      ∙ ap (λ (x : Bool). written t off (take len (drop start (pick x t s)))) (sym e)

  -- a new line, copied
  pub copied_line : b ≡ false → off + len ≤ length t → start + len ≤ length s → (t' : List ℕ)
      → t' ≡ write_buffer t off (take (start + len - start) (drop start s))
      → t' ≡ written t off (take len (drop start (pick b t s)))
  copied_line e h l t' q =
      let n : start + len - start ≡ len = omega arith in
      let v : List ℕ = take len (drop start s) in
      let long : length v ≡ len = length-take-le len (drop start s) (rw (length-drop start s) (omega arith)) in
      q ∙ ap (λ (m : ℕ). write_buffer t off (take m (drop start s))) n ∙ buffer_fits t off v (omega arith)
      ∙ ap (λ (x : Bool). written t off (take len (drop start (pick x t s)))) (sym e)

-- ---- what is written at a place

module _ (l : List ℕ) (at : ℕ) (v : List ℕ) (fits : at + length v ≤ length l) where
  front : length (take at l ++ v) ≡ at + length v
  front = length-append (take at l) v ∙ ap (λ (n : ℕ). n + length v) (length-take-le at l (omega arith))

  split : written l at v ≡ (take at l ++ v) ++ drop (at + length v) l
  unfolding written
  split = sym (append_assoc (take at l) v (drop (at + length v) l))

  pub written_front : take (at + length v) (written l at v) ≡ take at l ++ v
  written_front = ap (take (at + length v)) split ∙ take_at (take at l ++ v) (drop (at + length v) l) _ front

  pub written_rest : drop (at + length v) (written l at v) ≡ drop (at + length v) l
  written_rest = ap (drop (at + length v)) split ∙ drop_at (take at l ++ v) (drop (at + length v) l) _ front

-- what is behind it is as it was
rest_more : (l l' l'' : List ℕ) (at to : ℕ) (v : List ℕ) → to ≡ at + length v → l'' ≡ written l' at v
    → at + length v ≤ length l' → drop at l' ≡ drop at l → drop to l'' ≡ drop to l
rest_more l l' l'' at to v e q f g =
    ap₂ (λ (m : ℕ) (x : List ℕ). drop m x) e q ∙ written_rest l' at v f
    ∙ sym (drop-drop (length v) at l') ∙ ap (drop (length v)) g
    ∙ drop-drop (length v) at l ∙ ap (λ (m : ℕ). drop m l) (sym e)

-- ---- the lines of the first k numbers are written out; index and text behind them are as they were

pub record Settling (i t s : List ℕ) (a : List Row) (old c : ℕ) (i' t' : List ℕ) (at off k : ℕ) : Type 0 where
  pub hs : List Held
  pub tabled : Tabled i t s a old c hs
  pub most : k ≤ c
  pub place : at ≡ sizes 0 (living (line_at t s a old) k)
  pub used : off ≡ length (texts (living (line_at t s a old) k))
  pub index : take at i' ≡ records 0 (living (line_at t s a old) k)
  pub text : take off t' ≡ texts (living (line_at t s a old) k)
  pub index_rest : drop at i' ≡ drop at i
  pub text_rest : drop off t' ≡ drop off t
  pub index_long : length i' ≡ length i
  pub text_long : length t' ≡ length t

module _ {i t s : List ℕ} {a : List Row} {old c : ℕ} {i' t' : List ℕ} {at off k : ℕ}
    (w : Settling i t s a old c i' t' at off k) where
  abbrev S : ℕ → List Held
  S = line_at t s a old

  pub at_within : at ≤ length i'
  at_within = omega (arith, w.index_long, w.place, sizes_within w.tabled k w.most)

  pub off_within : off ≤ length t'
  off_within = omega (arith, w.text_long, w.used, texts_within w.tabled k w.most)

  -- a number with no line
  pub settle_skip : k < c → len_in a k ≡ 0 → Settling i t s a old c i' t' at off (k + 1)
  settle_skip l e =
      let same : living S (k + 1) ≡ living S k = skipped w.tabled k e in record {
        hs = w.hs;
        tabled = w.tabled;
        most = omega arith;
        place = w.place ∙ ap (sizes 0) (sym same);
        used = w.used ∙ ap (λ (x : List Held). length (texts x)) (sym same);
        index = w.index ∙ ap (records 0) (sym same);
        text = w.text ∙ ap texts (sym same);
        index_rest = w.index_rest;
        text_rest = w.text_rest;
        index_long = w.index_long;
        text_long = w.text_long;
      }

  -- a number with a line
  module _ (l : k < c) (n : len_in a k ≡ 0 → ⊥) where
    abbrev len : ℕ
    len = len_in a k

    abbrev start : ℕ
    start = start_in a k

    abbrev new : List ℕ
    new = record_bytes (key_in a k) off len

    abbrev h : Held
    h = held_at t s a old k

    records-next : records 0 (living S (k + 1)) ≡ records 0 (living S k) ++ new
    records-next = records_more w.tabled k l n
        ∙ ap (λ (m : ℕ). records 0 (living S k) ++ record_bytes (key_in a k) m len) (sym w.used)

    place-next : at + length new ≡ sizes 0 (living S (k + 1))
    place-next = ap (λ (m : ℕ). m + length new) w.place
        ∙ sym (ap length records-next ∙ length-append (records 0 (living S k)) new)

    used_next : off + len ≡ length (texts (living S (k + 1)))
    used_next = ap (λ (x : ℕ). x + len) w.used ∙ used_more w.tabled k l n

    pub fits_index : at + length (record_bytes (key_in a k) off (len_in a k)) ≤ length i'
    fits_index = omega (arith, place-next, w.index_long, sizes_within w.tabled (k + 1) (omega arith))

    pub fits_text : off + len_in a k ≤ length t'
    fits_text = omega (arith, used_next, w.text_long, texts_within w.tabled (k + 1) (omega arith))

    pub fits_source : start_in a k + len_in a k ≤ length (pick (ltb k old) t' s)
    fits_source = go (ltb k old) (w.tabled.inside k l)
      where
        go : (b : Bool) → start + len ≤ length (pick b t s) → start + len ≤ length (pick b t' s)
        go true f = omega (arith, w.text_long)
        go false f = f

    pub stands_ahead : ltb k old ≡ true → off ≤ start_in a k
    stands_ahead e = omega (arith, w.used, w.tabled.ahead k (ltb-true k old e))

    line_is : take len (drop start (pick (ltb k old) t' s)) ≡ h.line
    line_is = go (ltb k old) refl
      where
        go : (b : Bool) → ltb k old ≡ b → take len (drop start (pick b t' s)) ≡ take len (drop start (pick b t s))
        go false e = refl
        go true e =
            let d : off + (start - off) ≡ start = omega (arith, stands_ahead e) in
            let f : (x : List ℕ) → drop start x ≡ drop (start - off) (drop off x) =
            λ x. sym (drop-drop (start - off) off x ∙ ap (λ (m : ℕ). drop m x) d) in
            ap (take len) (f t' ∙ ap (drop (start - off)) w.text_rest ∙ sym (f t))

    pub settle_turn : (size : ℕ) → Sized (key_in a k) off size → (i'' t'' : List ℕ)
        → i'' ≡ written i' at (record_bytes (key_in a k) off (len_in a k))
        → t'' ≡ written t' off (take (len_in a k) (drop (start_in a k) (pick (ltb k old) t' s)))
        → Settling i t s a old c i'' t'' (at + size) (off + len_in a k) (k + 1)
    settle_turn size z i'' t'' ei et =
        let line : List ℕ = h.line in
        let e : t'' ≡ written t' off line = et ∙ ap (written t' off) line_is in
        let f : off + length line ≤ length t' = omega (arith, fits_text, line_long w.tabled k l n) in
        let o : off + len ≡ off + length line = omega (arith, line_long w.tabled k l n) in
        let p : at + size ≡ at + length new = ap (λ (m : ℕ). at + m) (z len) in record {
          hs = w.hs;
          tabled = w.tabled;
          most = omega arith;
          place = p ∙ place-next;
          used = used_next;
          index = ap₂ (λ (m : ℕ) (x : List ℕ). take m x) p ei ∙ written_front i' at new fits_index
              ∙ ap (λ (x : List ℕ). x ++ new) w.index ∙ sym records-next;
          text = ap₂ (λ (m : ℕ) (x : List ℕ). take m x) o e ∙ written_front t' off line f
              ∙ ap (λ (x : List ℕ). x ++ line) w.text ∙ sym (texts_more w.tabled k l n);
          index_rest = rest_more i i' i'' at (at + size) new p ei fits_index w.index_rest;
          text_rest = rest_more t t' t'' off (off + len) line o e f w.text_rest;
          index_long = ap length ei ∙ written-length i' at new fits_index ∙ w.index_long;
          text_long = ap length e ∙ written-length t' off line f ∙ w.text_long;
        }

-- a buffer in which all from `end` on was 0, and what is behind `at` set to 0 up to there
zeroed : (l p r : List ℕ) (at end : ℕ) (q : List ℕ) → length p ≡ length l → at ≤ length p → end ≤ length l
    → take at p ≡ r → drop at p ≡ drop at l → drop end l ≡ replicate (length l - end) 0
    → q ≡ written p at (replicate (end - at) 0) → q ≡ padded (length l) r
unfolding written
zeroed l p r at end q z w b f g e y =
    let n : at + length (replicate {A = ℕ} (end - at) 0) ≡ at + (end - at)
    = ap (λ (m : ℕ). at + m) (length-replicate {A = ℕ} (end - at) 0) in
    let later : end + (at + (end - at) - end) ≡ at + (end - at) = omega arith in
    let back : drop (at + (end - at)) p ≡ replicate (length l - end - (at + (end - at) - end)) 0
    = sym (drop-drop (end - at) at p) ∙ ap (drop (end - at)) g ∙ drop-drop (end - at) at l
    ∙ ap (λ (m : ℕ). drop m l) (sym later)
    ∙ sym (drop-drop (at + (end - at) - end) end l) ∙ ap (drop (at + (end - at) - end)) e
    ∙ drop-zeros (at + (end - at) - end) (length l - end) in
    let is : q ≡ r ++ replicate (end - at + (length l - end - (at + (end - at) - end))) 0
    = y ∙ ap₂ (λ (x : List ℕ) (m : ℕ). x ++ (replicate (end - at) 0 ++ drop m p)) f n
    ∙ ap (λ (x : List ℕ). r ++ (replicate (end - at) 0 ++ x)) back
    ∙ ap (λ (x : List ℕ). r ++ x) (zeros-append (end - at) (length l - end - (at + (end - at) - end))) in
    padded_is (length l) q r (end - at + (length l - end - (at + (end - at) - end))) is
    (ap length is ∙ length-append r (replicate (end - at + (length l - end - (at + (end - at) - end))) 0)
    ∙ omega (
      arith,
      length-replicate {A = ℕ} (end - at + (length l - end - (at + (end - at) - end))) 0,
      ap length f,
      length-take-le at p w,
    ))

module _ {i t s : List ℕ} {a : List Row} {old c : ℕ} {i' t' : List ℕ} {at off k : ℕ}
    (w : Settling i t s a old c i' t' at off k) (l : c ≤ k) (hs : List Held) (T : Tabled i t s a old c hs) where
  all : living (line_at t s a old) k ≡ hs
  all = let e : k ≡ c = omega (arith, w.most) in ap (living (line_at t s a old)) e ∙ sym T.is

  pub settled_index : (end : ℕ) → end ≤ length i → drop end i ≡ replicate (length i - end) 0 → (q : List ℕ)
      → q ≡ written i' at (replicate (end - at) 0) → q ≡ encode_records (length i) hs
  unfolding encode_records
  settled_index end b f q e = zeroed i i' (records 0 hs) at end q w.index_long (at_within w) b
      (w.index ∙ ap (records 0) all) w.index_rest f e

  pub settled_text : (end : ℕ) → end ≤ length t → drop end t ≡ replicate (length t - end) 0 → (q : List ℕ)
      → q ≡ written t' off (replicate (end - off) 0) → q ≡ encode_text (length t) hs
  unfolding encode_text
  settled_text end b f q e = zeroed t t' (texts hs) off end q w.text_long (off_within w) b
      (w.text ∙ ap texts all) w.text_rest f e
