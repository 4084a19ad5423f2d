-- The numbers before the first one that is struck out stay as they are; the index behind their records is lent, closed
-- up and given back.
-- Assumes nothing.
use mathlib.Core.List.{List, ◌++◌, append_assoc}
use mathlib.Core.Option.{some}
use mathlib.Core.Path.{◌≡◌, refl, sym, ap, ap₂, ◌∙◌, subst}
use Prim.Native.Nat.{ℕ, ◌+◌, ◌-◌, ◌≤◌, ◌<◌}
use native.Mathlib.Nat.{add_assoc}
use native.Mathlib.Omega.{arith}
use lib.Dec.{ltb}
use lib.ListN.{length, get_or, take, drop, replicate, length-append, length-replicate, length-take, take-append-drop}
use lib.Seq.{take_at, drop_at, drop-append-add, take-append-add, get_or-take}
use borrow.Author.Count.{below_more}
use borrow.Rule.Slice.PartMut.{put_mid, mid_of}
use Rattle.text.specs.Bytes.{pick, written}
use Rattle.text.proofs.BytesLaws.{written-length}
use Rattle.text.proofs.LentLaws.{tail_part, tail_back, tail_length}
use Rattle.store.specs.declared.rows.Row.{Row}
use Rattle.store.specs.declared.settle.Kept.{Kept}
use Rattle.store.specs.declared.table.Fill.{Fill}
use Rattle.store.specs.Decode.{decode}
use Rattle.store.specs.Held.{Held, index_max, text_max}
use Rattle.store.specs.Layout.{Bytes}
use Rattle.store.specs.Inner.{Sized, sizes}
use Rattle.store.specs.Rows.{row_in, key_in, start_in, len_in, unused, row_key}
use Rattle.store.specs.Layout.{record_bytes, records, texts, encode_records}
use Rattle.store.specs.Table.{living, line_at, Whole, Tabled, Takes_up, Keepable, Keeps, Extends}
use Rattle.store.specs.Table.{behind_kept, Lent, Closes, Closed, Settles, Settled}
use Rattle.store.proofs.BufferLaws.{tail_written}
use Rattle.store.proofs.DecodeLaws.{Laid, laid, long_index, long_text}
use Rattle.store.proofs.HeldLaws.{texts-append}
use Rattle.store.proofs.RowLaws.{records-append, sizes-append, sizes-none, texts-none}
use Rattle.store.proofs.LivingLaws.{sizes_within, texts_within, place_more, used_more}
use Rattle.store.proofs.SettleLaws.{Settling, off_within, settle_skip, settle_turn, fits_index, settled_index}
use Rattle.store.proofs.SettleLaws.{settled_text}

-- ---- `kept_rows`

pub record Keeping (a : List Row) (old at off k : ℕ) : Type 0 where
  pub given : Keepable a old
  pub rows : k ≤ old
  pub whole : Whole a k
  pub takes : (i t s : List ℕ) (c : ℕ) (hs : List Held) → Tabled i t s a old c hs
      → Takes_up (living (line_at t s a old) k) at off

pub keep-first : (a : List Row) (old : ℕ) → Keepable a old → Keeping a old 0 0 0
keep-first a old g = record {
  given = g;
  rows = omega arith;
  whole = λ j l. absurd (omega arith);
  takes = λ i t s c hs T. (unfold living in (sym (sizes-none 0)), unfold living in (sym texts-none));
}

module _ (a : List Row) (old at off k : ℕ) (w : Keeping a old at off k) where
  pub keep_end : Keeps a old (record { rows = k; at = at; off = off })
  keep_end = record { rows = w.rows; whole = w.whole; takes = w.takes }

  module _ (l : k < old) (n : len_in a k ≡ 0 → ⊥) (size : ℕ)
      (z : Sized (key_in a k) off size) where
    abbrev g : Keepable a old
    g = w.given

    -- where that line starts
    at_off : (n : ℕ) → off ≡ n → Sized (key_in a k) n size
    at_off n e = subst (λ (m : ℕ). Sized (key_in a k) m size) e z

    pub keep_fits : (at + size ≤ index_max) × (off + len_in a k ≤ text_max)
    keep_fits =
        let b : k < g.c = omega (arith, g.tabled.olds) in
        let t : Takes_up (living (line_at g.t g.s a old) k) at off =
        w.takes g.i g.t g.s g.c g.hs g.tabled in (
          omega (
            arith,
            t.0,
            place_more g.tabled k b n size (at_off _ t.1),
            sizes_within g.tabled (k + 1) (omega arith),
            g.index,
          ),
          omega (
            arith,
            t.1,
            used_more g.tabled k b n,
            texts_within g.tabled (k + 1) (omega arith),
            g.text,
          ),
        )

    pub keep-turn : Keeping a old (at + size) (off + len_in a k) (k + 1)
    keep-turn = record {
      given = w.given;
      rows = omega arith;
      whole = below_more (λ (j : ℕ). len_in a j ≡ 0 → ⊥) k w.whole n;
      takes = λ i t s c hs T.
          let b : k < c = omega (arith, T.olds) in
          let v : Takes_up (living (line_at t s a old) k) at off = w.takes i t s c hs T in (
            ap (λ (m : ℕ). m + size) v.0 ∙ place_more T k b n size (at_off _ v.1),
            ap (λ (m : ℕ). m + len_in a k) v.1 ∙ used_more T k b n,
          );
    }

-- the same of row k where the first `old` rows are taken
module _ (a : List Row) (old at off k : ℕ) (w : Keeping a old at off k) (h : k < length (take old a))
    (n : (get_or (take old a) k unused).len ≡ 0 → ⊥) (size : ℕ)
    (z : Sized (row_key (get_or (take old a) k unused)) off size) where
  old_row : k < old
  old_row = omega (arith, h, length-take old a)

  taken : get_or (take old a) k unused ≡ row_in a k
  taken = get_or-take old a k unused old_row

  some_len : len_in a k ≡ 0 → ⊥
  some_len e = n (ap (λ (r : Row). r.len) taken ∙ e)

  sized : Sized (key_in a k) off size
  sized = subst (λ (r : Row). Sized (row_key r) off size) taken z

  pub taken_fits : (at + size ≤ index_max) × (off + (get_or (take old a) k unused).len ≤ text_max)
  taken_fits = subst (λ (r : Row). (at + size ≤ index_max) × (off + r.len ≤ text_max)) (sym taken)
      (keep_fits a old at off k w old_row some_len size sized)

  pub taken-turn : Keeping a old (at + size) (off + (get_or (take old a) k unused).len) (k + 1)
  taken-turn = subst (λ (r : Row). Keeping a old (at + size) (off + r.len) (k + 1)) (sym taken)
      (keep-turn a old at off k w old_row some_len size sized)

-- ---- `close_up`

-- what is written behind a front
written_behind : (f p : List ℕ) (at : ℕ) (v : List ℕ) → f ++ written p at v ≡ written (f ++ p) (length f + at) v
unfolding written
written_behind f p at v =
    sym (append_assoc f (take at p) (v ++ drop (at + length v) p))
    ∙ ap₂ (λ (x y : List ℕ). x ++ (v ++ y)) (sym (take-append-add f p at))
    (sym (drop-append-add f p (at + length v)) ∙ ap (λ (m : ℕ). drop m (f ++ p))
    (sym (add_assoc (length f) at (length v))))

pub record Closing (part t s : List ℕ) (a : List Row) (kept : Kept) (was : Fill) (c : ℕ) (part' t' : List ℕ)
    (at off k : ℕ) : Type 0 where
  pub given : Closes part t s a kept was c
  pub run : Settling (behind_kept t s a kept was part) t s a was.count c (behind_kept t s a kept was part') t'
      (kept.at + at) off k

module _ {part t s : List ℕ} {a : List Row} {kept : Kept} {was : Fill} {c : ℕ} {part' t' : List ℕ} {at off k : ℕ}
    (w : Closing part t s a kept was c part' t' at off k) where
  abbrev G : List ℕ
  G = records 0 (living (line_at t s a was.count) kept.rows)

  pub close_skip : k < c → len_in a k ≡ 0 → Closing part t s a kept was c part' t' at off (k + 1)
  close_skip l e = record { given = w.given; run = settle_skip w.run l e }

  pub close_off : (off ≤ length t') × (was.used ≤ length t')
  close_off = (off_within w.run, omega (arith, w.given.1.text_within, w.run.text_long))

  front_long : length (behind_kept t s a kept was part') ≡ kept.at + length part'
  front_long = length-append G part' ∙ ap (λ (m : ℕ). m + length part') (sym w.given.1.takes.0)

  pub close_within : at ≤ length part'
  close_within = omega (arith, front_long, within)
    where
      within : kept.at + at ≤ length (behind_kept t s a kept was part')
      within = omega (
        arith,
        w.run.index_long,
        w.run.place,
        sizes_within w.run.tabled k w.run.most,
      )

  pub part_long : length part' ≡ length part
  part_long = omega (
    arith,
    front_long,
    w.run.index_long,
    length-append G part,
    w.given.1.takes.0,
  )

  module _ (l : k < c) (n : len_in a k ≡ 0 → ⊥) where
    pub close_fits : length (record_bytes (key_in a k) off (len_in a k))
        ≤ length (mid_of at (length part' - at) part')
    close_fits = omega (arith, fits_index w.run l n, front_long, tail_length at part', close_within)

    pub close_turn : (size : ℕ) → Sized (key_in a k) off size → (ys t'' : List ℕ)
        → ys ≡ record_bytes (key_in a k) off (len_in a k)
        ++ drop (length (record_bytes (key_in a k) off (len_in a k)))
        (mid_of at (length part' - at) part')
        → t'' ≡ written t' off
        (take (len_in a k) (drop (start_in a k) (pick (ltb k was.count) t' s)))
        → Closing part t s a kept was c (put_mid at (length part' - at) part' ys) t'' (at + size)
        (off + len_in a k) (k + 1)
    close_turn size z ys t'' ey et =
        let v : List ℕ = record_bytes (key_in a k) off (len_in a k) in
        let e : G ++ put_mid at (length part' - at) part' ys ≡ written (G ++ part') (kept.at + at) v
        = ap (λ (x : List ℕ). G ++ x) (tail_written at part' v ys ey) ∙ written_behind G part' at v
        ∙ ap (λ (m : ℕ). written (G ++ part') (m + at) v) (sym w.given.1.takes.0) in
        record {
          given = w.given;
          run = subst (λ (m : ℕ). Settling (G ++ part) t s a was.count c
              (G ++ put_mid at (length part' - at) part' ys) t'' m
              (off + len_in a k) (k + 1)) (add_assoc kept.at at size)
              (settle_turn w.run l n size z _ t'' e et);
        }

  pub close_later : kept.at ≤ was.end
  close_later = w.given.1.later

  pub close_ends : was.end - kept.at ≤ length part'
  close_ends = omega (
    arith,
    w.given.1.index_within,
    w.run.index_long,
    front_long,
    w.given.1.later,
  )

  pub close_long : (p : List ℕ) → p ≡ written part' at (replicate (was.end - kept.at - at) 0)
      → length p ≡ length part
  close_long p e =
      let n : length (replicate {A = ℕ} (was.end - kept.at - at) 0) ≡ was.end - kept.at - at
      = length-replicate {A = ℕ} (was.end - kept.at - at) 0 in
      ap length e ∙ written-length part' at (replicate (was.end - kept.at - at) 0)
      (omega (arith, close_within, close_ends)) ∙ part_long

  pub close_end : c ≤ k → (p u : List ℕ) → p ≡ written part' at (replicate (was.end - kept.at - at) 0)
      → u ≡ written t' off (replicate (was.used - off) 0) → Closed part t s a kept was c p u
  close_end l p u ep eu hs y =
      let m : was.end - kept.at - at ≡ was.end - (kept.at + at) = omega arith in
      let e : G ++ p ≡ written (G ++ part') (kept.at + at) (replicate (was.end - (kept.at + at)) 0)
      = ap (λ (x : List ℕ). G ++ x) ep
      ∙ written_behind G part' at (replicate (was.end - kept.at - at) 0)
      ∙ ap₂ (λ (x z : ℕ). written (G ++ part') (x + at) (replicate z 0)) (sym y.takes.0) m in (
        settled_index w.run l hs y.tabled was.end y.index_within y.index_free _ e,
        settled_text w.run l hs y.tabled was.used y.text_within y.text_free _ eu,
      )

-- ---- `settle`

module _ (i t s : List ℕ) (a : List Row) (was : Fill) (c : ℕ) (b : Bytes i) (x : Extends i t was) where
  -- the store holds those lines, and others behind them
  module _ (fs bs : List Held) (d : decode i t ≡ some (fs ++ bs)) where
    l : Laid i t (fs ++ bs)
    l = laid i t (fs ++ bs) b d

    zeros : List ℕ
    zeros = replicate l.rows.lies.more 0

    index_is : i ≡ records 0 fs ++ (records (0 + length (texts fs)) bs ++ replicate l.rows.lies.more 0)
    index_is = l.rows.lies.is
        ∙ ap (λ (y : List ℕ). y ++ replicate l.rows.lies.more 0) (records-append fs bs 0)
        ∙ append_assoc (records 0 fs) (records (0 + length (texts fs)) bs) (replicate l.rows.lies.more 0)

    text_is : t ≡ texts fs ++ (texts bs ++ replicate l.rows.more 0)
    text_is = l.rows.text
        ∙ ap (λ (y : List ℕ). y ++ replicate l.rows.more 0) (texts-append fs bs)
        ∙ append_assoc (texts fs) (texts bs) (replicate l.rows.more 0)

    front_index : take (sizes 0 fs) i ≡ records 0 fs
    front_index = ap (take (sizes 0 fs)) index_is
        ∙ take_at (records 0 fs) (records (0 + length (texts fs)) bs ++ replicate l.rows.lies.more 0) _ refl

    front_text : take (length (texts fs)) t ≡ texts fs
    front_text = ap (take (length (texts fs))) text_is
        ∙ take_at (texts fs) (texts bs ++ replicate l.rows.more 0) _ refl

    free_index : drop was.end i ≡ replicate (length i - was.end) 0
    free_index =
        let e : was.end ≡ sizes 0 (fs ++ bs) = (x (fs ++ bs) d).0 in
        let m : l.rows.lies.more ≡ length i - was.end = omega (arith, long_index i t (fs ++ bs) l) in
        ap₂ (λ (n : ℕ) (y : List ℕ). drop n y) e l.rows.lies.is
        ∙ drop_at (records 0 (fs ++ bs)) (replicate l.rows.lies.more 0) _ refl
        ∙ ap (λ (n : ℕ). replicate {A = ℕ} n 0) m

    free_text : drop was.used t ≡ replicate (length t - was.used) 0
    free_text =
        let e : was.used ≡ length (texts (fs ++ bs)) = (x (fs ++ bs) d).1 in
        let m : l.rows.more ≡ length t - was.used = omega (arith, long_text i t (fs ++ bs) l) in
        ap₂ (λ (n : ℕ) (y : List ℕ). drop n y) e l.rows.text
        ∙ drop_at (texts (fs ++ bs)) (replicate l.rows.more 0) _ refl
        ∙ ap (λ (n : ℕ). replicate {A = ℕ} n 0) m

    within_index : (sizes 0 fs ≤ was.end) × (was.end ≤ length i)
    within_index = (
      omega (arith, (x (fs ++ bs) d).0, sizes-append fs bs 0),
      omega (arith, (x (fs ++ bs) d).0, long_index i t (fs ++ bs) l),
    )

    within_text : was.used ≤ length t
    within_text = omega (arith, (x (fs ++ bs) d).1, long_text i t (fs ++ bs) l)

    limits : (length i ≤ index_max) × (length t ≤ text_max)
    limits = (l.index, l.text)

  pub settle_keeps : Settles i t s a was c → Keepable a was.count
  settle_keeps g =
      let T : Tabled i t s a was.count c g.0 = g.1 in
      let q = T.stands 0 (omega arith) (λ j p. absurd (omega arith)) in
      record {
        i = i;
        t = t;
        s = s;
        c = c;
        hs = g.0;
        tabled = T;
        index = (limits (living (line_at t s a was.count) 0) q.0 q.1).0;
        text = (limits (living (line_at t s a was.count) 0) q.0 q.1).1;
      }

  module _ (r : Kept) (k : Keeps a was.count r) where
    abbrev L : List Held
    L = living (line_at t s a was.count) r.rows

    module _ (hs : List Held) (T : Tabled i t s a was.count c hs) where
      takes : Takes_up L r.at r.off
      takes = k.takes i t s c hs T

      kept_index : take r.at i ≡ records 0 (living (line_at t s a was.count) r.rows)
      kept_index =
          let q = T.stands r.rows k.rows k.whole in
          ap (λ (n : ℕ). take n i) takes.0 ∙ front_index L q.0 q.1

      whole_is : (part : List ℕ) → part ≡ mid_of r.at (length i - r.at) i
          → i ≡ behind_kept t s a r was part
      whole_is part e =
          sym (take-append-drop r.at i)
          ∙ ap₂ (λ (y z : List ℕ). y ++ z) kept_index (sym (e ∙ tail_part r.at i))

      pub kept_within : r.at ≤ length i
      kept_within =
          let q = T.stands r.rows k.rows k.whole in
          omega (arith, takes.0, (within_index L q.0 q.1).0, (within_index L q.0 q.1).1)

      lent : (part : List ℕ) → part ≡ mid_of r.at (length i - r.at) i → Lent part t s a r was c hs
      lent part e =
          let q = T.stands r.rows k.rows k.whole in
          let y : i ≡ behind_kept t s a r was part = whole_is part e in
          record {
            tabled = subst (λ (v : List ℕ). Tabled v t s a was.count c hs) y T;
            rows = omega (arith, k.rows, T.olds);
            takes = takes;
            text = ap (λ (n : ℕ). take n t) takes.1 ∙ front_text L q.0 q.1;
            later = omega (arith, takes.0, (within_index L q.0 q.1).0);
            index_within = omega (arith, (within_index L q.0 q.1).1, ap length y);
            index_free = subst (λ (v : List ℕ). drop was.end v ≡ replicate (length v - was.end) 0) y
                (free_index L q.0 q.1);
            text_within = within_text L q.0 q.1;
            text_free = free_text L q.0 q.1;
          }

    pub settle_lends : Settles i t s a was c → Closes (mid_of r.at (length i - r.at) i) t s a r was c
    settle_lends g = (g.0, lent g.0 g.1 (mid_of r.at (length i - r.at) i) refl)

    pub settle_back : (ys t' : List ℕ) → Closed (mid_of r.at (length i - r.at) i) t s a r was c ys t'
        → Settled i t s a was c (put_mid r.at (length i - r.at) i ys) t'
    settle_back ys t' w hs T =
        let part : List ℕ = mid_of r.at (length i - r.at) i in
        let v = w hs (lent hs T part refl) in (
          tail_back r.at i ys ∙ ap (λ (y : List ℕ). y ++ ys) (kept_index hs T) ∙ v.0
              ∙ ap (λ (y : List ℕ). encode_records (length y) hs) (sym (whole_is hs T part refl)),
          v.1,
        )
