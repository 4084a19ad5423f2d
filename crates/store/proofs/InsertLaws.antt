-- The steps of an insert: where a line goes, and the turns and exits of the loop.
-- Assumes nothing.
use Rattle.std.specs.Prelude.{Option as Optional, Result, Ok, Err, ⊤, Some, None}
use mathlib.Core.Bool.{Bool, true, false}
use mathlib.Core.List.{List, ◌++◌}
use mathlib.Core.Option.{Option, none, some}
use mathlib.Core.Path.{◌≡◌, refl, sym, ap, ap₂, ◌∙◌, subst}
use Prim.Native.Nat.{ℕ, ◌+◌, ◌-◌, ◌≤◌, ◌<◌}
use native.Mathlib.Omega.{arith}
use lib.Dec.{ltb}
use lib.ListN.{length, take, drop}
use borrow.Rule.Slice.PartMut.{put_mid, mid_of}
use Rattle.text.proofs.LentLaws.{tail_part, tail_back}
use borrow.Author.Tests.{lt-ltb, le-ltb}
use Rattle.text.specs.Bytes.{pick}
use Rattle.text.specs.Utf8.{is_utf8, valid_run}
use Rattle.text.specs.declared.uuid.Spelled.{Spelled}
use Rattle.store.specs.declared.calls.Tally.{Tally}
use Rattle.store.specs.declared.batch.Walked.{Walked}
use Rattle.store.specs.Table.{Takes, onward, halted, Went, Encoded, Batches, InsertsAll}
use Rattle.store.specs.Book.{Caller, caller, room_for, by_room, Turn, under, Reached, after, stopped, reach}
use Rattle.store.specs.Book.{reach_wanted, insert_turn, insert_lines, book_walk}
use Rattle.store.specs.Claims.{not_of}
use Rattle.store.specs.Inner.{Good, GoodFor, behind, known}
use Rattle.store.specs.Decode.{decode, content}
use Rattle.store.specs.Fronts.{Fronts}
use Rattle.store.specs.Held.{Held, file, index_max, text_max, line_max}
use Rattle.store.specs.Layout.{Bytes, encode_records, encode_index, encode_text}
use Rattle.store.specs.Lines.{lines_of, wanted}
use Rattle.store.specs.Shares.{Content, share_sizes}
use Rattle.store.specs.Store.{on_lines, store_walk}
use Rattle.store.proofs.BoolLaws.{true-false}
use Rattle.store.proofs.ClaimLaws.{not_of-file}
use Rattle.store.proofs.DecodeLaws.{Laid, laid, good, lines_of_lem, index_kept, text_kept, length_index}
use Rattle.store.proofs.DecodeLaws.{length_text, decode_encoded}
use Rattle.store.proofs.EncodesLaws.{content_encodes}
use Rattle.store.proofs.LineLaws.{lines_end}
use Rattle.store.proofs.PartLaws.{Whole, whole}
use Rattle.store.specs.declared.calls.StoreError.TheVariants as E
use Rattle.store.specs.declared.calls.StoreError.{StoreError}
use Rattle.store.specs.declared.table.Full.TheVariants as R
use Rattle.store.specs.declared.table.Full.{Full}

-- one line: where it goes, by the tests
module _ (by : Caller) (hs : List Held) (l : List ℕ) where
  pub reach-not : wanted l ≡ None → reach by hs l ≡ after hs
  unfolding reach
  reach-not e = rw e

  pub reach_long : (u : Spelled) → wanted l ≡ Some u → line_max < length l → reach by hs l ≡ stopped (Err E.LineTooLong)
  unfolding reach
  reach_long u e q = rw (e, lt-ltb line_max (length l) q)

  pub reach_room : (u : Spelled) → wanted l ≡ Some u → length l ≤ line_max → (r : Result ⊤ Full)
      → room_for by (under by.owner u.id l) hs ≡ r
      → reach by hs l ≡ by_room r (stopped (Err E.NoRoom)) (stopped (Err E.NoText)) (after (file (under by.owner u.id l) hs))
  unfolding reach
  reach_room u e q r p = rw (e, le-ltb line_max (length l) q)
      (ap (λ (x : Result ⊤ Full). by_room x (stopped (Err E.NoRoom)) (stopped (Err E.NoText))
      (after (file (under by.owner u.id l) hs))) p)

-- the others' lines stay
abbrev Others : Caller → List Held → Reached → Type 0
Others by hs (after ks) = not_of by.owner ks ≡ not_of by.owner hs
Others by hs (stopped a) = Unit {0}

reach_others : (by : Caller) (hs : List Held) (l : List ℕ) → Others by hs (reach by hs l)
unfolding reach
reach_others by hs l = go (wanted l)
  where
    its : Spelled → Held
    its u = under by.owner u.id l

    fits : (u : Spelled) (r : Result ⊤ Full)
        → Others by hs (by_room r (stopped (Err E.NoRoom)) (stopped (Err E.NoText)) (after (file (its u) hs)))
    fits u (Err R.Index) = tt
    fits u (Err R.Text) = tt
    fits u (Ok _) = not_of-file (its u) hs

    short : (u : Spelled) (b : Bool) → Others by hs (pick b (stopped (Err E.LineTooLong))
        (by_room (room_for by (its u) hs) (stopped (Err E.NoRoom)) (stopped (Err E.NoText)) (after (file (its u) hs))))
    short u true = tt
    short u false = fits u (room_for by (its u) hs)

    go : (p : Optional Spelled) → Others by hs (reach_wanted by hs l p)
    go None = refl
    go (Some u) = short u (ltb line_max (length l))

pub after_others : (by : Caller) (hs : List Held) (l : List ℕ) (ks : List Held) → reach by hs l ≡ after ks
    → not_of by.owner ks ≡ not_of by.owner hs
after_others by hs l ks e = subst (Others by hs) e (reach_others by hs l)

-- ---- the loop of `insert_all`: the lines hs are held, and the rest of the text has the same answer from there

pub record Inserts (g : List ℕ) (own : ℕ) (i₀ t₀ s i t : List ℕ) (at count : ℕ) (hs₀ : List Held) : Type 0 where
  pub hs : List Held
  pub good : GoodFor (behind g i₀ t₀ own) hs
  pub index : i ≡ encode_records (length i₀) hs
  pub text : t ≡ encode_text (length t₀) hs
  pub run : insert_lines (behind g i₀ t₀ own) hs₀ 0 (lines_of s) ≡ insert_lines (behind g i₀ t₀ own) hs count
      (lines_of (drop at s))

pub record Inserting (g : List ℕ) (own : ℕ) (i₀ t₀ s i t : List ℕ) (at count : ℕ) : Type 0 where
  pub within : at ≤ length s + 1
  pub counted : count ≤ at
  pub sound : known (decode i₀ t₀) ≡ true
  pub index : length i ≡ length i₀
  pub text : length t ≡ length t₀
  pub small : (length i₀ ≤ index_max) × (length t₀ ≤ text_max)
  pub inserts : (hs₀ : List Held) → decode i₀ t₀ ≡ some hs₀ → Inserts g own i₀ t₀ s i t at count hs₀

-- what the part behind the shares can hold
part_long : (g i : List ℕ) → share_sizes g + length i - share_sizes g ≡ length i
part_long g i = omega arith

pub insert_first : (g : List ℕ) (own : ℕ) (i t s : List ℕ) → Bytes i → known (decode i t) ≡ true
    → Inserting g own i t s i t 0 0
insert_first g own i t s b e =
    let r : (hs : List Held) × (decode i t ≡ some hs) = lines_of_lem (decode i t) e in
    let q : Laid i t r.0 = laid i t r.0 b r.1 in
    record {
      within = omega arith;
      counted = omega arith;
      sound = e;
      index = refl;
      text = refl;
      small = (q.index, q.text);
      inserts = λ (hs : List Held) (d : decode i t ≡ some hs).
          let l : Laid i t hs = laid i t hs b d in
          record {
            hs = hs;
            good = subst (λ (n : ℕ). Good n (length t) hs) (sym (part_long g i)) (good i t hs l);
            index = index_kept i t hs l;
            text = text_kept i t hs l;
            run = refl;
          };
    }

module _ {g : List ℕ} {own : ℕ} {i₀ t₀ s i t : List ℕ} {at count : ℕ} (w : Inserting g own i₀ t₀ s i t at count) where
  good_in : (hs : List Held) → GoodFor (behind g i₀ t₀ own) hs → Good (length i₀) (length t₀) hs
  good_in hs x = subst (λ (n : ℕ). Good n (length t₀) hs) (part_long g i₀) x

  decoded : (hs₀ : List Held) → (x : Inserts g own i₀ t₀ s i t at count hs₀) → decode i t ≡ some x.hs
  decoded hs₀ x = ap₂ decode x.index x.text
      ∙ decode_encoded (length i₀) (length t₀) x.hs (good_in x.hs x.good) w.small.0 w.small.1

  pub still_sound : known (decode i t) ≡ true
  still_sound =
      let r : (hs : List Held) × (decode i₀ t₀ ≡ some hs) = lines_of_lem (decode i₀ t₀) w.sound in
      ap known (decoded r.0 (w.inserts r.0 r.1))

  ended : (hs₀ : List Held) (r : Turn Tally) → insert_lines (behind g i₀ t₀ own) hs₀ 0 (lines_of s) ≡ r
      → (v : Tally) → v ≡ r.answer → (i' t' : List ℕ) → Encoded (length i₀) (length t₀) i' t' r.held
      → (v ≡ (insert_lines (behind g i₀ t₀ own) hs₀ 0 (lines_of s)).answer)
      × Encoded (length i₀) (length t₀) i' t' (insert_lines (behind g i₀ t₀ own) hs₀ 0 (lines_of s)).held
  ended hs₀ r e v ev i' t' x = (
    ev ∙ ap (λ (z : Turn Tally). z.answer) (sym e),
    subst (λ (z : Turn Tally). Encoded (length i₀) (length t₀) i' t' z.held) (sym e) x,
  )

  pub insert_end : length s ≤ at → InsertsAll g i₀ t₀ own s (record { answer = Ok tt; count = count }) i t
  unfolding insert_lines
  insert_end l hs₀ d =
      let x : Inserts g own i₀ t₀ s i t at count hs₀ = w.inserts hs₀ d in
      ended hs₀ (insert_turn x.hs (Ok tt) count)
      (x.run ∙ ap (insert_lines (behind g i₀ t₀ own) x.hs count) (lines_end s at l))
      (record { answer = Ok tt; count = count }) refl i t (record { index = x.index; text = x.text })

  -- a batch on
  module _ (r : Walked) (i' t' : List ℕ) (f : Batches g i t own s at r i' t') where
    abbrev By : (hs : List Held) → Type 0
    By hs = Takes (behind g i₀ t₀ own) s at hs r (Encoded (length i₀) (length t₀) i' t')

    batch : (hs₀ : List Held) (x : Inserts g own i₀ t₀ s i t at count hs₀) → By x.hs
    batch hs₀ x =
        subst (λ (n : ℕ). Takes (caller (share_sizes g + n) (length t₀) g own) s at x.hs r
        (Encoded n (length t₀) i' t')) w.index
        (subst (λ (m : ℕ). Takes (caller (share_sizes g + length i) m g own) s at x.hs r
        (Encoded (length i) m i' t')) w.text
        (f x.hs (decoded hs₀ x)))

    pub insert_stop : (e : StoreError) → r.answer ≡ Err e
        → InsertsAll g i₀ t₀ own s (record { answer = Err e; count = count + r.count }) i' t'
    insert_stop e n hs₀ d = go (w.inserts hs₀ d) (batch hs₀ (w.inserts hs₀ d))
      where
        go : (x : Inserts g own i₀ t₀ s i t at count hs₀) → By x.hs
            → (record { answer = Err e; count = count + r.count }
            ≡ (insert_lines (behind g i₀ t₀ own) hs₀ 0 (lines_of s)).answer)
            × Encoded (length i₀) (length t₀) i' t' (insert_lines (behind g i₀ t₀ own) hs₀ 0 (lines_of s)).held
        go x (onward ks o run k p) = let z : ◌≡◌ {A = ℕ} 0 1 = cc in absurd (omega arith)
        go x (halted ks v o run k p) =
            let z : v ≡ e = cc in
            ended hs₀ (insert_turn ks (Err v) (count + r.count)) (x.run ∙ run count)
            (record { answer = Err e; count = count + r.count })
            (ap (λ (m : StoreError). record { answer = Err m; count = count + r.count }) (sym z)) i' t' p

    pub insert_turn_lem : r.answer ≡ Ok tt → {n : ℕ} → 0 < n → Went s at 0 n r → Inserting g own i₀ t₀ s i' t' r.at (count + r.count)
    insert_turn_lem n l b =
        let q : (hs : List Held) × (decode i₀ t₀ ≡ some hs) = lines_of_lem (decode i₀ t₀) w.sound in
        let y : Inserts g own i₀ t₀ s i' t' r.at (count + r.count) q.0 = next q.0
        (w.inserts q.0 q.1) in
        record {
          within = b.within;
          counted = omega (arith, w.counted, b.counted);
          sound = w.sound;
          index = ap length y.index ∙ length_index (length i₀) (length t₀) y.hs (good_in y.hs y.good);
          text = ap length y.text ∙ length_text (length i₀) (length t₀) y.hs (good_in y.hs y.good);
          small = w.small;
          inserts = λ (hs₀ : List Held) (d : decode i₀ t₀ ≡ some hs₀). next hs₀ (w.inserts hs₀ d);
        }
      where
        next : (hs₀ : List Held) → Inserts g own i₀ t₀ s i t at count hs₀
            → Inserts g own i₀ t₀ s i' t' r.at (count + r.count) hs₀
        next hs₀ x = go (batch hs₀ x)
          where
            go : By x.hs → Inserts g own i₀ t₀ s i' t' r.at (count + r.count) hs₀
            go (halted ks v o run k p) = let z : ◌≡◌ {A = ℕ} 0 1 = cc in absurd (omega arith)
            go (onward ks o run k p) =
                record { hs = ks; good = k x.good; index = p.index; text = p.text; run = x.run ∙ run count }

-- ---- `walk_insert`

pub walk_unsound : (own : ℕ) (i t s : List ℕ) → known (content i t) ≡ false
    → record { answer = record { answer = Err E.Unsound; count = 0 }; index = i; text = t } ≡ store_walk i t own s
unfolding store_walk
walk_unsound own i t s e = sym (go (content i t) e)
  where
    go : (o : Option Content) → known o ≡ false
        → on_lines i t o (record { answer = Err E.Unsound; count = 0 })
        (λ c. book_walk (caller (length i) (length t) c.shares own) c.held s)
        ≡ record { answer = record { answer = Err E.Unsound; count = 0 }; index = i; text = t }
    go none q = refl
    go (some c) q = absurd (true-false q)

-- a sound store
module _ (own : ℕ) (i t s : List ℕ) (c : Content) (d : content i t ≡ some c) where
  abbrev by : Caller
  by = caller (length i) (length t) c.shares own

  stored : (r : Turn Tally) → book_walk by c.held s ≡ r
      → record {
        answer = r.answer;
        index = encode_index (length i) c.shares r.held;
        text = encode_text (length t) r.held;
      } ≡ store_walk i t own s
  unfolding store_walk
  stored r e =
      ap (λ (z : Turn Tally). record {
        answer = z.answer;
        index = encode_index (length i) c.shares z.held;
        text = encode_text (length t) z.held;
      }) (sym e)
      ∙ sym (ap (λ (o : Option Content). on_lines i t o (record { answer = Err E.Unsound; count = 0 })
      (λ c. book_walk (caller (length i) (length t) c.shares own) c.held s)) d)

  walk_bad : Bytes i → is_utf8 s ≡ false
      → record { answer = record { answer = Err (E.NotUtf8 (valid_run s)); count = 0 }; index = i; text = t }
      ≡ store_walk i t own s
  unfolding book_walk
  walk_bad b e =
      let l = content_encodes i t c b d in
      ap₂ (λ (x y : List ℕ). record
      { answer = record { answer = Err (E.NotUtf8 (valid_run s)); count = 0 }; index = x; text = y })
      l.index l.text
      ∙ stored (insert_turn c.held (Err (E.NotUtf8 (valid_run s))) 0) (rw e)

pub walk-not_utf8 : (own : ℕ) (i t s : List ℕ) → Bytes i → known (content i t) ≡ true → is_utf8 s ≡ false → (p : ℕ)
    → p ≡ valid_run s
    → record { answer = record { answer = Err (E.NotUtf8 p); count = 0 }; index = i; text = t } ≡ store_walk i t own s
walk-not_utf8 own i t s b k e p q =
    ap (λ (x : ℕ). record { answer = record { answer = Err (E.NotUtf8 x); count = 0 }; index = i; text = t }) q
    ∙ go (content i t) refl k
  where
    go : (o : Option Content) → content i t ≡ o → known o ≡ true
        → record { answer = record { answer = Err (E.NotUtf8 (valid_run s)); count = 0 }; index = i; text = t }
        ≡ store_walk i t own s
    go none d z = absurd (true-false (sym z))
    go (some c) d z = walk_bad own i t s c d b e

-- all lines are walked, in the part behind the shares
pub walk-done : (own : ℕ) (i t s g : List ℕ) (p : ℕ) → Fronts i g p → Bytes i → known (content i t) ≡ true
    → is_utf8 s ≡ true → (r : Tally) (part t' : List ℕ) → InsertsAll g (drop p i) t own s r part t'
    → record { answer = r; index = take p i ++ part; text = t' } ≡ store_walk i t own s
unfolding book_walk
walk-done own i t s g p f b k u r part t' w =
    let h : Whole i t g p = whole i t g p f b k in
    let z = w h.all.held h.lines in
    let v : Turn Tally = insert_lines (behind g (drop p i) t own) h.all.held 0 (lines_of s) in
    ap₂ (λ (a : Tally) (x : List ℕ). record { answer = a; index = x; text = t' }) z.0
    (h.encoded part v.held z.1.index)
    ∙ ap (λ (x : List ℕ). record {
      answer = v.answer;
      index = encode_index (length i) h.all.shares v.held;
      text = x;
    }) z.1.text
    ∙ stored own i t s h.all h.is v (rw u (ap (λ (c : Caller). insert_lines c h.all.held 0 (lines_of s))
    (h.caller own)))

-- the part is lent, and given back
pub walk_lent : (own : ℕ) (i t s g : List ℕ) (p : ℕ) → Fronts i g p → Bytes i → known (content i t) ≡ true
    → is_utf8 s ≡ true → (r : Tally) (part t' : List ℕ) → InsertsAll g (mid_of p (length i - p) i) t own s r part t'
    → record { answer = r; index = put_mid p (length i - p) i part; text = t' } ≡ store_walk i t own s
walk_lent own i t s g p f b k u r part t' w =
    ap (λ (x : List ℕ). record { answer = r; index = x; text = t' }) (tail_back p i part)
    ∙ walk-done own i t s g p f b k u r part t'
    (subst (λ (q : List ℕ). InsertsAll g q t own s r part t') (tail_part p i) w)
