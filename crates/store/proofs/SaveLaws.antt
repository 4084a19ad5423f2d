-- The end of a save: the exits of `file_built`, and what a save answers by them.
-- Assumes nothing.
use Rattle.std.specs.Prelude.{Result, Ok, Err, ⊤}
use mathlib.Core.Bool.{true, false}
use mathlib.Core.List.{List, ◌++◌}
use mathlib.Core.Option.{Option, none, some}
use mathlib.Core.Path.{◌≡◌, refl, sym, ap, ap₂, ◌∙◌, subst}
use Prim.Native.Nat.{ℕ, ◌-◌}
use borrow.Rule.Slice.PartMut.{put_mid, mid_of}
use lib.ListN.{length, take, drop}
use Rattle.text.proofs.LentLaws.{tail_part, tail_back}
use Rattle.store.specs.declared.claims.Dues.{Dues}
use Rattle.store.specs.declared.soundness.Ledger.{Ledger}
use Rattle.store.specs.declared.soundness.Stock.{Stock}
use Rattle.store.specs.Book.{Caller, caller, Turn, turn, room_for, by_room, book_attempt, files}
use Rattle.store.specs.Claims.{Owed, DuesFrom}
use Rattle.store.specs.Decode.{decode, content}
use Rattle.store.specs.Fronts.{Fronts}
use Rattle.store.specs.Held.{Held, file}
use Rattle.store.specs.Inner.{book_file, known, store_file, behind, room_answer}
use Rattle.store.specs.Layout.{Bytes, encode_index, encode_text}
use Rattle.store.specs.Shares.{Content}
use Rattle.store.specs.Store.{Done, on_lines, store_attempt}
use Rattle.store.specs.Table.{FilesLine, Stocks}
use Rattle.store.proofs.BoolLaws.{true-false}
use Rattle.store.proofs.PartLaws.{Whole, whole, stock_owed}
use Rattle.store.specs.declared.calls.SaveError.TheVariants as Sv
use Rattle.store.specs.declared.table.Full.TheVariants as R
use Rattle.store.specs.declared.calls.SaveError.{SaveError}
use Rattle.store.specs.declared.table.Full.{Full}

module _ (i t : List ℕ) (h : Held) where
  pub file_unsound : known (content i t) ≡ false → record { answer = Err Sv.Unsound; index = i; text = t } ≡ store_file i t h
  unfolding store_file
  file_unsound e = sym (go (content i t) e)
    where
      go : (o : Option Content) → known o ≡ false
          → on_lines i t o (Err Sv.Unsound) (λ c. book_file (caller (length i) (length t) c.shares h.key.owner)
          c.held h)
          ≡ record { answer = Err Sv.Unsound; index = i; text = t }
      go none q = refl
      go (some c) q = absurd (true-false q)

  -- a sound store: r says whether there was room
  filed : (c : Caller) (hs : List Held) (r : Result ⊤ Full) → r ≡ room_for c h hs
      → book_file c hs h ≡ turn (room_answer r) (by_room r hs hs (file h hs))
  unfolding book_file
  filed c hs r e = go (room_for c h hs) ∙ ap (λ (v : Result ⊤ Full). turn (room_answer v) (by_room v hs hs (file h hs))) (sym e)
    where
      go : (v : Result ⊤ Full) → by_room v (turn (Err Sv.NoRoom) hs) (turn (Err Sv.NoText) hs) (turn (Ok tt) (file h hs))
          ≡ turn (room_answer v) (by_room v hs hs (file h hs))
      go (Ok u) = refl
      go (Err R.Index) = refl
      go (Err R.Text) = refl

  file_sound : (g : List ℕ) (p : ℕ) → Fronts i g p → Bytes i → known (content i t) ≡ true → (d : Dues) (r : Result ⊤ Full)
      → (part t' : List ℕ) → FilesLine d (drop p i) t h r part t'
      → ((hs : List Held) → decode (drop p i) t ≡ some hs → Owed g h.key.owner hs d)
      → record { answer = room_answer r; index = take p i ++ part; text = t' } ≡ store_file i t h
  unfolding store_file
  file_sound g p f b k d r part t' w owed =
      let a : Whole i t g p = whole i t g p f b k in
      let hs : List Held = a.all.held in
      let z = w g hs a.lines (owed hs a.lines) in
      let v : Turn (Result ⊤ SaveError) = turn (room_answer r) (by_room r hs hs (file h hs)) in
      ap₂ (λ (x y : List ℕ). record { answer = room_answer r; index = x; text = y })
      (a.encoded part v.held z.1.index) z.1.text
      ∙ ap (λ (x : Turn (Result ⊤ SaveError)). record {
        answer = x.answer;
        index = encode_index (length i) a.all.shares x.held;
        text = encode_text (length t) x.held;
      }) (sym (ap (λ (c : Caller). book_file c hs h) (a.caller h.key.owner)
      ∙ filed (behind g (drop p i) t h.key.owner) hs r z.0))
      ∙ sym (ap (λ (o : Option Content). on_lines i t o (Err Sv.Unsound)
      (λ c. book_file (caller (length i) (length t) c.shares h.key.owner) c.held h)) a.is)

  -- the part is lent, and given back
  file_lent : (g : List ℕ) (p : ℕ) → Fronts i g p → Bytes i → known (content i t) ≡ true → (d : Dues) (r : Result ⊤ Full)
      → (part t' : List ℕ) → FilesLine d (mid_of p (length i - p) i) t h r part t'
      → ((hs : List Held) → decode (mid_of p (length i - p) i) t ≡ some hs → Owed g h.key.owner hs d)
      → (a : Result ⊤ SaveError) → a ≡ room_answer r
      → record { answer = a; index = put_mid p (length i - p) i part; text = t' } ≡ store_file i t h
  file_lent g p f b k d r part t' w owed a ea =
      ap₂ (λ (x : Result ⊤ SaveError) (y : List ℕ). record { answer = x; index = y; text = t' }) ea (tail_back p i part)
      ∙ file_sound g p f b k d r part t' (subst (λ (q : List ℕ). FilesLine d q t h r part t') (tail_part p i) w)
      (λ hs e. owed hs (ap (λ (q : List ℕ). decode q t) (tail_part p i) ∙ e))

  -- in a store of which stock is taken
  pub file_stocked : {N : ℕ} {l : Ledger N} {s : Stock} (w : Stocks i t l s) (b : Bytes i) (d : Dues)
      → DuesFrom l.table.rows s.fill l.shares h.key.owner d → (r : Result ⊤ Full) (part t' : List ℕ)
      → FilesLine d (mid_of s.front (length i - s.front) i) t h r part t' → (a : Result ⊤ SaveError)
      → a ≡ room_answer r
      → record { answer = a; index = put_mid s.front (length i - s.front) i part; text = t' } ≡ store_file i t h
  file_stocked {l} {s} w b d f r part t' y =
      file_lent l.shares s.front w.front b w.is d r part t' y (stock_owed w b h.key.owner d f)

  -- a save that gets as far answers by what filing answers: v when the line is filed
  module _ {B : Type 0} (refuse : SaveError → B) (v : B) where
    abbrev pub value_of : Result ⊤ SaveError → B
    value_of (Ok u) = v
    value_of (Err e) = refuse e

    pub attempt_files : (d : Done (Result ⊤ SaveError)) → d ≡ store_file i t h
        → record { answer = value_of d.answer; index = d.index; text = d.text }
        ≡ store_attempt (refuse Sv.Unsound) (refuse Sv.NoRoom) (refuse Sv.NoText) i t h.key.owner (files h v)
    unfolding store_file book_file
    attempt_files d e = ap said_by_lem e ∙ go (content i t)
      where
        said_by_lem : Done (Result ⊤ SaveError) → Done B
        said_by_lem x = record { answer = value_of x.answer; index = x.index; text = x.text }

        by : Content → Caller
        by c = caller (length i) (length t) c.shares h.key.owner

        room? : (r : Result ⊤ Full) (c : Content)
            → said_by_lem (on_lines i t (some c) (Err Sv.Unsound)
            (λ c. by_room r (turn (Err Sv.NoRoom) c.held) (turn (Err Sv.NoText) c.held) (turn (Ok tt) (file h c.held))))
            ≡ on_lines i t (some c) (refuse Sv.Unsound)
            (λ c. by_room r (turn (refuse Sv.NoRoom) c.held) (turn (refuse Sv.NoText) c.held) (turn v (file h c.held)))
        room? (Ok u) c = refl
        room? (Err R.Index) c = refl
        room? (Err R.Text) c = refl

        go : (o : Option Content)
            → said_by_lem (on_lines i t o (Err Sv.Unsound)
            (λ c. by_room (room_for (by c) h c.held) (turn (Err Sv.NoRoom) c.held) (turn (Err Sv.NoText) c.held)
            (turn (Ok tt) (file h c.held))))
            ≡ on_lines i t o (refuse Sv.Unsound) (λ c. book_attempt (refuse Sv.NoRoom) (refuse Sv.NoText) (by c) c.held (files h v))
        go none = refl
        go (some c) = room? (room_for (by c) h c.held) c
