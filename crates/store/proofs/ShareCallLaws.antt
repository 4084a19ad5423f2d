-- A party's share told and set: what is told is what the store holds, what a setting leaves is what the book holds.
-- Assumes nothing.
use Rattle.std.specs.Prelude.{Result, Ok, Err, ⊤}
use mathlib.Core.Bool.{Bool, true, false}
use mathlib.Core.List.{List}
use mathlib.Core.Option.{Option, none, some}
use mathlib.Core.Path.{◌≡◌, refl, sym, ap, ap₂, ◌∙◌, subst}
use Prim.Native.Nat.{ℕ, ◌+◌, ◌-◌, ◌≤◌, ◌<◌}
use native.Mathlib.Omega.{arith}
use lib.Dec.{ltb}
use lib.ListN.{length, get_or, set, length-set, length-drop}
use lib.Seq.{get_or-set_same}
use borrow.Author.Tests.{lt-ltb, ltb-false}
use Rattle.text.specs.Bytes.{pick}
use Rattle.store.specs.declared.rows.Row.{Row}
use Rattle.store.specs.declared.soundness.Ledger.{Ledger}
use Rattle.store.specs.declared.soundness.Stock.{Stock}
use Rattle.store.specs.Book.{record_sizes, setting, over_text, over_index, book_share}
use Rattle.store.specs.Claims.{Addable}
use Rattle.store.specs.Decode.{content}
use Rattle.store.specs.Held.{index_max, text_max}
use Rattle.store.specs.Inner.{known, sizes}
use Rattle.store.specs.Layout.{Bytes, Given, encode_index, encode_text}
use Rattle.store.specs.Settings.{UsedBy, Weighed, Writes, Writable, Written}
use Rattle.store.specs.Shares.{owners, Content, use_of, claims, share_size, share_sizes, with_share}
use Rattle.store.specs.Store.{Done, unchanged, holding, on_shares, store_share, told_of, store_told}
use Rattle.store.specs.Table.{Stocks}
use Rattle.store.proofs.BoolLaws.{true-false}
use Rattle.store.proofs.ClaimLaws.{larger_share, one_least}
use Rattle.store.proofs.EncodesLaws.{content_encodes}
use Rattle.store.proofs.PartLaws.{ends}
use Rattle.store.proofs.RoomLaws.{sizes_sum}
use Rattle.store.proofs.SettingLaws.{sizes-set}
use Rattle.store.proofs.ShareRecordLaws.{size_most}
use Rattle.store.proofs.ShareLaws.{given_front}
use Rattle.store.proofs.SurveyLaws.{Holds, stock_holds, stock_rows}
use Rattle.store.proofs.UseLaws.{tabled_use, tabled_addable}
use Rattle.store.specs.declared.calls.StoreError.TheVariants as E
use Rattle.store.specs.declared.calls.StoreError.{StoreError}

-- ---- the store, its shares and lines written down

pub record Stocked (i t g : List ℕ) (a : List Row) (r : Stock) : Type 0 where
  pub all : Content
  pub is : content i t ≡ some all
  pub shares : g ≡ all.shares
  pub given : Given g
  pub addable : Addable a r.fill.count
  pub used : UsedBy a r.fill.count all.held
  pub front : r.front ≡ share_sizes g
  pub end : r.fill.end ≡ sizes 0 all.held
  pub fits : share_sizes g + sizes 0 all.held ≤ length i
  pub index_most : length i ≤ index_max
  pub text_most : length t ≤ text_max

pub stocked : {N : ℕ} {i t : List ℕ} {l : Ledger N} {r : Stock} → Bytes i → Stocks i t l r → Stocked i t l.shares l.table.rows r
stocked {N} {i} {t} {l} {r} b s =
    let p = s.front in
    let h : Holds i t l.shares r.front = stock_holds i t l r s in
    let x = stock_rows i t l r s in
    let at : r.front ≡ share_sizes l.shares = ends i t l.shares r.front p b in
    record {
      all = h.all;
      is = h.is;
      shares = h.shares;
      given = subst (λ (q : List ℕ). Given q) (sym p.shares) (given_front i b);
      addable = tabled_addable x.tabled x.limits.1;
      used = λ q l. tabled_use x.tabled q;
      front = at;
      end = x.end;
      fits = omega (arith, at, x.tabled.good.index, length-drop r.front i, p.within);
      index_most = s.most;
      text_most = x.limits.1;
    }

-- ---- `share_of`

module _ (i t : List ℕ) (o : ℕ) where
  pub told_unsound : known (content i t) ≡ false → Err (record {}) ≡ store_told i t o
  unfolding store_told
  told_unsound e = go (content i t) e
    where
      go : (x : Option Content) → known x ≡ false → Err (record {}) ≡ told_of o x
      go none q = refl
      go (some c) q = absurd (true-false q)

  pub told_sound : (c : Content) → content i t ≡ some c → (share used : ℕ) → share ≡ get_or c.shares o 0
      → used ≡ use_of o c.held → Ok (record { share = share; used = used }) ≡ store_told i t o
  unfolding store_told
  told_sound c e share used s u =
      ap₂ (λ (x y : ℕ). Ok (record { share = x; used = y })) s u ∙ sym (ap (told_of o) e)

-- ---- `set_share`

pub share_unsound : (i t : List ℕ) (o b : ℕ) → known (content i t) ≡ false
    → record { answer = Err E.Unsound; index = i; text = t } ≡ store_share i t o b
unfolding store_share
share_unsound i t o b e = go (content i t) e
  where
    go : (x : Option Content) → known x ≡ false
        → record { answer = Err E.Unsound; index = i; text = t }
        ≡ on_shares i t x (λ c. book_share (length i) (length t) c o b)
    go none q = refl
    go (some c) q = absurd (true-false q)

-- what a setting leaves by its answer: another index where it is done
abbrev leaves : List ℕ → List ℕ → List ℕ → Result ⊤ StoreError → Done (Result ⊤ StoreError)
leaves i t i' (Ok u) = record { answer = Ok tt; index = i'; text = t }
leaves i t i' (Err x) = unchanged i t (Err x)

module _ (i t : List ℕ) (y : Bytes i) (c : Content) (e : content i t ≡ some c) (o b : ℕ) where
  abbrev later : List ℕ
  later = set c.shares o b

  share_by : (end : ℕ) → end ≡ share_sizes later + record_sizes 0 c.held → (r : Result ⊤ StoreError)
      → r ≡ pick (ltb (length t) (claims later c.held)) (Err E.ShareTooLarge)
      (pick (ltb (length i) end) (Err E.NoRoom) (Ok tt))
      → leaves i t (encode_index (length i) later c.held) r ≡ store_share i t o b
  unfolding store_share book_share over_text over_index
  share_by end n r q =
      ap (leaves i t (encode_index (length i) later c.held))
      (q ∙ ap (λ (k : ℕ). pick (ltb (length t) (claims later c.held)) (Err E.ShareTooLarge)
      (pick (ltb (length i) k) (Err E.NoRoom) (Ok tt))) n)
      ∙ go (ltb (length t) (claims later c.held)) (ltb (length i) (share_sizes later + record_sizes 0 c.held))
      ∙ sym (ap (λ (x : Option Content). on_shares i t x (λ d. book_share (length i) (length t) d o b)) e)
    where
      -- the buffers encode what is held
      index_kept : i ≡ encode_index (length i) c.shares c.held
      index_kept = (content_encodes i t c y e).index

      text_kept : t ≡ encode_text (length t) c.held
      text_kept = (content_encodes i t c y e).text

      kept : (a : Result ⊤ StoreError) → unchanged i t a ≡ holding i t a c
      kept a = ap₂ (λ (x z : List ℕ). record { answer = a; index = x; text = z }) index_kept text_kept

      go : (x z : Bool)
          → leaves i t (encode_index (length i) later c.held)
          (pick x (Err E.ShareTooLarge) (pick z (Err E.NoRoom) (Ok tt)))
          ≡ holding i t (pick x (setting (Err E.ShareTooLarge) c) (pick z (setting (Err E.NoRoom) c)
          (setting (Ok tt) (with_share o b c)))).answer (pick x (setting (Err E.ShareTooLarge) c) (pick z (setting (Err E.NoRoom) c)
          (setting (Ok tt) (with_share o b c)))).content
      go true z = kept (Err E.ShareTooLarge)
      go false true = kept (Err E.NoRoom)
      go false false =
          ap (λ (z : List ℕ). record { answer = Ok tt; index = encode_index (length i) later c.held; text = z })
          text_kept

-- a share above the whole text
module _ {N : ℕ} {i t : List ℕ} {l : Ledger N} {r : Stock} (y : Bytes i) (s : Stocks i t l r) (o b : ℕ) (lo : o < owners) where
  pub set_large : length t < b → unchanged i t (Err E.ShareTooLarge) ≡ store_share i t o b
  set_large m =
      let w : Stocked i t l.shares l.table.rows r = stocked y s in
      let c = w.all in
      let has : o < length c.shares = omega (arith, lo, w.given.each, ap length w.shares) in
      let later : List ℕ = set c.shares o b in
      let k : length t < claims later c.held
      = omega (
        arith,
        m,
        has,
        length-set c.shares o b,
        one_least o later c.held,
        larger_share (use_of o c.held) (get_or later o 0),
        get_or-set_same c.shares o b 0 has,
      ) in
      share_by i t y c w.is o b _ refl (Err E.ShareTooLarge)
      (sym (ap (λ (x : Bool). pick x (Err E.ShareTooLarge)
      (pick (ltb (length i) (share_sizes later + record_sizes 0 c.held)) (Err E.NoRoom) (Ok tt)))
      (lt-ltb (length t) (claims later c.held) k)))

-- a share within the text, in a store of which stock is taken
pub record Setting {N : ℕ} (i t : List ℕ) (l : Ledger N) (r : Stock) (o b : ℕ) : Type 0 where
  pub bytes : Bytes i
  pub stock : Stocks i t l r
  pub owner : o < owners
  pub fits : b ≤ length t

module _ {N : ℕ} {i t : List ℕ} {l : Ledger N} {r : Stock} {o b : ℕ} (s : Setting i t l r o b) where
  abbrev g : List ℕ
  g = l.shares

  abbrev g' : List ℕ
  g' = set l.shares o b

  w : Stocked i t l.shares l.table.rows r
  w = stocked s.bytes s.stock

  has : o < length g
  has = omega (arith, s.owner, w.given.each)

  pub set_addable : Addable l.table.rows r.fill.count
  set_addable = w.addable

  pub set_four : b ≤ 4294967295
  set_four = omega (arith, s.fits, w.text_most)

  -- the place behind all records, once the share is set
  module _ {p q : ℕ} (ep : p ≡ share_size b) (eq : q ≡ share_size (get_or g o 0)) where
    abbrev end : ℕ
    end = r.front + r.fill.end + p - q

    pub end_most : r.front + r.fill.end + p ≤ index_max + 6
    end_most = omega (arith, w.front, w.end, w.fits, w.index_most, ep, size_most b)

    pub end_less : q ≤ r.front + r.fill.end + p
    end_less = omega (arith, sizes-set g o b has, w.front, ep, eq)

    end_sizes : end ≡ share_sizes g' + sizes 0 w.all.held
    end_sizes = omega (arith, sizes-set g o b has, w.front, w.end, ep, eq)

    module _ {m : Result ⊤ StoreError} (em : Weighed l.table.rows r.fill.count g' (length t) (length i) end m) where
      set-by : leaves i t (encode_index (length i) g' w.all.held) m ≡ store_share i t o b
      set-by =
          ap (λ (v : List ℕ). leaves i t (encode_index (length i) (set v o b) w.all.held) m) w.shares
          ∙ share_by i t s.bytes w.all w.is o b end
          (end_sizes ∙ ap₂ (λ (v : List ℕ) (k : ℕ). share_sizes (set v o b) + k) w.shares
          (sizes_sum w.all.held 0)) m
          (em w.all.held w.used ∙ ap (λ (v : List ℕ). pick (ltb (length t) (claims (set v o b) w.all.held))
          (Err E.ShareTooLarge) (pick (ltb (length i) end) (Err E.NoRoom) (Ok tt))) w.shares)

      pub set_refused : {x : StoreError} → m ≡ Err x → unchanged i t (Err x) ≡ store_share i t o b
      set_refused f = sym (ap (leaves i t (encode_index (length i) g' w.all.held)) f) ∙ set-by

      fitting : (x z : Bool) → m ≡ pick x (Err E.ShareTooLarge) (pick z (Err E.NoRoom) (Ok tt)) → m ≡ Ok tt
          → z ≡ false
      fitting true z e f = absurd cc
      fitting false true e f = absurd cc
      fitting false false e f = refl

      writes : m ≡ Ok tt → {had : ℕ} → had ≡ get_or g o 0 → Writes i g' o had b g w.all.held
      writes f eh =
          let hs = w.all.held in
          let z = fitting (ltb (length t) (claims g' hs)) (ltb (length i) end) (em hs w.used) f in
          record {
            index = (content_encodes i t w.all s.bytes w.is).index
                ∙ ap (λ (v : List ℕ). encode_index (length i) v hs) (sym w.shares);
            owner = has;
            former = eh;
            later = refl;
            fits = w.fits;
            room = omega (arith, ltb-false (length i) end z, end_sizes);
            most = set_four;
          }

      pub set_writes : m ≡ Ok tt → {had : ℕ} → had ≡ get_or g o 0 → Writable i g' o had b
      set_writes f eh = (g, (w.all.held, writes f eh))

      pub set-done : m ≡ Ok tt → {had : ℕ} → had ≡ get_or g o 0 → {i' : List ℕ} → Written i g' o had b i'
          → record { answer = Ok tt; index = i'; text = t } ≡ store_share i t o b
      set-done f eh v =
          ap (λ (x : List ℕ). record { answer = Ok tt; index = x; text = t }) (v g w.all.held (writes f eh))
          ∙ sym (ap (leaves i t (encode_index (length i) g' w.all.held)) f) ∙ set-by
