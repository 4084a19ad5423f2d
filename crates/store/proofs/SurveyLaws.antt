-- The loop of `survey`: it goes as `walk` does, writes the lines down, and tells whether a key stands twice.
-- Assumes nothing.
use Rattle.std.specs.Prelude.{Option as Optional, Some, None, Result, Err, IsSome, ok_or, IsErrAnd}
use mathlib.Core.Bool.{Bool, true, false, ◌&&◌}
use mathlib.Core.List.{List, []}
use mathlib.Core.Option.{Option, none, some}
use mathlib.Core.Path.{◌≡◌, refl, sym, ap, ◌∙◌, subst}
use Prim.Native.Nat.{ℕ, suc, ◌+◌, ◌-◌, ◌≤◌, ◌<◌}
use native.Mathlib.Omega.{arith}
use borrow.Rule.Slice.PartMut.{mid_of}
use Rattle.text.proofs.LentLaws.{tail_part}
use lib.ListN.{length, drop, length-drop}
use borrow.Author.Tests.{le-leb, lt-leb}
use Rattle.text.specs.Bytes.{pick}
use Rattle.store.specs.declared.chains.Link.{Link}
use Rattle.store.specs.declared.rows.Area.{Area}
use Rattle.store.specs.declared.rows.Row.{Row}
use Rattle.store.specs.declared.chains.Verdict.{Verdict}
use Rattle.store.specs.declared.chains.Verdict.TheVariants as Vd
use Rattle.store.specs.declared.records.Head.{Head}
use Rattle.store.specs.declared.soundness.Stock.{Stock}
use Rattle.store.specs.declared.soundness.Surveyed.{Surveyed}
use Rattle.store.specs.declared.soundness.Ledger.{Ledger}
use Rattle.store.specs.Decode.{no_head, head_at, head_fits, walk, decode, zeroes, fronted, with_lines, content}
use Rattle.store.specs.Held.{Held, index_max, text_max}
use Rattle.store.specs.Layout.{Bytes}
use Rattle.store.specs.Fronts.{Fronts}
use Rattle.store.specs.Shares.{Content}
use Rattle.store.specs.Inner.{HasRecord, known}
use Rattle.store.specs.Keys.{Enough, Suits, Says, Tells, told_of, Chained, Sought}
use Rattle.store.specs.Rows.{key_in, row_put, row_key, start_max}
use Rattle.store.specs.Table.{InRows, Loads, Surveys, OnceSurveyed, Stocks, OnceStocked}
use Rattle.map.proofs.FilledLaws.{none_refused}
use Rattle.store.proofs.BodyLaws.{bytes_part}
use Rattle.store.proofs.BoolLaws.{true-false}
use Rattle.store.proofs.ChainLaws.{says-turn, says_agree}
use Rattle.store.proofs.DecodeLaws.{laid, lines_of_lem}
use Rattle.store.proofs.HeadLaws.{whole_some}
use Rattle.store.proofs.LoadLaws.{Loading, load-first, load_less, load_end, load-turn}
use Rattle.store.proofs.OnceLaws.{list_end, tells_once}
use Rattle.store.proofs.RecordLaws.{Fits, fits_of}
use Rattle.store.proofs.SoundLaws.{Walking, walking, walking_end, walking_bad, walking_turn, sound_walk}
use Rattle.store.proofs.SoundLaws.{sound_text, sound_once}
use Rattle.store.proofs.ShareLaws.{content_parts}
use Rattle.store.proofs.WriteLaws.{row_other}

-- n records lie before `at`, and their lines before `used`
pub record Surveying (i t : List ℕ) (at : ℕ) (a : List Row) (heads : List ℕ) (links : List Link) (n used : ℕ) (v : Verdict)
    : Type 0 where
  pub walks : Walking i t (known (walk (suc (length i)) 0 i t)) at used
  pub loading : Loading i at a heads links n used
  pub says : Says (key_in a) n v

pub survey_first : (i t : List ℕ) (a : List Row) (heads : List ℕ) (links : List Link) → Enough (length a) (length i)
    → Chained (key_in a) heads links 0 → Surveying i t 0 a heads links 0 0 Vd.Apart
survey_first i t a heads links m c = record {
  walks = walking i t;
  loading = load-first i a heads links m c;
  says = λ x y p q e. omega arith;
}

module _ {i t : List ℕ} {at : ℕ} {a : List Row} {heads : List ℕ} {links : List Link} {n used : ℕ} {v : Verdict}
    (w : Surveying i t at a heads links n used v) where
  pub survey_less : n < length a
  survey_less = load_less i at a heads links n used w.loading

  -- the rest of the index, as it is lent
  abbrev rest : List ℕ
  rest = mid_of at (length i - at) i

  -- behind the last record
  module _ (e' : no_head ≡ head_at rest) (b : Bool) (q : b ≡ zeroes (drop at i) && zeroes (drop used t)) where
    none_at : no_head ≡ head_at (drop at i)
    none_at = e' ∙ ap head_at (tail_part at i)

    tail_is : b ≡ known (walk (suc (length i)) 0 i t)
    tail_is = q ∙ sym (walking_end i t _ at used w.walks no_head none_at refl)

    pub survey_tail : b ≡ false → known (walk (suc (length i)) 0 i t) ≡ false
    survey_tail z = sym tail_is ∙ z

    pub survey_end : b ≡ true → Bytes i
        → Surveys i t a heads links (record { verdict = v; fill = record { count = n; end = at; used = used } })
    survey_end z y = record {
      is = sym tail_is ∙ z;
      most = survey_less;
      says = w.says;
      chained = w.loading.chained;
      lists = list_end i at a n w.loading.listing no_head none_at refl;
      loads = load_end i at a heads links n used w.loading no_head none_at refl y;
    }

  -- at a whole record
  module _ (whole : HasRecord rest) (head : Head) (e' : head ≡ head_at rest) (b : Bool)
      (fit : b ≡ head_fits used head (length t - used)) where
    e : head ≡ head_at (drop at i)
    e = e' ∙ ap head_at (tail_part at i)

    pub some_size : head.size ≡ 0 → ⊥
    some_size z = omega (arith, whole_some rest whole head e')

    pub survey_bad : b ≡ false → known (walk (suc (length i)) 0 i t) ≡ false
    survey_bad q = sym (walking_bad i t _ at used w.walks head e some_size b fit q)

    pub survey_on : b ≡ true → Walking i t (known (walk (suc (length i)) 0 i t)) (at + head.size) (used + head.len)
    survey_on q = walking_turn i t _ at used w.walks head e some_size b fit q

    -- a row holds what it says
    pub survey_fits : b ≡ true → length t ≤ text_max → (head.off ≤ start_max) × (head.len ≤ 65535)
    survey_fits q m =
        let fits : Fits used head (length t - used) = fits_of used head (length t - used) (sym fit ∙ q) in
        (omega (arith, fits.offset, w.walks.text), omega (arith, fits.most))

    pub survey_turn : b ≡ true → (c : List Row) → c ≡ row_put a n head.key head.off head.len
        → (heads' : List ℕ) (links' : List Link) → Chained (key_in c) heads' links' (n + 1)
        → (r : ℕ) → Sought (key_in c) n r → (u : Verdict) → u ≡ told_of v n r
        → Surveying i t (at + head.size) c heads' links' (n + 1) (used + head.len) u
    survey_turn q c ec heads' links' ch r so u eu =
        let fits : Fits used head (length t - used) = fits_of used head (length t - used) (sym fit ∙ q) in
        record {
          walks = survey_on q;
          loading = subst (λ (x : ℕ). Loading i (at + head.size) c heads' links' (n + 1) (x + head.len))
              fits.offset
              (load-turn i at a heads links n used w.loading head e some_size c ec heads' links' ch);
          says = subst (λ (x : Verdict). Says (key_in c) (n + 1) x) (sym eu)
              (says-turn (key_in c) n r v
              (says_agree (key_in a) (key_in c) n v same w.says) so);
        }
      where
        same : (k : ℕ) → k < n → key_in a k ≡ key_in c k
        same k l = sym (ap (λ (x : List Row). key_in x k) ec
            ∙ ap row_key (row_other a n head.key head.off head.len k (λ z. omega arith)))

-- ---- `take_stock`

module _ (i t : List ℕ) where
  known_with : (s : List ℕ) (o : Option (List Held)) → known (with_lines s o) ≡ known o
  known_with s none = refl
  known_with s (some hs) = refl

  pub stock_index : index_max < length i → known (content i t) ≡ false
  unfolding content
  stock_index l =
      ap (λ (b : Bool). known (pick b (with_lines (fronted i).shares (decode (fronted i).rest t)) none))
      (lt-leb _ index_max l)

  -- no table is large enough
  pub too_long : {o : Optional Area} → Suits (length i) o → o ≡ None → known (content i t) ≡ false
  too_long w e = stock_index (subst (Suits (length i)) e w)

  -- the whole store is sound as the part behind the shares is
  known_rest : length i ≤ index_max → known (content i t) ≡ known (decode (fronted i).rest t)
  unfolding content
  known_rest l =
      ap (λ (b : Bool). known (pick b (with_lines (fronted i).shares (decode (fronted i).rest t)) none))
      (le-leb _ index_max l)
      ∙ known_with (fronted i).shares (decode (fronted i).rest t)

  pub stock_text : length i ≤ index_max → text_max < length t → known (content i t) ≡ false
  stock_text l m = known_rest l ∙ sound_text (fronted i).rest t m

-- the part of the index that is lent is the one behind the shares
module _ {i g : List ℕ} {p : ℕ} (f : Fronts i g p) (l : length i ≤ index_max) where
  abbrev part : List ℕ
  part = mid_of p (length i - p) i

  lent : part ≡ drop p i
  lent = tail_part p i

  pub part_less : length part ≤ length i
  part_less = omega (arith, ap length lent, length-drop p i)

  part_most : length part ≤ index_max
  part_most = omega (arith, part_less, l)

  stock_part : (t : List ℕ) → known (decode part t) ≡ known (content i t)
  stock_part t = ap (λ (r : List ℕ). known (decode r t)) (lent ∙ f.rest) ∙ sym (known_rest i t l)

  pub stock_none : (t : List ℕ) → length t ≤ text_max → known (walk (suc (length part)) 0 part t) ≡ false
      → known (content i t) ≡ false
  stock_none t m x = sym (stock_part t) ∙ sound_walk part t part_most m x

  -- of which the lines are walked
  module _ {t : List ℕ} {a : List Row} {heads : List ℕ} {links : List Link} {s : Surveyed} (v : Surveys part t a heads links s) where
    pub stock_once : length t ≤ text_max → Bytes i → {b : Bool} → Tells (key_in a) s.fill.count b
        → b ≡ known (content i t)
    stock_once m y {b} x =
        sound_once part t part_most m (bytes_part i p part lent y) v.is b (tells_once part _ _ v.lists b x)
        ∙ stock_part t

    pub stock_walked : Loads (drop p i) a heads links s.fill × (s.fill.count < length a)
    stock_walked = (subst (λ (r : List ℕ). Loads r a heads links s.fill) lent v.loads, v.most)

-- what a sound store holds
pub record Holds (i t g : List ℕ) (p : ℕ) : Type 0 where
  pub all : Content
  pub is : content i t ≡ some all
  pub shares : g ≡ all.shares
  pub lines : decode (drop p i) t ≡ some all.held

pub sound_holds : (i t g : List ℕ) (p : ℕ) → Fronts i g p → known (content i t) ≡ true → Holds i t g p
sound_holds i t g p f e = go (content i t) refl e
  where
    go : (o : Option Content) → content i t ≡ o → known o ≡ true → Holds i t g p
    go none q k = absurd (true-false (sym k))
    go (some c) q k =
        let parts = content_parts i t c q in
        record {
          all = c;
          is = q;
          shares = f.shares ∙ sym parts.1.0;
          lines = ap (λ (r : List ℕ). decode r t) f.rest ∙ parts.1.1;
        }

-- a walk over whole records tells what it saw
pub survey_some : (i t : List ℕ) (a : List Row) (heads : List ℕ) (links : List Link) (o : Optional Surveyed)
    → OnceSurveyed i t a heads links o
    → known (walk (suc (length i)) 0 i t) ≡ true → IsSome o
survey_some i t a heads links None w e = absurd (true-false (sym e ∙ w))
survey_some i t a heads links (Some r) w e = refl

pub survey_of : (i t : List ℕ) (a : List Row) (heads : List ℕ) (links : List Link) (o : Optional Surveyed)
    → OnceSurveyed i t a heads links o
    → (r : Surveyed) → o ≡ Some r → Surveys i t a heads links r
survey_of i t a heads links o w r e = subst (OnceSurveyed i t a heads links) e w

pub stock_refused : {N : ℕ} {A E : Type 0} (i t : List ℕ) (l : Ledger N) (o : Optional Stock) → OnceStocked i t l o
    → (x y : E) → Err y ≡ ok_or o x → (r : Result A E) → IsErrAnd r (λ e. e ≡ y)
    → (r ≡ Err x) × (known (content i t) ≡ false)
stock_refused i t l o w x y e r f =
    let p = none_refused o x y e r f in
    (p.0, subst (OnceStocked i t l) p.1 w)

-- what a sound store holds is written down
module _ {N : ℕ} (i t : List ℕ) (l : Ledger N) (s : Stock) (w : Stocks i t l s) where
  pub stock_holds : Holds i t l.shares s.front
  stock_holds = sound_holds i t l.shares s.front w.front w.is

  pub stock_rows : InRows (drop s.front i) t [] l.table.rows l.table.heads l.table.links s.fill.count s.fill
      stock_holds.all.held
  stock_rows = w.loads.0 t [] stock_holds.all.held stock_holds.lines

-- the records of a sound store are whole
pub walk_of : (i t : List ℕ) → Bytes i → known (decode i t) ≡ true → known (walk (suc (length i)) 0 i t) ≡ true
walk_of i t b e = go (known (walk (suc (length i)) 0 i t)) refl
  where
    go : (c : Bool) → known (walk (suc (length i)) 0 i t) ≡ c → c ≡ true
    go true q = refl
    go false q =
        let hs = lines_of_lem (decode i t) e in
        let l = laid i t hs.0 b hs.1 in
        absurd (true-false (sym e ∙ sound_walk i t l.index l.text q))
