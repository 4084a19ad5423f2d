-- What a walk shows of the index of a sound store: the shares and the lines that it holds.
-- Assumes nothing.
use mathlib.Core.Bool.{Bool, true, false, ◌&&◌}
use mathlib.Core.List.{List, [], ◌∷◌, ◌++◌}
use mathlib.Core.Option.{Option, none, some}
use mathlib.Core.Path.{◌≡◌, refl, sym, ap, ap₂, ◌∙◌, subst}
use Prim.Native.Nat.{ℕ, zero, suc, ◌+◌, ◌≤◌}
use native.Mathlib.Omega.{arith}
use lib.Dec.{eqb, leb}
use lib.ListN.{length, get_or, take, drop, length-drop}
use lib.Seq.{drop-drop, length-take-le}
use borrow.Author.Tests.{eq-eqb, ne_eqb, eqb-true, eqb-false}
use Rattle.std.specs.Prelude.{Option as Optional, Some, None}
use Rattle.text.specs.Bytes.{pick}
use Rattle.store.specs.declared.records.Head.{Head}
use Rattle.store.specs.declared.walk.Record.{Record}
use Rattle.store.specs.declared.walk.Record.TheVariants as R
use Rattle.store.specs.declared.walk.Stands.{Stands as Standing}
use Rattle.store.specs.Decode.{head_at, held_of, zeroes, walk, guarded, decode, front_share, and_share, Fronted}
use Rattle.store.specs.Decode.{kind_at, shares_at, fronted}
use Rattle.store.specs.Held.{Held, distinct, is_long, index_max, text_max}
use Rattle.store.specs.Layout.{Bytes}
use Rattle.store.specs.Shares.{owners, share_size}
use Rattle.store.specs.Walks.{share_in, record_at}
use Rattle.store.specs.Walks.{on_stands, records_from, shares_told, lines_told, lines_read}
use Rattle.store.specs.Walks.{RecordsWalk}
use Rattle.store.proofs.BoolLaws.{and_left}
use Rattle.store.proofs.DecodeLaws.{never, Stands, ends, goes, stands}
use Rattle.store.proofs.HeadLaws.{other_told}
use Rattle.store.proofs.RecordLaws.{Fits, head_none, head_least, head_within}
use Rattle.store.proofs.ShareLaws.{content_parts}
use Rattle.store.proofs.BodyLaws.{bytes_behind}
use Rattle.store.proofs.ShareRecordLaws.{Stands as Front_share, front_read, size_none, front_none, front_other, shares_more, shares_done}
use Rattle.store.proofs.StepLaws.{place_is, told_line, told_share, share_none, share_some}

-- ---- the shares at an index's front

-- a share that stands at the front: its owner is the second byte, and no line's record stands there
record Share (o : ℕ) (i : List ℕ) : Type 0 where
  owner : get_or i 1 0 ≡ o
  none : (head_at i).size ≡ 0

share : (o : ℕ) (i : List ℕ) → (front_share o i ≡ 0 → ⊥) → Share o i
share o i n = record { owner = owner (eqb (get_or i 1 0) o) refl; none = kind (eqb x 4) refl (eqb x 6) refl }
  where
    x : ℕ
    x = get_or i 0 0

    owner : (b : Bool) → eqb (get_or i 1 0) o ≡ b → get_or i 1 0 ≡ o
    owner true e = eqb-true _ o e
    owner false e = absurd (n (front_other o i (eqb-false _ o e)))

    size_none_of : kind_at i ≡ none → (head_at i).size ≡ 0
    size_none_of e = ap (λ (h : Head). h.size) (sym (head_none i e))

    kind : (c : Bool) → eqb x 4 ≡ c → (d : Bool) → eqb x 6 ≡ d → (head_at i).size ≡ 0
    kind true e d f =
        let k : x ≡ 4 = eqb-true x 4 e in
        size_none_of (other_told i (λ z. omega (arith, z, k)) (λ z. omega (arith, z, k)) (λ z. omega (arith, z, k))
        (λ z. omega (arith, z, k)))
    kind false e true f =
        let k : x ≡ 6 = eqb-true x 6 f in
        size_none_of (other_told i (λ z. omega (arith, z, k)) (λ z. omega (arith, z, k)) (λ z. omega (arith, z, k))
        (λ z. omega (arith, z, k)))
    kind false e false f = absurd (n (front_none o i (eqb-false x 4 e) (eqb-false x 6 f)))

share_long : (o : ℕ) (i : List ℕ) → (front_share o i ≡ 0 → ⊥) → 1 ≤ length i
share_long o [] n = absurd (n (front_none o [] (λ (z : 0 ≡ 4). omega (arith, z)) (λ (z : 0 ≡ 6). omega (arith, z))))
share_long o (x ∷ i) n = omega arith

size_some : (b : ℕ) → (b ≡ 0 → ⊥) → 1 ≤ share_size b
size_some b n = subst (λ (c : Bool). 1 ≤ pick c 0 (pick (is_long b) 6 4)) (sym (ne_eqb b 0 n)) (go (is_long b))
  where
    go : (d : Bool) → 1 ≤ pick d 6 4
    go true = omega arith
    go false = omega arith

-- the records of shares from owner o on, and the place behind them
record Fronts (o n : ℕ) (i : List ℕ) (at : ℕ) (f : Fronted) : Type 0 where
  place : ℕ
  steps : ℕ
  told : records_from n i at ≡ shares_told o f.shares ++ records_from steps i place
  rest : drop place i ≡ f.rest
  enough : length i ≤ place + steps

module _ (o b : ℕ) (f : Fronted) (i : List ℕ) where
  -- share 0 has no record
  no_share : b ≡ 0 → (n at : ℕ) → Fronts (suc o) n i at f → Fronts o n i at (and_share b f)
  unfolding shares_told
  no_share z n at r = record {
    place = r.place;
    steps = r.steps;
    told = r.told
        ∙ ap (λ (c : Bool). pick c (shares_told (suc o) f.shares)
        (R.Share (record { owner = o; share = b }) ∷ shares_told (suc o) f.shares) ++ records_from r.steps i r.place)
        (sym (eq-eqb b 0 z));
    rest = r.rest;
    enough = r.enough;
  }

  one_share : (b ≡ 0 → ⊥) → (n at : ℕ) → record_at i at ≡ Some (share_in (share_size b) o b)
      → Fronts (suc o) n i (at + share_size b) f → Fronts o (suc n) i at (and_share b f)
  unfolding records_from shares_told
  one_share m n at e r = record {
    place = r.place;
    steps = r.steps;
    told = ap (λ (w : Optional Standing). on_stands w (λ s. s.told ∷ records_from n i (at + s.size))) e
        ∙ ap (λ (q : List Record). R.Share (record { owner = o; share = b }) ∷ q) r.told
        ∙ ap (λ (c : Bool). pick c (shares_told (suc o) f.shares)
        (R.Share (record { owner = o; share = b }) ∷ shares_told (suc o) f.shares) ++ records_from r.steps i r.place)
        (sym (ne_eqb b 0 m));
    rest = r.rest;
    enough = r.enough;
  }

share_at : (o : ℕ) (i : List ℕ) (at : ℕ) → (front_share o (drop at i) ≡ 0 → ⊥)
    → record_at i at ≡ Some (share_in (share_size (front_share o (drop at i))) o (front_share o (drop at i)))
share_at o i at n =
    let q : List ℕ = drop at i in
    let s : Share o q = share o q n in
    place_is i at ∙ told_share q s.none
    ∙ sym (share_some q (front_share o q) (share_size (front_share o q))
    (ap (λ (p : ℕ). front_share p q) (sym s.owner)) n refl)
    ∙ ap (λ (p : ℕ). Some (share_in (share_size (front_share o q)) p (front_share o q))) s.owner

fronts : (k o n : ℕ) (i : List ℕ) (at : ℕ) → length i ≤ at + n → Fronts o n i at (shares_at k o (drop at i))
unfolding shares_told
fronts zero o n i at l =
    subst (Fronts o n i at) (sym (shares_done o (drop at i)))
    (record { place = at; steps = n; told = refl; rest = refl; enough = l })
fronts (suc k) o n i at l =
    subst (Fronts o n i at) (sym (shares_more k o (drop at i))) (go (eqb b 0) refl n l (fronts k (suc o)))
  where
    q : List ℕ
    q = drop at i

    b : ℕ
    b = front_share o q

    go : (c : Bool) → eqb b 0 ≡ c → (n : ℕ) → length i ≤ at + n
        → ((n : ℕ) (i : List ℕ) (at : ℕ) → length i ≤ at + n → Fronts (suc o) n i at (shares_at k (suc o) (drop at i)))
        → Fronts o n i at (and_share b (shares_at k (suc o) (drop (share_size b) q)))
    go true e n l ih =
        let z : b ≡ 0 = eqb-true b 0 e in
        no_share o b (shares_at k (suc o) (drop (share_size b) q)) i z n at
        (subst (λ (d : ℕ). Fronts (suc o) n i at (shares_at k (suc o) (drop d q))) (sym (size_none b z)) (ih n i at l))
    go false e zero l ih =
        let m : b ≡ 0 → ⊥ = eqb-false b 0 e in
        absurd (omega (arith, l, share_long o q m, length-drop at i))
    go false e (suc n) l ih =
        let m : b ≡ 0 → ⊥ = eqb-false b 0 e in
        one_share o b (shares_at k (suc o) (drop (share_size b) q)) i m n at (share_at o i at m)
        (subst (λ (x : List ℕ). Fronts (suc o) n i (at + share_size b) (shares_at k (suc o) x))
        (sym (drop-drop (share_size b) at i)) (ih n i (at + share_size b) (omega (arith, l, size_some b m))))

-- ---- the lines behind them

zeroes_first : (i : List ℕ) → zeroes i ≡ true → get_or i 0 0 ≡ 0
unfolding zeroes
zeroes_first [] e = refl
zeroes_first (x ∷ i) e = eqb-true x 0 (and_left (eqb x 0) (zeroes i) e)

-- where only 0 follows no record stands
none_at : (i : List ℕ) (at : ℕ) → (head_at (drop at i)).size ≡ 0 → zeroes (drop at i) ≡ true → record_at i at ≡ None
none_at i at z e =
    let q : List ℕ = drop at i in
    let x : get_or q 0 0 ≡ 0 = zeroes_first q e in
    place_is i at ∙ told_share q z
    ∙ sym (share_none q (front_none (get_or q 1 0) q (λ w. omega (arith, x, w)) (λ w. omega (arith, x, w))))

-- a line's record, and the rest
line_at : (n off : ℕ) (i : List ℕ) (at : ℕ) (t : List ℕ) (hs : List Held) → ((head_at (drop at i)).size ≡ 0 → ⊥)
    → Fits off (head_at (drop at i)) (length t)
    → records_from n i (at + (head_at (drop at i)).size) ≡ lines_told (off + (head_at (drop at i)).len) hs
    → records_from (suc n) i at ≡ lines_told off (held_of (drop at i) t ∷ hs)
unfolding records_from lines_told
line_at n off i at t hs m f e =
    let h : Head = head_at (drop at i) in
    let long : h.len ≡ length (take h.len t) = sym (length-take-le h.len t f.text) in
    ap (λ (w : Optional Standing). on_stands w (λ s. s.told ∷ records_from n i (at + s.size)))
    (place_is i at ∙ told_line (drop at i) m)
    ∙ ap₂ (λ (p : ℕ) (q : List Record). R.Line (record { key = h.key; off = p; len = h.len }) ∷ q) f.offset e
    ∙ ap (λ (x : ℕ). R.Line (record { key = h.key; off = off; len = x }) ∷ lines_told (off + x) hs) long

ended : (n off : ℕ) (i : List ℕ) (at : ℕ) → record_at i at ≡ None → records_from n i at ≡ lines_told off []
unfolding records_from lines_told
ended zero off i at e = refl
ended (suc n) off i at e = ap (λ (w : Optional Standing). on_stands w (λ s. s.told ∷ records_from n i (at + s.size))) e

lines_at : (f n off : ℕ) (i : List ℕ) (at : ℕ) (t : List ℕ) (hs : List Held) → walk f off (drop at i) t ≡ some hs
    → length i ≤ at + n → records_from n i at ≡ lines_told off hs
unfolding walk
lines_at zero n off i at t hs e l = absurd (never hs e)
lines_at (suc f) n off i at t hs e l =
    go n hs (stands f off (drop at i) t hs e) l (lines_at f)
  where
    h : Head
    h = head_at (drop at i)

    go : (n : ℕ) (hs : List Held) → Stands f off (drop at i) t hs → length i ≤ at + n
        → ((n off : ℕ) (i : List ℕ) (at : ℕ) (t : List ℕ) (hs : List Held) → walk f off (drop at i) t ≡ some hs
        → length i ≤ at + n → records_from n i at ≡ lines_told off hs)
        → records_from n i at ≡ lines_told off hs
    go n hs (ends z zi zt) l ih = ended n off i at (none_at i at z zi)
    go zero hs (goes m fits p) l ih =
        absurd (omega (arith, l, head_least (drop at i) m, head_within (drop at i), length-drop at i))
    go (suc n) hs (goes {hs = ks} m fits p) l ih =
        line_at n off i at t ks m fits
        (ih n (off + h.len) i (at + h.size) (drop h.len t) ks
        (ap (λ (q : List ℕ). walk f (off + h.len) q (drop h.len t)) (sym (drop-drop h.size at i)) ∙ p)
        (omega (arith, l, head_least (drop at i) m)))

-- the lines that lie in a text are those that their records tell of
read_lines : (f off : ℕ) (i t : List ℕ) (hs : List Held) → walk f off i (drop off t) ≡ some hs
    → lines_read t (lines_told off hs) ≡ hs
unfolding walk lines_read lines_told
read_lines zero off i t hs e = absurd (never hs e)
read_lines (suc f) off i t hs e = go hs (stands f off i (drop off t) hs e) (read_lines f)
  where
    h : Head
    h = head_at i

    go : (hs : List Held) → Stands f off i (drop off t) hs
        → ((off : ℕ) (i t : List ℕ) (hs : List Held) → walk f off i (drop off t) ≡ some hs
        → lines_read t (lines_told off hs) ≡ hs)
        → lines_read t (lines_told off hs) ≡ hs
    go hs (ends z zi zt) ih = refl
    go hs (goes {hs = ks} m fits p) ih =
        let long : length (take h.len (drop off t)) ≡ h.len = length-take-le h.len (drop off t) fits.text in
        ap₂ (λ (x : ℕ) (q : List Held). record { key = h.key; line = take x (drop off t) } ∷ q) long
        (ap (λ (x : ℕ). lines_read t (lines_told (off + x) ks)) long
        ∙ ih (off + h.len) (drop h.size i) t ks
        (ap (λ (q : List ℕ). walk f (off + h.len) (drop h.size i) q) (sym (drop-drop h.len off t)) ∙ p))

-- shares are no lines
read_shares : (o : ℕ) (s : List ℕ) (t : List ℕ) (rs : List Record) → lines_read t (shares_told o s ++ rs) ≡ lines_read t rs
unfolding lines_read shares_told
read_shares o [] t rs = refl
read_shares o (b ∷ bs) t rs = go (eqb b 0) (read_shares (suc o) bs t rs)
  where
    go : (c : Bool) → lines_read t (shares_told (suc o) bs ++ rs) ≡ lines_read t rs
        → lines_read t (pick c (shares_told (suc o) bs)
        (R.Share (record { owner = o; share = b }) ∷ shares_told (suc o) bs) ++ rs) ≡ lines_read t rs
    go true e = e
    go false e = e

-- ---- the whole index

-- the walk of a sound store's lines
decode_walk : (i t : List ℕ) (hs : List Held) → decode i t ≡ some hs → walk (suc (length i)) 0 i t ≡ some hs
unfolding decode
decode_walk i t hs e = size (leb (length i) index_max && leb (length t) text_max) e
  where
    once : (b : Bool) (ks : List Held) → pick b (some ks) none ≡ some hs → some ks ≡ some hs
    once true ks q = q
    once false ks q = absurd (never hs q)

    lines : (o : Option (List Held)) → guarded o ≡ some hs → o ≡ some hs
    lines none q = absurd (never hs q)
    lines (some ks) q = once (distinct ks) ks q

    size : (b : Bool) → pick b (guarded (walk (suc (length i)) 0 i t)) none ≡ some hs → walk (suc (length i)) 0 i t ≡ some hs
    size false q = absurd (never hs q)
    size true q = lines (walk (suc (length i)) 0 i t) q

pub records_walk : RecordsWalk
records_walk i t c e n l =
    let p = content_parts i t c e in
    let f : Fronts 0 n i 0 (fronted i) = fronts owners 0 n i 0 (omega (arith, l)) in
    let w : walk (suc (length (fronted i).rest)) 0 (fronted i).rest t ≡ some c.held
    = decode_walk (fronted i).rest t c.held p.1.1 in
    let told : records_from n i 0 ≡ shares_told 0 c.shares ++ lines_told 0 c.held
    = f.told
    ∙ ap₂ (λ (s : List ℕ) (q : List Record). shares_told 0 s ++ q) (sym p.1.0)
    (lines_at (suc (length (fronted i).rest)) f.steps 0 i f.place t c.held
    (ap (λ (q : List ℕ). walk (suc (length (fronted i).rest)) 0 q t) f.rest ∙ w) f.enough) in
    record {
      records = told;
      lines = ap (lines_read t) told ∙ read_shares 0 c.shares t (lines_told 0 c.held)
          ∙ read_lines (suc (length (fronted i).rest)) 0 (fronted i).rest t c.held w;
    }

-- ---- a step of a walk over any index

-- a record has some bytes, and lies within an index of bytes
pub record RecordIn (i : List ℕ) (at : ℕ) (r : Standing) : Type 0 where
  pub some : 1 ≤ r.size
  pub within : Bytes i → at + r.size ≤ length i

some_standing : (a b : Standing) → ◌≡◌ {A = Optional Standing} (Some a) (Some b) → a ≡ b
some_standing a b e = cc

none_standing : (r : Standing) → ◌≡◌ {A = Optional Standing} None (Some r) → ⊥
none_standing r e = let z : ◌≡◌ {A = ℕ} 0 1 = cc in omega arith

pub record_in : (i : List ℕ) (at : ℕ) (r : Standing) → record_at i at ≡ Some r → RecordIn i at r
record_in i at r e = go (eqb (head_at q).size 0) refl
  where
    q : List ℕ
    q = drop at i

    o : ℕ
    o = get_or q 1 0

    b : ℕ
    b = front_share o q

    shared : (head_at q).size ≡ 0 → (c : Bool) → eqb b 0 ≡ c → RecordIn i at r
    shared z true p =
        absurd (none_standing r (share_none q (eqb-true b 0 p) ∙ sym (told_share q z) ∙ sym (place_is i at) ∙ e))
    shared z false p =
        let m : b ≡ 0 → ⊥ = eqb-false b 0 p in
        let n : 1 ≤ share_size b = size_some b m in
        let f : Bytes i → Front_share o q b = λ y. front_read o q (bytes_behind i at y) in
        subst (RecordIn i at)
        (some_standing _ r (share_some q b (share_size b) refl m refl ∙ sym (told_share q z) ∙ sym (place_is i at) ∙ e))
        (record { some = n; within = λ y. omega (arith, n, (f y).within, length-drop at i) })

    go : (c : Bool) → eqb (head_at q).size 0 ≡ c → RecordIn i at r
    go true p = shared (eqb-true _ 0 p) (eqb b 0) refl
    go false p =
        let m : (head_at q).size ≡ 0 → ⊥ = eqb-false _ 0 p in
        let n : 21 ≤ (head_at q).size = head_least q m in
        subst (RecordIn i at) (some_standing _ r (sym (told_line q m) ∙ sym (place_is i at) ∙ e))
        (record { some = omega (arith, n); within = λ y. omega (arith, n, head_within q, length-drop at i) })
