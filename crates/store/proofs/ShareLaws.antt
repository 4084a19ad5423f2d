-- The shares at an index's front are those that were written there, and the lines behind them are not touched.
-- Assumes nothing.
use mathlib.Core.Bool.{Bool, true, false}
use mathlib.Core.List.{List, [], ◌∷◌, ◌++◌, append_assoc}
use mathlib.Core.Option.{Option, none, some}
use mathlib.Core.Path.{◌≡◌, refl, sym, ap, ap₂, ◌∙◌, subst}
use Prim.Native.Nat.{ℕ, zero, suc, ◌+◌, ◌-◌, ◌≤◌, ◌<◌}
use native.Mathlib.Omega.{arith}
use lib.Dec.{eqb, leb}
use lib.ListN.{length, get_or, drop, replicate, length-append}
use borrow.Author.Tests.{le-leb, leb-true, eqb-true, eqb-false}
use Rattle.text.specs.Bytes.{pick}
use Rattle.text.specs.Uuid.{big_endian, uuid_bytes}
use Rattle.store.specs.Decode.{front_share, Fronted, and_share, shares_at, fronted, with_lines, decode, content}
use Rattle.store.specs.Held.{Held, index_max, text_max, is_long}
use Rattle.store.specs.Inner.{Good}
use Rattle.store.specs.Layout.{Bytes, Given, offset_width, record_bytes, records, share_bytes, share_records, padded}
use Rattle.store.specs.Layout.{encode_records, encode_index, encode_text}
use Rattle.store.specs.Shares.{owners, Content, share_size, share_sizes}
use Rattle.store.proofs.BodyLaws.{bytes_behind}
use Rattle.store.proofs.DecodeLaws.{length_index, decode_encoded, never}
use Rattle.store.proofs.RowLaws.{padded-append}
use Rattle.store.proofs.ShareRecordLaws.{share_none, length_share, front_none, front_other, Stands, front_read}
use Rattle.store.proofs.ShareRecordLaws.{front_written, share_drop, shares_more, shares_done}

-- ---- all records

pub length_shares : (o : ℕ) (s : List ℕ) → length (share_records o s) ≡ share_sizes s
unfolding share_records share_sizes
length_shares o [] = refl
length_shares o (b ∷ bs) =
    length-append (share_bytes o b) (share_records (suc o) bs)
    ∙ ap₂ (λ (x y : ℕ). x + y) (length_share o b) (length_shares (suc o) bs)

-- the shares and the rest of an index are the index
pub record Fronting (k o : ℕ) (i : List ℕ) (f : Fronted) : Type 0 where
  pub is : i ≡ share_records o f.shares ++ f.rest
  pub each : length f.shares ≡ k
  pub four : (q : ℕ) → get_or f.shares q 0 ≤ 4294967295

pub fronting : (k o : ℕ) (i : List ℕ) → Bytes i → Fronting k o i (shares_at k o i)
fronting zero o i y =
    subst (Fronting zero o i) (sym (shares_done o i))
    (record { is = unfold share_records in refl; each = refl; four = λ q. omega arith })
fronting (suc k) o i y =
    let b : ℕ = front_share o i in
    let r : List ℕ = drop (share_size b) i in
    subst (Fronting (suc k) o i) (sym (shares_more k o i))
    (onto b (shares_at k (suc o) r) r (front_read o i y)
    (fronting k (suc o) r (bytes_behind i (share_size b) y)) refl)
  where
    onto : (b : ℕ) (f : Fronted) (r : List ℕ) → Stands o i b → Fronting k (suc o) r f → r ≡ drop (share_size b) i
        → Fronting (suc k) o i (and_share b f)
    onto b f r s h e = record {
      is = s.is ∙ ap (λ (q : List ℕ). share_bytes o b ++ q) (sym e ∙ h.is)
          ∙ sym (append_assoc (share_bytes o b) (share_records (suc o) f.shares) f.rest)
          ∙ unfold share_records in refl;
      each = ap suc h.each;
      four = four;
    }
      where
        four : (q : ℕ) → get_or (b ∷ f.shares) q 0 ≤ 4294967295
        four zero = s.most
        four (suc q) = h.four q

pub front_is : (i : List ℕ) → Bytes i → i ≡ share_records 0 (fronted i).shares ++ (fronted i).rest
front_is i b = (fronting owners 0 i b).is

pub given_front : (i : List ℕ) → Bytes i → Given (fronted i).shares
given_front i b = record { each = (fronting owners 0 i b).each; four = (fronting owners 0 i b).four }

-- no share's record starts with that byte
pub record NoShare (r : List ℕ) : Type 0 where
  pub not4 : get_or r 0 0 ≡ 4 → ⊥
  pub not6 : get_or r 0 0 ≡ 6 → ⊥

-- shares that were written are read, where no record of a share follows
module _ (r : List ℕ) (n : NoShare r) where
  -- no share of a smaller owner stands there
  none_smaller : (o p : ℕ) (s : List ℕ) → o < p → front_share o (share_records p s ++ r) ≡ 0
  unfolding share_records
  none_smaller o p [] l = front_none o r n.not4 n.not6
  none_smaller o p (b ∷ bs) l = go (eqb b 0) refl (is_long b) (none_smaller o (suc p) bs (omega arith))
    where
      go : (c : Bool) → eqb b 0 ≡ c → (d : Bool) → front_share o (share_records (suc p) bs ++ r) ≡ 0
          → front_share o ((pick c [] (pick d (6 ∷ p ∷ big_endian 4 b) (4 ∷ p ∷ big_endian 2 b))
          ++ share_records (suc p) bs) ++ r) ≡ 0
      go true e d ih = ih
      go false e true ih = front_other o _ (λ (z : p ≡ o). omega (arith, z, l))
      go false e false ih = front_other o _ (λ (z : p ≡ o). omega (arith, z, l))

  front_again : (o b : ℕ) (bs : List ℕ) → b ≤ 4294967295
      → front_share o (share_bytes o b ++ (share_records (suc o) bs ++ r)) ≡ b
  front_again o b bs l = go (eqb b 0) refl
    where
      go : (c : Bool) → eqb b 0 ≡ c → front_share o (share_bytes o b ++ (share_records (suc o) bs ++ r)) ≡ b
      go true e =
          let z : b ≡ 0 = eqb-true b 0 e in
          ap (λ (q : List ℕ). front_share o (q ++ (share_records (suc o) bs ++ r))) (share_none o b z)
          ∙ none_smaller o (suc o) bs (omega arith) ∙ sym z
      go false e = front_written o b (share_records (suc o) bs ++ r) (eqb-false b 0 e) l

  shares_written : (o : ℕ) (s : List ℕ) → ((q : ℕ) → get_or s q 0 ≤ 4294967295)
      → shares_at (length s) o (share_records o s ++ r) ≡ record { shares = s; rest = r }
  unfolding share_records
  shares_written o [] four = shares_done o r
  shares_written o (b ∷ bs) four =
      let behind : List ℕ = share_records (suc o) bs ++ r in
      let i : List ℕ = share_bytes o b ++ behind in
      let read : front_share o i ≡ b = front_again o b bs (four 0) in
      ap (shares_at (suc (length bs)) o) (append_assoc (share_bytes o b) (share_records (suc o) bs) r)
      ∙ shares_more (length bs) o i
      ∙ ap (λ (x : ℕ). and_share x (shares_at (length bs) (suc o) (drop (share_size x) i))) read
      ∙ ap (λ (q : List ℕ). and_share b (shares_at (length bs) (suc o) q)) (share_drop o b behind)
      ∙ ap (and_share b) (shares_written (suc o) bs (λ q. four (suc q)))

pub front_of : (s r : List ℕ) → Given s → NoShare r
    → fronted (share_records 0 s ++ r) ≡ record { shares = s; rest = r }
front_of s r g n =
    ap (λ (k : ℕ). shares_at k 0 (share_records 0 s ++ r)) (sym g.each) ∙ shares_written r n 0 s g.four

-- ---- the whole store

pub encode_split : (n : ℕ) (s : List ℕ) (hs : List Held) → share_sizes s ≤ n
    → encode_index n s hs ≡ share_records 0 s ++ encode_records (n - share_sizes s) hs
unfolding encode_index encode_records
encode_split n s hs l =
    sym (padded-append n (share_records 0 s) (records 0 hs))
    ∙ ap (λ (k : ℕ). share_records 0 s ++ padded (n - k) (records 0 hs)) (length_shares 0 s)

-- the records of lines start with another kind
pub line_kind : (n : ℕ) (hs : List Held) → NoShare (encode_records n hs)
unfolding encode_records padded records record_bytes
line_kind n [] = record { not4 = λ e. zeros (n - 0) 4 (omega arith) e; not6 = λ e. zeros (n - 0) 6 (omega arith) e }
  where
    zeros : (k x : ℕ) → 0 < x → get_or (replicate {A = ℕ} k 0) 0 0 ≡ x → ⊥
    zeros zero x l q = omega (arith, q)
    zeros (suc k) x l q = omega (arith, q)
line_kind n (h ∷ hs) =
    go (is_long 0) (eqb h.key.owner 0)
    (uuid_bytes h.key.uuid ++ (big_endian (offset_width (is_long 0)) 0 ++ big_endian 2 (length h.line)))
    (records (0 + length h.line) hs)
    (replicate (n - length (records 0 (h ∷ hs))) 0)
  where
    go : (d c : Bool) (r q s : List ℕ)
        → NoShare (((pick d (pick c (2 ∷ []) (5 ∷ h.key.owner ∷ [])) (pick c (1 ∷ []) (3 ∷ h.key.owner ∷ [])) ++ r) ++ q) ++ s)
    go true true r q s = record { not4 = λ z. omega (arith, z); not6 = λ z. omega (arith, z) }
    go true false r q s = record { not4 = λ z. omega (arith, z); not6 = λ z. omega (arith, z) }
    go false true r q s = record { not4 = λ z. omega (arith, z); not6 = λ z. omega (arith, z) }
    go false false r q s = record { not4 = λ z. omega (arith, z); not6 = λ z. omega (arith, z) }

module _ (i t : List ℕ) where
  pub content_parts : (c : Content) → content i t ≡ some c
      → (length i ≤ index_max) × ((c.shares ≡ (fronted i).shares) × (decode (fronted i).rest t ≡ some c.held))
  unfolding content
  content_parts c e = size (leb (length i) index_max) refl e
    where
      lines : (o : Option (List Held)) → with_lines (fronted i).shares o ≡ some c
          → (c.shares ≡ (fronted i).shares) × (o ≡ some c.held)
      lines none q = absurd (never c q)
      lines (some hs) q =
          let z : record { shares = (fronted i).shares; held = hs } ≡ c = some_is _ c q in
          (ap (λ (x : Content). x.shares) (sym z), ap (λ (x : Content). some x.held) z)
        where
          some_is : (a b : Content) → some a ≡ some b → a ≡ b
          some_is a b p = cc

      size : (b : Bool) → leb (length i) index_max ≡ b
          → pick b (with_lines (fronted i).shares (decode (fronted i).rest t)) none ≡ some c
          → (length i ≤ index_max) × ((c.shares ≡ (fronted i).shares) × (decode (fronted i).rest t ≡ some c.held))
      size true p q = (leb-true _ index_max p, lines (decode (fronted i).rest t) q)
      size false p q = absurd (never c q)

  pub content-joined : (hs : List Held) → length i ≤ index_max → decode (fronted i).rest t ≡ some hs
      → content i t ≡ some (record { shares = (fronted i).shares; held = hs })
  unfolding content
  content-joined hs l e =
      ap₂ (λ (b : Bool) (o : Option (List Held)). pick b (with_lines (fronted i).shares o) none)
      (le-leb (length i) index_max l) e

module _ (n m : ℕ) (c : Content) (l : share_sizes c.shares ≤ n)
    (g : Good (n - share_sizes c.shares) m c.held) where
  pub length_encoded : length (encode_index n c.shares c.held) ≡ n
  length_encoded =
      ap length (encode_split n c.shares c.held l)
      ∙ length-append (share_records 0 c.shares) (encode_records (n - share_sizes c.shares) c.held)
      ∙ ap₂ (λ (x y : ℕ). x + y) (length_shares 0 c.shares)
      (length_index (n - share_sizes c.shares) m c.held g)
      ∙ omega (arith, l)

  fronted_encoded : Given c.shares → fronted (encode_index n c.shares c.held)
      ≡ record { shares = c.shares; rest = encode_records (n - share_sizes c.shares) c.held }
  fronted_encoded v =
      ap fronted (encode_split n c.shares c.held l)
      ∙ front_of c.shares (encode_records (n - share_sizes c.shares) c.held) v
      (line_kind (n - share_sizes c.shares) c.held)

pub content_encoded : (n m : ℕ) (c : Content) → Given c.shares → share_sizes c.shares ≤ n
    → Good (n - share_sizes c.shares) m c.held → n ≤ index_max → m ≤ text_max
    → content (encode_index n c.shares c.held) (encode_text m c.held) ≡ some c
content_encoded n m c v l g ln lm =
    let f = fronted_encoded n m c l g v in
    let k : ℕ = n - share_sizes c.shares in
    content-joined (encode_index n c.shares c.held) (encode_text m c.held) c.held
    (omega (arith, length_encoded n m c l g, ln))
    (ap (λ (x : Fronted). decode x.rest (encode_text m c.held)) f
    ∙ decode_encoded k m c.held g (omega (arith, ln)) lm)
    ∙ ap (λ (x : Fronted). some (record { shares = x.shares; held = c.held })) f
