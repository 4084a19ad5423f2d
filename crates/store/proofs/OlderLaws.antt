-- A store of the first hub is sound and holds the same lines, since no limit has fallen; a store with a longer line was
-- damaged there, since it would hold two lists. A store of a hub before P12 has no offset and no share beyond two
-- bytes, so its records are the short ones. What is encoded is so in longer buffers too.
-- Assumes nothing.
use mathlib.Core.Bool.{Bool, true, false, ◌||◌}
use mathlib.Core.List.{List, [], ◌∷◌, ◌++◌, append_assoc}
use mathlib.Core.Option.{some}
use mathlib.Core.Path.{◌≡◌, refl, sym, ap, ap₂, subst, ◌∙◌}
use Prim.Native.Nat.{ℕ, suc, ◌+◌, ◌-◌, ◌≤◌}
use native.Mathlib.Omega.{arith}
use lib.Dec.{eqb, ltb}
use lib.ListN.{length, get_or, replicate, length-append, length-replicate}
use borrow.Author.Tests.{ltb-true, le-ltb}
use Rattle.text.specs.Bytes.{pick}
use Rattle.text.specs.Uuid.{big_endian, uuid_bytes}
use Rattle.text.proofs.ListLaws.{off}
use Rattle.store.specs.Held.{Key, Held, current, short_max}
use Rattle.store.specs.Layout.{kind_by, offset_width, record_bytes, records, texts, padded, share_bytes, share_records}
use Rattle.store.specs.Layout.{encode_index, encode_text, ShapesWithin, EncodesWithin}
use Rattle.store.specs.Shares.{Content}
use Rattle.store.specs.Older.{first, OlderSound, longer, LongerDamaged, record_before, records_before, shares_before}
use Rattle.store.specs.Older.{BeforeSound, Grown}
use Rattle.store.proofs.EncodesLaws.{padded_fits, content_encodes, encodes_content}
use Rattle.store.proofs.RowLaws.{texts_cons, padded_is, zeros-append}

shapes_grow : (a b : ℕ) (hs : List Held) → a ≤ b → ShapesWithin a hs → ShapesWithin b hs
shapes_grow a b [] l s = tt
shapes_grow a b (h ∷ hs) l s =
    let m : length h.line ≤ a = s.0.most in
    (record { key = s.0.key; some = s.0.some; most = omega arith }, shapes_grow a b hs l s.1)

pub older_sound : OlderSound
older_sound i t c e =
    encodes_content i t c (record {
      index = e.index;
      text = e.text;
      once = e.once;
      shapes = shapes_grow first.line current.line c.held (omega arith) e.shapes;
      given = e.given;
      index_most = omega (arith, e.index_most);
      text_most = omega (arith, e.text_most);
    })

not-longer : (limit : ℕ) (hs : List Held) → ShapesWithin limit hs → longer limit hs ≡ true → ⊥
unfolding longer
not-longer limit [] s e = off e
not-longer limit (h ∷ hs) s e = go (ltb limit (length h.line)) refl e (not-longer limit hs s.1)
  where
    go : (b : Bool) → ltb limit (length h.line) ≡ b → b || longer limit hs ≡ true → (longer limit hs ≡ true → ⊥) → ⊥
    go true q p ih =
        let m : length h.line ≤ limit = s.0.most in omega (arith, ltb-true limit (length h.line) q)
    go false q p ih = ih p

same-content : (c d : Content) → some c ≡ some d → c ≡ d
same-content c d e = cc

pub longer_damaged : LongerDamaged
longer_damaged i t c e l d was =
    let z : c ≡ d = same-content c d (sym e ∙ older_sound i t d was) in
    not-longer first.line c.held
    (subst (λ (x : Content). ShapesWithin first.line x.held) (sym z) was.shapes) l

-- ---- before request P12: no offset and no share beyond two bytes

record_same : (k : Key) (off len : ℕ) → off ≤ short_max → record_before k off len ≡ record_bytes k off len
unfolding record_before record_bytes
record_same k off len l =
    ap (λ (b : Bool). kind_by k.owner b
    ++ (uuid_bytes k.uuid ++ (big_endian (offset_width b) off ++ big_endian 2 len)))
    (sym (le-ltb short_max off l))

records_same : (hs : List Held) (off : ℕ) → off + length (texts hs) ≤ short_max → records_before off hs ≡ records off hs
unfolding records_before records
records_same [] off l = refl
records_same (h ∷ hs) off l =
    ap₂ (λ (x y : List ℕ). x ++ y) (record_same h.key off (length h.line) (omega (arith, l)))
    (records_same hs (off + length h.line) (omega (arith, l, texts_cons h hs)))

share_same : (o b : ℕ) → b ≤ short_max → pick (eqb b 0) [] (4 ∷ o ∷ big_endian 2 b) ≡ share_bytes o b
share_same o b l =
    ap (λ (x : Bool). pick (eqb b 0) [] (pick x (6 ∷ o ∷ big_endian 4 b) (4 ∷ o ∷ big_endian 2 b)))
    (sym (le-ltb short_max b l))

shares_same : (s : List ℕ) (o : ℕ) → ((k : ℕ) → get_or s k 0 ≤ 65535) → shares_before o s ≡ share_records o s
unfolding shares_before share_records
shares_same [] o l = refl
shares_same (b ∷ s) o l =
    ap₂ (λ (x y : List ℕ). x ++ y) (share_same o b (l 0)) (shares_same s (suc o) (λ k. l (suc k)))

pub before_sound : BeforeSound
before_sound i t c e =
    encodes_content i t c (record {
      index = e.index
          ∙ ap (padded (length i)) (ap₂ (λ (x y : List ℕ). x ++ y) (shares_same c.shares 0 e.two)
          (records_same c.held 0 (omega (arith, fits, e.text_most))))
          ∙ unfold encode_index in refl;
      text = e.text;
      once = e.once;
      shapes = e.shapes;
      given = record { each = e.each; four = λ o. omega (arith, e.two o) };
      index_most = omega (arith, e.index_most);
      text_most = omega (arith, e.text_most);
    })
  where
    fits : length (texts c.held) ≤ length t
    fits = padded_fits (length t) (texts c.held) t (e.text ∙ unfold encode_text in refl) refl

-- ---- longer buffers

padded_more : (s r : List ℕ) (a : ℕ) → s ≡ padded (length s) r
    → s ++ replicate a 0 ≡ padded (length (s ++ replicate {A = ℕ} a 0)) r
padded_more s r a e =
    let f : s ≡ r ++ replicate (length s - length r) 0 = e ∙ unfold padded in refl in
    padded_is (length (s ++ replicate {A = ℕ} a 0)) (s ++ replicate a 0) r (length s - length r + a)
    (ap (λ (q : List ℕ). q ++ replicate a 0) f
    ∙ append_assoc r (replicate (length s - length r) 0) (replicate a 0)
    ∙ ap (λ (q : List ℕ). r ++ q) (zeros-append (length s - length r) a)) refl

length_more : (s : List ℕ) (a : ℕ) → length (s ++ replicate {A = ℕ} a 0) ≡ length s + a
length_more s a = length-append s (replicate a 0) ∙ ap (λ (n : ℕ). length s + n) (length-replicate a 0)

pub grown : Grown
grown i t c a b y h li lt =
    let e : EncodesWithin current i t c = content_encodes i t c y h in
    encodes_content (i ++ replicate a 0) (t ++ replicate b 0) c (record {
      index = padded_more i (share_records 0 c.shares ++ records 0 c.held) a (e.index ∙ unfold encode_index in refl)
          ∙ unfold encode_index in refl;
      text = padded_more t (texts c.held) b (e.text ∙ unfold encode_text in refl) ∙ unfold encode_text in refl;
      once = e.once;
      shapes = e.shapes;
      given = e.given;
      index_most = omega (arith, length_more i a, li);
      text_most = omega (arith, length_more t b, lt);
    })
