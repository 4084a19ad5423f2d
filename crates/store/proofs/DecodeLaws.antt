-- Lines that lie in two buffers are those that `walk` and `decode` find there, and the other way round.
-- Assumes nothing.
use mathlib.Core.Bool.{Bool, true, false, ◌&&◌}
use mathlib.Core.List.{List, [], ◌∷◌, ◌++◌, append_assoc}
use mathlib.Core.Option.{Option, none, some}
use mathlib.Core.Path.{◌≡◌, refl, sym, ap, ap₂, ◌∙◌, subst}
use Prim.Native.Nat.{ℕ, zero, suc, ◌+◌, ◌-◌, ◌≤◌, ◌<◌}
use native.Mathlib.Omega.{arith}
use lib.Dec.{eqb, leb}
use lib.ListN.{length, take, drop, replicate, length-append, length-replicate, length-drop, take-append-drop}
use lib.Seq.{take_at, drop_at, length-take-le, get_or-drop}
use borrow.Author.Tests.{eq-eqb, ne_eqb, le-leb, leb-true, eqb-true, eqb-false}
use Rattle.text.specs.Bytes.{pick}
use Rattle.store.specs.declared.records.Head.{Head}
use Rattle.store.specs.Decode.{head_at, held_of, zeroes, head_fits, cons_to, walk, guarded, decode}
use Rattle.store.specs.Inner.{Good, known, sizes}
use Rattle.store.specs.Held.{Key, Held, distinct, index_max, text_max}
use Rattle.store.specs.Layout.{Bytes}
use Rattle.store.specs.Inner.{head_of, Lies}
use Rattle.store.specs.Layout.{record_of, records, texts, padded, encode_records, encode_text}
use Rattle.store.proofs.BoolLaws.{and_left, and_right, and_both}
use Rattle.store.proofs.HeldLaws.{zeroes-replicate}
use Rattle.store.proofs.RecordLaws.{size_some, head_proper, read_back, Fits, fits_of, fits_all}
use Rattle.store.proofs.RowLaws.{sizes_cons, texts_cons, texts-none, records_cons, records-none, texts-first}
use Rattle.store.proofs.RowLaws.{texts-nothing, lies_none, lies_head, lies_next, padded_is}

pub never : {A : Type 0} (a : A) → ◌≡◌ {A = Option A} none (some a) → ⊥
never a e = let z : ◌≡◌ {A = ℕ} 0 1 = cc in omega arith

-- one step of the walk
module _ (f off : ℕ) (i t : List ℕ) where
  abbrev onwards : Option (List Held)
  onwards = walk f (off + (head_at i).len) (drop (head_at i).size i) (drop (head_at i).len t)

  pub walk_end : (head_at i).size ≡ 0 → walk (suc f) off i t ≡ pick (zeroes i && zeroes t) (some []) none
  unfolding walk
  walk_end z = ap (λ (b : Bool). pick b (pick (zeroes i && zeroes t) (some []) none)
      (cons_to (head_fits off (head_at i) (length t)) (held_of i t) onwards)) (eq-eqb _ 0 z)

  pub walk_on : ((head_at i).size ≡ 0 → ⊥)
      → walk (suc f) off i t ≡ cons_to (head_fits off (head_at i) (length t)) (held_of i t) onwards
  unfolding walk
  walk_on n = ap (λ (b : Bool). pick b (pick (zeroes i && zeroes t) (some []) none)
      (cons_to (head_fits off (head_at i) (length t)) (held_of i t) onwards)) (ne_eqb _ 0 n)

-- lines that lie in the buffers are found by the walk
pub walk_lies : (f off : ℕ) (hs : List Held) (i t : List ℕ) (b : ℕ) → sizes off hs < f → Lies off hs i
    → t ≡ texts hs ++ replicate b 0 → walk f off i t ≡ some hs
walk_lies zero off hs i t b more l e = absurd (omega arith)
walk_lies (suc f) off [] i t b more l e =
    walk_end f off i t (ap (λ (x : Head). x.size) (lies_none off i l))
    ∙ ap (λ (c : Bool). pick c (some []) none)
    (and_both (zeroes i) (zeroes t) (unfold records in (ap zeroes l.is ∙ zeroes-replicate l.more))
    (unfold texts in (ap zeroes e ∙ zeroes-replicate b)))
walk_lies (suc f) off (h ∷ hs) i t b more l e =
    let y : head_at i ≡ head_of off h = lies_head off h hs i l in
    let len : (head_at i).len ≡ length h.line = ap (λ (x : Head). x.len) y in
    let e' : t ≡ h.line ++ (texts hs ++ replicate b 0) = unfold texts in
    (e ∙ append_assoc h.line (texts hs) (replicate b 0)) in
    let long : length t ≡ length h.line + length (texts hs ++ replicate b 0) = ap length e'
    ∙ length-append h.line (texts hs ++ replicate b 0) in
    let fits : head_fits off (head_at i) (length t) ≡ true
    = fits_all off (head_at i) (length t)
    (record {
      offset = ap (λ (x : Head). x.off) y;
      some = omega (arith, len, l.shapes.0.some);
      most =
          omega (arith, len, l.shapes.0.most);
      text = omega (arith, len);
    }) in
    let line : take (head_at i).len t ≡ h.line = ap₂ (λ (n : ℕ) (q : List ℕ). take n q) len e'
    ∙ take_at h.line (texts hs ++ replicate b 0) _ refl in
    let rest : drop (head_at i).len t ≡ texts hs ++ replicate b 0 = ap₂ (λ (n : ℕ) (q : List ℕ). drop n q) len e'
    ∙ drop_at h.line (texts hs ++ replicate b 0) _ refl in
    let is : held_of i t ≡ h = ap₂ (λ (k : Key) (q : List ℕ). record { key = k; line = q })
    (ap (λ (x : Head). x.key) y) line in
    let ih : walk f (off + length h.line) (drop (head_at i).size i) (drop (head_at i).len t) ≡ some hs
    = walk_lies f (off + length h.line) hs (drop (head_at i).size i) (drop (head_at i).len t) b
    (omega (arith, sizes_cons off h hs, size_some off h)) (lies_next off h hs i l) rest in
    walk_on f off i t (λ z. omega (arith, size_some off h, ap (λ (x : Head). x.size) y))
    ∙ ap₂ (λ (c : Bool) (x : Held). cons_to c x
    (walk f (off + (head_at i).len) (drop (head_at i).size i) (drop (head_at i).len t))) fits is
    ∙ ap (λ (n : ℕ). cons_to true h (walk f (off + n) (drop (head_at i).size i) (drop (head_at i).len t))) len
    ∙ ap (λ (o : Option (List Held)). cons_to true h o) ih

-- a walk that succeeds is at its end, or at a record with the rest behind it
pub data Stands (f off : ℕ) (i t : List ℕ) : List Held → Type 0 where
  ends : (head_at i).size ≡ 0 → zeroes i ≡ true → zeroes t ≡ true → Stands f off i t []
  goes : {hs : List Held} → ((head_at i).size ≡ 0 → ⊥) → Fits off (head_at i) (length t)
      → walk f (off + (head_at i).len) (drop (head_at i).size i) (drop (head_at i).len t) ≡ some hs
      → Stands f off i t (held_of i t ∷ hs)

pub stands : (f off : ℕ) (i t : List ℕ) (hs : List Held) → walk (suc f) off i t ≡ some hs → Stands f off i t hs
stands f off i t hs e = kind (eqb (head_at i).size 0) refl
  where
    zero? : (b : Bool) → zeroes i && zeroes t ≡ b → (head_at i).size ≡ 0
        → pick {A = Option (List Held)} b (some []) none ≡ some hs → Stands f off i t hs
    zero? true z k q = subst (λ (l : List Held). Stands f off i t l) (cc)
        (ends k (and_left (zeroes i) (zeroes t) z) (and_right (zeroes i) (zeroes t) z))
    zero? false z k q = absurd (never hs q)

    rest : (o : Option (List Held))
        → walk f (off + (head_at i).len) (drop (head_at i).size i) (drop (head_at i).len t) ≡ o
        → ((head_at i).size ≡ 0 → ⊥) → Fits off (head_at i) (length t)
        → cons_to true (held_of i t) o ≡ some hs → Stands f off i t hs
    rest none p k h q = absurd (never hs q)
    rest (some ks) p k h q = subst (λ (l : List Held). Stands f off i t l) (cc) (goes k h p)

    fits : (b : Bool) → head_fits off (head_at i) (length t) ≡ b → ((head_at i).size ≡ 0 → ⊥)
        → cons_to b (held_of i t) (walk f (off + (head_at i).len) (drop (head_at i).size i) (drop (head_at i).len t))
        ≡ some hs → Stands f off i t hs
    fits false p k q = absurd (never hs q)
    fits true p k q = rest (walk f (off + (head_at i).len) (drop (head_at i).size i) (drop (head_at i).len t)) refl k
        (fits_of off (head_at i) (length t) p) q

    kind : (b : Bool) → eqb (head_at i).size 0 ≡ b → Stands f off i t hs
    kind true p = zero? (zeroes i && zeroes t) refl (eqb-true _ 0 p) (sym (walk_end f off i t (eqb-true _ 0 p)) ∙ e)
    kind false p = fits (head_fits off (head_at i) (length t)) refl (eqb-false _ 0 p)
        (sym (walk_on f off i t (eqb-false _ 0 p)) ∙ e)

zeroes_are : (s : List ℕ) → zeroes s ≡ true → s ≡ replicate (length s) 0
unfolding zeroes
zeroes_are [] e = refl
zeroes_are (x ∷ s) e =
    ap₂ (λ (y : ℕ) (q : List ℕ). y ∷ q) (eqb-true x 0 (and_left (eqb x 0) (zeroes s) e))
    (zeroes_are s (and_right (eqb x 0) (zeroes s) e))

-- the lines that a walk finds lie in the buffers
pub record Rows (off : ℕ) (i t : List ℕ) (hs : List Held) : Type 0 where
  pub lies : Lies off hs i
  pub more : ℕ
  pub text : t ≡ texts hs ++ replicate more 0

pub walk_rows : (f off : ℕ) (i t : List ℕ) (hs : List Held) → walk f off i t ≡ some hs → Bytes i
    → off + length t ≤ text_max → Rows off i t hs
unfolding walk
walk_rows zero off i t hs e b l = absurd (never hs e)
walk_rows (suc f) off i t hs e b l =
    go hs (stands f off i t hs e)
    (λ (ks : List Held) (p : walk f (off + (head_at i).len) (drop (head_at i).size i) (drop (head_at i).len t)
    ≡ some ks) (q : (head_at i).len ≤ length t).
    walk_rows f (off + (head_at i).len) (drop (head_at i).size i) (drop (head_at i).len t) ks p
    (λ (k : ℕ). subst (λ (x : ℕ). x < 256) (sym (get_or-drop (head_at i).size i k 0)) (b ((head_at i).size + k)))
    (omega (arith, length-drop (head_at i).len t)))
  where
    go : (hs : List Held) → Stands f off i t hs
        → ((ks : List Held) → walk f (off + (head_at i).len) (drop (head_at i).size i) (drop (head_at i).len t)
        ≡ some ks → (head_at i).len ≤ length t
        → Rows (off + (head_at i).len) (drop (head_at i).size i) (drop (head_at i).len t) ks)
        → Rows off i t hs
    go hs (ends k zi zt) ih = record {
      lies = record {
        more = length i;
        is = zeroes_are i zi
            ∙ sym (records-none off (replicate (length i) 0));
        shapes = tt;
        below = omega (arith, texts-none);
      };
      more = length t;
      text = zeroes_are t zt ∙ sym (texts-nothing (replicate (length t) 0));
    }
    go hs (goes {hs = ks} n h p) ih =
        let r : Rows (off + (head_at i).len) (drop (head_at i).size i) (drop (head_at i).len t) ks = ih ks p h.text in
        let q : length (take (head_at i).len t) ≡ (head_at i).len = length-take-le (head_at i).len t h.text in
        let x : i ≡ record_of off (held_of i t) ++ drop (head_at i).size i
        = read_back i b n (take (head_at i).len t) q
        ∙ ap (λ (o : ℕ). record_of o (held_of i t) ++ drop (head_at i).size i) h.offset in
        record {
          lies = record {
            more = r.lies.more;
            is = x ∙ ap (λ (s : List ℕ). record_of off (held_of i t) ++ s)
                (r.lies.is ∙ ap (λ (m : ℕ). records (off + m) ks ++ replicate r.lies.more 0) (sym q))
                ∙ sym (records_cons off (held_of i t) ks (replicate r.lies.more 0));
            shapes = (
              record {
                key = head_proper i b n;
                some = omega (arith, q, h.some);
                most =
                    omega (arith, q, h.most);
              },
              r.lies.shapes,
            );
            below = omega (arith, r.lies.below, texts_cons (held_of i t) ks, q);
          };
          more = r.more;
          text = sym (take-append-drop (head_at i).len t) ∙ ap (λ (s : List ℕ). take (head_at i).len t ++ s) r.text
              ∙ sym (texts-first (held_of i t) ks (replicate r.more 0));
        }

-- a sound store
pub record Laid (i t : List ℕ) (hs : List Held) : Type 0 where
  pub rows : Rows 0 i t hs
  pub once : distinct hs ≡ true
  pub index : length i ≤ index_max
  pub text : length t ≤ text_max

pub laid : (i t : List ℕ) (hs : List Held) → Bytes i → decode i t ≡ some hs → Laid i t hs
unfolding decode
laid i t hs b e = size (leb (length i) index_max && leb (length t) text_max) refl e
  where
    once? : (t : Bool) (ks : List Held) → distinct ks ≡ t → pick t (some ks) none ≡ some hs
        → (ks ≡ hs) × (distinct ks ≡ true)
    once? true ks p q = (cc, p)
    once? false ks p q = absurd (never hs q)

    lines : (o : Option (List Held)) → walk (suc (length i)) 0 i t ≡ o → guarded o ≡ some hs
        → (walk (suc (length i)) 0 i t ≡ some hs) × (distinct hs ≡ true)
    lines none p q = absurd (never hs q)
    lines (some ks) p q =
        let r : (ks ≡ hs) × (distinct ks ≡ true) = once? (distinct ks) ks refl q in
        subst (λ (l : List Held). (walk (suc (length i)) 0 i t ≡ some l) × (distinct l ≡ true)) r.0 (p, r.1)

    size : (s : Bool) → leb (length i) index_max && leb (length t) text_max ≡ s
        → pick s (guarded (walk (suc (length i)) 0 i t)) none ≡ some hs → Laid i t hs
    size false p q = absurd (never hs q)
    size true p q =
        let r : (walk (suc (length i)) 0 i t ≡ some hs) × (distinct hs ≡ true) =
        lines (walk (suc (length i)) 0 i t) refl q in
        let li : length i ≤ index_max =
        leb-true _ index_max (and_left (leb (length i) index_max) (leb (length t) text_max) p) in
        let lt : length t ≤ text_max =
        leb-true _ text_max (and_right (leb (length i) index_max) (leb (length t) text_max) p) in
        record { rows = walk_rows (suc (length i)) 0 i t hs r.0 b (omega arith); once = r.1; index = li; text = lt }

pub lines_of_lem : (o : Option (List Held)) → known o ≡ true → (hs : List Held) × (o ≡ some hs)
lines_of_lem none e = let z : ◌≡◌ {A = ℕ} 0 1 = cc in absurd (omega arith)
lines_of_lem (some hs) e = (hs, refl)

module _ (i t : List ℕ) (hs : List Held) (l : Laid i t hs) where
  pub index_kept : i ≡ encode_records (length i) hs
  unfolding encode_records
  index_kept = padded_is (length i) i (records 0 hs) l.rows.lies.more l.rows.lies.is refl

  pub text_kept : t ≡ encode_text (length t) hs
  unfolding encode_text
  text_kept = padded_is (length t) t (texts hs) l.rows.more l.rows.text refl

  pub long_index : length i ≡ sizes 0 hs + l.rows.lies.more
  long_index =
      ap length l.rows.lies.is ∙ length-append (records 0 hs) (replicate l.rows.lies.more 0)
      ∙ ap (λ (y : ℕ). sizes 0 hs + y) (length-replicate l.rows.lies.more 0)

  pub long_text : length t ≡ length (texts hs) + l.rows.more
  long_text =
      ap length l.rows.text ∙ length-append (texts hs) (replicate l.rows.more 0)
      ∙ ap (λ (y : ℕ). length (texts hs) + y) (length-replicate l.rows.more 0)

  pub good : Good (length i) (length t) hs
  good = record {
    shapes = l.rows.lies.shapes;
    once = l.once;
    index = omega (arith, long_index);
    text =
        omega (arith, long_text);
  }

pub length-padded : (n : ℕ) (s : List ℕ) → length s ≤ n → length (padded n s) ≡ n
unfolding padded
length-padded n s l = simp (length-append, length-replicate) (omega arith)

-- what is encoded is decoded
module _ (n m : ℕ) (hs : List Held) (g : Good n m hs) where
  pub length_index : length (encode_records n hs) ≡ n
  unfolding encode_records
  length_index = length-padded n (records 0 hs) g.index

  pub length_text : length (encode_text m hs) ≡ m
  unfolding encode_text
  length_text = length-padded m (texts hs) g.text

  pub lies_encoded : m ≤ text_max → Lies 0 hs (encode_records n hs)
  lies_encoded lm = record {
    more = n - sizes 0 hs;
    is = unfold encode_records padded in refl;
    shapes =
        g.shapes;
    below = omega (arith, g.text);
  }

  pub decode_encoded : n ≤ index_max → m ≤ text_max → decode (encode_records n hs) (encode_text m hs) ≡ some hs
  unfolding decode
  decode_encoded ln lm =
      rw (length_index, length_text, and_both _ _ (le-leb n index_max ln) (le-leb m text_max lm))
      (ap guarded walked ∙ ap (λ (b : Bool). pick b (some hs) none) g.once)
    where
      walked : walk (suc n) 0 (encode_records n hs) (encode_text m hs) ≡ some hs
      walked = walk_lies (suc n) 0 hs (encode_records n hs) (encode_text m hs) (m - length (texts hs))
          (omega (arith, g.index)) (lies_encoded lm) (unfold encode_text padded in refl)
