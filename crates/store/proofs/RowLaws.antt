-- Records that lie in an index one behind the other, and the loops over them. Nothing here knows a record's bytes.
-- Assumes nothing.
use mathlib.Core.List.{List, [], ◌∷◌, ◌++◌, append_assoc}
use mathlib.Core.Path.{◌≡◌, refl, sym, ap, ap₂, ◌∙◌, subst}
use Prim.Native.Nat.{ℕ, zero, suc, ◌+◌, ◌-◌, ◌≤◌}
use native.Mathlib.Nat.{zero-add, add-zero, add_assoc}
use native.Mathlib.Omega.{arith}
use lib.ListN.{length, drop, replicate, length-append, length-replicate, length-drop}
use lib.Seq.{drop-drop}
use Rattle.store.specs.declared.records.Head.{Head}
use Rattle.store.specs.Decode.{no_head, head_at}
use Rattle.store.specs.Held.{Held}
use Rattle.store.specs.Inner.{head_of, Lies, size_of, sizes}
use Rattle.store.specs.Layout.{record_of, records, texts, padded}
use Rattle.store.proofs.HeldLaws.{texts-append}
use Rattle.store.proofs.RecordLaws.{head_record, drop-record, size_some, head_zeros, head_within}

-- sizes of lists of lines
pub records-append : (fs bs : List Held) (off : ℕ)
    → records off (fs ++ bs) ≡ records off fs ++ records (off + length (texts fs)) bs
unfolding records texts
records-append [] bs off = ap (λ (n : ℕ). records n bs) (sym (add-zero off))
records-append (h ∷ fs) bs off =
    ap (λ (q : List ℕ). record_of off h ++ q)
    (records-append fs bs (off + length h.line)
    ∙ ap (λ (n : ℕ). records (off + length h.line) fs ++ records n bs)
    (add_assoc off (length h.line) (length (texts fs))
    ∙ ap (λ (n : ℕ). off + n) (sym (length-append h.line (texts fs)))))
    ∙ sym (append_assoc (record_of off h) (records (off + length h.line) fs)
    (records (off + length (h.line ++ texts fs)) bs))

pub sizes_cons : (off : ℕ) (h : Held) (hs : List Held)
    → sizes off (h ∷ hs) ≡ size_of off h + sizes (off + length h.line) hs
unfolding records
sizes_cons off h hs = length-append (record_of off h) (records (off + length h.line) hs)

pub texts_cons : (h : Held) (hs : List Held) → length (texts (h ∷ hs)) ≡ length h.line + length (texts hs)
unfolding texts
texts_cons h hs = length-append h.line (texts hs)

pub texts-none : length (texts []) ≡ 0
unfolding texts
texts-none = refl

pub sizes-none : (off : ℕ) → sizes off [] ≡ 0
unfolding records
sizes-none off = refl

pub records_cons : (off : ℕ) (h : Held) (hs : List Held) (q : List ℕ)
    → records off (h ∷ hs) ++ q ≡ record_of off h ++ (records (off + length h.line) hs ++ q)
unfolding records
records_cons off h hs q = append_assoc (record_of off h) (records (off + length h.line) hs) q

pub records-first : (off : ℕ) (h : Held) (hs : List Held)
    → records off (h ∷ hs) ≡ record_of off h ++ records (off + length h.line) hs
unfolding records
records-first off h hs = refl

pub records-none : (off : ℕ) (q : List ℕ) → records off [] ++ q ≡ q
unfolding records
records-none off q = refl

pub texts-first : (h : Held) (hs : List Held) (q : List ℕ) → texts (h ∷ hs) ++ q ≡ h.line ++ (texts hs ++ q)
unfolding texts
texts-first h hs q = append_assoc h.line (texts hs) q

pub texts-nothing : (q : List ℕ) → texts [] ++ q ≡ q
unfolding texts
texts-nothing q = refl

-- what is filled up with 0
pub padded_is : (n : ℕ) (s r : List ℕ) (k : ℕ) → s ≡ r ++ replicate k 0 → length s ≡ n → s ≡ padded n r
unfolding padded
padded_is n s r k e z =
    let l : length s ≡ length r + k = ap length e ∙ length-append r (replicate k 0)
    ∙ ap (λ (m : ℕ). length r + m) (length-replicate k 0) in
    let q : k ≡ n - length r = omega arith in
    e ∙ ap (λ (m : ℕ). r ++ replicate m 0) q

pub zeros-append : (a b : ℕ) → ◌≡◌ {A = List ℕ} (replicate a 0 ++ replicate b 0) (replicate (a + b) 0)
zeros-append zero b = ap (λ (n : ℕ). replicate {A = ℕ} n 0) (sym (zero-add b))
zeros-append (suc a) b =
    let e : suc (a + b) ≡ suc a + b = omega arith in
    ap (λ (q : List ℕ). 0 ∷ q) (zeros-append a b) ∙ ap (λ (n : ℕ). replicate {A = ℕ} n 0) e

pub drop-zeros : (k a : ℕ) → ◌≡◌ {A = List ℕ} (drop k (replicate a 0)) (replicate (a - k) 0)
drop-zeros zero a = let e : a ≡ a - 0 = omega arith in ap (λ (n : ℕ). replicate {A = ℕ} n 0) e
drop-zeros (suc k) zero = let e : 0 ≡ 0 - suc k = omega arith in ap (λ (n : ℕ). replicate {A = ℕ} n 0) e
drop-zeros (suc k) (suc a) = let e : a - k ≡ suc a - suc k = omega arith in drop-zeros k a
    ∙ ap (λ (n : ℕ). replicate {A = ℕ} n 0) e

pub sizes-append : (fs bs : List Held) (off : ℕ)
    → sizes off (fs ++ bs) ≡ sizes off fs + sizes (off + length (texts fs)) bs
sizes-append fs bs off = ap length (records-append fs bs off)
    ∙ length-append (records off fs) (records (off + length (texts fs)) bs)

pub texts_sum : (fs bs : List Held) → length (texts (fs ++ bs)) ≡ length (texts fs) + length (texts bs)
texts_sum fs bs = ap length (texts-append fs bs) ∙ length-append (texts fs) (texts bs)

pub padded-append : (n : ℕ) (r s : List ℕ) → r ++ padded (n - length r) s ≡ padded n (r ++ s)
unfolding padded
padded-append n r s =
    let e : n - length r - length s ≡ n - length (r ++ s) = omega (arith, length-append r s) in
    ap (λ (k : ℕ). r ++ (s ++ replicate k 0)) e ∙ sym (append_assoc r s (replicate (n - length (r ++ s)) 0))

-- the front of an index in which lines lie
pub lies_none : (off : ℕ) (s : List ℕ) → Lies off [] s → head_at s ≡ no_head
unfolding records
lies_none off s l = ap head_at l.is ∙ head_zeros l.more

module _ (off : ℕ) (h : Held) (hs : List Held) (s : List ℕ) (l : Lies off (h ∷ hs) s) where
  rest : List ℕ
  rest = records (off + length h.line) hs ++ replicate l.more 0

  split : s ≡ record_of off h ++ rest
  unfolding records rest
  split = l.is ∙ append_assoc (record_of off h) (records (off + length h.line) hs) (replicate l.more 0)

  pub lies_head : head_at s ≡ head_of off h
  lies_head = ap head_at split ∙ head_record off h l.shapes.0 (omega (arith, l.below)) rest

  pub lies_next : Lies (off + length h.line) hs (drop (head_at s).size s)
  unfolding rest
  lies_next = record {
    more = l.more;
    is = ap₂ (λ (x : Head) (y : List ℕ). drop x.size y) lies_head split
        ∙ drop-record off h l.shapes.0 (omega (arith, l.below)) rest;
    shapes = l.shapes.1;
    below = omega (arith, l.below, texts_cons h hs);
  }

-- the rest of the lines, from `at` on
pub record Rest (i : List ℕ) (at : ℕ) : Type 0 where
  pub off : ℕ
  pub hs : List Held
  pub lies : Lies off hs (drop at i)

abbrev pub first : (i : List ℕ) (off : ℕ) (hs : List Held) → Lies off hs i → Rest i 0
first i off hs l = record { off = off; hs = hs; lies = l }

module _ (i : List ℕ) (at : ℕ) (head : Head) (e : head ≡ head_at (drop at i)) where
  -- one record on, where there is one
  pub data Onward (r : Rest i at) : Type 0 where
    ended : r.hs ≡ [] → head.size ≡ 0 → Onward r
    stands : (h : Held) (ks : List Held) → r.hs ≡ h ∷ ks → head ≡ head_of r.off h
        → Lies (r.off + length h.line) ks (drop (at + head.size) i) → Onward r

  pub onward : (r : Rest i at) → Onward r
  onward r = go r.hs refl r.lies
    where
      go : (ks : List Held) → r.hs ≡ ks → Lies r.off ks (drop at i) → Onward r
      go [] q l = ended q (ap (λ (h : Head). h.size) (e ∙ lies_none r.off (drop at i) l))
      go (h ∷ ks) q l =
          stands h ks q (e ∙ lies_head r.off h ks (drop at i) l)
          (subst (λ (s : List ℕ). Lies (r.off + length h.line) ks s)
          (ap (λ (x : Head). drop x.size (drop at i)) (sym e) ∙ drop-drop head.size at i)
          (lies_next r.off h ks (drop at i) l))

  pub size_not : (off : ℕ) (h : Held) → head ≡ head_of off h → head.size ≡ 0 → ⊥
  size_not off h q z = omega (arith, size_some off h, ap (λ (x : Head). x.size) q)

  pub next_within : at ≤ length i → at + head.size ≤ length i
  next_within l = omega (arith, ap (λ (x : Head). x.size) e, head_within (drop at i), length-drop at i)
