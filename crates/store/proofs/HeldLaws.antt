-- Laws of keys and of lists of lines: what striking out, filing and looking up do to each other.
-- Assumes nothing.
use Rattle.text.proofs.BytesLaws.{eqb_turned}
use mathlib.Core.Bool.{Bool, true, false, not, ◌&&◌}
use mathlib.Core.List.{List, [], ◌∷◌, ◌++◌, append_assoc}
use mathlib.Core.Option.{Option, none}
use mathlib.Core.Path.{◌≡◌, refl, sym, ap, ap₂, ◌∙◌, subst}
use Prim.Native.Nat.{ℕ, zero, suc, ◌+◌}
use native.Mathlib.Omega.{arith}
use lib.Dec.{eqb}
use lib.ListN.{length, length-append, replicate}
use borrow.Author.Tests.{eqb-true, eq-eqb, not-true}
use Rattle.text.specs.Bytes.{pick}
use Rattle.text.specs.declared.uuid.Uuid.{Uuid}
use Rattle.store.specs.Decode.{zeroes}
use Rattle.store.specs.Held.{Key, Held, key_by, same_key, holds, distinct, strike, file, find}
use Rattle.store.specs.Layout.{Shape, Shapes, texts}
use Rattle.store.proofs.BoolLaws.{and_left, and_right, and_both, or_false, or_left, or_right}

-- laws of keys
pub same_refl : (k : Key) → same_key k k ≡ true
unfolding same_key
same_refl k =
    and_both _ _ (eq-eqb k.owner k.owner refl)
    (and_both _ _ (eq-eqb k.uuid.high k.uuid.high refl) (eq-eqb k.uuid.low k.uuid.low refl))

pub same_eq : (a b : Key) → same_key a b ≡ true → a ≡ b
unfolding same_key
same_eq a b e =
    let r : eqb a.uuid.high b.uuid.high && eqb a.uuid.low b.uuid.low ≡ true
    = and_right (eqb a.owner b.owner) _ e in
    let h : a.uuid.high ≡ b.uuid.high = eqb-true _ b.uuid.high
    (and_left (eqb a.uuid.high b.uuid.high) (eqb a.uuid.low b.uuid.low) r) in
    let l : a.uuid.low ≡ b.uuid.low = eqb-true _ b.uuid.low
    (and_right (eqb a.uuid.high b.uuid.high) (eqb a.uuid.low b.uuid.low) r) in
    ap₂ (λ (o : ℕ) (u : Uuid). key_by o u)
    (eqb-true a.owner b.owner (and_left (eqb a.owner b.owner) _ e))
    (ap₂ (λ (x y : ℕ). record { high = x; low = y }) h l)

pub same-sym : (a b : Key) → same_key a b ≡ same_key b a
unfolding same_key
same-sym a b =
    ap₂ ◌&&◌ (eqb_turned a.owner b.owner)
    (ap₂ ◌&&◌ (eqb_turned a.uuid.high b.uuid.high) (eqb_turned a.uuid.low b.uuid.low))

pub zeroes-replicate : (n : ℕ) → zeroes (replicate n 0) ≡ true
unfolding zeroes
zeroes-replicate zero = refl
zeroes-replicate (suc n) = zeroes-replicate n

-- what a list of lines keeps when lines are struck out, and when one is added
pub holds-strike : (u v : Key) (hs : List Held) → holds v hs ≡ false → holds v (strike u hs) ≡ false
unfolding holds strike
holds-strike u v [] e = refl
holds-strike u v (h ∷ hs) e =
    let ih : holds v (strike u hs) ≡ false = holds-strike u v hs (or_right (same_key v h.key) (holds v hs) e) in
    let go : (b : Bool) → holds v (pick b (strike u hs) (h ∷ strike u hs)) ≡ false
    = elim [ true ↦ ih | false ↦ or_false _ _ (or_left (same_key v h.key) (holds v hs) e) ih ]
    in go (same_key u h.key)

pub struck : (u : Key) (hs : List Held) → holds u (strike u hs) ≡ false
unfolding holds strike
struck u [] = refl
struck u (h ∷ hs) = go (same_key u h.key) refl (struck u hs)
  where
    go : (b : Bool) → same_key u h.key ≡ b → holds u (strike u hs) ≡ false
        → holds u (pick b (strike u hs) (h ∷ strike u hs)) ≡ false
    go true p ih = ih
    go false p ih = or_false _ _ p ih

pub distinct-strike : (u : Key) (hs : List Held) → distinct hs ≡ true → distinct (strike u hs) ≡ true
unfolding distinct strike
distinct-strike u [] e = refl
distinct-strike u (h ∷ hs) e =
    go (same_key u h.key) (distinct-strike u hs (and_right (not (holds h.key hs)) (distinct hs) e))
  where
    go : (b : Bool) → distinct (strike u hs) ≡ true → distinct (pick b (strike u hs) (h ∷ strike u hs)) ≡ true
    go true ih = ih
    go false ih =
        and_both _ _
        (ap not (holds-strike u h.key hs
        (not-true (holds h.key hs) (and_left (not (holds h.key hs)) (distinct hs) e))))
        ih

holds_snoc : (v : Key) (hs : List Held) (h : Held) → holds v hs ≡ false → same_key v h.key ≡ false
    → holds v (hs ++ (h ∷ [])) ≡ false
unfolding holds
holds_snoc v [] h e q = or_false _ _ q refl
holds_snoc v (k ∷ hs) h e q =
    or_false _ _ (or_left (same_key v k.key) (holds v hs) e)
    (holds_snoc v hs h (or_right (same_key v k.key) (holds v hs) e) q)

distinct_snoc : (hs : List Held) (h : Held) → holds h.key hs ≡ false → distinct hs ≡ true
    → distinct (hs ++ (h ∷ [])) ≡ true
unfolding distinct holds
distinct_snoc [] h e d = refl
distinct_snoc (k ∷ hs) h e d =
    and_both _ _
    (ap not
    (holds_snoc k.key hs h (not-true (holds k.key hs) (and_left (not (holds k.key hs)) (distinct hs) d))
    (same-sym k.key h.key ∙ or_left (same_key h.key k.key) (holds h.key hs) e)))
    (distinct_snoc hs h (or_right (same_key h.key k.key) (holds h.key hs) e)
    (and_right (not (holds k.key hs)) (distinct hs) d))

pub distinct-file : (h : Held) (hs : List Held) → distinct hs ≡ true → distinct (file h hs) ≡ true
unfolding file
distinct-file h hs e = distinct_snoc (strike h.key hs) h (struck h.key hs) (distinct-strike h.key hs e)

pub shapes_strike : (u : Key) (hs : List Held) → Shapes hs → Shapes (strike u hs)
unfolding strike
shapes_strike u [] s = tt
shapes_strike u (h ∷ hs) s = go (same_key u h.key) (shapes_strike u hs s.1)
  where
    go : (b : Bool) → Shapes (strike u hs) → Shapes (pick b (strike u hs) (h ∷ strike u hs))
    go true ih = ih
    go false ih = (s.0, ih)

pub shapes_snoc : (hs : List Held) (h : Held) → Shapes hs → Shape h → Shapes (hs ++ (h ∷ []))
shapes_snoc [] h s q = (q, tt)
shapes_snoc (k ∷ hs) h s q = (s.0, shapes_snoc hs h s.1 q)

pub shapes_file : (h : Held) (hs : List Held) → Shapes hs → Shape h → Shapes (file h hs)
unfolding file
shapes_file h hs s q = shapes_snoc (strike h.key hs) h (shapes_strike h.key hs s) q

pub texts-append : (hs ks : List Held) → texts (hs ++ ks) ≡ texts hs ++ texts ks
unfolding texts
texts-append [] ks = refl
texts-append (h ∷ hs) ks = rw (texts-append hs ks) (sym (append_assoc h.line (texts hs) (texts ks)))

pub texts-file : (h : Held) (hs : List Held)
    → length (texts (file h hs)) ≡ length (texts (strike h.key hs)) + length h.line
unfolding file texts
texts-file h hs = simp (texts-append, length-append) (omega arith)

-- look-up after a filing: the line filed, and under another UUID what was there
find_snoc : (u : Key) (hs : List Held) (h : Held) → holds u hs ≡ false
    → find u (hs ++ (h ∷ [])) ≡ pick (same_key u h.key) (Option.some h.line) none
unfolding find holds
find_snoc u [] h e = refl
find_snoc u (k ∷ hs) h e =
    rw (or_left (same_key u k.key) (holds u hs) e) (find_snoc u hs h (or_right (same_key u k.key) (holds u hs) e))

pub find_filed : (h : Held) (hs : List Held) → find h.key (file h hs) ≡ Option.some h.line
unfolding file
find_filed h hs = find_snoc h.key (strike h.key hs) h (struck h.key hs) ∙ rw (same_refl h.key)

find_past : (u : Key) (hs : List Held) (h : Held) → same_key u h.key ≡ false → find u (hs ++ (h ∷ [])) ≡ find u hs
unfolding find
find_past u [] h q = rw q
find_past u (k ∷ hs) h q = ap (λ (o : Option (List ℕ)). pick (same_key u k.key) (Option.some k.line) o)
    (find_past u hs h q)

pub find-strike : (u v : Key) (hs : List Held) → same_key u v ≡ false → find u (strike v hs) ≡ find u hs
unfolding find strike
find-strike u v [] q = refl
find-strike u v (h ∷ hs) q = go (same_key v h.key) refl (find-strike u v hs q)
  where
    go : (b : Bool) → same_key v h.key ≡ b → find u (strike v hs) ≡ find u hs
        → find u (pick b (strike v hs) (h ∷ strike v hs))
        ≡ pick (same_key u h.key) (Option.some h.line) (find u hs)
    go true p ih =
        ih ∙ sym (ap (λ (b : Bool). pick b (Option.some h.line) (find u hs))
        (subst (λ (w : Key). same_key u w ≡ false) (same_eq v h.key p) q))
    go false p ih = ap (λ (o : Option (List ℕ)). pick (same_key u h.key) (Option.some h.line) o) ih

pub find_other : (u : Key) (h : Held) (hs : List Held) → same_key u h.key ≡ false → find u (file h hs) ≡ find u hs
unfolding file
find_other u h hs q = find_past u (strike h.key hs) h q ∙ find-strike u h.key hs q

pub find-file : (u : Key) (h : Held) (hs : List Held)
    → find u (file h hs) ≡ pick (same_key u h.key) (Option.some h.line) (find u hs)
find-file u h hs = go (same_key u h.key) refl
  where
    go : (b : Bool) → same_key u h.key ≡ b → find u (file h hs) ≡ pick b (Option.some h.line) (find u hs)
    go true p = ap (λ (x : Key). find x (file h hs)) (same_eq u h.key p) ∙ find_filed h hs
    go false p = find_other u h hs p
