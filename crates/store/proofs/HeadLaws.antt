-- The record at an index's front, told and read by its fields. With RecordLaws, all that knows its bytes.
-- Assumes nothing.
use mathlib.Core.Bool.{Bool, true, false, not, ◌&&◌}
use mathlib.Core.List.{List}
use mathlib.Core.Option.{Option, none, some}
use mathlib.Core.Path.{◌≡◌, refl, sym, ap, ap₂, ◌∙◌, subst}
use Prim.Native.Nat.{ℕ, ◌+◌, ◌≤◌, ◌<◌}
use native.Mathlib.Omega.{arith}
use lib.Dec.{eqb, leb}
use lib.ListN.{length, get_or, drop}
use borrow.Author.Tests.{eq-eqb, ne_eqb, eqb-true, eqb-false, le-leb, lt-leb}
use Rattle.text.specs.Bytes.{pick}
use Rattle.store.specs.declared.records.Body.{Body}
use Rattle.store.specs.declared.records.Head.{Head}
use Rattle.store.specs.declared.records.Kind.{Kind}
use Rattle.store.specs.Decode.{body_at, offset_at, kind, kind_at, body_of, is_whole, head_at}
use Rattle.store.specs.Held.{is_long, size_by}
use Rattle.store.specs.Inner.{body_size, HasRecord, HasKind, TellsRecord, NotShort, Starts}
use Rattle.store.proofs.BodyLaws.{offset_of_body}
use Rattle.store.proofs.BoolLaws.{true-false, and_both, and_false_left, and_false_right}
use Rattle.store.proofs.RecordLaws.{head_none, head_cut, head_whole, whole_long, Kinds, hall, owned, kinds, size_least}
use Rattle.store.proofs.RecordLaws.{kind_size, kind_size_lem, some_is}

-- the sizes of records, by their kinds
pub size_owned : (o : ℕ) (long : Bool) → (o ≡ 0 → ⊥) → size_by o long ≡ pick long 24 22
size_owned o true n = ap (λ (b : Bool). pick b 23 24) (ne_eqb o 0 n)
size_owned o false n = ap (λ (b : Bool). pick b 21 22) (ne_eqb o 0 n)

apart : (a : Bool) → ◌≡◌ {A = ℕ} (pick a 3 1) 2 → ⊥
apart true e = omega (arith, e)
apart false e = omega (arith, e)

five : (a : Bool) → ◌≡◌ {A = ℕ} (pick a 3 1) 5 → ⊥
five true e = omega (arith, e)
five false e = omega (arith, e)

module _ (i : List ℕ) where
  abbrev x : ℕ
  x = get_or i 0 0

  abbrev y : ℕ
  y = get_or i 1 0

  -- what the first two bytes tell
  pub hall_told : (long : Bool) → x ≡ pick long 2 1 → kind_at i ≡ some (kind 0 long)
  unfolding kind_at
  hall_told false k = rw (eq-eqb x 1 k)
  hall_told true k =
      let one : x ≡ 1 → ⊥ = λ z. omega (arith, k, z) in
      rw (ne_eqb x 1 one, eq-eqb x 2 k)

  pub owned_told : (long : Bool) → x ≡ pick long 5 3 → (y ≡ 0 → ⊥) → kind_at i ≡ some (kind y long)
  unfolding kind_at
  owned_told false k n =
      let one : x ≡ 1 → ⊥ = λ z. omega (arith, k, z) in
      let two : x ≡ 2 → ⊥ = λ z. omega (arith, k, z) in
      let l : 1 ≤ y = omega (arith, n) in
      rw (ne_eqb x 1 one, ne_eqb x 2 two, eq-eqb x 3 k, le-leb 1 y l)
  owned_told true k n =
      let one : x ≡ 1 → ⊥ = λ z. omega (arith, k, z) in
      let two : x ≡ 2 → ⊥ = λ z. omega (arith, k, z) in
      let three : x ≡ 3 → ⊥ = λ z. omega (arith, k, z) in
      let l : 1 ≤ y = omega (arith, n) in
      rw (ne_eqb x 1 one, ne_eqb x 2 two, ne_eqb x 3 three, eq-eqb x 5 k, le-leb 1 y l)

  pub other_told : (x ≡ 1 → ⊥) → (x ≡ 2 → ⊥) → (x ≡ 3 → ⊥) → (x ≡ 5 → ⊥) → kind_at i ≡ none
  unfolding kind_at
  other_told a b c d = rw (ne_eqb x 1 a, ne_eqb x 2 b, ne_eqb x 3 c, ne_eqb x 5 d)

  zero_told : (x ≡ 1 → ⊥) → (x ≡ 2 → ⊥) → y ≡ 0 → kind_at i ≡ none
  unfolding kind_at
  zero_told a b z = rw (ne_eqb x 1 a, ne_eqb x 2 b, z) (go (eqb x 3) (eqb x 5))
    where
      go : (c d : Bool) → pick (c && leb 1 0) (some (kind 0 false)) (pick (d && leb 1 0) (some (kind 0 true)) none) ≡ none
      go true true = refl
      go true false = refl
      go false true = refl
      go false false = refl

  -- a kind that is told stands there as a whole record, or no record does
  tells : (k : Kind) → kind_at i ≡ some k → (b : Bool) → is_whole i k ≡ b → TellsRecord i b
  tells k e b w = (λ t. record { kind = k; is = e; whole = w ∙ t }, λ f. head_cut i k e (w ∙ f))

  tells_none : kind_at i ≡ none → TellsRecord i false
  tells_none e = (λ t. absurd (true-false (sym t)), λ f. head_none i e)

  -- the exits of `stands`
  pub stands_short : length i < 21 → TellsRecord i false
  stands_short l = go (kind_at i) refl
    where
      go : (w : Option Kind) → kind_at i ≡ w → TellsRecord i false
      go none e = tells_none e
      go (some k) e =
          let n : length i < size_by k.owner k.long = omega (arith, l, (size_least k.owner k.long).0) in
          tells k e false (and_false_left _ _ (lt-leb _ _ n))

  pub stands_hall : 21 ≤ length i → x ≡ 1 → TellsRecord i true
  stands_hall l e = tells (kind 0 false) (hall_told false e) true (and_both _ _ (le-leb 21 _ l) refl)

  organiser : x ≡ 3 → (b : Bool) → leb 22 (length i) ≡ b → TellsRecord i (b && not (eqb y 0))
  organiser e b l = go (eqb y 0) refl
    where
      go : (c : Bool) → eqb y 0 ≡ c → TellsRecord i (b && not c)
      go true p =
          subst (TellsRecord i) (sym (and_false_right b false refl))
          (tells_none (zero_told (λ z. omega (arith, e, z)) (λ z. omega (arith, e, z)) (eqb-true y 0 p)))
      go false p =
          let n : y ≡ 0 → ⊥ = eqb-false y 0 p in
          tells (kind y false) (owned_told false e n) (b && true)
          (ap (λ (s : ℕ). leb s (length i) && true) (size_owned y false n) ∙ ap (λ (c : Bool). c && true) l)

  pub stands_cut : x ≡ 3 → length i < 22 → TellsRecord i false
  stands_cut e l = organiser e false (lt-leb 22 _ l)

  pub stands_owned : x ≡ 3 → 22 ≤ length i → TellsRecord i (not (eqb y 0))
  stands_owned e l = organiser e true (le-leb 22 _ l)

  -- the exits of `long_stands`
  module _ (short : NotShort i) (n : x ≡ 2 → ⊥) where
    pub long_other : (x ≡ 5 → ⊥) → TellsRecord i false
    long_other m = tells_none (other_told short.0 n short.1 m)

    pub long_zero : y ≡ 0 → TellsRecord i false
    long_zero z = tells_none (zero_told short.0 n z)

  -- and of `holds_long`
  module _ (o : ℕ) (e : kind_at i ≡ some (kind o true)) where
    pub long_cut : length i < size_by o true → TellsRecord i false
    long_cut l = tells (kind o true) e false (and_false_left _ _ (lt-leb _ _ l))

    pub long_holds : size_by o true ≤ length i → (start : ℕ) → Starts o start → (q : List ℕ) → q ≡ drop start i
        → (off : ℕ) → off ≡ offset_at true q → TellsRecord i (is_long off)
    long_holds l start st q eq off eo =
        tells (kind o true) e (is_long off)
        (ap (λ (b : Bool). b && is_long (body_of i (kind o true)).off) (le-leb _ _ l)
        ∙ ap is_long (offset_of_body true (drop (kind_size o true) i)
        ∙ ap (λ (n : ℕ). offset_at true (drop n i)) (sym (st true)) ∙ ap (offset_at true) (sym eq) ∙ sym eo))

  -- a record that stands there, which is long or not
  module _ (long : Bool) (h : HasKind i long) where
    abbrev k : Kind
    k = h.0.kind

    pub owned_in : (x ≡ pick long 2 1 → ⊥) → kind_at i ≡ some (kind y long)
    owned_in n = h.0.is ∙ go (kinds i k h.0.is)
      where
        go : Kinds i k → some k ≡ some (kind y long)
        go (hall a z) = absurd (n (a ∙ ap (λ (b : Bool). pick b 2 1) h.1))
        go (owned a q z) = ap₂ (λ (o : ℕ) (b : Bool). some (kind o b)) q h.1

    -- the body lies whole behind the kind
    module _ (o : ℕ) (e : kind_at i ≡ some (kind o long)) where
      whole_in : is_whole i (kind o long) ≡ true
      whole_in = subst (λ (n : Kind). is_whole i n ≡ true) (some_is k (kind o long) (sym h.0.is ∙ e)) h.0.whole

      pub body_long : kind_size o long + body_size long ≤ length i
      body_long = omega (arith, whole_long i (kind o long) whole_in, kind_size_lem o long)

      pub whole_is : (n start : ℕ) → Starts o start → n ≡ size_by o long
          → (b : Body) → b ≡ body_at long (drop start i)
          → record { size = n; key = record { owner = o; uuid = b.uuid }; off = b.off; len = b.len } ≡ head_at i
      whole_is n start st en b eb =
          ap₂ (λ (m : ℕ) (c : Body). record
          { size = m; key = record { owner = o; uuid = c.uuid }; off = c.off; len = c.len })
          en (eb ∙ ap (λ (m : ℕ). body_at long (drop m i)) (st long))
          ∙ sym (head_whole i (kind o long) e whole_in)

  -- `whole_head`: the first byte tells which
  module _ (s : HasRecord i) where
    pub kind_short : (long : Bool) → x ≡ pick long 3 1 → HasKind i false
    kind_short long e = (s, go (kinds i s.kind s.is))
      where
        by : (a c : Bool) → x ≡ pick c (pick a 2 1) (pick a 5 3) → a ≡ false
        by false c q = refl
        by true true q = absurd (apart long (sym e ∙ q))
        by true false q = absurd (five long (sym e ∙ q))

        go : Kinds i s.kind → s.kind.long ≡ false
        go (hall a z) = by s.kind.long true a
        go (owned a q z) = by s.kind.long false a

    pub kind_long : (x ≡ 1 → ⊥) → (x ≡ 3 → ⊥) → HasKind i true
    kind_long n m = (s, go (kinds i s.kind s.is))
      where
        by : (a c : Bool) → x ≡ pick c (pick a 2 1) (pick a 5 3) → a ≡ true
        by true c q = refl
        by false true q = absurd (n q)
        by false false q = absurd (m q)

        go : Kinds i s.kind → s.kind.long ≡ true
        go (hall a z) = by s.kind.long true a
        go (owned a q z) = by s.kind.long false a

-- a whole record has some bytes
pub whole_some : (i : List ℕ) → HasRecord i → (h : Head) → h ≡ head_at i → 21 ≤ h.size
whole_some i s h e =
    omega (
      arith,
      ap (λ (g : Head). g.size) (e ∙ head_whole i s.kind s.is s.whole),
      (size_least s.kind.owner s.kind.long).0,
    )
