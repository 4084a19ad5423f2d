-- What a built line holds, where build's checks pass: it is UTF-8, its first field is its UUID, and it has no LF and no
-- `platform:` where the name has none. Assumes nothing.
use Rattle.std.specs.Prelude.{Ok, Some}
use Prim.Native.Nat.{ℕ, suc, ◌<◌}
use mathlib.Core.Path.{◌≡◌, refl, ap, ◌∙◌}
use mathlib.Core.Bool.{Bool, true, false}
use mathlib.Core.List.{List, [], ◌∷◌, ◌++◌, append-nil}
use mathlib.Core.Logic.{⊎_elim}
use native.Mathlib.Omega.{arith}
use borrow.Author.Tests.{leb-true, le-leb, lt-ltb, ne_eqb, eqb-true}
use lib.Dec.{eqb, leb}
use lib.ListN.{length}
use Rattle.text.specs.Bytes.{pick, byte, same, first_of}
use Rattle.text.specs.Decimal.{is_digit, decimal}
use Rattle.text.specs.Utf8.{is_utf8}
use Rattle.text.specs.Uuid.{is_from, uuid_text, uuid_of, Small}
use Rattle.text.specs.Inner.{every, is_ascii, either, is_lower_hex}
use Rattle.text.specs.declared.uuid.Uuid.{Uuid}
use Rattle.text.specs.declared.uuid.Form.TheVariants as F
use Rattle.text.proofs.ListLaws.{lt_or_le, both_parts, off}
use Rattle.text.proofs.BytesLaws.{every_append, every-also}
use Rattle.text.proofs.AsciiLaws.{Valid, none_valid, valid_join, valid_ascii, valid_is, is_valid}
use Rattle.text.proofs.DecimalLaws.{decimal_all}
use Rattle.text.proofs.UuidLaws.{uuid_back, uuid_text_lower}
use Rattle.line.specs.declared.mapping.Entry.{Entry}
use Rattle.line.specs.Fields.{count_of, first_field}
use Rattle.line.specs.Tables.{ident_text}
use Rattle.line.proofs.CountLaws.{count_append, count_none, first_below}
use Rattle.line.proofs.JoinLaws.{Free, free_cons, take-before}
use Rattle.map.specs.declared.mapping_data.MappingData.{MappingData}
use Rattle.map.specs.Lists.{place_of}
use Rattle.map.specs.Build.{filled_buttons, filled_axes, checks_of, ended, pair_text, pair_texts, built_line}
use Rattle.text.specs.Search.{begins_text, first_text, platform_key, lf}
use Rattle.map.proofs.CheckLaws.{Passed, passed}
use Rattle.map.proofs.PlainLaws.{is_ident_byte, Plain, AllPlain}
use Rattle.map.proofs.BuiltLaws.{buttons_all_plain, axes_all_plain}
use Rattle.map.proofs.SearchLaws.{Lacks, lacks_none, lacks_join, lacks_byte}

-- ---- the bytes of a line but for its name and its commas: letters from `a` to `z` but `m`, digits, colons
abbrev pub is_plain_byte : ℕ → Bool
is_plain_byte b = either (is_ident_byte b) (either (is_digit b) (eqb b (byte ":")))

either_left : (a b : Bool) → a ≡ true → either a b ≡ true
either_left true b h = refl
either_left false b h = absurd (off h)

either_right : (a b : Bool) → b ≡ true → either a b ≡ true
either_right true b h = refl
either_right false b h = h

either-by : {A : Type 0} (a b : Bool) → (a ≡ true → A) → (b ≡ true → A) → either a b ≡ true → A
either-by true b f g h = f refl
either-by false b f g h = g h

ident_plain : (b : ℕ) → is_ident_byte b ≡ true → is_plain_byte b ≡ true
ident_plain b h = either_left (is_ident_byte b) (either (is_digit b) (eqb b (byte ":"))) h

digit_plain : (b : ℕ) → is_digit b ≡ true → is_plain_byte b ≡ true
digit_plain b h =
    either_right (is_ident_byte b) (either (is_digit b) (eqb b (byte ":")))
    (either_left (is_digit b) (eqb b (byte ":")) h)

-- a letter from `a` to `f`
hex_letter : (b : ℕ) → is_from (byte "a") (byte "f") b ≡ true → is_ident_byte b ≡ true
hex_letter b h =
    let w = both_parts (leb (byte "a") b) (leb b (byte "f")) h in
    let l = leb-true b (byte "f") w.1 in
    rw (ne_eqb b (byte "m") (λ e. omega arith), w.0, le-leb b (byte "z") (omega arith))

hex_plain : (b : ℕ) → is_lower_hex b ≡ true → is_plain_byte b ≡ true
hex_plain b h =
    either-by (is_digit b) (is_from (byte "a") (byte "f") b) (λ d. digit_plain b d)
    (λ l. ident_plain b (hex_letter b l)) h

ident_ascii : (b : ℕ) (t : Bool) → pick t false (is_from (byte "a") (byte "z") b) ≡ true → b < 128
ident_ascii b true h = absurd (off h)
ident_ascii b false h =
    let w = both_parts (leb (byte "a") b) (leb b (byte "z")) h in
    omega (arith, leb-true b (byte "z") w.1)

plain_low : (b : ℕ) → is_plain_byte b ≡ true → b < 128
plain_low b h =
    either-by (is_ident_byte b) (either (is_digit b) (eqb b (byte ":")))
    (λ l. ident_ascii b (eqb b (byte "m")) l)
    (λ q.
    either-by (is_digit b) (eqb b (byte ":"))
    (λ d. omega (arith, leb-true b (byte "9") (both_parts (leb (byte "0") b) (leb b (byte "9")) d).1))
    (λ e. omega (arith, eqb-true b (byte ":") e)) q)
    h

plain-ascii : (b : ℕ) → is_plain_byte b ≡ true → is_ascii b ≡ true
plain-ascii b h = lt-ltb b 128 (plain_low b h)

pub uuid_plain : (u : Uuid) → every is_plain_byte (uuid_text u) ≡ true
uuid_plain u = every-also is_lower_hex is_plain_byte hex_plain (uuid_text u) (uuid_text_lower u)

pub pair_plain : (letter : ℕ) (codes : List ℕ) (e : Entry) → is_ident_byte letter ≡ true → Plain e.element
    → every is_plain_byte (pair_text letter codes e) ≡ true
unfolding every
pair_plain letter codes e m p =
    let digits = every-also is_digit is_plain_byte digit_plain (decimal (place_of e.code codes))
    (decimal_all (place_of e.code codes)) in
    every_append is_plain_byte (ident_text e.element) (byte ":" ∷ letter ∷ decimal (place_of e.code codes))
    (every-also is_ident_byte is_plain_byte ident_plain (ident_text e.element) p.letters)
    (rw (ident_plain letter m, digits))

-- ---- texts without a byte
free_nil : (b : ℕ) → Free b []
unfolding count_of
free_nil b = refl

free_join : (b c : ℕ) → eqb c b ≡ false → (f s : List ℕ) → Free b f → Free b s → Free b (f ++ c ∷ s)
unfolding count_of
free_join b c n f s v w = count_append b f (c ∷ s) ∙ rw (v, n, w)

pub none_free : (b : ℕ) (s : List ℕ) → first_of b s ≡ length s → Free b s
none_free b s h =
    ⊎_elim (λ l. absurd (omega (arith, first_below b s l))) (λ l. omega arith) (lt_or_le 0 (count_of b s))

free_none : (b : ℕ) (s : List ℕ) → Free b s → first_of b s ≡ length s
unfolding count_of first_of
free_none b [] h = refl
free_none b (x ∷ s) h = let w = free_cons b x s h in rw w.0 (ap suc (free_none b s w.1))

-- ---- the key `platform:`
no_comma_lem : Free (byte ",") platform_key
unfolding count_of
no_comma_lem = refl

no_empty : begins_text platform_key [] ≡ false
unfolding same
no_empty = refl

has_m : 0 < count_of (byte "m") platform_key
unfolding count_of
has_m = omega arith

-- ---- what holds of a built line: what holds of plain texts and of the name, and goes on over a comma
module _ (Q : List ℕ → Type 0) (none : Q []) (join : (f s : List ℕ) → Q f → Q s → Q (f ++ byte "," ∷ s))
    (plain : (s : List ℕ) → every is_plain_byte s ≡ true → Q s) where
  pairs_hold : (letter : ℕ) (codes : List ℕ) (es : List Entry) (rest : List (List ℕ)) → is_ident_byte letter ≡ true
      → AllPlain es → Q (ended rest) → Q (ended (pair_texts letter codes es ++ rest))
  unfolding ended pair_texts AllPlain
  pairs_hold letter codes [] rest m p q = q
  pairs_hold letter codes (e ∷ es) rest m p q =
      join (pair_text letter codes e) (ended (pair_texts letter codes es ++ rest))
      (plain (pair_text letter codes e) (pair_plain letter codes e m p.0))
      (pairs_hold letter codes es rest m p.2 q)

  none-ended : Q (ended [])
  unfolding ended
  none-ended = none

  pub built_holds : (d : MappingData) (buttons axes name : List ℕ) (uuid : Uuid) → Passed d buttons axes name → Q name
      → Q (built_line d buttons axes name uuid)
  unfolding built_line ended
  built_holds d buttons axes name uuid p q =
      let bs = pair_texts (byte "b") buttons (filled_buttons d) in
      let xs = pair_texts (byte "a") axes (filled_axes d) in
      let last : Q (ended xs) =
      rw (append-nil xs) at
      (pairs_hold (byte "a") axes (filled_axes d) [] refl (axes_all_plain d buttons axes name p) none-ended) in
      join (uuid_text uuid) (ended (name ∷ (bs ++ xs))) (plain (uuid_text uuid) (uuid_plain uuid))
      (join name (ended (bs ++ xs)) q
      (pairs_hold (byte "b") buttons (filled_buttons d) xs refl (buttons_all_plain d buttons axes name p) last))

-- ---- the theorems
module _ (d : MappingData) (buttons axes name : List ℕ) (uuid : Uuid) where
  -- its first field is its UUID, and a UUID
  pub built_first : first_field (built_line d buttons axes name uuid) ≡ uuid_text uuid
  unfolding built_line ended
  built_first =
      take-before (byte ",") (uuid_text uuid) (ended
      (name ∷ (pair_texts (byte "b") buttons (filled_buttons d) ++ pair_texts (byte "a") axes (filled_axes d))))
      (count_none is_plain_byte (byte ",") refl (uuid_text uuid) (uuid_plain uuid))

  pub built_uuid : Small uuid → uuid_of (first_field (built_line d buttons axes name uuid))
      ≡ Some (record { id = uuid; form = F.Simple })
  built_uuid small = rw built_first (uuid_back uuid small)

  module _ (h : checks_of d buttons axes name ≡ Ok tt) where
    pub built_utf8 : is_utf8 (built_line d buttons axes name uuid) ≡ true
    built_utf8 =
        let p = passed d buttons axes name _ refl h in
        valid_is (built_line d buttons axes name uuid)
        (built_holds Valid none_valid (λ f s v w. valid_join (byte ",") (omega arith) f s v w)
        (λ s q. valid_ascii s (every-also is_plain_byte is_ascii plain-ascii s q))
        d buttons axes name uuid p (is_valid name p.utf8))

    pub built_lf : first_of lf name ≡ length name
        → first_of lf (built_line d buttons axes name uuid) ≡ length (built_line d buttons axes name uuid)
    built_lf n =
        free_none lf (built_line d buttons axes name uuid)
        (built_holds (Free lf) (free_nil lf) (λ f s v w. free_join lf (byte ",") refl f s v w)
        (λ s q. count_none is_plain_byte lf refl s q)
        d buttons axes name uuid (passed d buttons axes name _ refl h) (none_free lf name n))

    pub built_platform : first_text platform_key name ≡ length name
        → first_text platform_key (built_line d buttons axes name uuid) ≡ length (built_line d buttons axes name uuid)
    built_platform n =
        built_holds (Lacks platform_key) (lacks_none platform_key)
        (λ f s v w. lacks_join (byte ",") platform_key no_comma_lem no_empty f s v w)
        (λ s q. lacks_byte (byte "m") platform_key s has_m (count_none is_plain_byte (byte "m") refl s q))
        d buttons axes name uuid (passed d buttons axes name _ refl h) n
