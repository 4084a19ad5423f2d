-- A reading answers 11 exactly where a pair of its line puts a 257th unlike code. Assumes nothing.
use Rattle.std.specs.Prelude.{Option, Some, None, Result, Ok, Err, ⊤}
use Prim.Native.Nat.{ℕ, ◌+◌}
use mathlib.Core.Path.{◌≡◌, refl, sym, ap, ◌∙◌}
use mathlib.Core.Bool.{Bool, true, false}
use mathlib.Core.List.{List, [], ◌∷◌}
use native.Mathlib.Omega.{arith}
use lib.Dec.{eqb}
use lib.ListN.{length, drop}
use Rattle.line.specs.declared.reading.ParseSdlMappingError.{ParseSdlMappingError}
use Rattle.text.specs.Bytes.{pick, byte, first_of}
use Rattle.text.specs.Utf8.{valid_run, is_utf8}
use Rattle.text.specs.declared.uuid.Spelled.{Spelled}
use Rattle.line.specs.declared.reading.ParseSdlMappingError.TheVariants as Pe
use Rattle.line.specs.declared.refusal.Refusal.{Refusal}
use Rattle.line.specs.Maps.{MapView, empty_view}
use Rattle.line.specs.Puts.{puts_of}
use Rattle.line.specs.Fields.{fields_of, first_field, later_fields}
use Rattle.line.specs.Refusals.{refusal, refusal_at, reading_error_of, reading_outcome}
use Rattle.line.specs.Reading.{with_name, taken, pairs_from, named_from, headed, read_line, lists_fit, read_view}
use Rattle.line.specs.Reading.{returned, reading_of}
use Rattle.line.specs.Walker.{guid_of}
use Rattle.line.specs.Overfull.{Overfull, PutsTooMany, ElevenExactly}
use Rattle.line.proofs.KindLaws.{reading_one_to_one}
use Rattle.line.proofs.OverfullLaws.{Eleven, no_11, OverFrom, only_over, over_says}
use Rattle.line.proofs.ReadBack.{named, shaped, line_shape}

-- what a reading answers
abbrev answer_in : Result MapView Refusal → Result ⊤ ParseSdlMappingError
answer_in y = (returned y).answer

-- ---- 11 is that of one case
abbrev refusal_in : Result ⊤ Refusal → Refusal
refusal_in (Ok u) = refusal 0
refusal_in (Err r) = r

answer_11 : (a : Result ⊤ ParseSdlMappingError) (p : ℕ) → reading_outcome a ≡ Err (refusal_at 11 p) → a ≡ Err (Pe.TooManyCodes p)
answer_11 (Ok tt) p e =
    let z : ◌≡◌ {A = ℕ} 0 11 = ap (λ (o : Result ⊤ Refusal). (refusal_in o).number) e in
    absurd (omega (arith, z))
answer_11 (Err x) p e =
    ap Err (sym (reading_one_to_one.case_back x) ∙ ap (λ (o : Result ⊤ Refusal). reading_error_of (refusal_in o)) e)

-- a line without pairs
module _ (buttons axes : List ℕ) (p : ℕ) where
  head_not : (g : Option Spelled) (k : ℕ) (t : List ℕ) → fields_of (drop (k + 1) t) ≡ []
      → Eleven p (headed g k t buttons axes) → ⊥
  unfolding named_from taken puts_of
  head_not None k t e a = no_11 (returned (Err (refusal_at 1 0))).answer p refl a
  head_not (Some u) k t e a = by (eqb k (length t)) a
    where
      by : (b : Bool) → Eleven p (pick b (Err (refusal_at 2 0))
          (named_from (k + 1) (fields_of (drop (k + 1) t)) (with_name empty_view (k + 1) 0) buttons axes)) → ⊥
      by true x = no_11 (returned (Err (refusal_at 2 0))).answer p refl x
      by false x = no_11 (Ok tt) p refl (rw e at x)

  bare_not : (t : List ℕ) → later_fields t ≡ [] → Eleven p (read_line t buttons axes) → ⊥
  unfolding read_line
  bare_not [] e a = no_11 (Ok tt) p refl a
  bare_not (b ∷ t) e a = head_not (guid_of (first_field (b ∷ t))) (first_of (byte ",") (b ∷ t)) (b ∷ t) e a

-- a line with them
module _ (s buttons axes : List ℕ) (p : ℕ) where
  abbrev comma : ℕ
  comma = first_of (byte ",") s

  module _ (n : List ℕ) (fs : List (List ℕ)) where
    abbrev start : ℕ
    start = comma + 1 + length n + 1

    from_over : OverFrom buttons axes (named comma n) start fs p → Overfull start fs buttons axes p
    from_over r =
        record {
          earlier = r.earlier;
          pair = r.pair;
          later = r.later;
          are = r.are;
          place = r.place;
          go = r.go;
          fit = r.fit;
          goes = r.goes;
          over = r.over;
        }

    -- what the pairs after a UUID and a name read as
    line_pairs : (id : Spelled) → later_fields s ≡ n ∷ fs → guid_of (first_field s) ≡ Some id
        → read_line s buttons axes ≡ pairs_from start fs (named comma n) buttons axes
    line_pairs id e q =
        line_shape buttons axes s n fs e ∙ ap (λ (g : Option Spelled). shaped buttons axes g comma n fs) q

    line_broken : later_fields s ≡ n ∷ fs → guid_of (first_field s) ≡ None
        → read_line s buttons axes ≡ Err (refusal_at 1 0)
    line_broken e q = line_shape buttons axes s n fs e ∙ ap (λ (g : Option Spelled). shaped buttons axes g comma n fs) q

  line_only : is_utf8 s ≡ true → lists_fit buttons axes ≡ true → Eleven p (read_line s buttons axes)
      → (l : List (List ℕ)) → later_fields s ≡ l → PutsTooMany s buttons axes p
  line_only u f a [] e = absurd (bare_not buttons axes p s e a)
  line_only u f a (n ∷ fs) e = by (guid_of (first_field s)) refl
    where
      by : (g : Option Spelled) → guid_of (first_field s) ≡ g → PutsTooMany s buttons axes p
      by None q =
          absurd (no_11 (returned (Err (refusal_at 1 0))).answer p refl
          (sym (ap answer_in (line_broken n fs e q)) ∙ a))
      by (Some id) q =
          record {
            utf8 = u;
            fit = f;
            id = id;
            uuid = q;
            name = n;
            pairs = fs;
            fields = e;
            overfull =
                from_over n fs (only_over buttons axes fs (start n fs) (named comma n) p (omega arith)
                (sym (ap answer_in (line_pairs n fs id e q)) ∙ a));
          }

  reading_only : Eleven p (read_view s buttons axes) → PutsTooMany s buttons axes p
  unfolding read_view
  reading_only a = text (is_utf8 s) refl a
    where
      lists : (t : Bool) → is_utf8 s ≡ true → lists_fit buttons axes ≡ t
          → Eleven p (pick t (read_line s buttons axes) (Err (refusal 12))) → PutsTooMany s buttons axes p
      lists true u f x = line_only u f x (later_fields s) refl
      lists false u f x = absurd (no_11 (returned (Err (refusal 12))).answer p refl x)

      text : (t : Bool) → is_utf8 s ≡ t
          → Eleven p (pick t (pick (lists_fit buttons axes) (read_line s buttons axes) (Err (refusal 12)))
          (Err (refusal_at 10 (valid_run s)))) → PutsTooMany s buttons axes p
      text true u x = lists (lists_fit buttons axes) u refl x
      text false u x = absurd (no_11 (returned (Err (refusal_at 10 (valid_run s)))).answer p refl x)

  module _ (m : PutsTooMany s buttons axes p) where
    abbrev o : Overfull (start m.name m.pairs) m.pairs buttons axes p
    o = m.overfull

    line_says : Eleven p (read_line s buttons axes)
    line_says =
        ap answer_in (line_pairs m.name m.pairs m.id m.fields m.uuid)
        ∙ ap (λ (l : List (List ℕ)). answer_in (pairs_from (start m.name m.pairs) l (named comma m.name) buttons axes)) o.are
        ∙ over_says buttons axes o.earlier o.pair o.later (start m.name m.pairs)
        (named comma m.name) (omega arith) o.go o.fit o.goes o.over
        ∙ ap (λ (q : ℕ). Err (Pe.TooManyCodes q)) o.place

    reading_says : Eleven p (read_view s buttons axes)
    unfolding read_view
    reading_says = rw (m.utf8, m.fit) line_says

  pub eleven_exactly : ElevenExactly s buttons axes p
  unfolding reading_of
  eleven_exactly =
      record {
        only_then = λ h. reading_only (answer_11 (answer_in (read_view s buttons axes)) p h);
        always_then = λ m. ap reading_outcome (reading_says m);
      }
