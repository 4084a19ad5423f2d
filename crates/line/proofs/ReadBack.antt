-- A line that is written field by field reads as the puts of its pairs: what the read-back of a built line rests on.
-- Assumes nothing.
use Rattle.std.specs.Prelude.{Option, Some, None, Result, Err}
use Prim.Native.Nat.{ℕ, ◌+◌, ◌≤◌, ◌<◌}
use mathlib.Core.Path.{◌≡◌, refl, ◌∙◌}
use mathlib.Core.Bool.{true}
use mathlib.Core.List.{List, [], ◌∷◌}
use mathlib.Core.Logic.{⊎_elim}
use native.Mathlib.Omega.{arith}
use borrow.Author.Tests.{ne_eqb, le-leb}
use lib.ListN.{length, drop_of_length-le}
use Rattle.text.specs.Bytes.{byte, ascii, first_of}
use Rattle.text.specs.Utf8.{is_utf8}
use Rattle.text.specs.Uuid.{uuid_text, Small}
use Rattle.text.specs.declared.uuid.Uuid.{Uuid}
use Rattle.text.specs.declared.uuid.Spelled.{Spelled}
use Rattle.text.specs.declared.uuid.Form.TheVariants as Fm
use Rattle.text.proofs.ListLaws.{lt_or_le}
use Rattle.text.proofs.BytesLaws.{same-lengths}
use Rattle.text.proofs.UuidLaws.{uuid_back, uuid_text-length}
use Rattle.line.specs.declared.refusal.Refusal.{Refusal}
use Rattle.line.specs.Maps.{codes_max, MapView, to_map, empty_view, puts_into}
use Rattle.line.specs.Puts.{puts_of}
use Rattle.line.specs.Fields.{fields_of, first_field, later_fields}
use Rattle.line.specs.Walker.{guid_of}
use Rattle.line.specs.Refusals.{refusal_at}
use Rattle.line.specs.Tiles.{tiled}
use Rattle.line.specs.Reading.{list_max, with_name, taken, pairs_from, named_from, headed, read_line, read_view}
use Rattle.line.specs.Reading.{accepted_of, reading_of}
use Rattle.line.specs.Effects.{entries_of, AllGo}
use Rattle.line.specs.Folds.{flags_of, after}
use Rattle.line.proofs.ReadingLaws.{line_head}
use Rattle.line.proofs.FoldLaws.{pairs_fit}
use Rattle.line.proofs.JoinLaws.{Free, AllFree, line_of, later_fields_lem, first-after, take-before}

-- a written UUID is read as itself
pub guid_back : (u : Uuid) → Small u → guid_of (uuid_text u) ≡ Some (record { id = u; form = Fm.Simple })
unfolding guid_of
guid_back u small =
    let other = same-lengths (uuid_text u) (ascii "xinput") (λ e. omega (arith, uuid_text-length u)) in
    rw other (uuid_back u small)

-- a map with a name after a first field of k bytes
abbrev pub named : ℕ → List ℕ → MapView
named k n = with_name empty_view (k + 1) (length n)

module _ (buttons axes : List ℕ) where
  -- what a line with a name field reads as
  abbrev pub shaped : Option Spelled → ℕ → List ℕ → List (List ℕ) → Result MapView Refusal
  shaped None k n fs = Err (refusal_at 1 0)
  shaped (Some u) k n fs = pairs_from (k + 1 + length n + 1) fs (named k n) buttons axes

  no_field : {A : Type 0} (n : List ℕ) (fs : List (List ℕ)) → [] ≡ n ∷ fs → A
  no_field n fs e = let z : ◌≡◌ {A = ℕ} 0 1 = cc in absurd (omega arith)

  long : (s n : List ℕ) (fs : List (List ℕ)) → later_fields s ≡ n ∷ fs → first_of (byte ",") s + 1 < length s
  unfolding fields_of
  long s n fs e =
      ⊎_elim (λ h. h) (λ h. no_field n fs (rw (drop_of_length-le s h) at e))
      (lt_or_le (first_of (byte ",") s + 1) (length s))

  shape_by : (s n : List ℕ) (fs : List (List ℕ)) (g : Option Spelled) → later_fields s ≡ n ∷ fs
      → headed g (first_of (byte ",") s) s buttons axes ≡ shaped g (first_of (byte ",") s) n fs
  unfolding named_from taken puts_of
  shape_by s n fs None e = refl
  shape_by s n fs (Some u) e =
      let l = long s n fs e in
      rw (ne_eqb (first_of (byte ",") s) (length s) (λ q. omega arith), e)

  pub line_shape : (s n : List ℕ) (fs : List (List ℕ)) → later_fields s ≡ n ∷ fs
      → read_line s buttons axes ≡ shaped (guid_of (first_field s)) (first_of (byte ",") s) n fs
  line_shape s n fs e =
      let l = long s n fs e in
      line_head s buttons axes (omega arith) ∙ shape_by s n fs (guid_of (first_field s)) e

-- ---- a line whose pairs go and whose entries fit
module _ (buttons axes : List ℕ) (u n : List ℕ) (fs : List (List ℕ)) (free-u : Free (byte ",") u)
    (free : AllFree (n ∷ fs)) where
  pub reads_back : (id : Spelled) → guid_of u ≡ Some id → is_utf8 (line_of u n fs) ≡ true
      → length buttons ≤ list_max → length axes ≤ list_max
      → AllGo fs buttons axes → length (puts_into (entries_of fs buttons axes) []) ≤ codes_max
      → reading_of (line_of u n fs) buttons axes
      ≡ accepted_of (to_map (after (named (length u) n) (entries_of fs buttons axes) (flags_of fs buttons axes)))
  unfolding reading_of read_view
  reads_back id g v b a go fits =
      let s = line_of u n fs in
      let shape = line_shape buttons axes s n fs (later_fields_lem u n fs free-u free) in
      let first = take-before (byte ",") u (tiled (n ∷ fs)) free-u in
      let k = first-after (byte ",") u (tiled (n ∷ fs)) free-u in
      rw (
        v,
        le-leb (length buttons) list_max b,
        le-leb (length axes) list_max a,
        shape,
        first,
        k,
        g,
        pairs_fit buttons axes fs (length u + 1 + length n + 1) (named (length u) n) go fits,
      )
