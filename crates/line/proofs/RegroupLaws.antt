-- `regrouped`: pairs in another order give the same map (document 02, P8). Two puts of one code are the same entry, and
-- all others change places freely; so do flags, and the bytes of whole fields. Assumes nothing.
use Rattle.std.specs.Prelude.{Option, Some, None, Result, Ok, Err}
use Prim.Native.Nat.{ℕ, ◌+◌, ◌≤◌}
use mathlib.Core.Path.{◌≡◌, refl, sym, ap, ◌∙◌}
use mathlib.Core.List.{List, ◌∷◌}
use mathlib.Core.Bool.{Bool, true, false}
use native.Mathlib.Omega.{arith}
use borrow.Author.Tests.{eqb-true, eqb-false}
use lib.Bits.{bit_or}
use lib.Dec.{eqb}
use lib.ListN.{length, drop}
use lib.Seq.{length-take-le}
use Rattle.text.specs.declared.uuid.Spelled.{Spelled}
use Rattle.text.specs.Bytes.{pick, byte, first_of}
use Rattle.text.specs.Utf8.{is_utf8}
use Rattle.text.proofs.AsciiLaws.{Valid, valid_is, is_valid}
use Rattle.text.proofs.BytesLaws.{first_le}
use Rattle.line.specs.declared.mapping.Entry.{Entry}
use Rattle.line.specs.declared.refusal.Refusal.{Refusal}
use Rattle.line.specs.Maps.{codes_max, MapView, put_entry, puts_into}
use Rattle.line.specs.Fields.{first_field, later_fields}
use Rattle.line.specs.Walker.{guid_of}
use Rattle.line.specs.Refusals.{refusal}
use Rattle.line.specs.Reading.{pairs_from, read_line, lists_fit, read_view, returned, reading_of}
use Rattle.line.specs.Effects.{effect_of, entries_of, AllGo}
use Rattle.line.specs.Folds.{flags_of, or_all, after}
use Rattle.line.specs.Regrouping.{Permuted, none, keep, swap, then, here, there, Alike, Regrouped}
use Rattle.line.specs.Regrouping.{ReadsAlike}
use Rattle.line.proofs.PutLaws.{put_commute}
use Rattle.line.proofs.PermutationLaws.{permuted_back, in_permuted, permuted_after, permuted_swap, or_swap}
use Rattle.line.proofs.CommaLaws.{AllValid, first_valid, valid_first, fields_valid, valid_fields}
use Rattle.line.proofs.FoldLaws.{pairs_fit}
use Rattle.line.proofs.AcceptedLaws.{Accepted, accepted_in, pairs_accepted}
use Rattle.line.proofs.ReadBack.{named, shaped, line_shape}

-- ---- entries and flags
put_either : (e f : Entry) (xs : List Entry) → (e.code.0 ≡ f.code.0 → e ≡ f)
    → put_entry e (put_entry f xs) ≡ put_entry f (put_entry e xs)
put_either e f xs alike = by (eqb e.code.0 f.code.0) refl
  where
    by : (t : Bool) → eqb e.code.0 f.code.0 ≡ t → put_entry e (put_entry f xs) ≡ put_entry f (put_entry e xs)
    by true c = rw (alike (eqb-true e.code.0 f.code.0 c))
    by false c = put_commute e f xs (eqb-false e.code.0 f.code.0 c)

pub alike_permuted : {es fs : List Entry} → Permuted es fs → Alike es → Alike fs
alike_permuted p a = λ e f i j. a e f (in_permuted (permuted_back p) i) (in_permuted (permuted_back p) j)

pub puts_permuted : {es fs : List Entry} → Permuted es fs → Alike es → (xs : List Entry)
    → puts_into es xs ≡ puts_into fs xs
unfolding puts_into
puts_permuted none a xs = refl
puts_permuted (keep {x} p) a xs = puts_permuted p (λ e f i j. a e f (there i) (there j)) (put_entry x xs)
puts_permuted (swap {x} {y} {zs}) a xs = ap (puts_into zs) (put_either y x xs (a y x (there here) here))
puts_permuted (then p q) a xs = puts_permuted p a xs ∙ puts_permuted q (alike_permuted p a) xs

pub flags_permuted : {es fs : List ℕ} → Permuted es fs → (h : ℕ) → or_all es h ≡ or_all fs h
unfolding or_all
flags_permuted none h = refl
flags_permuted (keep {x} p) h = flags_permuted p (bit_or h x)
flags_permuted (swap {x} {y} {zs}) h = ap (or_all zs) (or_swap h x y)
flags_permuted (then p q) h = flags_permuted p h ∙ flags_permuted q h

-- ---- pairs
module _ (buttons axes : List ℕ) where
  abbrev entries_in : List ℕ → List Entry
  entries_in f = (effect_of f buttons axes).puts

  abbrev flags_in : List ℕ → List ℕ
  flags_in f = (effect_of f buttons axes).flags

  entries_permuted : {fs gs : List (List ℕ)} → Permuted fs gs
      → Permuted (entries_of fs buttons axes) (entries_of gs buttons axes)
  unfolding entries_of
  entries_permuted none = none
  entries_permuted (keep {x} p) = permuted_after (entries_in x) (entries_permuted p)
  entries_permuted (swap {x} {y} {zs}) = permuted_swap (entries_in x) (entries_in y) (entries_of zs buttons axes)
  entries_permuted (then p q) = then (entries_permuted p) (entries_permuted q)

  flag_lists_permuted : {fs gs : List (List ℕ)} → Permuted fs gs
      → Permuted (flags_of fs buttons axes) (flags_of gs buttons axes)
  unfolding flags_of
  flag_lists_permuted none = none
  flag_lists_permuted (keep {x} p) = permuted_after (flags_in x) (flag_lists_permuted p)
  flag_lists_permuted (swap {x} {y} {zs}) = permuted_swap (flags_in x) (flags_in y) (flags_of zs buttons axes)
  flag_lists_permuted (then p q) = then (flag_lists_permuted p) (flag_lists_permuted q)

  go_permuted : {fs gs : List (List ℕ)} → Permuted fs gs → AllGo fs buttons axes → AllGo gs buttons axes
  unfolding AllGo
  go_permuted none g = tt
  go_permuted (keep p) g = (g.0, go_permuted p g.1)
  go_permuted swap g = (g.1.0, (g.0, g.1.1))
  go_permuted (then p q) g = go_permuted q (go_permuted p g)

  pub pairs_regrouped : (fs gs : List (List ℕ)) (p : ℕ) (v : MapView) → Permuted fs gs
      → Alike (entries_of fs buttons axes) → length v.list ≤ codes_max
      → Accepted (pairs_from p fs v buttons axes)
      → pairs_from p gs v buttons axes ≡ pairs_from p fs v buttons axes
  pairs_regrouped fs gs p v o a h ok =
      let was = pairs_accepted buttons axes fs p v h ok in
      let entries = puts_permuted (entries_permuted o) a v.list in
      let flags = flags_permuted (flag_lists_permuted o) v.hat_flags in
      let before = after v (entries_of fs buttons axes) (flags_of fs buttons axes) in
      let same : before ≡ after v (entries_of gs buttons axes) (flags_of gs buttons axes) = rw (entries, flags) in
      pairs_fit buttons axes gs p v (go_permuted o was.0) (rw entries at was.1)
      ∙ ap (λ (w : MapView). Ok w) (sym same)
      ∙ sym (pairs_fit buttons axes fs p v was.0 was.1)

-- ---- UTF-8
all_permuted : {fs gs : List (List ℕ)} → Permuted fs gs → AllValid fs → AllValid gs
unfolding AllValid
all_permuted none v = tt
all_permuted (keep p) v = (v.0, all_permuted p v.1)
all_permuted swap v = (v.1.0, (v.0, v.1.1))
all_permuted (then p q) v = all_permuted q (all_permuted p v)

-- ---- lines
module _ (buttons axes : List ℕ) where
  shaped_regrouped : (g : Option Spelled) (k : ℕ) (n : List ℕ) (fs gs : List (List ℕ)) → Permuted fs gs
      → Alike (entries_of fs buttons axes) → Accepted (shaped buttons axes g k n fs)
      → shaped buttons axes g k n gs ≡ shaped buttons axes g k n fs
  shaped_regrouped None k n fs gs o a ok = refl
  shaped_regrouped (Some u) k n fs gs o a ok =
      pairs_regrouped buttons axes fs gs (k + 1 + length n + 1) (named k n) o a (omega arith) ok

  module _ (s t : List ℕ) (r : Regrouped s t) where
    comma_alike : first_of (byte ",") s ≡ first_of (byte ",") t
    comma_alike =
        sym (length-take-le (first_of (byte ",") s) s (first_le (byte ",") s))
        ∙ ap length r.first
        ∙ length-take-le (first_of (byte ",") t) t (first_le (byte ",") t)

    line_regrouped : Alike (entries_of r.pairs buttons axes) → Accepted (read_line s buttons axes)
        → read_line t buttons axes ≡ read_line s buttons axes
    line_regrouped a ok =
        let x = line_shape buttons axes s r.name r.pairs r.in_s in
        let y = line_shape buttons axes t r.name r.others r.in_t in
        let k = first_of (byte ",") s in
        let z =
        shaped_regrouped (guid_of (first_field s)) k r.name r.pairs r.others r.order a (rw x at ok) in
        y ∙ rw (sym r.first, sym comma_alike) (z ∙ sym x)

    text_regrouped : Valid s → Valid t
    text_regrouped v =
        let w = first_valid s v in
        let f : AllValid (r.name ∷ r.pairs) =
        rw r.in_s at (fields_valid (drop (first_of (byte ",") s + 1) s) w.1) in
        let g : AllValid (later_fields t) = rw r.in_t (all_permuted (keep r.order) f) in
        valid_first t (rw r.first at w.0) (valid_fields (drop (first_of (byte ",") t + 1) t) g)

    line_reads_alike : Alike (entries_of r.pairs buttons axes) → Accepted (read_view s buttons axes)
        → read_view t buttons axes ≡ read_view s buttons axes
    unfolding read_view
    line_reads_alike a ok = text (is_utf8 s) refl
      where
        lists : (b : Bool) → Accepted (pick b (read_line s buttons axes) (Err (refusal 12)))
            → pick b (read_line t buttons axes) (Err (refusal 12)) ≡ pick b (read_line s buttons axes) (Err (refusal 12))
        lists true k = line_regrouped a k
        lists false k = refl

        text : (b : Bool) → is_utf8 s ≡ b → read_view t buttons axes ≡ read_view s buttons axes
        text true e =
            let v = valid_is t (text_regrouped (is_valid s e)) in
            rw (e, v) (lists (lists_fit buttons axes) (rw e at ok))
        text false e = absurd (rw e at ok)

-- ---- the theorem
pub regrouped : ReadsAlike
unfolding reading_of
regrouped s t buttons axes r a ok =
    ap (λ (y : Result MapView Refusal). returned y)
    (line_reads_alike buttons axes s t r a (accepted_in (read_view s buttons axes) ok))

-- "if one is accepted .. the other": either line may be the one, since the premises turn round
pub turned_round : (s t : List ℕ) → Regrouped s t → Regrouped t s
turned_round s t r =
    record {
      name = r.name;
      pairs = r.others;
      others = r.pairs;
      first = sym r.first;
      in_s = r.in_t;
      in_t = r.in_s;
      order = permuted_back r.order;
    }

pub alike_round : (s t buttons axes : List ℕ) (r : Regrouped s t) → Alike (entries_of r.pairs buttons axes)
    → Alike (entries_of r.others buttons axes)
alike_round s t buttons axes r a = alike_permuted (entries_permuted buttons axes r.order) a
