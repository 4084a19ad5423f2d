-- Built lines read back: reading a built line with the lists of its build gives the map of its build.
-- Assumes nothing.
use Rattle.std.specs.Prelude.{None, Ok}
use Prim.Native.Nat.{ℕ, suc, ◌<◌, ◌≤◌}
use mathlib.Core.Path.{◌≡◌, refl, sym, ap, ◌∙◌}
use mathlib.Core.Bool.{Bool, true, false}
use mathlib.Core.List.{List, [], ◌∷◌, ◌++◌, append-nil}
use native.Mathlib.Omega.{arith}
use borrow.Author.Tests.{eqb-true}
use lib.Dec.{eqb}
use lib.ListN.{length, get_or, length-append}
use Rattle.text.specs.Bytes.{pick, byte, first_of}
use Rattle.text.specs.Uuid.{uuid_text, Small}
use Rattle.text.specs.declared.uuid.Uuid.{Uuid}
use Rattle.text.specs.declared.uuid.Form.TheVariants as F
use Rattle.text.proofs.UuidLaws.{uuid_text-length}
use Rattle.line.specs.declared.mapping.Entry.{Entry}
use Rattle.line.specs.Elements.{code_of}
use Rattle.line.specs.declared.parser.Ranges.{Ranges}
use Rattle.line.specs.Maps.{codes_max, MapView, full_ranges, ranged_entry, entry_of, to_map, puts_into}
use Rattle.line.specs.Effects.{does, effect_of, entries_of, Effect, AllGo}
use Rattle.line.specs.Folds.{flags_of, or_all, after}
use Rattle.line.specs.Reading.{list_max, accepted_of, reading_of}
use Rattle.line.specs.Tables.{ident_text}
use Rattle.line.proofs.CountLaws.{count_none}
use Rattle.line.proofs.IdentLaws.{button_pair, axis_pair}
use Rattle.line.specs.Tiles.{tiled}
use Rattle.line.proofs.JoinLaws.{Free, AllFree, line_of}
use Rattle.line.proofs.ReadBack as line-laws
use Rattle.map.specs.declared.mapping_data.MappingData.{MappingData}
use Rattle.map.specs.Lists.{place_of}
use Rattle.map.specs.Build.{filled_buttons, filled_axes, missing_of, checks_of, ended, pair_text, pair_texts}
use Rattle.map.specs.Build.{built_line, built_view, built_map}
use Rattle.map.proofs.FilledLaws.{buttons_few, axes_few}
use Rattle.map.proofs.PutsLaws.{puts_few}
use Rattle.map.proofs.CheckLaws.{Passed, passed}
use Rattle.map.proofs.PlainLaws.{is_ident_byte, Plain, AllPlain}
use Rattle.map.proofs.BuiltLaws.{first-listed, buttons_all_plain, axes_all_plain}
use Rattle.map.proofs.ContentLaws.{is_plain_byte, uuid_plain, pair_plain, none_free, built_utf8}

-- ---- a code stands at its place
place-holds : (c : ℕ) (s : List ℕ) → first_of c s < length s → get_or s (first_of c s) 0 ≡ c
unfolding first_of
place-holds c [] h = absurd (omega arith)
place-holds c (x ∷ s) h = by (eqb x c) refl h (place-holds c s)
  where
    by : (t : Bool) → eqb x c ≡ t → pick t 0 (suc (first_of c s)) < suc (length s)
        → (first_of c s < length s → get_or s (first_of c s) 0 ≡ c) → get_or (x ∷ s) (pick t 0 (suc (first_of c s))) 0 ≡ c
    by true e l ih = eqb-true x c e
    by false e l ih = ih (omega arith)

entry_at : (e : Entry) (codes : List ℕ) → e.ranges ≡ full_ranges → place_of e.code codes < length codes
    → entry_of (code_of (get_or codes (place_of e.code codes) 0)) e.element ≡ e
entry_at e codes full h =
    ap (λ (c : ℕ). entry_of (code_of c) e.element) (place-holds e.code.0 codes h)
    ∙ ap (λ (r : Ranges). ranged_entry e.code e.element r) (sym full)

module _ (buttons axes : List ℕ) where
  -- pairs that go, and put these entries and no flags
  record Reads (fs : List (List ℕ)) (es : List Entry) : Type 0 where
    free : AllFree fs
    goes : AllGo fs buttons axes
    puts : entries_of fs buttons axes ≡ es
    flags : or_all (flags_of fs buttons axes) 0 ≡ 0

  reads_none : Reads [] []
  unfolding AllFree AllGo entries_of flags_of or_all
  reads_none = record { free = tt; goes = tt; puts = refl; flags = refl }

  reads_more : (f : List ℕ) (e : Entry) (fs : List (List ℕ)) (es : List Entry) → Free (byte ",") f
      → effect_of f buttons axes ≡ does (e ∷ []) (0 ∷ []) → Reads fs es → Reads (f ∷ fs) (e ∷ es)
  unfolding AllFree AllGo entries_of flags_of or_all
  reads_more f e fs es free h p =
      record {
        free = (free, p.free);
        goes = (ap (λ (x : Effect). x.goes) h, p.goes);
        puts = rw (h, p.puts);
        flags = rw h p.flags;
      }

  module _ (letter : ℕ) (m : is_ident_byte letter ≡ true) (codes : List ℕ)
      (pair : (e : Entry) → Plain e.element → e.ranges ≡ full_ranges → place_of e.code codes < length codes
      → effect_of (pair_text letter codes e) buttons axes ≡ does (e ∷ []) (0 ∷ [])) where
    reads_pairs : (es : List Entry) (fs : List (List ℕ)) (gs : List Entry) → AllPlain es
        → missing_of es codes ≡ None → Reads fs gs → Reads (pair_texts letter codes es ++ fs) (es ++ gs)
    unfolding pair_texts AllPlain
    reads_pairs [] fs gs p l r = r
    reads_pairs (e ∷ es) fs gs p l r =
        let w = first-listed e es codes l in
        reads_more (pair_text letter codes e) e (pair_texts letter codes es ++ fs) (es ++ gs)
        (count_none is_plain_byte (byte ",") refl (pair_text letter codes e) (pair_plain letter codes e m p.0))
        (pair e p.0 p.1 w.0) (reads_pairs es fs gs p.2 w.1 r)

  button_reads : length buttons ≤ list_max → (e : Entry) → Plain e.element → e.ranges ≡ full_ranges
      → place_of e.code buttons < length buttons
      → effect_of (pair_text (byte "b") buttons e) buttons axes ≡ does (e ∷ []) (0 ∷ [])
  button_reads fit e p full h =
      button_pair (ident_text e.element) e.element p.named (place_of e.code buttons) (omega arith) buttons
      axes h
      ∙ ap (λ (x : Entry). does (x ∷ []) (0 ∷ [])) (entry_at e buttons full h)

  axis_reads : length axes ≤ list_max → (e : Entry) → Plain e.element → e.ranges ≡ full_ranges
      → place_of e.code axes < length axes
      → effect_of (pair_text (byte "a") axes e) buttons axes ≡ does (e ∷ []) (0 ∷ [])
  axis_reads fit e p full h =
      axis_pair (ident_text e.element) e.element p.named (place_of e.code axes) (omega arith) buttons axes h
      ∙ ap (λ (x : Entry). does (x ∷ []) (0 ∷ [])) (entry_at e axes full h)

-- ---- the line
ended-joined : (fs : List (List ℕ)) → ended fs ≡ tiled fs
unfolding ended tiled
ended-joined [] = refl
ended-joined (f ∷ fs) = ap (λ (t : List ℕ). f ++ byte "," ∷ t) (ended-joined fs)

abbrev pairs_of : MappingData → List ℕ → List ℕ → List (List ℕ)
pairs_of d buttons axes =
    pair_texts (byte "b") buttons (filled_buttons d) ++ pair_texts (byte "a") axes (filled_axes d)

module _ (d : MappingData) (buttons axes name : List ℕ) (uuid : Uuid) where
  line_joined : built_line d buttons axes name uuid ≡ line_of (uuid_text uuid) name (pairs_of d buttons axes)
  unfolding built_line ended
  line_joined = ap (λ (t : List ℕ). uuid_text uuid ++ byte "," ∷ t) (ended-joined (name ∷ pairs_of d buttons axes))

  module _ (p : Passed d buttons axes name) where
    pairs_read : Reads buttons axes (pairs_of d buttons axes) (filled_buttons d ++ filled_axes d)
    pairs_read =
        let last =
        reads_pairs buttons axes (byte "a") refl axes (axis_reads buttons axes p.axes_fit) (filled_axes d) []
        [] (axes_all_plain d buttons axes name p) p.axes_listed (reads_none buttons axes) in
        reads_pairs buttons axes (byte "b") refl buttons (button_reads buttons axes p.buttons_fit) (filled_buttons d)
        (pair_texts (byte "a") axes (filled_axes d)) (filled_axes d) (buttons_all_plain d buttons axes name p)
        p.buttons_listed
        (rw (append-nil (pair_texts (byte "a") axes (filled_axes d)), append-nil (filled_axes d)) at last)

    pairs_few : length (puts_into (entries_of (pairs_of d buttons axes) buttons axes) []) ≤ codes_max
    pairs_few =
        let es = filled_buttons d ++ filled_axes d in
        rw pairs_read.puts
        (omega (
          arith,
          puts_few es [],
          length-append (filled_buttons d) (filled_axes d),
          buttons_few d,
          axes_few d,
        ))

    all_free : AllFree (name ∷ pairs_of d buttons axes)
    unfolding AllFree
    all_free =
        (none_free (byte ",") name (eqb-true (first_of (byte ",") name) (length name) p.comma_free_lem), pairs_read.free)

    -- what is read is what was built
    view_read : after (line-laws.named (length (uuid_text uuid)) name) (entries_of (pairs_of d buttons axes) buttons axes)
        (flags_of (pairs_of d buttons axes) buttons axes)
        ≡ built_view d name
    view_read = rw (pairs_read.puts, pairs_read.flags, uuid_text-length uuid)

  pub reads_back : Small uuid → checks_of d buttons axes name ≡ Ok tt
      → reading_of (built_line d buttons axes name uuid) buttons axes ≡ accepted_of (built_map d name)
  unfolding built_map
  reads_back small h =
      let p = passed d buttons axes name _ refl h in
      rw line_joined
      (line-laws.reads_back buttons axes (uuid_text uuid) name (pairs_of d buttons axes)
      (count_none is_plain_byte (byte ",") refl (uuid_text uuid) (uuid_plain uuid)) (all_free p) (record { id = uuid; form = F.Simple })
      (line-laws.guid_back uuid small) (rw line_joined at (built_utf8 d buttons axes name uuid h)) p.buttons_fit
      p.axes_fit (pairs_read p).goes (pairs_few p)
      ∙ ap (λ (v : MapView). accepted_of (to_map v)) (view_read p))
