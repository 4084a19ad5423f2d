-- Laws of entries that are put one after the other. Assumes nothing.
use Prim.Native.Nat.{ℕ, ◌+◌, ◌<◌, ◌≤◌}
use mathlib.Core.Path.{◌≡◌, refl, sym, ap, ◌∙◌}
use mathlib.Core.Bool.{false}
use mathlib.Core.List.{List, [], ◌∷◌, ◌++◌, map, map-append}
use native.Mathlib.Omega.{arith}
use native.Mathlib.Numerals.{add-one}
use lib.ListN.{length, take, get_or, length-take, length-map}
use lib.Seq.{take_all, take-suc}
use Rattle.line.specs.declared.mapping.Entry.{Entry}
use Rattle.line.specs.declared.mapping.Mapping.{Mapping}
use Rattle.line.specs.Maps.{codes_max, MapView, Ascending, put_entry, put_of, to_map, puts_into}
use Rattle.line.proofs.PutLaws.{put_ascending}
use Rattle.line.proofs.FoldLaws.{puts_append}
use Rattle.line.proofs.ViewLaws.{put_adds, put_map}
use Rattle.map.specs.declared.from_data.filled.Pairs.{Pairs}
use Rattle.map.specs.declared.from_data.filled.Placed.{Placed}
use Rattle.map.specs.declared.mapping_data.MappingData.{MappingData}
use Rattle.map.specs.Build.{filled_buttons, filled_axes, name_start_of, built_view, built_map}
use Rattle.map.specs.Inner.{placed_in, Gathered, with_puts, PutsSlots, put_map_of}

-- as many as before and one for each at most
pub puts_few : (es zs : List Entry) → length (puts_into es zs) ≤ length zs + length es
unfolding puts_into
puts_few [] zs = omega arith
puts_few (e ∷ es) zs = omega (arith, puts_few es (put_entry e zs), put_adds e zs)

-- "ascending by code"
pub puts_ascending : (es zs : List Entry) → Ascending zs → Ascending (puts_into es zs)
unfolding puts_into
puts_ascending [] zs h = h
puts_ascending (e ∷ es) zs h = puts_ascending es (put_entry e zs) (put_ascending e zs h)

pub none_ascending : Ascending []
unfolding Ascending
none_ascending = tt

pub built_ascending : (d : MappingData) (name : List ℕ) → Ascending (built_view d name).list
built_ascending d name = puts_ascending (filled_buttons d ++ filled_axes d) [] none_ascending

-- no entries, and a name of so many bytes
abbrev pub named_view : ℕ → MapView
named_view len =
    record { list = []; name_start_of = name_start_of; name_len_of = len; is_default = false; hat_flags = 0 }

-- ---- the entries of slots are put, one after the other
-- those of the first i
abbrev pub Putting : List Placed → Mapping → ℕ → Mapping → Type 0
Putting ss before i m =
    (v : MapView) → before ≡ to_map v → length v.list + length ss ≤ codes_max
    → m ≡ to_map (with_puts v (map (λ s. s.entry) (take i ss)))

pub putting_first : (ss : List Placed) (m : Mapping) → Putting ss m 0 m
unfolding puts_into
putting_first ss m v e h = e

pub putting_turn : (ss : List Placed) (before m n : Mapping) (i : ℕ) (d : Placed) → i < length ss
    → Putting ss before i m → n ≡ (put_of m (get_or ss i d).entry).map → Putting ss before (i + 1) n
unfolding puts_into
putting_turn ss before m n i d l p w v e h =
    let es : List Entry = map (λ s. s.entry) (take i ss) in
    let s : Placed = get_or ss i d in
    let few : length (puts_into es v.list) < codes_max =
    omega (arith, puts_few es v.list, length-map (take i ss) (λ (s : Placed). s.entry), length-take i ss) in
    let more : map (λ s. s.entry) (take (i + 1) ss) ≡ es ++ (s.entry ∷ []) =
    rw (add-one, take-suc ss i d l) (map-append (λ (s : Placed). s.entry) (take i ss) (s ∷ [])) in
    w ∙ rw (p v e h) (put_map (with_puts v es) s.entry few)
    ∙ ap (λ (xs : List Entry). to_map (record {
      list = xs;
      name_start_of = v.name_start_of;
      name_len_of = v.name_len_of;
      is_default = v.is_default;
      hat_flags = v.hat_flags;
    })) (sym (puts_append es (s.entry ∷ []) v.list) ∙ ap (λ (xs : List Entry). puts_into xs v.list) (sym more))

pub putting_all : (ss : List Placed) (before m : Mapping) (i : ℕ) → length ss ≤ i → Putting ss before i m
    → PutsSlots ss before m
putting_all ss before m i l p v e h =
    p v e h ∙ ap (λ (xs : List Placed). to_map (with_puts v (map (λ s. s.entry) xs))) (take_all i ss l)

-- the buttons' first, then the axes', into a map that only has a name
pub both_put : (p : Pairs) (len : ℕ) (x m n : Mapping) (fs ls : List Placed) → x ≡ to_map (named_view len)
    → fs ≡ p.buttons.items → ls ≡ p.axes.items → length fs + length ls ≤ codes_max
    → PutsSlots fs x m → PutsSlots ls m n → n ≡ put_map_of p len
unfolding put_map_of puts_into
both_put p len x m n fs ls named b a h f g =
    let bs : List Entry = map (λ s. s.entry) fs in
    let axs : List Entry = map (λ s. s.entry) ls in
    let few : length (puts_into bs []) + length ls ≤ codes_max =
    omega (arith, puts_few bs [], length-map fs (λ (s : Placed). s.entry)) in
    g (with_puts (named_view len) bs) (f (named_view len) named (omega arith)) few
    ∙ ap (λ (xs : List Entry). to_map (record {
      list = xs;
      name_start_of = name_start_of;
      name_len_of = len;
      is_default = false;
      hat_flags = 0;
    })) (sym (puts_append bs axs []) ∙ rw (b, a) refl)

-- ---- the map of a build
entries_placed : (codes : List ℕ) (es : List Entry) → map (λ s. s.entry) (placed_in codes es) ≡ es
entries_placed codes [] = refl
entries_placed codes (e ∷ es) = rw (entries_placed codes es)

pub map-held : (d : MappingData) (name buttons axes : List ℕ) (p : Pairs) → Gathered d buttons axes p
    → put_map_of p (length name) ≡ built_map d name
unfolding put_map_of built_map
map-held d name buttons axes p g =
    rw (g.first, g.last, entries_placed buttons (filled_buttons d), entries_placed axes (filled_axes d))
