-- Laws of puts over the list of entries. Assumes nothing.
use Rattle.std.specs.Prelude.{Bool, true, false, Result, Ok, Err, ⊤}
use Prim.Native.Nat.{ℕ, zero, suc, ◌+◌, ◌-◌, ◌<◌, ◌≤◌}
use mathlib.Core.Path.{◌≡◌, refl, sym, ap, subst, ◌∙◌}
use mathlib.Core.List.{List, [], ◌∷◌, ◌++◌}
use native.Mathlib.Omega.{arith}
use borrow.Author.Tests.{le-leb}
use lib.Dec.{ltb, leb, eqb}
use lib.ListN.{length, drop, replicate}
use lib.Seq.{take-append_seam, drop-append-add}
use Rattle.line.specs.declared.mapping.Entry.{Entry}
use Rattle.line.specs.declared.mapping.MapFull.{MapFull}
use Rattle.line.specs.declared.mapping.Mapping.{Mapping}
use Rattle.line.specs.declared.reading.ParseSdlMappingError.{ParseSdlMappingError}
use Rattle.line.specs.declared.reading.ParseSdlMappingError.TheVariants as Pe
use Rattle.line.specs.Maps.{PutAnswer, empty_view, empty_map, with_entries}
use Rattle.line.specs.declared.refusal.Refusal.{Refusal}
use Rattle.line.specs.Refusals.{refusal_at, put_result_of}
use Rattle.line.specs.Reading.{with_list, put_one}
use Rattle.line.specs.Inner.{view_of, Padded, Turned}
use Rattle.text.specs.Bytes.{pick}
use Rattle.line.proofs.PickLaws.{picked}
use Rattle.line.specs.Maps.{codes_max, unused_entry, MapView, to_map, held, put_entry, put_of}

-- what a put leaves of the map of v, by what the reading's put comes to
abbrev pub put_view : MapView → Result MapView Refusal → PutAnswer
put_view v (Ok w) = record { answer = Ok tt; map = to_map w }
put_view v (Err r) = record { answer = put_result_of (Err r); map = to_map v }

module _ {A : Type 0} where
  pub drop-replicate : (k n : ℕ) (a : A) → drop k (replicate n a) ≡ replicate (n - k) a
  drop-replicate zero n a = let e : n - 0 ≡ n = omega arith in rw e
  drop-replicate (suc k) zero a = let e : 0 - suc k ≡ 0 = omega arith in rw e
  drop-replicate (suc k) (suc n) a = let e : suc n - suc k ≡ n - k = omega arith in rw e (drop-replicate k n a)

  -- what is left of a padded list beyond another's length
  padded_rest : (xs : List A) (n k : ℕ) (a : A) → length xs ≤ k → drop k (xs ++ replicate (n - length xs) a)
      ≡ replicate (n - k) a
  padded_rest xs n k a h =
      let e : length xs + (k - length xs) ≡ k = omega arith in
      let f : n - length xs - (k - length xs) ≡ n - k = omega arith in
      subst (λ (j : ℕ). drop j (xs ++ replicate (n - length xs) a) ≡ replicate (n - k) a) e
      (drop-append-add xs (replicate (n - length xs) a) (k - length xs) ∙ drop-replicate (k - length xs)
      (n - length xs) a ∙ ap (λ (j : ℕ). replicate j a) f)

-- a put keeps the entries or adds one
pub put_grows : (e : Entry) (xs : List Entry) → length xs ≤ length (put_entry e xs)
unfolding put_entry
put_grows e [] = omega arith
put_grows e (x ∷ xs) =
    picked (λ (l : List Entry). suc (length xs) ≤ length l) (ltb e.code.0 x.code.0) (omega arith)
    (picked (λ (l : List Entry). suc (length xs) ≤ length l) (eqb x.code.0 e.code.0) (omega arith)
    (omega (arith, put_grows e xs)))

held-to_map : (v : MapView) → held (to_map v) ≡ v.list
unfolding to_map
held-to_map v = take-append_seam v.list _

-- a put into the map of v is the reading's put, whatever the place of its pair
pub put_to_map : (v : MapView) (e : Entry) (p : ℕ) → put_of (to_map v) e ≡ put_view v (put_one v e p)
unfolding put_of put_one to_map
put_to_map v e p =
    rw (
      held-to_map v,
      padded_rest v.list codes_max (length (put_entry e v.list)) unused_entry
          (put_grows e v.list),
    )
    (by (leb (length (put_entry e v.list)) codes_max))
  where
    by : (t : Bool) → pick {A = PutAnswer} t (record { answer = Ok tt; map = to_map (with_list v (put_entry e v.list)) })
        (record { answer = Err (record {}); map = to_map v })
        ≡ put_view v (pick t (Ok (with_list v (put_entry e v.list))) (Err (refusal_at 11 p)))
    by true = refl
    by false = refl

-- ---- a put that is sure to fit
pub put_adds : (e : Entry) (xs : List Entry) → length (put_entry e xs) ≤ length xs + 1
unfolding put_entry
put_adds e [] = omega arith
put_adds e (x ∷ xs) =
    picked (λ (l : List Entry). length l ≤ suc (length xs) + 1) (ltb e.code.0 x.code.0) (omega arith)
    (picked (λ (l : List Entry). length l ≤ suc (length xs) + 1) (eqb x.code.0 e.code.0) (omega arith)
    (omega (arith, put_adds e xs)))

pub put_map : (v : MapView) (e : Entry) → length v.list < codes_max → (put_of (to_map v) e).map
    ≡ to_map (with_list v (put_entry e v.list))
unfolding put_one
put_map v e h =
    let fits = le-leb (length (put_entry e v.list)) codes_max (omega (arith, put_adds e v.list)) in
    rw (put_to_map v e 0, fits)

-- ---- a map that holds its view and, behind it, unused entries
abbrev holding : Mapping → ℕ → List Entry → Mapping
holding m n es =
    record {
      count = n;
      entries = es;
      name_start = m.name_start;
      name_len = m.name_len;
      is_default = m.is_default;
      hats_mapped = m.hats_mapped;
    }

pub padded_view : (m : Mapping) → Padded m → m ≡ to_map (view_of m)
unfolding to_map
padded_view m p =
    ap (λ (n : ℕ). holding m n m.entries) p.0 ∙ ap (λ (es : List Entry). holding m (length (held m)) es) p.1

pub empty_padded : Padded empty_map
unfolding empty_map to_map
empty_padded = (refl, refl)

pub empty_viewed : view_of empty_map ≡ empty_view
unfolding empty_map to_map
empty_viewed = refl

-- a put's answer as a reading tells it, the pair being at p
abbrev pub told_at : ℕ → Result ⊤ MapFull → Result ⊤ ParseSdlMappingError
told_at p (Ok u) = Ok tt
told_at p (Err f) = Err (Pe.TooManyCodes p)

module _ (m : Mapping) (e : Entry) (p : ℕ) (h : Padded m) where
  abbrev more : List Entry
  more = put_entry e (held m)

  held_more : held (with_entries m more) ≡ more
  held_more = take-append_seam more (drop (length more) m.entries)

  rest_unused : drop (length more) m.entries ≡ replicate (codes_max - length more) unused_entry
  rest_unused =
      subst (λ (l : List Entry). drop (length more) l ≡ replicate (codes_max - length more) unused_entry) (sym h.1)
      (padded_rest (held m) codes_max (length more) unused_entry (put_grows e (held m)))

  -- a put of the pair at p, over the view
  pub put_turned : Turned (put_one (view_of m) e p) (told_at p (put_of m e).answer) (put_of m e).map
  unfolding put_one put_of
  put_turned = by (leb (length more) codes_max)
    where
      by : (t : Bool) → Turned (pick t (Ok (with_list (view_of m) more)) (Err (refusal_at 11 p)))
          (told_at p (pick {A = PutAnswer} t (record { answer = Ok tt; map = with_entries m more })
          (record { answer = Err (record {}); map = m })).answer)
          (pick {A = PutAnswer} t (record { answer = Ok tt; map = with_entries m more })
          (record { answer = Err (record {}); map = m })).map
      by true = (rw held_more refl, (rw held_more refl, rw (held_more, rest_unused) refl))
      by false = (refl, h)
