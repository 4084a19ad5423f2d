-- The reader holds the values worked out afresh, after every list of calls. Assumes nothing.
use Rattle.text.proofs.ListLaws.{lt_or_le}
use Rattle.std.specs.Prelude.{Ok, Err, Result, ⊤}
use Prim.Native.Nat.{ℕ, suc, ◌+◌, ◌-◌, ◌*◌, ◌/◌, ◌%◌, ◌<◌, ◌≤◌}
use mathlib.Core.Path.{◌≡◌, refl, sym, ap, subst, ◌∙◌}
use mathlib.Core.Bool.{Bool, true, false, not}
use mathlib.Core.List.{List, [], ◌∷◌, ◌++◌, map}
use mathlib.Core.Logic.{⊎_elim}
use native.Mathlib.Omega.{arith}
use borrow.Author.Tests.{ne_eqb, eqb-true, eqb-false, le-leb, lt-leb, leb-true}
use lib.Dec.{eqb, leb}
use lib.ListN.{length, take, drop, replicate, length-map}
use lib.IntN.{ℤ, pos, nat_abs, ◌+ℤ◌}
use Rattle.text.specs.Bytes.{pick, both}
use Rattle.line.specs.declared.ev.Code.{Code}
use Rattle.line.specs.declared.mapping.Entry.{Entry}
use Rattle.line.specs.declared.mapping.Mapping.{Mapping}
use Rattle.line.specs.Elements.{code_of}
use Rattle.line.specs.Maps as M
use Rattle.line.specs.Numbers.{code_unit, entry_number, entry_in}
use Rattle.line.proofs.NumberLaws.{number_back}
use Rattle.pad.specs.declared.state.TooManyCodes.{TooManyCodes}
use Rattle.pad.specs.Refusals.{too_many}
use Rattle.pad.specs.declared.events.Raw.{Raw}
use Rattle.pad.specs.declared.events.Raw.TheVariants as Rw
use Rattle.pad.specs.declared.events.Held.{Held}
use Rattle.pad.specs.declared.events.Event.{Event}
use Rattle.pad.specs.declared.state.Pad.{Pad}
use Rattle.pad.specs.ValueClaims.{RawWithin}
use Rattle.pad.specs.Pads.{held_max, put_held, choose, value_of, values_of, element_at, tabulate, changes, hears}
use Rattle.pad.specs.States.{raw_number, raw_in, held_number, held_in, held_of, entries_of, pad_values, new_pad, events_in}
use Rattle.pad.specs.States.{told_of, put_number, with_held, held_after_event, refused_of, raw_event_of, entry_numbers}
use Rattle.pad.specs.States.{with_map, change_map_of}
use Rattle.pad.specs.PadGuarantee.{PadCall, RawEvent, NewMap, answered, pad_after, told_events, heard, zeros}
use Rattle.pad.specs.PadGuarantee.{held_with}
use Rattle.pad.specs.PadGuarantee.{held_by, map_by, ShortAll, Fitting, ReaderAgrees, ReaderHolds, holds_code}
use Rattle.pad.specs.PadGuarantee.{NoneTwice, PadHolds, RefusesAt256, OneEvent}
use Rattle.pad.specs.Inner.{shifted, Touched}
use Rattle.pad.proofs.BiasLaws.{sum_is, shifted_small, unshifted-shifted}
use Rattle.pad.proofs.ValueLaws.{within_fits}
use Rattle.pad.proofs.EventLaws.{few_changes}
use Rattle.pad.proofs.PlaceLaws.{held_put}
use Rattle.pad.proofs.StateLaws.{first_of, map-take}
use Rattle.pad.proofs.ReaderLaws.{hears-changes, tabulated}

-- ---- the first ones of a list
first_as : {A : Type 0} (xs ys : List A) → take (length xs) (xs ++ ys) ≡ xs
first_as [] ys = refl
first_as {A} (x ∷ xs) ys = ap (λ (l : List A). x ∷ l) (first_as xs ys)

-- ---- a raw value as a number, and back
raw_back : (raw : Raw) → RawWithin raw → raw_in (raw_number raw) ≡ raw
raw_back Rw.ButtonReleased w = refl
raw_back Rw.ButtonPressed w = refl
raw_back (Rw.AxisValueChanged v) w =
    let f = within_fits v w in
    let s : nat_abs (v +ℤ pos 32768) ≡ shifted v = ap nat_abs (sum_is v f) in
    let l = shifted_small v f in
    let p : eqb (shifted v + 2) 0 ≡ false = ne_eqb (shifted v + 2) 0 (λ e. omega arith) in
    let q : eqb (shifted v + 2) 1 ≡ false = ne_eqb (shifted v + 2) 1 (λ e. omega arith) in
    let m : (shifted v + 2 - 2) % 65536 ≡ shifted v = omega arith in
    rw (s, p, q, m) (ap (λ (z : ℤ). Rw.AxisValueChanged z) (unshifted-shifted v f))

raw_small : (raw : Raw) → RawWithin raw → raw_number raw < code_unit
raw_small Rw.ButtonReleased w = omega arith
raw_small Rw.ButtonPressed w = omega arith
raw_small (Rw.AxisValueChanged v) w =
    let f = within_fits v w in
    let s : nat_abs (v +ℤ pos 32768) ≡ shifted v = ap nat_abs (sum_is v f) in
    let l = shifted_small v f in
    rw s (omega arith)

pub held_back : (c : Code) (raw : Raw) → RawWithin raw → held_in (held_number c raw) ≡ record { code = c; raw = raw }
unfolding held_in
held_back c raw w =
    let r = raw_number raw in
    let l = raw_small raw w in
    let p : (c.0 * code_unit + r) / code_unit ≡ c.0 = omega arith in
    let q : (c.0 * code_unit + r) % code_unit ≡ r = omega arith in
    rw (p, q, raw_back raw w)

-- ---- what a state holds after a call
held_after : (p : Pad) (x : ℕ) → held_of (with_held p (put_number x (take p.count p.held)))
    ≡ put_held (held_in x) (held_of p)
held_after p x =
    let ys = put_number x (take p.count p.held) in
    first_of held_in ys (drop (length ys) p.held)
    ∙ held_put x (take p.count p.held)
    ∙ ap (λ (l : List Held). put_held (held_in x) l) (map-take held_in p.count p.held)

put_length : (p : Pad) (x : ℕ) → length (put_number x (take p.count p.held))
    ≡ length (put_held (held_in x) (held_of p))
put_length p x =
    sym (length-map (put_number x (take p.count p.held)) held_in)
    ∙ ap (λ (l : List Held). length l)
    (held_put x (take p.count p.held)
    ∙ ap (λ (l : List Held). put_held (held_in x) l) (map-take held_in p.count p.held))

entries_back : (es : List Entry) → ShortAll es → map entry_in (map entry_number es) ≡ es
unfolding ShortAll
entries_back [] s = refl
entries_back (e ∷ es) s =
    rw (number_back e s.0) (ap (λ (l : List Entry). e ∷ l) (entries_back es s.1))

entries_after : (p : Pad) (m : Mapping) → ShortAll (M.held m) → entries_of (with_map p m) ≡ M.held m
unfolding entry_numbers
entries_after p m s =
    let es = M.held m in
    let k : length (map entry_number es) ≡ length es = length-map es entry_number in
    ap (λ (n : ℕ). take n (map entry_in (map entry_number es ++ replicate (256 - length es) 0))) (sym k)
    ∙ first_of entry_in (map entry_number es) (replicate (256 - length es) 0) ∙ entries_back es s

-- ---- what a call tells
pub told_back : (es : List Event) → told_events (events_in es) ≡ es
unfolding events_in
told_back es = first_as es _

values_long : (hs : List Held) (es : List Entry) → length (values_of hs es) ≡ 27
values_long hs es = tabulated (λ k. value_of hs es (element_at k)) 27 0

hears-none : (vs : List ℤ) → hears vs (told_events (events_in [])) ≡ vs
unfolding hears events_in
hears-none vs = refl

told_away : (p : Pad) → hears (pad_values p) (told_events (refused_of p).events) ≡ pad_values (refused_of p).pad
unfolding refused_of
told_away p = hears-none (pad_values p)

hears_told : (p q : Pad) → hears (pad_values p) (told_events (told_of p q).events) ≡ pad_values q
unfolding told_of
hears_told p q =
    rw (told_back (changes 0 (pad_values p) (pad_values q)))
    (hears-changes (pad_values p) (pad_values q) (values_long (held_of p) (entries_of p))
    (values_long (held_of q) (entries_of q)))

-- ---- the reader, whatever the calls are given
raw_told : (p q : Pad) (t : Bool)
    → hears (pad_values p) (told_events (pick t (told_of p q) (refused_of p)).events)
    ≡ pad_values (pick t (told_of p q) (refused_of p)).pad
unfolding told_of
raw_told p q true = hears_told p q
raw_told p q false = told_away p

told_next : (p : Pad) (c : PadCall)
    → hears (pad_values p) (told_events (answered p c).events) ≡ pad_values (answered p c).pad
unfolding raw_event_of change_map_of told_of
told_next p (RawEvent c raw) =
    raw_told p (with_held p (held_after_event p c raw)) (leb (length (held_after_event p c raw)) held_max)
told_next p (NewMap m) = hears_told p (with_map p m)

agrees_from : (p : Pad) (cs : List PadCall) → heard (pad_values p) p cs ≡ pad_values (pad_after p cs)
unfolding heard pad_after
agrees_from p [] = refl
agrees_from p (c ∷ cs) =
    ap (λ (vs : List ℤ). heard vs (answered p c).pad cs) (told_next p c) ∙ agrees_from (answered p c).pad cs

at_rest : zeros ≡ pad_values new_pad
unfolding new_pad choose tabulate
at_rest = refl

pub reader_agrees : ReaderAgrees
reader_agrees cs = ap (λ (vs : List ℤ). heard vs new_pad cs) at_rest ∙ agrees_from new_pad cs

-- ---- what a state holds after a call, and after a list of calls
pub record Step (p : Pad) (hs : List Held) (es : List Entry) : Type 0 where
  pub codes : held_of p ≡ hs
  pub entries : entries_of p ≡ es

raw_picked : (p : Pad) (x : ℕ) (t : Bool)
    → Step (pick t (told_of p (with_held p (put_number x (take p.count p.held)))) (refused_of p)).pad
    (pick t (put_held (held_in x) (held_of p)) (held_of p)) (entries_of p)
unfolding told_of refused_of
raw_picked p x true = record { codes = held_after p x; entries = refl }
raw_picked p x false = record { codes = refl; entries = refl }

raw_step : (p : Pad) (c : Code) (raw : Raw) → RawWithin raw
    → Step (raw_event_of p c raw).pad (held_with (record { code = c; raw = raw }) (held_of p)) (entries_of p)
unfolding raw_event_of
raw_step p c raw w =
    let x = held_number c raw in
    let n = length (held_after_event p c raw) in
    let same : pick (leb n held_max) (put_held (held_in x) (held_of p)) (held_of p) ≡ held_with (held_in x) (held_of p) =
    ap (λ (k : ℕ). pick (leb k held_max) (put_held (held_in x) (held_of p)) (held_of p)) (put_length p x) in
    subst (λ (hs : List Held). Step (raw_event_of p c raw).pad hs (entries_of p))
    (same ∙ ap (λ (h : Held). held_with h (held_of p)) (held_back c raw w)) (raw_picked p x (leb n held_max))

map_step : (p : Pad) (m : Mapping) → ShortAll (M.held m) → Step (change_map_of p m).pad (held_of p) (M.held m)
unfolding change_map_of told_of
map_step p m s = record { codes = refl; entries = entries_after p m s }

step_on : (p : Pad) (hs ks : List Held) (es fs : List Entry) → Step p ks fs → ks ≡ hs → fs ≡ es → Step p hs es
step_on p hs ks es fs s a b = record { codes = s.codes ∙ a; entries = s.entries ∙ b }

steps : (p : Pad) (hs : List Held) (es : List Entry) (cs : List PadCall) → Fitting cs
    → Step p hs es → Step (pad_after p cs) (held_by hs cs) (map_by es cs)
unfolding pad_after held_by map_by Fitting
steps p hs es [] f a = a
steps p hs es (RawEvent c raw ∷ cs) f a =
    let q = (raw_event_of p c raw).pad in
    let h : Held = record { code = c; raw = raw } in
    steps q (held_with h hs) es cs f.1
    (step_on q (held_with h hs) (held_with h (held_of p)) es (entries_of p) (raw_step p c raw f.0)
    (ap (λ (l : List Held). held_with h l) a.codes) a.entries)
steps p hs es (NewMap m ∷ cs) f a =
    let q = (change_map_of p m).pad in
    steps q hs (M.held m) cs f.1
    (step_on q hs (held_of p) (M.held m) (M.held m) (map_step p m f.0) a.codes refl)

start : Step new_pad [] []
unfolding new_pad
start = record { codes = refl; entries = refl }

after_all_lem : (cs : List PadCall) → Fitting cs → Step (pad_after new_pad cs) (held_by [] cs) (map_by [] cs)
after_all_lem cs f = steps new_pad [] [] cs f start

pub reader_holds : ReaderHolds
reader_holds cs f =
    let a = after_all_lem cs f in
    reader_agrees cs ∙ ap (λ (hs : List Held). values_of hs (entries_of (pad_after new_pad cs))) a.codes
    ∙ ap (λ (es : List Entry). values_of (held_by [] cs) es) a.entries

-- ---- at most 256 codes, none twice
twice : (a b : Bool) → pick a true b ≡ pick a true (pick a true b)
twice true b = refl
twice false b = refl

swapped : (a b c : Bool) → pick a true (pick b true c) ≡ pick b true (pick a true c)
swapped true true c = refl
swapped true false c = refl
swapped false true c = refl
swapped false false c = refl

sucs : (t : Bool) (n : ℕ) → suc (pick t n (suc n)) ≡ pick t (suc n) (suc (suc n))
sucs true n = refl
sucs false n = refl

put_codes : (h : Held) (hs : List Held) (c : Code)
    → holds_code c (put_held h hs) ≡ pick (eqb h.code.0 c.0) true (holds_code c hs)
unfolding put_held
put_codes h [] c = refl
put_codes h (x ∷ hs) c = by (eqb x.code.0 h.code.0) refl (put_codes h hs c)
  where
    by : (t : Bool) → eqb x.code.0 h.code.0 ≡ t
        → holds_code c (put_held h hs) ≡ pick (eqb h.code.0 c.0) true (holds_code c hs)
        → holds_code c (put_held h (x ∷ hs)) ≡ pick (eqb h.code.0 c.0) true (holds_code c (x ∷ hs))
    by true e ih = rw (e, eqb-true x.code.0 h.code.0 e) (twice (eqb h.code.0 c.0) (holds_code c hs))
    by false e ih = rw (e, ih) (swapped (eqb x.code.0 c.0) (eqb h.code.0 c.0) (holds_code c hs))

put_once : (h : Held) (hs : List Held) → NoneTwice hs → NoneTwice (put_held h hs)
unfolding put_held NoneTwice
put_once h [] n = (refl, tt)
put_once h (x ∷ hs) n = by (eqb x.code.0 h.code.0) refl (put_once h hs n.1)
  where
    by : (t : Bool) → eqb x.code.0 h.code.0 ≡ t → NoneTwice (put_held h hs)
        → NoneTwice (pick (eqb x.code.0 h.code.0) (h ∷ hs) (x ∷ put_held h hs))
    by true e ih =
        let s : x.code ≡ h.code = ap code_of (eqb-true x.code.0 h.code.0 e) in
        rw e (subst (λ (c : Code). holds_code c hs ≡ false) s n.0, n.1)
    by false e ih =
        let d = ne_eqb h.code.0 x.code.0 (λ q. eqb-false x.code.0 h.code.0 e (sym q)) in
        rw e (put_codes h hs x.code ∙ rw (d, n.0), ih)

put_longer : (h : Held) (hs : List Held)
    → length (put_held h hs) ≡ pick (holds_code h.code hs) (length hs) (suc (length hs))
unfolding put_held
put_longer h [] = refl
put_longer h (x ∷ hs) = by (eqb x.code.0 h.code.0) refl (put_longer h hs)
  where
    by : (t : Bool) → eqb x.code.0 h.code.0 ≡ t
        → length (put_held h hs) ≡ pick (holds_code h.code hs) (length hs) (suc (length hs))
        → length (put_held h (x ∷ hs)) ≡ pick (holds_code h.code (x ∷ hs)) (suc (length hs)) (suc (suc (length hs)))
    by true e ih = rw e
    by false e ih = rw e (ap suc ih ∙ sucs (holds_code h.code hs) (length hs))

-- how many and which, as calls go by
pub record Kept (hs : List Held) : Type 0 where
  pub most : length hs ≤ 256
  pub once : NoneTwice hs

kept_with : (h : Held) (hs : List Held) → Kept hs → Kept (held_with h hs)
kept_with h hs k = by (leb (length (put_held h hs)) 256) refl
  where
    by : (t : Bool) → leb (length (put_held h hs)) 256 ≡ t → Kept (pick t (put_held h hs) hs)
    by true e = record { most = leb-true (length (put_held h hs)) 256 e; once = put_once h hs k.once }
    by false e = k

kept_by : (hs : List Held) (cs : List PadCall) → Kept hs → Kept (held_by hs cs)
unfolding held_by
kept_by hs [] k = k
kept_by hs (RawEvent c raw ∷ cs) k =
    let h : Held = record { code = c; raw = raw } in
    kept_by (held_with h hs) cs (kept_with h hs k)
kept_by hs (NewMap m ∷ cs) k = kept_by hs cs k

none_kept : Kept []
unfolding NoneTwice
none_kept = record { most = omega arith; once = tt }

pub pad_holds : (cs : List PadCall) → Fitting cs → PadHolds cs
pad_holds cs f =
    let a = after_all_lem cs f in
    let k = kept_by [] cs none_kept in
    record { codes = a.codes; entries = a.entries; most = k.most; once = k.once }

-- ---- 27
abbrev done : Result ⊤ TooManyCodes
done = Ok tt

abbrev turned_away : Result ⊤ TooManyCodes
turned_away = Err too_many

answer_is : (p q : Pad) (t : Bool) → (pick t (told_of p q) (refused_of p)).answer ≡ pick t done turned_away
unfolding told_of refused_of
answer_is p q true = refl
answer_is p q false = refl

kept_done : (t : Bool) → done ≡ pick (both t false) turned_away done
kept_done true = refl
kept_done false = refl

below_full : (n : ℕ) → n ≤ 256 → (n ≡ 256 → ⊥) → suc n ≤ 256
below_full n h d =
    ⊎_elim (λ l. l) (λ l. absurd (d (omega arith))) (lt_or_le n 256)

full_or : (n : ℕ) (t : Bool) → n ≤ 256
    → pick (leb (pick t n (suc n)) 256) done turned_away ≡ pick (both (eqb n 256) (not t)) turned_away done
full_or n true h = rw (le-leb n 256 h) (kept_done (eqb n 256))
full_or n false h = by (eqb n 256) refl
  where
    by : (t : Bool) → eqb n 256 ≡ t
        → pick (leb (suc n) 256) done turned_away ≡ pick (both (eqb n 256) true) turned_away done
    by true e =
        let l : 256 < suc n = omega (arith, eqb-true n 256 e) in
        rw (e, lt-leb (suc n) 256 l)
    by false e =
        let d = eqb-false n 256 e in
        let l : suc n ≤ 256 = below_full n h d in
        rw (e, le-leb (suc n) 256 l)

pub refuses_at_256 : RefusesAt256
unfolding raw_event_of
refuses_at_256 p c raw w h =
    let x = held_number c raw in
    let k : Held = record { code = c; raw = raw } in
    answer_is p (with_held p (held_after_event p c raw)) (leb (length (held_after_event p c raw)) held_max)
    ∙ ap (λ (n : ℕ). pick (leb n held_max) done turned_away)
    (put_length p x ∙ ap (λ (y : Held). length (put_held y (held_of p))) (held_back c raw w) ∙ put_longer k (held_of p))
    ∙ full_or (length (held_of p)) (holds_code c (held_of p)) h

-- ---- one event at most
count_few : (p q : Pad) (t : Bool) → length (changes 0 (pad_values p) (pad_values q)) ≤ 1
    → (pick t (told_of p q) (refused_of p)).events.count ≤ 1
unfolding told_of refused_of events_in
count_few p q true h = h
count_few p q false h = omega arith

pub one_event_lem : OneEvent
unfolding raw_event_of
one_event_lem p c raw =
    let x = held_number c raw in
    let t : Touched (held_of p) (held_of (with_held p (held_after_event p c raw))) (held_in x).code =
    record { put = held_in x; of = refl; is = held_after p x } in
    count_few p (with_held p (held_after_event p c raw)) (leb (length (held_after_event p c raw)) held_max)
    (few_changes (held_of p) (held_of (with_held p (held_after_event p c raw))) (entries_of p) (held_in x).code t)
