-- The place of a reading's refusal and the name of its map lie within the line: a reading is the walker's steps, one
-- after the other, and each of them has its places there. Assumes nothing.
use Rattle.std.specs.Prelude.{Option, Some, None, Result, Ok, Err}
use Prim.Native.Nat.{ℕ, zero, suc, ◌+◌, ◌<◌, ◌≤◌}
use mathlib.Core.Path.{◌≡◌, refl, sym, ap, subst}
use mathlib.Core.Bool.{Bool, true, false}
use mathlib.Core.Logic.{⊎_elim}
use mathlib.Core.List.{List, []}
use native.Mathlib.Omega.{arith}
use borrow.Author.Tests.{eqb-false, lt-ltb}
use lib.Dec.{eqb, leb, ltb}
use lib.ListN.{length}
use Rattle.text.specs.declared.uuid.Spelled.{Spelled}
use Rattle.line.specs.declared.parser.Error.{Error}
use Rattle.line.specs.declared.parser.Token.{Token}
use Rattle.text.specs.Bytes.{pick, byte}
use Rattle.text.specs.Utf8.{valid_run, is_utf8}
use Rattle.text.proofs.ListLaws.{lt_or_le}
use Rattle.line.specs.declared.mapping.Entry.{Entry}
use Rattle.line.specs.declared.parser.Parser.{Parser}
use Rattle.line.specs.declared.parser.State.{State}
use Rattle.line.specs.declared.parser.State.TheVariants as St
use Rattle.line.specs.declared.parser.Stepped.{Stepped}
use Rattle.line.specs.declared.parser.Token.TheVariants as Tk
use Rattle.line.specs.declared.reading.puts.Puts.{Puts}
use Rattle.line.specs.declared.reading.puts.Puts.TheVariants.{Nothing, Name, One, Two, UnknownHatDirection}
use Rattle.line.specs.declared.reading.ParseSdlMappingError.TheVariants as Pe
use Rattle.line.specs.declared.reading.SdlMapping.{SdlMapping}
use Rattle.line.specs.declared.refusal.Refusal.{Refusal}
use Rattle.line.specs.Fields.{find_from, field}
use Rattle.line.specs.Maps.{codes_max, MapView, empty_view, empty_map, to_map, put_entry}
use Rattle.line.specs.Pairs.{refuse, pair_of}
use Rattle.line.specs.Puts.{listed, hat_puts, puts_of}
use Rattle.line.specs.Refusals.{refusal, refusal_at, error_refusal, reading_refusal, reading_error_of, reading_outcome}
use Rattle.line.specs.Reading.{follow, with_hat, put_one, then_put, put_all, skips, taken, lists_fit, read_line}
use Rattle.line.specs.Reading.{read_view, returned, reading_of}
use Rattle.line.specs.Walker.{guid_of, start_of, stepped, uuid_step, field_step_of, step_of}
use Rattle.line.specs.Parser.{parser_of, moved}
use Rattle.line.specs.Calls.{after_calls}
use Rattle.line.specs.Places.{field_at, AnswerIn, Stands, WalkerPlaced, PlaceIn, OutcomeIn, ReadingPlaced}
use Rattle.line.specs.Inner.{step_taken}
use Rattle.line.proofs.PickLaws.{picked}
use Rattle.line.proofs.KindLaws.{reading_one_to_one}
use Rattle.line.proofs.CountLaws.{find_le}
use Rattle.line.proofs.PairLaws.{PairAnswer, pair_answer}
use Rattle.line.proofs.AcceptedLaws.{NotName, listed_unnamed, hat_unnamed}
use Rattle.line.proofs.ReadingLaws.{rest_of, Begun, at_first, rest_done, turn, turn_refused, turn_accepted, turn_moves}
use Rattle.line.proofs.ReadingLaws.{turn_begun}
use Rattle.line.proofs.RefusalLaws.{below, run_below, pair_placed, field_ends, step_placed}

-- ---- a name or a refusal, in a line of n bytes
abbrev NameIn : ℕ → MapView → Type 0
NameIn n v = v.name_start_of + v.name_len_of ≤ n

-- a refusal's case has its number and its place
abbrev Told : Refusal → Type 0
Told r = reading_refusal (reading_error_of r) ≡ r

error_told : (e : Error) → Told (error_refusal e)
error_told e = ap reading_refusal (reading_one_to_one.case_back (Pe.ParseError e))

abbrev Within : ℕ → Result MapView Refusal → Type 0
Within n (Ok v) = NameIn n v
Within n (Err r) = PlaceIn n r.place × Told r

module _ (n : ℕ) where
  follow_within : (r : Result MapView Refusal) (rest : MapView → Result MapView Refusal) → Within n r
      → ((v : MapView) → NameIn n v → Within n (rest v)) → Within n (follow r rest)
  follow_within (Ok v) rest h f = f v h
  follow_within (Err r) rest h f = h

  module _ (p : ℕ) (l : p < n) where
    one_within : (v : MapView) (e : Entry) → NameIn n v → Within n (put_one v e p)
    unfolding put_one
    one_within v e h = picked (Within n) (leb (length (put_entry e v.list)) codes_max) h (l, refl)

    all_within : (v : MapView) (x : Puts) → NotName x → NameIn n v → Within n (put_all v x p)
    unfolding NotName
    all_within v Nothing u h = h
    all_within v (Name start len) u h = absurd u
    all_within v (One e flags) u h =
        follow_within (put_one v e p) (λ w. Ok (with_hat w flags)) (one_within v e h) (λ w k. k)
    all_within v (Two e f flags) u h =
        follow_within (then_put (put_one v e p) f p) (λ w. Ok (with_hat w flags))
        (follow_within (put_one v e p) (λ w. put_one w f p) (one_within v e h) (λ w k. one_within w f k)) (λ w k. k)
    all_within v UnknownHatDirection u h = (omega (arith, l), refl)

-- ---- a step at p of the line, which has n bytes
module _ (s buttons axes : List ℕ) where
  abbrev n : ℕ
  n = length s

  abbrev turned : MapView → Stepped → ℕ → Result MapView Refusal
  turned v x p = turn v x p buttons axes

  module _ (p : ℕ) (l : p < n) (v : MapView) (h : NameIn n v) where
    -- what the walker says of a pair f
    pair_within : (f : List ℕ) (q : ℕ) (a : Result Token Error) → PairAnswer a → AnswerIn s f p (Some a)
        → Within n (taken v a p q buttons axes)
    unfolding taken puts_of PairAnswer
    pair_within f q (Ok (Tk.Uuid u)) k i = absurd k
    pair_within f q (Ok (Tk.Name start len)) k i = absurd k
    pair_within f q (Ok (Tk.Platform start len)) k i = h
    pair_within f q (Ok (Tk.AxisMapping j to r)) k i =
        all_within n p l v (listed axes j to r) (listed_unnamed axes j to r) h
    pair_within f q (Ok (Tk.ButtonMapping j to r)) k i =
        all_within n p l v (listed buttons j to r) (listed_unnamed buttons j to r) h
    pair_within f q (Ok (Tk.HatMapping j d to r)) k i = all_within n p l v (hat_puts j d to r) (hat_unnamed j d to r) h
    pair_within f q (Err e) k i = picked (Within n) (skips e.kind) h (i.1, error_told e)

    uuid_within : (g : Option Spelled) (e : ℕ) → e ≤ n → Within n (turned v (uuid_step g p e n) p)
    unfolding step_taken taken puts_of
    uuid_within None e k = (omega (arith, l), refl)
    uuid_within (Some u) e k = by (eqb e n) refl
      where
        by : (t : Bool) → eqb e n ≡ t → Within n (turned v (pick t (stepped (Some (refuse 2 0)) p St.Invalid)
            (stepped (Some (Ok (Tk.Uuid u.id))) (e + 1) St.Name)) p)
        by true q = (omega (arith, l), refl)
        by false q = omega (arith, below e n k (eqb-false e n q))

    field_within : (st : State) → Stands s st → Within n (turned v (field_step_of s p (find_from (byte ",") s p) st) p)
    unfolding field_step_of step_taken taken puts_of
    field_within St.Uuid k =
        uuid_within (guid_of (field_at s p)) (find_from (byte ",") s p) (find_le (byte ",") s p (omega (arith, l)))
    field_within St.Name k = omega (arith, l, find_le (byte ",") s p (omega (arith, l)))
    field_within St.KeyVal k =
        pair_within (field_at s p) (find_from (byte ",") s p + 1) (pair_of (field_at s p) p) (pair_answer (field_at s p) p)
        (pair_placed s (field_at s p) p l (field_ends s p l))
    field_within St.Invalid k = (omega (arith, l), refl)
    field_within St.NotUtf8 k = (run_below s k, refl)

    step_within : (st : State) → Stands s st → Within n (turned v (step_of s p st) p)
    unfolding step_of
    step_within st k = rw (lt-ltb p n l) (field_within st k)

  -- the state after a step
  uuid_stands : (g : Option Spelled) (p e : ℕ) → Stands s (uuid_step g p e n).state
  uuid_stands None p e = tt
  uuid_stands (Some u) p e = picked (λ (x : Stepped). Stands s x.state) (eqb e n) tt tt

  field_stands : (p e : ℕ) (st : State) → Stands s st → Stands s (field_step_of s p e st).state
  unfolding field_step_of
  field_stands p e St.Uuid k = uuid_stands (guid_of (field s p e)) p e
  field_stands p e St.Name k = tt
  field_stands p e St.KeyVal k = tt
  field_stands p e St.Invalid k = tt
  field_stands p e St.NotUtf8 k = k

  pub step_stands : (p : ℕ) (st : State) → Stands s st → Stands s (step_of s p st).state
  unfolding step_of
  step_stands p st k =
      picked (λ (x : Stepped). Stands s x.state) (ltb p n) (field_stands p (find_from (byte ",") s p) st k) k

  -- ---- what is left to read, from p on, in at most k steps
  abbrev RestWithin : ℕ → Type 0
  RestWithin k =
      (p : ℕ) (st : State) (v : MapView) → n ≤ p + k → Stands s st → Begun st p v → NameIn n v
      → Within n (rest_of s p st v buttons axes)

  done_within : (p : ℕ) (st : State) (v : MapView) → n ≤ p → Begun st p v → NameIn n v
      → Within n (rest_of s p st v buttons axes)
  done_within p st v l b h = rw (rest_done s p st v buttons axes l b) h

  go_within : (k : ℕ) → RestWithin k → (p : ℕ) (st : State) (v : MapView) → n ≤ p + suc k → Stands s st → Begun st p v
      → NameIn n v → p < n → Within n (rest_of s p st v buttons axes)
  go_within k ih p st v f u b h l = by (turned v (step_of s p st) p) refl (step_within p l v h st u)
    where
      x : Stepped
      x = step_of s p st

      by : (y : Result MapView Refusal) → turned v (step_of s p st) p ≡ y → Within n y
          → Within n (rest_of s p st v buttons axes)
      by (Err r) q w =
          subst (λ (z : Result MapView Refusal). Within n z) (sym (turn_refused s buttons axes p st v l b x refl r q)) w
      by (Ok m) q w =
          let moved = turn_moves s buttons axes p st v l b x refl m q in
          subst (λ (z : Result MapView Refusal). Within n z) (sym (turn_accepted s buttons axes p st v l b x refl m q))
          (ih x.pos x.state m (omega (arith, f, moved)) (step_stands p st u)
          (turn_begun s buttons axes p st v l b x refl m q) w)

  rest_within : (k : ℕ) → RestWithin k
  rest_within zero p st v f u b h = done_within p st v (omega (arith, f)) b h
  rest_within (suc k) p st v f u b h =
      ⊎_elim (λ l. go_within k (rest_within k) p st v f u b h l) (λ l. done_within p st v l b h) (lt_or_le p n)

  line_within : Within n (read_line s buttons axes)
  unfolding rest_of
  line_within = rest_within n 0 St.Uuid empty_view (omega arith) tt at_first (omega arith)

  all_read : Within n (read_view s buttons axes)
  unfolding read_view
  all_read = by (is_utf8 s) refl
    where
      by : (t : Bool) → is_utf8 s ≡ t
          → Within n (pick t (pick (lists_fit buttons axes) (read_line s buttons axes) (Err (refusal 12)))
          (Err (refusal_at 10 (valid_run s))))
      by true e = picked (Within n) (lists_fit buttons axes) line_within (tt, refl)
      by false e = (run_below s e, refl)

  -- what it returns
  abbrev Placed : SdlMapping → Type 0
  Placed r = OutcomeIn n (reading_outcome r.answer) × (r.map.name_start + r.map.name_len ≤ n)

  returned_within : (y : Result MapView Refusal) → Within n y → Placed (returned y)
  unfolding empty_map to_map
  returned_within (Ok v) w = (tt, w)
  returned_within (Err r) w = (subst (λ (x : Refusal). PlaceIn n x.place) (sym w.1) w.0, omega arith)

  pub reading_placed : ReadingPlaced s buttons axes
  unfolding reading_of
  reading_placed =
      let w = returned_within (read_view s buttons axes) all_read in record { refusal = w.0; name = w.1 }

-- ---- the walker that is made over a line, after any number of calls
abbrev StandsSo : Parser → Type 0
StandsSo w = Stands w.«data».now w.state

start_stands : (s : List ℕ) → Stands s (start_of s)
unfolding start_of
start_stands s = by (is_utf8 s) refl
  where
    by : (t : Bool) → is_utf8 s ≡ t → Stands s (pick t St.Uuid St.NotUtf8)
    by true e = tt
    by false e = e

calls_stand : (n : ℕ) (w : Parser) → StandsSo w → StandsSo (after_calls n w)
unfolding after_calls
calls_stand zero w h = h
calls_stand (suc n) w h = calls_stand n (moved w) (step_stands w.«data».now [] [] w.pos w.state h)

pub walker_placed : WalkerPlaced
walker_placed s n =
    let w = after_calls n (parser_of s) in
    step_placed w.«data».now w.pos w.state (calls_stand n (parser_of s) (start_stands s.now))
