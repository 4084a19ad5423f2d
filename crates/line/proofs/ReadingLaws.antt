-- The rest of a reading, from where the walker stands: a step of the walker takes the next field of the line.
-- Assumes nothing.
use Rattle.std.specs.Prelude.{Option, Some, None, Result, Ok, Err}
use Prim.Native.Nat.{ℕ, ◌+◌, ◌-◌, ◌≤◌, ◌<◌}
use mathlib.Core.Path.{◌≡◌, refl, sym, ap, ◌∙◌}
use mathlib.Core.List.{List, [], ◌∷◌}
use mathlib.Core.Bool.{Bool, true, false}
use lib.ListN.{length, drop, drop_of_length-le}
use lib.Seq.{drop-cons}
use lib.Dec.{eqb}
use borrow.Author.Tests.{lt-ltb}
use native.Mathlib.Omega.{arith}
use Rattle.text.specs.Bytes.{pick, byte, first_of}
use Rattle.text.specs.Utf8.{valid_run}
use Rattle.text.specs.declared.uuid.Spelled.{Spelled}
use Rattle.line.specs.Fields.{find_from, field, first_field, fields_of}
use Rattle.line.specs.Maps.{MapView, empty_view}
use Rattle.line.specs.Puts.{puts_of}
use Rattle.line.specs.Walker.{guid_of, stepped, uuid_step, field_step_of, step_of}
use Rattle.line.specs.Pairs.{refuse}
use Rattle.line.specs.Refusals.{refusal_at}
use Rattle.line.specs.Reading.{follow, taken, pairs_from, named_from, headed, read_line}
use Rattle.line.specs.Inner.{step_taken}
use Rattle.line.specs.declared.parser.State.{State}
use Rattle.line.specs.declared.parser.State.TheVariants as St
use Rattle.line.specs.declared.parser.Stepped.{Stepped}
use Rattle.line.specs.declared.parser.Token.TheVariants as Tk
use Rattle.line.specs.declared.refusal.Refusal.{Refusal}
use Rattle.line.proofs.FieldLaws.{ahead, field-length, fields_at}
use Rattle.line.proofs.TurnLaws.{refused_not}

-- ---- what is left to read
-- a walker that has stopped
abbrev stopped_from : ℕ → ℕ → List ℕ → MapView → Result MapView Refusal
stopped_from n p [] v = Ok v
stopped_from n p (b ∷ s) v = Err (refusal_at n p)

-- from p on, by the walker's state: the first field is read where the line begins
unfoldable pub rest_of : List ℕ → ℕ → State → MapView → List ℕ → List ℕ → Result MapView Refusal
rest_of s p St.Uuid v buttons axes = read_line s buttons axes
rest_of s p St.Name v buttons axes = named_from p (fields_of (drop p s)) v buttons axes
rest_of s p St.KeyVal v buttons axes = pairs_from p (fields_of (drop p s)) v buttons axes
rest_of s p St.Invalid v buttons axes = stopped_from 9 0 (drop p s) v
rest_of s p St.NotUtf8 v buttons axes = stopped_from 10 (valid_run s) (drop p s) v

unfoldable pub Begun : State → ℕ → MapView → Type 0
Begun St.Uuid p v = (p ≡ 0) × (v ≡ empty_view)
Begun St.Name p v = Unit {0}
Begun St.KeyVal p v = Unit {0}
Begun St.Invalid p v = Unit {0}
Begun St.NotUtf8 p v = Unit {0}

pub at_first : Begun St.Uuid 0 empty_view
unfolding Begun
at_first = (refl, refl)

line_done : (s : List ℕ) (v : MapView) (buttons axes : List ℕ) → length s ≤ 0 → v ≡ empty_view
    → read_line s buttons axes ≡ Ok v
unfolding read_line
line_done [] v buttons axes h e = ap Ok (sym e)
line_done (b ∷ s) v buttons axes h e = absurd (omega (arith, h))

pub rest_done : (s : List ℕ) (p : ℕ) (st : State) (v : MapView) (buttons axes : List ℕ) → length s ≤ p → Begun st p v
    → rest_of s p st v buttons axes ≡ Ok v
unfolding rest_of Begun named_from pairs_from fields_of
rest_done s p St.Uuid v buttons axes h b = line_done s v buttons axes (omega (arith, h, b.0)) b.1
rest_done s p St.Name v buttons axes h b = rw (drop_of_length-le s h)
rest_done s p St.KeyVal v buttons axes h b = rw (drop_of_length-le s h)
rest_done s p St.Invalid v buttons axes h b = rw (drop_of_length-le s h)
rest_done s p St.NotUtf8 v buttons axes h b = rw (drop_of_length-le s h)

-- ---- a step of the walker, and the map after it
abbrev pub turn : MapView → Stepped → ℕ → List ℕ → List ℕ → Result MapView Refusal
turn v x p buttons axes = step_taken v x.answer p x.pos buttons axes

abbrev onward : List ℕ → ℕ → MapView → Stepped → List ℕ → List ℕ → Result MapView Refusal
onward s p v x buttons axes = follow (turn v x p buttons axes) (λ w. rest_of s x.pos x.state w buttons axes)

pub line_head : (s : List ℕ) (buttons axes : List ℕ) → 0 < length s
    → read_line s buttons axes ≡ headed (guid_of (first_field s)) (first_of (byte ",") s) s buttons axes
unfolding read_line
line_head [] buttons axes h = absurd (omega (arith, h))
line_head (b ∷ s) buttons axes h = refl

module _ (s : List ℕ) (k : ℕ) (buttons axes : List ℕ) where
  -- a UUID, and whether the line ends after it
  uuid_cut : (u : Spelled) (t : Bool)
      → pick t (Err (refusal_at 2 0)) (follow (taken empty_view (Ok (Tk.Uuid u.id)) 0 (k + 1) buttons axes)
      (λ v. named_from (k + 1) (fields_of (drop (k + 1) s)) v buttons axes))
      ≡ onward s 0 empty_view (pick t (stepped (Some (refuse 2 0)) 0 St.Invalid)
      (stepped (Some (Ok (Tk.Uuid u.id))) (k + 1) St.Name)) buttons axes
  unfolding step_taken taken rest_of puts_of
  uuid_cut u true = refl
  uuid_cut u false = refl

  head_step : (g : Option Spelled) → headed g k s buttons axes
      ≡ onward s 0 empty_view (uuid_step g 0 k (length s)) buttons axes
  unfolding step_taken taken rest_of
  head_step None = refl
  head_step (Some u) = uuid_cut u (eqb k (length s))

first_step : (s buttons axes : List ℕ) → 0 < length s → read_line s buttons axes
    ≡ onward s 0 empty_view (field_step_of s 0 (find_from (byte ",") s 0) St.Uuid) buttons axes
unfolding field_step_of
first_step s buttons axes h =
    let k = first_of (byte ",") s in
    let cut : 0 + k - 0 ≡ k = omega arith in
    let from : 0 + k ≡ k = omega arith in
    line_head s buttons axes h ∙ rw (cut, from) (head_step s k buttons axes (guid_of (first_field s)))

module _ (s : List ℕ) (p : ℕ) (v : MapView) (buttons axes : List ℕ) (h : p < length s) where
  -- the step at a field that starts at p
  field_step : (st : State) → Begun st p v → rest_of s p st v buttons axes
      ≡ onward s p v (field_step_of s p (find_from (byte ",") s p) st) buttons axes
  unfolding rest_of Begun field_step_of step_taken taken named_from pairs_from
  field_step St.Uuid b = rw (b.0, b.1) (first_step s buttons axes (rw b.0 at h))
  field_step St.Name b = rw (fields_at s p h, field-length s p h, ahead s p h)
  field_step St.KeyVal b = rw (fields_at s p h, field-length s p h)
  field_step St.Invalid b = rw (drop-cons s p 0 h)
  field_step St.NotUtf8 b = rw (drop-cons s p 0 h)

  -- what is left to read is what the walker's next step gives, and then what is left after it
  pub rest_step : (st : State) → Begun st p v → rest_of s p st v buttons axes ≡ onward s p v (step_of s p st) buttons axes
  unfolding step_of
  rest_step st b = rw (lt-ltb p (length s) h) (field_step st b)

-- ---- an accepted turn moves on, from the first field too
abbrev Moved : ℕ → Stepped → MapView → Type 0
Moved p x w = (p < x.pos) × Begun x.state x.pos w

module _ (p e n : ℕ) (v w : MapView) (buttons axes : List ℕ) (h : p ≤ e) where
  uuid_ends : (u : Spelled) (t : Bool)
      → turn v (pick t (stepped (Some (refuse 2 0)) p St.Invalid) (stepped (Some (Ok (Tk.Uuid u.id))) (e + 1) St.Name))
      p buttons axes ≡ Ok w
      → Moved p (pick t (stepped (Some (refuse 2 0)) p St.Invalid)
      (stepped (Some (Ok (Tk.Uuid u.id))) (e + 1) St.Name)) w
  unfolding step_taken taken Begun
  uuid_ends u true a = refused_not _ _ a
  uuid_ends u false a = (omega (arith, h), tt)

  uuid_moves : (g : Option Spelled) → turn v (uuid_step g p e n) p buttons axes ≡ Ok w → Moved p (uuid_step g p e n) w
  unfolding step_taken taken
  uuid_moves None a = refused_not _ _ a
  uuid_moves (Some u) a = uuid_ends u (eqb e n) a

field_moves : (s : List ℕ) (p e : ℕ) (v w : MapView) (buttons axes : List ℕ) (st : State) → p ≤ e
    → turn v (field_step_of s p e st) p buttons axes ≡ Ok w → Moved p (field_step_of s p e st) w
unfolding field_step_of step_taken taken Begun
field_moves s p e v w buttons axes St.Uuid h a =
    uuid_moves p e (length s) v w buttons axes h (guid_of (field s p e)) a
field_moves s p e v w buttons axes St.Name h a = (omega (arith, h), tt)
field_moves s p e v w buttons axes St.KeyVal h a = (omega (arith, h), tt)
field_moves s p e v w buttons axes St.Invalid h a = refused_not _ _ a
field_moves s p e v w buttons axes St.NotUtf8 h a = refused_not _ _ a

step_moves : (s : List ℕ) (p : ℕ) (v w : MapView) (buttons axes : List ℕ) (st : State) → p < length s
    → turn v (step_of s p st) p buttons axes ≡ Ok w → Moved p (step_of s p st) w
unfolding step_of
step_moves s p v w buttons axes st h a =
    rw (lt-ltb p (length s) h) (field_moves s p (find_from (byte ",") s p) v w buttons axes st (omega arith)
    (rw (lt-ltb p (length s) h) at a))

-- ---- a turn of the loop: x is the step that was taken, and what it comes to
module _ (s buttons axes : List ℕ) (p : ℕ) (st : State) (v : MapView) (h : p < length s) (b : Begun st p v) (x : Stepped)
    (is : x ≡ step_of s p st) where
  turned : rest_of s p st v buttons axes ≡ onward s p v x buttons axes
  turned = rw is (rest_step s p v buttons axes h st b)

  pub turn_refused : (r : Refusal) → turn v x p buttons axes ≡ Err r → rest_of s p st v buttons axes ≡ Err r
  turn_refused r a =
      turned ∙ ap (λ (y : Result MapView Refusal). follow y (λ w. rest_of s x.pos x.state w buttons axes)) a

  module _ (w : MapView) (a : turn v x p buttons axes ≡ Ok w) where
    pub turn_accepted : rest_of s p st v buttons axes ≡ rest_of s x.pos x.state w buttons axes
    turn_accepted =
        turned ∙ ap (λ (y : Result MapView Refusal). follow y (λ w. rest_of s x.pos x.state w buttons axes)) a

    moved : Moved p x w
    moved = rw is (step_moves s p v w buttons axes st h (rw is at a))

    pub turn_moves : p < x.pos
    turn_moves = moved.0

    pub turn_begun : Begun x.state x.pos w
    turn_begun = moved.1
