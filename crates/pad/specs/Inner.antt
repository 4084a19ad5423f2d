-- Values counted from the least one: what private functions compute with. No public contract cites these.
-- Assumes nothing.
use Rattle.std.specs.Prelude.{ℕ, suc, ◌+◌, ◌-◌, ◌/◌, ◌%◌, ◌≤◌, ◌<◌, ◌≡◌, Bool, false, List, [], ◌∷◌, ◌++◌, map, eqb, ltb, length, take, drop, get_or, ◌&&◌, is_none, ℤ, pos, negsuc, ◌-ℤ◌, Option, Some, None, set, MatchOption, Result, Ok, MatchResult}
use Rattle.std.specs.Borrow.{MutBor, Fml, Lends}
use Rattle.text.specs.Bytes.{pick}
use Rattle.line.specs.declared.ev.AxisOrBtn.{AxisOrBtn}
use Rattle.line.specs.declared.parser.AxisRange.{AxisRange}
use Rattle.line.specs.declared.parser.AxisRange.TheVariants as Ar
use Rattle.line.specs.declared.ev.Code.{Code}
use Rattle.line.specs.declared.mapping.Entry.{Entry}
use Rattle.line.specs.Elements.{same_element}
use Rattle.line.specs.Maps.{entry_at}
use Rattle.line.specs.Numbers.{code_unit, entry_in}
use Rattle.pad.specs.declared.events.Held.{Held}
use Rattle.pad.specs.declared.events.Event.{Event}
use Rattle.pad.specs.declared.choice.Best.{Best}
use Rattle.pad.specs.declared.state.Pad.{Pad}
use Rattle.pad.specs.declared.two.Pads.{Pads}
use Rattle.pad.specs.declared.two.Which.TheVariants as Wh
use Rattle.pad.specs.declared.two.Which.{Which}
use Rattle.pad.specs.declared.events.Events.{Events}
use Rattle.pad.specs.declared.events.Raw.{Raw}
use Rattle.pad.specs.declared.state.TooManyCodes.{TooManyCodes}
use Rattle.pad.specs.declared.telling.Change.{Change}
use Rattle.pad.specs.Pads.{held_max, put_held, gives, Chosen, none, chosen, preferred, choose, element_count, element_at, place_of, sameℤ, changes}
use Rattle.pad.specs.States.{held_in, pad_values, pad_value, events_in, caught, Told, refused_of, raw_event_of}
use Rattle.pad.specs.TwoPads.{farther, with_pad}
use Rattle.pad.specs.contracts.two.Pads as P
use Rattle.pad.specs.contracts.state.Pad as Q

-- a value counted from the least one, and back
abbrev pub shifted : ℤ → ℕ
shifted (pos k) = 32768 + k
shifted (negsuc k) = 32767 - k

abbrev pub unshifted : ℕ → ℤ
unshifted x = pos x -ℤ pos 32768

-- as `part_of`, on these numbers
abbrev pub share_of : ℕ → AxisRange → Option (ℕ × ℕ)
share_of x Ar.Full = Some (x, 65535)
share_of x Ar.UpperHalf = pick (ltb x 32768) None (Some ((x - 32768), 32767))
share_of x Ar.LowerHalf = pick (ltb 32768 x) None (Some ((32768 - x), 32768))

-- n of d, d one of the three
pub record Proper (n d : ℕ) : Type 0 where
  pub within : n ≤ d
  pub some : 0 < d
  pub most : d ≤ 65535

-- ---- a pad's state in numbers
-- the first n held codes, and the first m entries
abbrev pub helds_in : ℕ → List ℕ → List Held
helds_in n xs = take n (map held_in xs)

abbrev pub entries_in : ℕ → List ℕ → List Entry
entries_in m xs = take m (map entry_in xs)

-- what was chosen
abbrev pub chosen_by : Option Best → Chosen
chosen_by None = none
chosen_by (Some b) = chosen b.code b.value

-- the place of the first number of a code, or how many there are where there is none
unfoldable pub place_in : ℕ → List ℕ → ℕ
place_in c [] = 0
place_in c (y ∷ ys) = pick (eqb (y / code_unit) c) 0 (suc (place_in c ys))

-- ---- the entries that count
-- an entry of an element is wanted: those of one element are, or of each that has a place
abbrev pub is_wanted : Option AxisOrBtn → AxisOrBtn → Bool
is_wanted (Some el) other = same_element other el
is_wanted None other = ltb (place_of other) element_count

-- an entry, if there is one and it is wanted
abbrev pub if_wanted : Option AxisOrBtn → Option Entry → Option Entry
if_wanted of (Some e) = pick (is_wanted of e.element) (Some e) None
if_wanted of None = None

-- the listed numbers have, of each code, the first entry of it if that is wanted
abbrev pub Listed_in : Option AxisOrBtn → List ℕ → List ℕ → Type 0
Listed_in of xs listed = (c : Code) → entry_at (map entry_in listed) c ≡ if_wanted of (entry_at (map entry_in xs) c)

-- codes from n on are not among those of the entries
abbrev pub FreshFrom : ℕ → List ℕ → Type 0
FreshFrom n xs = (c : Code) → n ≤ c.0 → entry_at (map entry_in xs) c ≡ None

-- t says whether a number after others counts: it is of a wanted entry, and the first of its code
abbrev pub Counts : Option AxisOrBtn → List ℕ → ℕ → Bool → Type 0
Counts of before x t =
    t ≡ is_wanted of (entry_in x).element && is_none (entry_at (map entry_in before) (entry_in x).code)

-- a code that is not marked, by what is left of it over 256, gives an element nothing by entries
abbrev pub Marked : AxisOrBtn → List ℕ → List Bool → Type 0
Marked el xs marks = (h : Held) → get_or marks (h.code.0 % 256) false ≡ false → gives (map entry_in xs) h el ≡ None

-- the place k of an element, if that has one
abbrev pub IsPlace : ℕ → Option ℕ → Type 0
IsPlace k r = MatchOption r (k ≡ element_count) (λ j. (j ≡ k) × (j < element_count))

-- what was chosen for an element, and the event of a code more: it counts for its own element alone
abbrev pub event_counted : ℕ → Event → AxisOrBtn → Chosen → Chosen
event_counted c e el rest = pick (same_element e.element el) (preferred c e.value rest) rest

-- the same for all elements
abbrev pub CountsIn : ℕ → Event → List (Option Best) → List (Option Best) → Type 0
CountsIn c e old new =
    (k : ℕ) → k < 27 → chosen_by (get_or new k None) ≡ event_counted c e (element_at k) (chosen_by (get_or old k None))

-- the code and the value of each element
abbrev pub AllChosen : List Held → List Entry → List (Option Best) → Type 0
AllChosen hs es bests = (k : ℕ) → k < 27 → chosen_by (get_or bests k None) ≡ choose hs es (element_at k)

-- from hs to ks no element but el takes another value
abbrev pub OnlyOf : List Held → List Held → List Entry → AxisOrBtn → Type 0
OnlyOf hs ks es el = (other : AxisOrBtn) → same_element el other ≡ false → choose ks es other ≡ choose hs es other

-- from hs to ks a raw value of the code has been put
pub record Touched (hs ks : List Held) (c : Code) : Type 0 where
  pub put : Held
  pub of : put.code ≡ c
  pub is : ks ≡ put_held put hs

abbrev pub one_event : AxisOrBtn → ℤ → Event
one_event el v = record { element = el; value = v }

-- a count over the most is read as the most
abbrev pub capped_of : ℕ → ℕ
capped_of count = pick (ltb count held_max) count held_max

-- how many codes are held after a put at place i of n
abbrev pub grown_of : ℕ → ℕ → ℕ
grown_of i n = pick (ltb i n) n (n + 1)

-- ---- events
-- events and one more after them, where there is room
abbrev pub PushesEvent : Events → Event → Events → Type 0
PushesEvent old e new = (es : List Event) → old ≡ events_in es → length es < 27 → new ≡ events_in (es ++ e ∷ [])

-- they are those of the first k places, and the values xs and ys are still to come
pub record Listed (bs cs xs ys : List ℤ) (events : Events) (k : ℕ) : Type 0 where
  pub es : List Event
  pub are : events ≡ events_in es
  pub few : length es ≤ k
  pub all : k + length xs ≡ 27
  pub told : es ++ changes k xs ys ≡ changes 0 bs cs

-- the event of a change, if there is one and the value is another
abbrev pub event_by : Option Change → Option Event
event_by None = None
event_by (Some c) = pick (sameℤ c.before c.later) None (Some (one_event c.element c.later))

-- ---- a raw value that is put: p with the number x at place i of the n held ones, or after them
abbrev pub holding : Pad → ℕ → ℕ → ℕ → Pad
holding p n i x =
    record { count = grown_of i n; held = set p.held i x; entry_count = p.entry_count; entries = p.entries }

abbrev pub Before : Pad → Option Change → Type 0
Before p None = Unit {0}
Before p (Some c) = c.before ≡ pad_value p c.element

-- the change is that of the state q, or the code is refused
abbrev pub PutsCode : Pad → Code → Raw → Result (Option Change) TooManyCodes → Pad → Type 0
PutsCode p c raw r q =
    MatchResult r
    (λ change. (raw_event_of p c raw
    ≡ record { answer = Ok tt; pad = q; events = events_in (caught (event_by change) []) })
    × Before p change)
    (λ e. (raw_event_of p c raw ≡ refused_of p) × (q ≡ p))

-- ---- two pads
-- the pads end with the one that a call is for as it is left behind the reference to it
abbrev pub LendsPad : Which → MutBor Pads → MutBor Pad → Fml
LendsPad w s r = Lends P.the_row Q.the_row s r (λ q. with_pad w s.now q)

-- the pad that plays along
abbrev pub pad_beside : Which → Pads → Pad
pad_beside Wh.First p = p.second
pad_beside Wh.Second p = p.first

-- an element's value by a pad and by the one beside it
abbrev pub joined_of : Which → ℤ → ℤ → ℤ
joined_of Wh.First own beside = farther own beside
joined_of Wh.Second own beside = farther beside own

-- an element's event, by its values on a pad before and after, and by its value on the pad beside it
abbrev pub joint_event : Which → AxisOrBtn → ℤ → ℤ → ℤ → Option Event
joint_event w el b l o =
    pick (sameℤ (joined_of w b o) (joined_of w l o)) None (Some (one_event el (joined_of w l o)))

-- what becomes of a change when q plays along
abbrev pub joined_by : Which → Pad → Option Change → Option Event
joined_by w q None = None
joined_by w q (Some c) = joint_event w c.element c.before c.later (pad_value q c.element)

-- what becomes of an event of a pad p
unfoldable pub joined_event : Which → Pad → Pad → Event → Option Event
joined_event w p q e = joint_event w e.element (pad_value p e.element) e.value (pad_value q e.element)

-- and of several
unfoldable pub refined : Which → Pad → Pad → List Event → List Event
refined leads p q [] = []
refined leads p q (e ∷ es) = caught (joined_event leads p q e) (refined leads p q es)

-- the events of the first i
pub record Refining (leads : Which) (p q : Pad) (es : List Event) (events : Events) (i : ℕ) : Type 0 where
  pub within : i ≤ length es
  pub out : List Event
  pub are : events ≡ events_in out
  pub few : length out ≤ i
  pub told : out ++ refined leads p q (drop i es) ≡ refined leads p q es

-- a pad's own answer: the events are those of its own values
abbrev pub TellsItself : Pad → Told → Type 0
TellsItself p t = t.events ≡ events_in (changes 0 (pad_values p) (pad_values t.pad))

abbrev pub two : Pad → Pad → Pads
two p q = record { first = p; second = q }

-- there are no more events than elements
abbrev pub TellsFew : Events → Type 0
TellsFew e = e.count ≤ 27
