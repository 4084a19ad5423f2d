-- Lines by number while an insert files them: a row for each, and the lines that are still held. What is struck out
-- has length 0.
-- No public contract rests on these: a reader may leave them out.
use Rattle.std.specs.Prelude.{Option as Optional, MatchOption, Bool, false, ◌≡◌, true, List, [], ◌∷◌, ◌++◌, ℕ, zero, suc, ◌+◌, ◌-◌, ◌*◌, ◌≤◌, ◌<◌, eqb, ltb, length, take, drop, replicate, Result, Ok, Err, ⊤}
use Rattle.std.proofs.Math.Option.{Option, some}
use Rattle.text.specs.Bytes.{pick}
use Rattle.store.specs.declared.chains.Link.{Link}
use Rattle.store.specs.declared.rows.Row.{Row}
use Rattle.store.specs.declared.table.Fill.{Fill}
use Rattle.store.specs.declared.border.Standing.{Standing}
use Rattle.store.specs.declared.claims.Dues.{Dues}
use Rattle.store.specs.declared.settle.Kept.{Kept}
use Rattle.store.specs.declared.soundness.Surveyed.{Surveyed}
use Rattle.store.specs.declared.soundness.Stock.{Stock}
use Rattle.store.specs.declared.soundness.Ledger.{Ledger}
use Rattle.store.specs.declared.calls.Tally.{Tally}
use Rattle.store.specs.declared.tree.Node.{Node}
use Rattle.store.specs.declared.batch.Walked.{Walked}
use Rattle.store.specs.Held.{Key, Held, strike, file, holds, index_max, text_max, line_max}
use Rattle.store.specs.Decode.{walk, decode, content}
use Rattle.store.specs.Fronts.{Fronts}
use Rattle.store.specs.Claims.{not_of, Owed}
use Rattle.store.specs.Shares.{owners, no_shares, larger}
use Rattle.store.specs.Book.{Caller, room_for, by_room, after, stopped, reach, insert_turn, insert_lines}
use Rattle.store.specs.Lines.{lines_of}
use Rattle.store.specs.Layout.{records, texts, encode_records, encode_text}
use Rattle.store.specs.Keys.{Says, Lists, Chained}
use Rattle.store.specs.Rows.{key_in, start_in, len_in}
use Rattle.store.specs.Border.{Bordered}
use Rattle.store.specs.Tree.{Searched}
use Rattle.store.specs.Inner.{known, Fitted, behind, GoodFor, sizes}
use Rattle.store.specs.declared.table.Full.{Full}
use Rattle.store.specs.declared.table.Full.TheVariants as R
use Rattle.store.specs.declared.calls.StoreError.{StoreError}

-- the lines of the first n numbers, each of which gives one line or none
unfoldable pub living : (ℕ → List Held) → ℕ → List Held
living S zero = []
living S (suc n) = living S n ++ S n

-- where the line of number k stands: the first `old` in the text, the others in the lines that are inserted
abbrev pub source_of : List ℕ → List ℕ → ℕ → ℕ → List ℕ
source_of t s old k = pick (ltb k old) t s

-- the line of number k, and what it gives
abbrev pub held_at : List ℕ → List ℕ → List Row → ℕ → ℕ → Held
held_at t s a old k = record {
  key = key_in a k;
  line = take (len_in a k) (drop (start_in a k) (source_of t s old k));
}

unfoldable pub line_at : List ℕ → List ℕ → List Row → ℕ → ℕ → List Held
line_at t s a old k = pick (eqb (len_in a k) 0) [] (held_at t s a old k ∷ [])

-- none of the first k numbers is struck out
abbrev pub Whole : List Row → ℕ → Type 0
Whole a k = (j : ℕ) → j < k → len_in a j ≡ 0 → ⊥

-- a store holds those lines, and others behind them
abbrev pub Begins : Option (List Held) → List Held → Type 0
Begins o fs = (bs : List Held) × (o ≡ some (fs ++ bs))

-- the first c numbers give the lines hs, for an index i and a text t; each old line starts behind the old lines before
-- it that are still held, and before the first one that is struck out they stand as in the store
pub record Tabled (i t s : List ℕ) (a : List Row) (old c : ℕ) (hs : List Held) : Type 0 where
  pub is : hs ≡ living (line_at t s a old) c
  pub inside : (k : ℕ) → k < c → start_in a k + len_in a k ≤ length (source_of t s old k)
  pub ahead : (k : ℕ) → k < old → length (texts (living (line_at t s a old) k)) ≤ start_in a k
  pub stands : (k : ℕ) → k ≤ old → Whole a k → Begins (decode i t) (living (line_at t s a old) k)
  pub olds : old ≤ c
  pub most : c ≤ length a
  pub good : Fitted (length i) (length t) hs

-- `kept_rows`: the numbers before the first one that is struck out, and how much the lines of those take
pub record Keepable (a : List Row) (old : ℕ) : Type 0 where
  pub i : List ℕ
  pub t : List ℕ
  pub s : List ℕ
  pub c : ℕ
  pub hs : List Held
  pub tabled : Tabled i t s a old c hs
  pub index : length i ≤ index_max
  pub text : length t ≤ text_max

abbrev pub Takes_up : List Held → ℕ → ℕ → Type 0
Takes_up hs end used = (end ≡ sizes 0 hs) × (used ≡ length (texts hs))

pub record Keeps (a : List Row) (old : ℕ) (r : Kept) : Type 0 where
  pub rows : r.rows ≤ old
  pub whole : Whole a r.rows
  pub takes : (i t s : List ℕ) (c : ℕ) (hs : List Held) → Tabled i t s a old c hs
      → Takes_up (living (line_at t s a old) r.rows) r.at r.off

-- where the records and the lines of a store end
abbrev pub Extends : List ℕ → List ℕ → Fill → Type 0
Extends i t f = (hs : List Held) → decode i t ≡ some hs → Takes_up hs f.end f.used

-- the lines of the numbers that are kept, and the index with a part of it behind their records
abbrev pub kept_lines : List ℕ → List ℕ → List Row → Kept → Fill → List Held
kept_lines t s a kept was = living (line_at t s a was.count) kept.rows

abbrev pub behind_kept : List ℕ → List ℕ → List Row → Kept → Fill → List ℕ → List ℕ
behind_kept t s a kept was part = records 0 (kept_lines t s a kept was) ++ part

-- `close_up`: the part of the index behind the records that are kept, and the store that it is of
pub record Lent (part t s : List ℕ) (a : List Row) (kept : Kept) (was : Fill) (c : ℕ) (hs : List Held) : Type 0 where
  pub tabled : Tabled (behind_kept t s a kept was part) t s a was.count c hs
  pub rows : kept.rows ≤ c
  pub takes : Takes_up (kept_lines t s a kept was) kept.at kept.off
  pub text : take kept.off t ≡ texts (kept_lines t s a kept was)
  pub later : kept.at ≤ was.end
  pub index_within : was.end ≤ length (behind_kept t s a kept was part)
  pub index_free : drop was.end (behind_kept t s a kept was part)
      ≡ replicate (length (behind_kept t s a kept was part) - was.end) 0
  pub text_within : was.used ≤ length t
  pub text_free : drop was.used t ≡ replicate (length t - was.used) 0

abbrev pub Closes : List ℕ → List ℕ → List ℕ → List Row → Kept → Fill → ℕ → Type 0
Closes part t s a kept was c = (hs : List Held) × Lent part t s a kept was c hs

abbrev pub Closed : List ℕ → List ℕ → List ℕ → List Row → Kept → Fill → ℕ → List ℕ → List ℕ → Type 0
Closed part t s a kept was c part' t' =
    (hs : List Held) → Lent part t s a kept was c hs
    → (behind_kept t s a kept was part' ≡ encode_records (length (behind_kept t s a kept was part)) hs)
    × (t' ≡ encode_text (length t) hs)

-- `settle`: the lines that are still held, written out
abbrev pub Settles : List ℕ → List ℕ → List ℕ → List Row → Fill → ℕ → Type 0
Settles i t s a was c = (hs : List Held) × Tabled i t s a was.count c hs

abbrev pub Settled : List ℕ → List ℕ → List ℕ → List Row → Fill → ℕ → List ℕ → List ℕ → Type 0
Settled i t s a was c i' t' =
    (hs : List Held) → Tabled i t s a was.count c hs
    → (i' ≡ encode_records (length i) hs) × (t' ≡ encode_text (length t) hs)

-- such numbers, in chains by their keys; of two with one key the first is struck out; and how much is in use
pub record InRows (i t s : List ℕ) (a : List Row) (heads : List ℕ) (links : List Link) (old : ℕ) (f : Fill) (hs : List Held)
    : Type 0 where
  pub tabled : Tabled i t s a old f.count hs
  pub older : (j k : ℕ) → j < k → k < f.count → key_in a j ≡ key_in a k
      → len_in a j ≡ 0
  pub chained : Chained (key_in a) heads links f.count
  pub end : f.end ≡ sizes 0 hs
  pub used : f.used ≡ length (texts hs)
  pub limits : (length i ≤ index_max) × (length t ≤ text_max)

-- the lines of a sound store are written down, all of them old
abbrev pub Loads : List ℕ → List Row → List ℕ → List Link → Fill → Type 0
Loads i a heads links f =
    (t s : List ℕ) (hs : List Held) → decode i t ≡ some hs
    → InRows i t s a heads links f.count f hs

-- `survey`: the store is sound but for keys that stand twice; what is told of those
pub record Surveys (i t : List ℕ) (a : List Row) (heads : List ℕ) (links : List Link) (r : Surveyed) : Type 0 where
  pub is : known (walk (suc (length i)) 0 i t) ≡ true
  pub most : r.fill.count < length a
  pub says : Says (key_in a) r.fill.count r.verdict
  pub chained : Chained (key_in a) heads links r.fill.count
  pub lists : Lists i (key_in a) r.fill.count
  pub loads : Loads i a heads links r.fill

abbrev pub OnceSurveyed : List ℕ → List ℕ → List Row → List ℕ → List Link → Optional Surveyed → Type 0
OnceSurveyed i t a heads links r =
    MatchOption r (known (walk (suc (length i)) 0 i t) ≡ false) (Surveys i t a heads links)

-- nothing is written down
pub record Fresh {N : ℕ} (l : Ledger N) : Type 0 where
  pub shares : l.shares ≡ no_shares
  pub chained : Chained (key_in l.table.rows) l.table.heads l.table.links 0

-- `take_stock`: the store is sound
pub record Stocks {N : ℕ} (i t : List ℕ) (l : Ledger N) (r : Stock) : Type 0 where
  pub is : known (content i t) ≡ true
  pub front : Fronts i l.shares r.front
  pub most : length i ≤ index_max
  pub loads : Loads (drop r.front i) l.table.rows l.table.heads l.table.links r.fill × (r.fill.count < length l.table.rows)

abbrev pub OnceStocked : {N : ℕ} → List ℕ → List ℕ → Ledger N → Optional Stock → Type 0
OnceStocked i t l r = MatchOption r (known (content i t) ≡ false) (Stocks i t l)

-- such lines, and where the border stands
pub record InStanding (i t s : List ℕ) (a : List Row) (heads : List ℕ) (links : List Link) (old : ℕ) (w : Standing) (hs : List Held)
    : Type 0 where
  pub in_rows : InRows i t s a heads links old w.fill hs
  pub bordered : Bordered a w.fill.count w.border

-- `room`: what is claimed of the text can be told; whether what is filled fits in n bytes of index, and that in m of text
pub record Weighable (d : Dues) (f : Fill) : Type 0 where
  pub theirs : d.theirs ≤ f.used
  pub used : f.used ≤ text_max + line_max
  pub others : d.others ≤ owners * 4294967295
  pub share : d.share ≤ 4294967295

unfoldable pub room_by : Dues → ℕ → ℕ → Fill → Result ⊤ Full
room_by d n m f =
    pick (ltb n f.end) (Err R.Index)
    (pick (ltb m (d.others + larger (f.used - d.theirs) d.share)) (Err R.Text) (Ok tt))

-- "each length from 1 to" the limit of a line
pub record Short (l : List ℕ) : Type 0 where
  pub some : 1 ≤ length l
  pub most : length l ≤ line_max

-- `file_row`: a line of those that are inserted, for lines that are so written down
pub record Files' (g : List ℕ) (d : Dues) (i t s : List ℕ) (a : List Row) (heads : List ℕ) (links : List Link) (old : ℕ) (w : Standing)
    (u : Key) (start len : ℕ) (hs : List Held) : Type 0 where
  pub owed : Owed g u.owner hs d
  pub standing : InStanding i t s a heads links old w hs
  pub inside : start + len ≤ length s
  pub shape : Short (take len (drop start s))

abbrev pub Fileable : Dues → List ℕ → List ℕ → List Row → List ℕ → List Link → Standing → Key → ℕ → ℕ → Type 0
Fileable d i t a heads links w u start len =
    (g s : List ℕ) × ((old : ℕ) × ((hs : List Held) × Files' g d i t s a heads links old w u start len hs))

-- it is filed, or there is no room and the lines are as before
pub data Filed (g i t s : List ℕ) (a : List Row) (heads : List ℕ) (links : List Link) (old : ℕ) (w : Standing) (h : Held)
    (hs : List Held) (r : Result Standing Full) : Type 0 where
  fits : (w' : Standing) → room_for (behind g i t h.key.owner) h hs ≡ Ok tt → r ≡ Ok w'
      → InStanding i t s a heads links old w' (file h hs) → Filed g i t s a heads links old w h hs r
  full : (e : Full) → room_for (behind g i t h.key.owner) h hs ≡ Err e → r ≡ Err e
      → Tabled i t s a old w.fill.count hs → Filed g i t s a heads links old w h hs r

abbrev pub FilesRow : Dues → List ℕ → List ℕ → List Row → List ℕ → List Link → Standing → Key → ℕ → ℕ → List Row → List ℕ
    → List Link → Result Standing Full → Type 0
FilesRow d i t a heads links w u start len a' heads' links' r =
    (g s : List ℕ) (old : ℕ) (hs : List Held) → Files' g d i t s a heads links old w u start len hs
    → Filed g i t s a' heads' links' old w (record { key = u; line = take len (drop start s) }) hs r

-- the numbers that are taken then are in the tree, where there is one
abbrev pub SearchedOn : {E : Type 0} → List Row → List Node → Result Standing E → Type 0
SearchedOn a w (Ok v) = Searched (key_in a) w v.fill.count (length a)
SearchedOn a w (Err e) = Unit {0}

-- `strike_row`: the line of a key is struck out; r says whether there was one
abbrev pub StrikesRow : List Row → List ℕ → List Link → Fill → Key → List Row → Bool → Type 0
StrikesRow a heads links f k b r =
    (i t : List ℕ) (hs : List Held) → InRows i t [] a heads links f.count f hs
    → (r ≡ holds k hs) × Tabled i t [] b f.count f.count (strike k hs)

-- the buffers encode those lines
pub record Encoded (n m : ℕ) (i t : List ℕ) (hs : List Held) : Type 0 where
  pub index : i ≡ encode_records n hs
  pub text : t ≡ encode_text m hs

-- `file_line`: one line of a save; r says whether there was room for it. The index is the part behind the shares g
abbrev pub SomeDues : Dues → ℕ → List ℕ → List ℕ → Type 0
SomeDues d o i t = (g : List ℕ) × ((hs : List Held) → decode i t ≡ some hs → Owed g o hs d)

abbrev pub FilesLine : Dues → List ℕ → List ℕ → Held → Result ⊤ Full → List ℕ → List ℕ → Type 0
FilesLine d i t h r i' t' =
    (g : List ℕ) (hs : List Held) → decode i t ≡ some hs → Owed g h.key.owner hs d
    → (r ≡ room_for (behind g i t h.key.owner) h hs)
    × Encoded (length i) (length t) i' t' (by_room r hs hs (file h hs))

abbrev pub SomeRows : Dues → ℕ → List ℕ → List ℕ → List ℕ → List Row → List ℕ → List Link → Standing → Type 0
SomeRows d o i t s a heads links w =
    (g : List ℕ) × ((old : ℕ) × ((hs : List Held) × (Owed g o hs d × InStanding i t s a heads links old w hs)))

-- `reach_row`: what one line of an insert does
pub data Comes (g i t s : List ℕ) (a : List Row) (heads : List ℕ) (links : List Link) (old o : ℕ) (l : List ℕ) (hs : List Held)
    (w : Standing) (r : Result Standing StoreError) : Type 0 where
  goes : (w' : Standing) (ks : List Held) → reach (behind g i t o) hs l ≡ after ks → r ≡ Ok w'
      → InStanding i t s a heads links old w' ks → Comes g i t s a heads links old o l hs w r
  stops : (e : StoreError) → reach (behind g i t o) hs l ≡ stopped (Err e) → r ≡ Err e
      → Tabled i t s a old w.fill.count hs → Comes g i t s a heads links old o l hs w r

abbrev pub ReachesRow : Dues → List ℕ → List ℕ → List ℕ → List Row → List ℕ → List Link → Standing → ℕ → List ℕ → List Row
    → List ℕ → List Link → Result Standing StoreError → Type 0
ReachesRow d i t s a heads links w o l a' heads' links' r =
    (g : List ℕ) (old : ℕ) (hs : List Held) → Owed g o hs d → InStanding i t s a heads links old w hs
    → Comes g i t s a' heads' links' old o l hs w r

-- `take_lines`, `insert_batch`: the lines from `from` on are walked, to the end, to one that stops the insert, or to a
-- place from which it goes on; P holds of the lines that are held then
pub data Takes (by : Caller) (s : List ℕ) (from : ℕ) (hs : List Held) (r : Walked) (P : List Held → Type 0)
    : Type 0 where
  onward : (ks : List Held) → r.answer ≡ Ok tt
      → ((c : ℕ) → insert_lines by hs c (lines_of (drop from s))
      ≡ insert_lines by ks (c + r.count) (lines_of (drop r.at s)))
      → (GoodFor by hs → GoodFor by ks) → P ks → Takes by s from hs r P
  halted : (ks : List Held) (e : StoreError) → r.answer ≡ Err e
      → ((c : ℕ) → insert_lines by hs c (lines_of (drop from s)) ≡ insert_turn ks (Err e) (c + r.count))
      → (GoodFor by hs → GoodFor by ks) → P ks → Takes by s from hs r P

-- how far it went; f numbers of n were taken before
pub record Went (s : List ℕ) (from f n : ℕ) (r : Walked) : Type 0 where
  pub within : r.at ≤ length s + 1
  pub counted : from + r.count ≤ r.at
  pub moved : f < n → from < length s → r.answer ≡ Ok tt → from < r.at

-- the lines ks are held by number then; where nothing stopped the walk, it can go on from there
pub record Stood (i t s : List ℕ) (a : List Row) (heads : List ℕ) (links : List Link) (old o : ℕ) (hs : List Held) (r : Walked)
    (ks : List Held) : Type 0 where
  pub tabled : Tabled i t s a old r.standing.fill.count ks
  pub others : not_of o ks ≡ not_of o hs
  pub goes_on : r.answer ≡ Ok tt → InStanding i t s a heads links old r.standing ks

abbrev pub TakesLines : Dues → List ℕ → List ℕ → List ℕ → List Row → List ℕ → List Link → ℕ → ℕ → Standing → List Row → List ℕ
    → List Link → Walked → Type 0
TakesLines d i t s a heads links o from w a' heads' links' r =
    (g : List ℕ) (old : ℕ) (hs : List Held) → Owed g o hs d → InStanding i t s a heads links old w hs
    → Takes (behind g i t o) s from hs r (Stood i t s a' heads' links' old o hs r)

abbrev pub Batches : List ℕ → List ℕ → List ℕ → ℕ → List ℕ → ℕ → Walked → List ℕ → List ℕ → Type 0
Batches g i t o s from r i' t' =
    (hs : List Held) → decode i t ≡ some hs
    → Takes (behind g i t o) s from hs r (Encoded (length i) (length t) i' t')

-- `insert_all`: all lines are walked, into the index behind the shares
abbrev pub InsertsAll : List ℕ → List ℕ → List ℕ → ℕ → List ℕ → Tally → List ℕ → List ℕ → Type 0
InsertsAll g i t o s r i' t' =
    (hs : List Held) → decode i t ≡ some hs
    → (r ≡ (insert_lines (behind g i t o) hs 0 (lines_of s)).answer)
    × Encoded (length i) (length t) i' t' (insert_lines (behind g i t o) hs 0 (lines_of s)).held
