-- The steps of an insert by number: the exits of `reach_row`, the turns of `take_lines`, and a batch's end.
-- Assumes nothing.
use Rattle.std.specs.Prelude.{Result, Ok, Err, ⊤, Option, Some, None}
use mathlib.Core.Bool.{true}
use mathlib.Core.List.{List}
use mathlib.Core.Option.{some}
use mathlib.Core.Path.{◌≡◌, refl, sym, ap, ◌∙◌, subst}
use Prim.Native.Nat.{ℕ, suc, ◌+◌, ◌-◌, ◌≤◌, ◌<◌}
use native.Mathlib.Omega.{arith}
use lib.ListN.{length, take, drop, length-drop}
use lib.Seq.{length-take-le, drop-drop}
use Rattle.text.proofs.ListLaws.{part_to_end}
use Rattle.text.proofs.BytesLaws.{first_le}
use Rattle.text.proofs.LentLaws.{tail_length}
use Rattle.text.specs.Bytes.{first_of}
use Rattle.text.specs.declared.uuid.Spelled.{Spelled}
use Rattle.store.specs.declared.chains.Link.{Link}
use Rattle.store.specs.declared.rows.Row.{Row}
use Rattle.store.specs.declared.claims.Dues.{Dues}
use Rattle.store.specs.declared.table.Fill.{Fill}
use Rattle.store.specs.declared.border.Border.{Border}
use Rattle.store.specs.declared.border.Standing.{Standing}
use Rattle.store.specs.declared.batch.Walked.{Walked}
use Rattle.store.specs.Book.{Caller, under, Reached, after, stopped, reach, insert_turn, on_reached, room_for}
use Rattle.store.specs.Book.{by_room}
use Rattle.store.specs.Book.{insert_lines}
use Rattle.store.specs.Border.{Bordered}
use Rattle.store.specs.Decode.{decode}
use Rattle.store.specs.Held.{Held, key_by, file, index_max, text_max, line_max}
use Rattle.text.specs.Search.{lf}
use Rattle.store.specs.Layout.{Bytes}
use Rattle.store.specs.Inner.{GoodFor, behind, first_line, known, insert_full}
use Rattle.store.specs.Claims.{not_of, Owed}
use Rattle.store.specs.Lines.{lines_of, wanted}
use Rattle.store.specs.Table.{Settles, Settled, InStanding, Loads, Files', Filed, fits, full}
use Rattle.store.specs.Table.{FilesRow, Comes, goes, stops}
use Rattle.store.specs.Table.{SomeRows, ReachesRow, Takes, onward, halted, Went, Stood, TakesLines, Encoded, Batches}
use Rattle.store.proofs.BookLaws.{Kept, keeps_reach}
use Rattle.store.proofs.WantedLaws.{wanted-some}
use Rattle.store.proofs.DecodeLaws.{laid, lines_of_lem}
use Rattle.store.proofs.InsertLaws.{reach-not, reach_long, reach_room, after_others}
use Rattle.store.proofs.UseLaws.{owed_on}
use Rattle.store.proofs.LineLaws.{cut_at, plus_minus}
use Rattle.store.specs.declared.calls.StoreError.TheVariants as E
use Rattle.store.specs.declared.table.Full.TheVariants as R
use Rattle.store.specs.declared.calls.StoreError.{StoreError}
use Rattle.store.specs.declared.table.Full.{Full}

wanted_part : (s : List ℕ) (at len : ℕ) (v p : Option Spelled) → v ≡ wanted (take (at + len - at) (drop at s)) → v ≡ p
    → wanted (take len (drop at s)) ≡ p
wanted_part s at len v p e q =
    ap (λ (k : ℕ). wanted (take k (drop at s))) (sym (plus_minus at len)) ∙ sym e ∙ q

-- the exits of `reach_row`
module _ (d : Dues) (i t s : List ℕ) (a : List Row) (heads : List ℕ) (links : List Link) (w : Standing) (own at len : ℕ)
    (inside : at + len ≤ length s) where
  abbrev l : List ℕ
  l = take len (drop at s)

  pub part_long : length (take len (drop at s)) ≡ len
  part_long = length-take-le len (drop at s) (omega (arith, length-drop at s))

  pub slot_not : {v : Option Spelled} → v ≡ wanted (take (at + len - at) (drop at s)) → v ≡ None
      → ReachesRow d i t s a heads links w own l a heads links (Ok w)
  slot_not e q g old hs o x =
      goes w hs (reach-not (behind g i t own) hs l (wanted_part s at len _ _ e q)) refl x

  -- the line is wanted: the part of the text that is read is the line
  module _ {v : Option Spelled} (u : Spelled) (e' : v ≡ wanted (take (at + len - at) (drop at s))) (q : v ≡ Some u) where
    e : wanted l ≡ Some u
    e = wanted_part s at len _ _ e' q

    pub slot_long : line_max < len → ReachesRow d i t s a heads links w own l a heads links (Err E.LineTooLong)
    slot_long p g old hs o x =
        stops E.LineTooLong (reach_long (behind g i t own) hs l u e (omega (arith, part_long))) refl x.in_rows.tabled

    module _ (p : len ≤ line_max) where
      pub slot_files : (g : List ℕ) (old : ℕ) (hs : List Held) → Owed g own hs d → InStanding i t s a heads links old w hs
          → Files' g d i t s a heads links old w (key_by own u.id) at len hs
      slot_files g old hs o x =
          record {
            owed = o;
            standing = x;
            inside = inside;
            shape = record { some = wanted-some l u e; most = omega (arith, part_long) };
          }

      module _ (a' : List Row) (heads' : List ℕ) (links' : List Link) (z : Result Standing Full)
          (y : FilesRow d i t a heads links w (key_by own u.id) at len a' heads' links' z) where
        reached : (g : List ℕ) (hs : List Held) (r : Result ⊤ Full) → room_for (behind g i t own) (under own u.id l) hs ≡ r
            → reach (behind g i t own) hs l
            ≡ by_room r (stopped (Err E.NoRoom)) (stopped (Err E.NoText)) (after (file (under own u.id l) hs))
        reached g hs r q = reach_room (behind g i t own) hs l u e (omega (arith, part_long)) r q

        says : (x : Full) (v : Reached)
            → by_room (Err x) (stopped (Err E.NoRoom)) (stopped (Err E.NoText)) v ≡ stopped (Err (insert_full x))
        says R.Index v = refl
        says R.Text v = refl

        pub slot_full : (x : Full) → z ≡ Err x → ReachesRow d i t s a heads links w own l a' heads' links' (Err (insert_full x))
        slot_full x er g old hs o p = go (y g s old hs (slot_files g old hs o p))
          where
            go : Filed g i t s a' heads' links' old w (under own u.id l) hs z
                → Comes g i t s a' heads' links' old own l hs w (Err (insert_full x))
            go (fits w' q c k) = let n : ◌≡◌ {A = ℕ} 0 1 = cc in absurd (omega arith)
            go (full x' q c k) =
                let n : x' ≡ x = cc in
                stops (insert_full x) (reached g hs (Err x) (q ∙ ap (λ (m : Full). Err m) n) ∙ says x _) refl k

        pub slot_filed : (w' : Standing) → z ≡ Ok w' → ReachesRow d i t s a heads links w own l a' heads' links' (Ok w')
        slot_filed w' er g old hs o p = go (y g s old hs (slot_files g old hs o p))
          where
            go : Filed g i t s a' heads' links' old w (under own u.id l) hs z
                → Comes g i t s a' heads' links' old own l hs w (Ok w')
            go (fits w'' q c k) =
                let n : w'' ≡ w' = cc in
                goes w' (file (under own u.id l) hs) (reached g hs (Ok tt) q) refl
                (subst (λ (m : Standing). InStanding i t s a' heads' links' old m (file (under own u.id l) hs)) n k)
            go (full x q c k) = let n : ◌≡◌ {A = ℕ} 0 1 = cc in absurd (omega arith)

-- what the loop cut off: the first line from `at` on
pub line_part : (s : List ℕ) (at len : ℕ)
    → take len (take (length s - at) (drop at s)) ≡ first_line (take (length s - at) (drop at s))
    → take len (drop at s) ≡ first_line (drop at s)
line_part s at len e = ap (take len) (sym (part_to_end s at)) ∙ e ∙ ap first_line (part_to_end s at)

-- and its LF stands within the text
pub end_within : (at : ℕ) (s : List ℕ) (end : ℕ) → end ≡ first_of lf (take (length s - at) (drop at s)) → end ≤ length s - at
end_within at s end e = omega (arith, e, first_le lf (take (length s - at) (drop at s)), tail_length at s)

-- one line of the inserted text
runs_line : (by : Caller) (s : List ℕ) (at end : ℕ) → at < length s → end ≡ first_of lf (drop at s)
    → (line : List ℕ) → line ≡ first_line (drop at s) → (hs : List Held) (c : ℕ)
    → insert_lines by hs c (lines_of (drop at s))
    ≡ on_reached (reach by hs line) (λ a. insert_turn hs a c)
    (λ ks. insert_lines by ks (suc c) (lines_of (drop (at + (end + 1)) s)))
unfolding insert_lines
runs_line by s at end l e line el hs c =
    ap (insert_lines by hs c) (cut_at s at end l e)
    ∙ ap (λ (x : List ℕ). on_reached (reach by hs x) (λ a. insert_turn hs a c)
    (λ ks. insert_lines by ks (suc c) (lines_of (drop (at + (end + 1)) s)))) (sym el)

-- the loop of `take_lines`: the lines before `at` are filed, and the rest has the whole's answer
pub record Took (g i t s : List ℕ) (a : List Row) (heads : List ℕ) (links : List Link) (own from old : ℕ) (w : Standing) (at count : ℕ)
    (hs : List Held) : Type 0 where
  pub ks : List Held
  pub others : not_of own ks ≡ not_of own hs
  pub standing : InStanding i t s a heads links old w ks
  pub keeps : GoodFor (behind g i t own) hs → GoodFor (behind g i t own) ks
  pub run : (c : ℕ) → insert_lines (behind g i t own) hs c (lines_of (drop from s))
      ≡ insert_lines (behind g i t own) ks (c + count) (lines_of (drop at s))

pub record Taking (d : Dues) (i t s : List ℕ) (a₀ : List Row) (heads₀ : List ℕ) (links₀ : List Link) (own from : ℕ) (w₀ : Standing)
    (a : List Row) (heads : List ℕ) (links : List Link) (w : Standing) (at count : ℕ) : Type 0 where
  pub within : at ≤ length s + 1
  pub counted : from + count ≤ at
  pub still : at ≡ from → w.fill.count ≡ w₀.fill.count
  pub took : (g : List ℕ) (old : ℕ) (hs : List Held) → Owed g own hs d → InStanding i t s a₀ heads₀ links₀ old w₀ hs
      → Took g i t s a heads links own from old w at count hs

module _ {d : Dues} {i t s : List ℕ} {a₀ : List Row} {heads₀ : List ℕ} {links₀ : List Link} {own from : ℕ} {w₀ : Standing} where
  module _ {a : List Row} {heads : List ℕ} {links : List Link} {w : Standing} {at count : ℕ}
      (k : Taking d i t s a₀ heads₀ links₀ own from w₀ a heads links w at count) where
    pub taken : SomeRows d own i t s a₀ heads₀ links₀ w₀ → SomeRows d own i t s a heads links w
    taken (g, (old, (hs, (o, p)))) =
        let x : Took g i t s a heads links own from old w at count hs = k.took g old hs o p in
        (g, (old, (x.ks, (owed_on g own hs x.ks d x.others o, x.standing))))

    pub first_at_lem : from ≤ at
    first_at_lem = omega (arith, k.counted)

    -- the insert goes on from `at`
    pub take_on : (w₀.fill.count < length a₀ → from < length s → from < at)
        → TakesLines d i t s a₀ heads₀ links₀ own from w₀ a heads links
        (record { answer = Ok tt; at = at; count = count; standing = w })
        × Went s from w₀.fill.count (length a₀) (record { answer = Ok tt; at = at; count = count; standing = w })
    take_on moves = (
      λ g old hs o p.
          let x : Took g i t s a heads links own from old w at count hs = k.took g old hs o p in
          onward x.ks refl x.run x.keeps
          (record { tabled = x.standing.in_rows.tabled; others = x.others; goes_on = λ e. x.standing }),
      record { within = k.within; counted = k.counted; moved = λ p q o. moves p q },
    )

    -- one line on
    module _ (l : at < length s) {end : ℕ} (e : end ≡ first_of lf (take (length s - at) (drop at s))) (len : ℕ)
        (el : take len (take (length s - at) (drop at s)) ≡ first_line (take (length s - at) (drop at s)))
        (r : Result Standing StoreError) (a' : List Row) (heads' : List ℕ) (links' : List Link)
        (y : ReachesRow d i t s a heads links w own (take len (drop at s)) a' heads' links' r) where
      abbrev line : List ℕ
      line = take len (drop at s)

      module _ (g : List ℕ) (old : ℕ) (hs : List Held) (o : Owed g own hs d)
          (x : Took g i t s a heads links own from old w at count hs) where
        abbrev by : Caller
        by = behind g i t own

        comes : Comes g i t s a' heads' links' old own line x.ks w r
        comes = y g old x.ks (owed_on g own hs x.ks d x.others o) x.standing

        runs : (v : Reached) → reach by x.ks line ≡ v → (c : ℕ)
            → insert_lines by hs c (lines_of (drop from s))
            ≡ on_reached v (λ b. insert_turn x.ks b (c + count))
            (λ js. insert_lines by js (suc (c + count)) (lines_of (drop (at + (end + 1)) s)))
        runs v q c = x.run c
            ∙ runs_line by s at end l (e ∙ ap (first_of lf) (part_to_end s at)) line (line_part s at len el) x.ks
            (c + count)
            ∙ ap (λ (v : Reached). on_reached v (λ b. insert_turn x.ks b (c + count))
            (λ js. insert_lines by js (suc (c + count)) (lines_of (drop (at + (end + 1)) s)))) q

        stopped_at : (e : StoreError) → r ≡ Err e → Comes g i t s a' heads' links' old own line x.ks w r
            → Takes (behind g i t own) s from hs (record { answer = Err e; at = at; count = count; standing = w })
            (Stood i t s a' heads' links' old own hs (record { answer = Err e; at = at; count = count; standing = w }))
        stopped_at e z (goes w' js q v p) = let n : ◌≡◌ {A = ℕ} 0 1 = cc in absurd (omega arith)
        stopped_at e z (stops e' q v p) =
            let n : e' ≡ e = cc in
            halted x.ks e refl
            (subst (λ (m : StoreError). (c : ℕ) → insert_lines by hs c (lines_of (drop from s))
            ≡ insert_turn x.ks (Err m) (c + count)) n (runs (stopped (Err e')) q)) x.keeps
            (record {
              tabled = p;
              others = x.others;
              goes_on = λ z. let n : ◌≡◌ {A = ℕ} 0 1 = cc in absurd (omega arith);
            })

        next_line : own < 256 → (w' : Standing) → r ≡ Ok w' → Comes g i t s a' heads' links' old own line x.ks w r
            → Took g i t s a' heads' links' own from old w' (at + (end + 1)) (count + 1) hs
        next_line byte w' z (stops e' q v p) = let n : ◌≡◌ {A = ℕ} 0 1 = cc in absurd (omega arith)
        next_line byte w' z (goes w'' js q v p) =
            let n : w'' ≡ w' = cc in
            record {
              ks = js;
              others = after_others by x.ks line js q ∙ x.others;
              standing = subst (λ (m : Standing). InStanding i t s a' heads' links' old m js) n p;
              keeps = λ b. subst (Kept by) q (keeps_reach by o.each byte x.ks (x.keeps b) line);
              run = λ c.
                  let more : suc (c + count) ≡ c + (count + 1) = omega arith in
                  runs (after js) q c
                  ∙ ap (λ (k : ℕ). insert_lines by js k (lines_of (drop (at + (end + 1)) s))) more;
            }

      pub take_off : (e : StoreError) → r ≡ Err e
          → TakesLines d i t s a₀ heads₀ links₀ own from w₀ a' heads' links'
          (record { answer = Err e; at = at; count = count; standing = w })
          × Went s from w₀.fill.count (length a₀) (record { answer = Err e; at = at; count = count; standing = w })
      take_off e z = (
        λ g old hs o p.
            let x : Took g i t s a heads links own from old w at count hs = k.took g old hs o p in
            stopped_at g old hs o x e z (comes g old hs o x),
        record {
          within = k.within;
          counted = k.counted;
          moved = λ p q o. let n : ◌≡◌ {A = ℕ} 0 1 = cc in absurd (omega arith);
        },
      )

      pub take-turn : own < 256 → (w' : Standing) → r ≡ Ok w'
          → Taking d i t s a₀ heads₀ links₀ own from w₀ a' heads' links' w' (at + (end + 1)) (count + 1)
      take-turn byte w' z = record {
        within = omega (arith, l, end_within at s end e);
        counted = omega (arith, k.counted);
        still = λ v. absurd (omega (arith, k.counted));
        took = λ g old hs o p.
            let x : Took g i t s a heads links own from old w at count hs = k.took g old hs o p in
            next_line g old hs o x byte w' z (comes g old hs o x);
      }

-- two walks, one behind the other
module _ {d : Dues} {i t s : List ℕ} {a₀ : List Row} {heads₀ : List ℕ} {links₀ : List Link} {own from : ℕ} {w₀ : Standing}
    {a : List Row} {heads : List ℕ} {links : List Link} {r : Walked} (x : TakesLines d i t s a₀ heads₀ links₀ own from w₀ a heads links r)
    (e : r.answer ≡ Ok tt) where
  pub some_on : SomeRows d own i t s a₀ heads₀ links₀ w₀ → SomeRows d own i t s a heads links r.standing
  some_on (g, (old, (hs, (o, p)))) = go (x g old hs o p)
    where
      go : Takes (behind g i t own) s from hs r (Stood i t s a heads links old own hs r)
          → SomeRows d own i t s a heads links r.standing
      go (onward ks z run k q) = (g, (old, (ks, (owed_on g own hs ks d q.others o, q.goes_on e))))
      go (halted ks v z run k q) = let n : ◌≡◌ {A = ℕ} 0 1 = cc in absurd (omega arith)

  module _ {a' : List Row} {heads' : List ℕ} {links' : List Link} {r' : Walked}
      (y : TakesLines d i t s a heads links own r.at r.standing a' heads' links' r') where
    abbrev both : Walked
    both = record { answer = r'.answer; at = r'.at; count = r.count + r'.count; standing = r'.standing }

    pub takes_both : TakesLines d i t s a₀ heads₀ links₀ own from w₀ a' heads' links'
        (record { answer = r'.answer; at = r'.at; count = r.count + r'.count; standing = r'.standing })
    takes_both g old hs o p = go (x g old hs o p)
      where
        more : (c : ℕ) → c + r.count + r'.count ≡ c + (r.count + r'.count)
        more c = omega arith

        on : (ks : List Held) → ((c : ℕ) → insert_lines (behind g i t own) hs c (lines_of (drop from s))
            ≡ insert_lines (behind g i t own) ks (c + r.count) (lines_of (drop r.at s)))
            → (GoodFor (behind g i t own) hs → GoodFor (behind g i t own) ks) → not_of own ks ≡ not_of own hs
            → Takes (behind g i t own) s r.at ks r' (Stood i t s a' heads' links' old own ks r')
            → Takes (behind g i t own) s from hs both (Stood i t s a' heads' links' old own hs both)
        on ks run k m (onward js z run' k' q) =
            onward js z
            (λ c. run c ∙ run' (c + r.count)
            ∙ ap (λ (v : ℕ). insert_lines (behind g i t own) js v (lines_of (drop r'.at s))) (more c))
            (λ b. k' (k b)) (record { tabled = q.tabled; others = q.others ∙ m; goes_on = q.goes_on })
        on ks run k m (halted js v z run' k' q) =
            halted js v z (λ c. run c ∙ run' (c + r.count) ∙ ap (insert_turn js (Err v)) (more c))
            (λ b. k' (k b)) (record { tabled = q.tabled; others = q.others ∙ m; goes_on = q.goes_on })

        go : Takes (behind g i t own) s from hs r (Stood i t s a heads links old own hs r)
            → Takes (behind g i t own) s from hs both (Stood i t s a' heads' links' old own hs both)
        go (onward ks z run k q) =
            on ks run k q.others (y g old ks (owed_on g own hs ks d q.others o) (q.goes_on e))
        go (halted ks v z run k q) = let n : ◌≡◌ {A = ℕ} 0 1 = cc in absurd (omega arith)

pub went_both : {s : List ℕ} {from f f' n : ℕ} {r r' : Walked} → r.answer ≡ Ok tt → Went s from f n r
    → Went s r.at f' n r'
    → Went s from f n
    (record { answer = r'.answer; at = r'.at; count = r.count + r'.count; standing = r'.standing })
went_both e x y = record {
  within = y.within;
  counted = omega (arith, x.counted, y.counted);
  moved = λ p q o. omega (arith, x.moved p q e, y.counted);
}

-- the end of a batch
takes_held : {by : Caller} {from : ℕ} {s : List ℕ} {hs : List Held} {r : Walked} {P : List Held → Type 0}
    → Takes by s from hs r P → (ks : List Held) × P ks
takes_held (onward ks o run g p) = (ks, p)
takes_held (halted ks e o run g p) = (ks, p)

module _ (d : Dues) (g i t s : List ℕ) (a : List Row) (heads : List ℕ) (links : List Link) (f : Fill) (own : ℕ)
    (loaded : Loads i a heads links f) (b₀ : Border) (bordered : Bordered a f.count b₀)
    (owed : (hs : List Held) → decode i t ≡ some hs → Owed g own hs d) where
  abbrev w₀ : Standing
  w₀ = record { fill = f; border = b₀ }

  stood : (hs : List Held) → decode i t ≡ some hs → InStanding i t s a heads links f.count w₀ hs
  stood hs e = record { in_rows = loaded t s hs e; bordered = bordered }

  pub loads_held : known (decode i t) ≡ true → SomeRows d own i t s a heads links (record { fill = f; border = b₀ })
  loads_held k =
      let q : (hs : List Held) × (decode i t ≡ some hs) = lines_of_lem (decode i t) k in
      (g, (f.count, (q.0, (owed q.0 q.1, stood q.0 q.1))))

  module _ (from : ℕ) (b : List Row) (r : Walked)
      {heads' : List ℕ} {links' : List Link}
      (takes : TakesLines d i t s a heads links own from (record { fill = f; border = b₀ }) b heads' links' r) where
    abbrev By : (List Held → Type 0) → List Held → Type 0
    By P hs = Takes (behind g i t own) s from hs r P

    took : (hs : List Held) → decode i t ≡ some hs → By (Stood i t s b heads' links' f.count own hs r) hs
    took hs e = takes g f.count hs (owed hs e) (stood hs e)

    pub batch_settles : known (decode i t) ≡ true → Settles i t s b f r.standing.fill.count
    batch_settles k =
        let q : (hs : List Held) × (decode i t ≡ some hs) = lines_of_lem (decode i t) k in
        let x = takes_held (took q.0 q.1) in
        (x.0, x.1.tabled)

    pub batch_end : (i' t' : List ℕ) → Settled i t s b f r.standing.fill.count i' t' → Batches g i t own s from r i' t'
    batch_end i' t' w hs e = go (took hs e)
      where
        held : (ks : List Held) → Stood i t s b heads' links' f.count own hs r ks
            → Encoded (length i) (length t) i' t' ks
        held ks p = record { index = (w ks p.tabled).0; text = (w ks p.tabled).1 }

        go : By (Stood i t s b heads' links' f.count own hs r) hs → By (Encoded (length i) (length t) i' t') hs
        go (onward ks o run k p) = onward ks o run k (held ks p)
        go (halted ks v o run k p) = halted ks v o run k (held ks p)

-- a walk of what stands from a place on, as one of the whole
module _ (s part : List ℕ) (from : ℕ) (e : part ≡ drop from s) (r : Walked) where
  abbrev behind_it : Walked
  behind_it = record { answer = r.answer; at = from + r.at; count = r.count; standing = r.standing }

  pub takes_behind : (own : Caller) (hs : List Held) (P : List Held → Type 0) → Takes own part 0 hs r P
      → Takes own s from hs behind_it P
  takes_behind own hs P (onward ks z run k p) =
      onward ks z
      (λ c. ap (λ (q : List ℕ). insert_lines own hs c (lines_of q)) (sym e) ∙ run c
      ∙ ap (λ (q : List ℕ). insert_lines own ks (c + r.count) (lines_of q)) (ap (drop r.at) e ∙ drop-drop r.at from s))
      k p
  takes_behind own hs P (halted ks v z run k p) =
      halted ks v z (λ c. ap (λ (q : List ℕ). insert_lines own hs c (lines_of q)) (sym e) ∙ run c) k p

  pub went_behind : (f n : ℕ) → f < n → from ≤ length s → Went part 0 f n r → Went s from 0 n behind_it
  went_behind f n l m w =
      let long : length part ≡ length s - from = ap length e ∙ length-drop from s in
      record {
        within = omega (arith, w.within, long, m);
        counted = omega (arith, w.counted);
        moved = λ p q o. let on : 0 < r.at = w.moved l (omega (arith, long, q)) o in omega arith;
      }

pub both_most : (i t : List ℕ) → Bytes i → known (decode i t) ≡ true → (length i ≤ index_max) × (length t ≤ text_max)
both_most i t b k =
    let q : (hs : List Held) × (decode i t ≡ some hs) = lines_of_lem (decode i t) k in
    ((laid i t q.0 b q.1).index, (laid i t q.0 b q.1).text)
