-- Each call of the book keeps the shares and the lines such that the buffers can hold them, and what all parties claim
-- within the text.
-- Assumes nothing.
use Rattle.std.specs.Prelude.{Result, Ok, Err, ⊤, Some, None, Option}
use mathlib.Core.Bool.{Bool, true, false}
use mathlib.Core.List.{List, [], ◌∷◌}
use mathlib.Core.Path.{◌≡◌, refl, ap, subst, ◌∙◌}
use Prim.Native.Nat.{ℕ, zero, suc, ◌+◌, ◌-◌, ◌≤◌, ◌<◌, zero-le}
use native.Mathlib.Omega.{arith}
use lib.Dec.{eqb, ltb}
use lib.ListN.{length, get_or, set, replicate, length-set, length-replicate}
use lib.Seq.{get_or-set_same, get_or-set_other}
use borrow.Author.Tests.{eqb-true, eqb-false, ltb-false}
use Rattle.text.specs.Bytes.{pick}
use Rattle.text.specs.Utf8.{is_utf8, valid_run}
use Rattle.text.specs.declared.uuid.Spelled.{Spelled}
use Rattle.store.specs.declared.parties.Party.{Party}
use Rattle.store.specs.declared.parties.Party.TheVariants as P
use Rattle.store.specs.Parties.{owner_of, by_owner, EightBits, Named, Owner}
use Rattle.store.specs.Shares.{owners, no_shares, Content, nothing_held, use_of, claims_from, claims}
use Rattle.store.specs.Shares.{share_sizes}
use Rattle.store.specs.Shares.{with_share, with_held}
use Rattle.store.specs.Book.{Caller, caller, turn, record_sizes, room_for, by_room, under, Reached, after, stopped}
use Rattle.store.specs.Book.{reach_wanted, reach, insert_turn, replied, inserted, saved, nobody_inserts}
use Rattle.store.specs.Book.{on_reached, insert_lines, book_walk, book_insert, Attempt, refused, files, Saving}
use Rattle.store.specs.Book.{book_attempt}
use Rattle.store.specs.Book.{setting, over_text, over_index, book_share, shares_after, book_after}
use Rattle.store.specs.Book.{Call, clear, insert, save, share, book_turn, run_book}
use Rattle.store.specs.Inner.{Good, GoodFor, Builds}
use Rattle.store.specs.Claims.{OwnersBelow}
use Rattle.store.specs.Held.{Held, file, distinct, line_max, text_max}
use Rattle.store.specs.Layout.{Shape, Shapes, Given, records, texts}
use Rattle.store.specs.Lines.{lines_of, wanted}
use Rattle.store.proofs.HeldLaws.{distinct-file, shapes_file}
use Rattle.store.proofs.ClaimLaws.{larger_share, one_least, lengths_least, lengths-texts}
use Rattle.store.proofs.RoomLaws.{fits_index, fits_claims, sizes_sum}
use Rattle.store.proofs.WantedLaws.{wanted_small, wanted-some}
use Rattle.store.specs.declared.calls.StoreError.TheVariants as E
use Rattle.store.specs.declared.table.Full.TheVariants as R
use Rattle.store.specs.declared.table.Full.{Full}

pub wanted_shape : (o : ℕ) → o < 256 → (l : List ℕ) (u : Spelled) → wanted l ≡ Some u → length l ≤ line_max
    → Shape (under o u.id l)
wanted_shape o b l u e q = record {
  key = record { owner = b; uuid = wanted_small l u e };
  some = wanted-some l u e;
  most = q;
}

-- the owner of a call is a byte
pub owner_byte : (p : Named) (o : ℕ) → owner_of p.party ≡ Some o → o < 256
owner_byte p o e = go p.party p.bits e
  where
    same : (a b : ℕ) → Some a ≡ Some b → a ≡ b
    same a b q = cc

    named : (b : ℕ) (t : Bool) → b < 256 → pick t None (Some b) ≡ Some o → o < 256
    named b true l q = let z : ◌≡◌ {A = ℕ} 0 1 = cc in absurd (omega arith)
    named b false l q = omega (arith, same b o q)

    go : (x : Party) → EightBits x → owner_of x ≡ Some o → o < 256
    go P.Hall l q = omega (arith, same 0 o q)
    go (P.Organiser b) l q = named b (eqb b 0) l q

-- ---- filings keep what a filing with room keeps

-- of a line that is reached, whatever it does
abbrev KeptBy : (List Held → Type 0) → Reached → Type 0
KeptBy Q (after hs) = Q hs
KeptBy Q (stopped e) = Unit {0}

module _ (c : Caller) (byte : c.owner < 256) (Q : List Held → Type 0)
    (filed : (h : Held) (hs : List Held) → Q hs → Shape h → room_for c h hs ≡ Ok tt → Q (file h hs)) where
  reach_keeps : (hs : List Held) → Q hs → (l : List ℕ) → KeptBy Q (reach c hs l)
  unfolding reach
  reach_keeps hs g l = go (wanted l) refl
    where
      its : Spelled → Held
      its u = under c.owner u.id l

      fits : (u : Spelled) (r : Result ⊤ Full) → room_for c (its u) hs ≡ r → Shape (its u)
          → KeptBy Q (by_room r (stopped (Err E.NoRoom)) (stopped (Err E.NoText)) (after (file (its u) hs)))
      fits u (Err R.Index) e s = tt
      fits u (Err R.Text) e s = tt
      fits u (Ok _) e s = filed (its u) hs g s e

      short : (u : Spelled) (b : Bool) → ltb line_max (length l) ≡ b → wanted l ≡ Some u
          → KeptBy Q (pick b (stopped (Err E.LineTooLong))
          (by_room (room_for c (its u) hs) (stopped (Err E.NoRoom)) (stopped (Err E.NoText)) (after (file (its u) hs))))
      short u true e w = tt
      short u false e w =
          fits u (room_for c (its u) hs) refl
          (wanted_shape c.owner byte l u w (ltb-false line_max (length l) e))

      go : (p : Option Spelled) → wanted l ≡ p → KeptBy Q (reach_wanted c hs l p)
      go None w = g
      go (Some u) w = short u (ltb line_max (length l)) refl w

  lines_keep : (ls : List (List ℕ)) (hs : List Held) (k : ℕ) → Q hs → Q (insert_lines c hs k ls).held
  unfolding insert_lines
  lines_keep [] hs k g = g
  lines_keep (l ∷ ls) hs k g =
      go (reach c hs l) (reach_keeps hs g l) (λ (hs' : List Held) (g' : Q hs'). lines_keep ls hs' (suc k) g')
    where
      go : (r : Reached) → KeptBy Q r → ((hs' : List Held) → Q hs' → Q (insert_lines c hs' (suc k) ls).held)
          → Q (on_reached r (λ a. insert_turn hs a k) (λ hs'. insert_lines c hs' (suc k) ls)).held
      go (after hs') q ih = ih hs' q
      go (stopped a) q ih = g

  insert_keeps : (hs : List Held) → Q hs → (s : List ℕ) → Q (book_insert c hs s).held
  unfolding book_insert book_walk
  insert_keeps hs g s = go (is_utf8 s)
    where
      go : (b : Bool) → Q (pick b (insert_lines c hs 0 (lines_of s)) (insert_turn hs (Err (E.NotUtf8 (valid_run s))) 0)).held
      go true = lines_keep (lines_of s) hs 0 g
      go false = g

  save_keeps : (S : Saving) → Builds S → (hs : List Held) → Q hs → (a : S.Args)
      → Q (book_attempt S.full S.crowded c hs (S.attempt c.owner a)).held
  save_keeps S owed hs g a = go (S.attempt c.owner a) refl
    where
      fits : (h : Held) (v : S.Value) (r : Result ⊤ Full) → room_for c h hs ≡ r → Shape h
          → Q (by_room r (turn S.full hs) (turn S.crowded hs) (turn v (file h hs))).held
      fits h v (Err R.Index) e s = g
      fits h v (Err R.Text) e s = g
      fits h v (Ok _) e s = filed h hs g s e

      go : (x : Attempt S.Value) → S.attempt c.owner a ≡ x
          → Q (book_attempt S.full S.crowded c hs x).held
      go (refused v) q = g
      go (files h v) q = fits h v (room_for c h hs) refl (owed.shape c.owner byte a h v q)

-- ---- lines that the buffers can hold beside the shares

-- the owners of lines are bytes
pub owners_below : (hs : List Held) → Shapes hs → OwnersBelow hs
owners_below [] s = tt
owners_below (h ∷ hs) s = (s.0.key.owner, owners_below hs s.1)

pub keeps_none : (n m : ℕ) → Good n m []
unfolding texts distinct records
keeps_none n m = record { shapes = tt; once = refl; index = zero-le; text = zero-le }

module _ (c : Caller) (each : length c.shares ≡ owners) where
  pub keeps_file : (h : Held) (hs : List Held) → GoodFor c hs → Shape h → room_for c h hs ≡ Ok tt
      → GoodFor c (file h hs)
  keeps_file h hs g s e =
      let shapes : Shapes (file h hs) = shapes_file h hs g.shapes s in
      record {
        shapes = shapes;
        once = distinct-file h hs g.once;
        index = omega (arith, fits_index c h hs e);
        text = omega (
          arith,
          fits_claims c h hs e,
          lengths-texts (file h hs),
          lengths_least c.shares (file h hs) each (owners_below (file h hs) shapes),
        );
      }

-- of a line that is reached, whatever it does
abbrev pub Kept : Caller → Reached → Type 0
Kept c (after hs) = GoodFor c hs
Kept c (stopped e) = Unit {0}

pub keeps_reach : (c : Caller) → length c.shares ≡ owners → c.owner < 256 → (hs : List Held) → GoodFor c hs
    → (l : List ℕ) → Kept c (reach c hs l)
keeps_reach c each byte hs g l =
    go (reach c hs l) (reach_keeps c byte (λ (ks : List Held). GoodFor c ks) (keeps_file c each) hs g l)
  where
    go : (r : Reached) → KeptBy (λ (ks : List Held). GoodFor c ks) r → Kept c r
    go (after ks) q = q
    go (stopped e) q = tt

-- ---- what the book holds

-- it lies in buffers of n and m bytes, and the text has what all parties claim
pub record Fits (n m : ℕ) (c : Content) : Type 0 where
  pub given : Given c.shares
  pub front : share_sizes c.shares ≤ n
  pub good : Good (n - share_sizes c.shares) m c.held
  pub within : claims c.shares c.held ≤ m

none_size : (k : ℕ) → share_sizes (replicate k 0) ≡ 0
unfolding share_sizes
none_size zero = refl
none_size (suc k) = omega (arith, none_size k)

none_share : (k o : ℕ) → ◌≡◌ {A = ℕ} (get_or (replicate k 0) o 0) 0
none_share zero o = refl
none_share (suc k) zero = refl
none_share (suc k) (suc o) = none_share k o

none-claims : (k o : ℕ) → claims_from o (replicate k 0) [] ≡ 0
unfolding claims_from use_of
none-claims zero o = refl
none-claims (suc k) o = omega (arith, none-claims k (suc o))

pub fits_none : (n m : ℕ) → Fits n m nothing_held
fits_none n m = record {
  given = record {
    each = length-replicate {A = ℕ} owners 0;
    four = λ o. omega (arith, none_share owners o);
  };
  front = omega (arith, none_size owners);
  good = keeps_none (n - share_sizes no_shares) m;
  within = omega (arith, none-claims owners 0);
}

-- filings keep both
module _ (n m : ℕ) (s : List ℕ) (given : Given s) (front : share_sizes s ≤ n) where
  pub record Lines (hs : List Held) : Type 0 where
    pub good : Good (n - share_sizes s) m hs
    pub within : claims s hs ≤ m

  lines_file : (o : ℕ) (h : Held) (hs : List Held) → Lines hs → Shape h → room_for (caller n m s o) h hs ≡ Ok tt
      → Lines (file h hs)
  lines_file o h hs g p e = record {
    good = keeps_file (caller n m s o) given.each h hs g.good p e;
    within = fits_claims (caller n m s o) h hs e;
  }

  module _ (o : ℕ) (byte : o < 256) where
    pub keeps_lines : (ls : List (List ℕ)) (hs : List Held) (k : ℕ) → Lines hs
        → Lines (insert_lines (caller n m s o) hs k ls).held
    keeps_lines = lines_keep (caller n m s o) byte Lines (lines_file o)

    keeps_insert : (hs : List Held) → Lines hs → (t : List ℕ) → Lines (book_insert (caller n m s o) hs t).held
    keeps_insert = insert_keeps (caller n m s o) byte Lines (lines_file o)

    keeps_save : (S : Saving) → Builds S → (hs : List Held) → Lines hs → (a : S.Args)
        → Lines (book_attempt S.full S.crowded (caller n m s o) hs (S.attempt o a)).held
    keeps_save = save_keeps (caller n m s o) byte Lines (lines_file o)

abbrev pub fits_lines : (n m : ℕ) (c : Content) (f : Fits n m c) → Lines n m c.shares f.given f.front c.held
fits_lines n m c f = record { good = f.good; within = f.within }

-- ---- share settings

module _ (s : List ℕ) (given : Given s) (o b : ℕ) (byte : o < 256) where
  set_each : length (set s o b) ≡ owners
  set_each = length-set s o b ∙ given.each

  within_each : o < length s
  within_each = omega (arith, given.each)

  set_given : b ≤ 4294967295 → Given (set s o b)
  set_given l = record { each = set_each; four = λ k. go k (eqb k o) refl }
    where
      go : (k : ℕ) (t : Bool) → eqb k o ≡ t → get_or (set s o b) k 0 ≤ 4294967295
      go k true e =
          let z : get_or (set s o b) k 0 ≡ b
          = ap (λ (j : ℕ). get_or (set s o b) j 0) (eqb-true k o e) ∙ get_or-set_same s o b 0 within_each in
          omega (arith, z)
      go k false e =
          let z : get_or (set s o b) k 0 ≡ get_or s k 0
          = get_or-set_other s o k b 0 (λ q. eqb-false k o e q) in
          omega (arith, z, given.four k)

  -- a share that is accepted is at most what all parties claim
  share_least : (hs : List Held) → b ≤ claims (set s o b) hs
  share_least hs =
      let z : get_or (set s o b) o 0 ≡ b = get_or-set_same s o b 0 within_each in
      omega (
        arith,
        z,
        larger_share (use_of o hs) (get_or (set s o b) o 0),
        one_least o (set s o b) hs (omega (arith, set_each)),
      )

module _ (n m : ℕ) (lm : m ≤ text_max) (c : Content) (f : Fits n m c) (o b : ℕ) (byte : o < 256) where
  abbrev d : Content
  d = with_share o b c

  fits_set : over_text m d ≡ false → over_index n d ≡ false → Fits n m d
  unfolding over_text over_index
  fits_set e q =
      let within : claims d.shares d.held ≤ m = ltb-false m (claims d.shares d.held) e in
      let room : share_sizes d.shares + record_sizes 0 d.held ≤ n
      = ltb-false n (share_sizes d.shares + record_sizes 0 d.held) q in
      record {
        given = set_given c.shares f.given o b byte
            (omega (arith, within, lm, share_least c.shares f.given o b byte c.held));
        front = omega (arith, room);
        good = record {
          shapes = f.good.shapes;
          once = f.good.once;
          index = omega (arith, room, sizes_sum c.held 0);
          text = f.good.text;
        };
        within = within;
      }

  keeps_share : Fits n m (book_share n m c o b).content
  unfolding book_share
  keeps_share = go (over_text m d) refl
    where
      index? : (t : Bool) → over_index n d ≡ t → over_text m d ≡ false
          → Fits n m (pick t (setting (Err E.NoRoom) c) (setting (Ok tt) d)).content
      index? true q e = f
      index? false q e = fits_set e q

      go : (t : Bool) → over_text m d ≡ t
          → Fits n m (pick t (setting (Err E.ShareTooLarge) c)
          (pick (over_index n d) (setting (Err E.NoRoom) c) (setting (Ok tt) d))).content
      go true e = f
      go false e = index? (over_index n d) refl e

-- a setting leaves the lines
pub share_held : (n m : ℕ) (c : Content) (o b : ℕ) → (book_share n m c o b).content.held ≡ c.held
unfolding book_share
share_held n m c o b = go (over_text m (with_share o b c)) (over_index n (with_share o b c))
  where
    go : (x y : Bool) → (pick x (setting (Err E.ShareTooLarge) c) (pick y (setting (Err E.NoRoom) c)
        (setting (Ok tt) (with_share o b c)))).content.held ≡ c.held
    go true y = refl
    go false true = refl
    go false false = refl

-- ---- calls

module _ (n m : ℕ) (lm : m ≤ text_max) (S : Saving) (owed : Builds S) where
  held_fits : (c : Content) (f : Fits n m c) (hs : List Held) → Lines n m c.shares f.given f.front hs
      → Fits n m (with_held c hs)
  held_fits c f hs g = record { given = f.given; front = f.front; good = g.good; within = g.within }

  pub keeps_turn : (c : Content) → Fits n m c → (x : Call S) → Fits n m (book_after n m c x)
  unfolding book_turn shares_after
  keeps_turn c f clear = fits_none n m
  keeps_turn c f (insert p t) = go (owner_of p.party) (owner_byte p)
    where
      go : (w : Owner) → ((o : ℕ) → w ≡ Some o → o < 256)
          → Fits n m (with_held c (by_owner w (turn (inserted nobody_inserts) c.held)
          (λ o. replied {S = S} inserted (book_insert (caller n m c.shares o) c.held t))).held)
      go None b = f
      go (Some o) b =
          held_fits c f _ (keeps_insert n m c.shares f.given f.front o (b o refl) c.held
          (fits_lines n m c f) t)
  keeps_turn c f (save p a) = go (owner_of p.party) (owner_byte p)
    where
      go : (w : Owner) → ((o : ℕ) → w ≡ Some o → o < 256)
          → Fits n m (with_held c (by_owner w (turn (saved S.nobody) c.held)
          (λ o. replied {S = S} saved
          (book_attempt S.full S.crowded (caller n m c.shares o) c.held (S.attempt o a)))).held)
      go None b = f
      go (Some o) b =
          held_fits c f _ (keeps_save n m c.shares f.given f.front o (b o refl) S owed c.held
          (fits_lines n m c f) a)
  keeps_turn c f (share q b) =
      subst (λ (hs : List Held). Fits n m (record { shares = (book_share n m c q.byte b).content.shares; held = hs }))
      (share_held n m c q.byte b) (keeps_share n m lm c f q.byte b q.bits)

  pub keeps_run : (xs : List (Call S)) (c : Content) → Fits n m c → Fits n m (run_book n m c xs).content
  unfolding run_book
  keeps_run [] c f = f
  keeps_run (x ∷ xs) c f = keeps_run xs (book_after n m c x) (keeps_turn c f x)
