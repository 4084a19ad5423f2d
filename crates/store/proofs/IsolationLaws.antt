-- A party's look-ups go by what it filed itself since the last clear, which its own calls and their results tell.
-- Assumes nothing.
use Rattle.std.specs.Prelude.{Option as Optional, Some, None}
use mathlib.Core.Bool.{Bool, true, false}
use mathlib.Core.List.{List, [], ◌∷◌, ◌++◌, append-nil}
use mathlib.Core.Option.{Option, none, some}
use mathlib.Core.Path.{◌≡◌, refl, sym, ap, ◌∙◌}
use Prim.Native.Nat.{ℕ, zero, suc, ◌≤◌}
use lib.Dec.{eqb}
use borrow.Author.Tests.{eqb-true, eqb-false, ne_eqb}
use Rattle.text.specs.Bytes.{pick}
use Rattle.text.specs.Utf8.{is_utf8}
use Rattle.text.specs.Uuid.{without_checksum}
use Rattle.text.specs.declared.uuid.Uuid.{Uuid}
use Rattle.store.specs.declared.calls.Saved.{Saved}
use Rattle.store.specs.Parties.{owner_of, by_owner, Owner}
use Rattle.store.specs.Held.{Key, Held, key_by, same_key, index_max, text_max}
use Rattle.store.specs.Lines.{lines_of, wanted}
use Rattle.store.specs.Refusals.{save_number}
use Rattle.store.specs.Book.{caller, turn, nobody_inserts, book_insert, book_attempt, Attempt, refused, files, Call}
use Rattle.store.specs.Book.{Caller, clear, insert, save, share, Reply, cleared, inserted, saved, shared, replied}
use Rattle.store.specs.Book.{book_turn, book_after, run_book}
use Rattle.store.specs.Shares.{Content, nothing_held}
use Rattle.store.specs.Store.{no_owner, looked_in, look_up}
use Rattle.store.specs.Saves.{SaveCall, attempt_of, refused_save, saving}
use Rattle.store.specs.Filings.{Filing, filed_lines, filed_attempt, filed_by, since, filings, later_or, last_filed}
use Rattle.store.specs.Filings.{line_filed}
use Rattle.store.specs.Guarantee.{Calls, stored, last_of}
use Rattle.store.specs.Near.{nobody, near_in, near_up}
use Rattle.store.specs.Isolation.{Own, clears, inserts, saves, own_call, Deed, and_deed, deeds, Isolated}
use Rattle.store.proofs.BoolLaws.{and_false_left}
use Rattle.store.proofs.NearLaws.{near_after}
use Rattle.store.proofs.Saves.{builds, whole_guarantee}
use Rattle.store.proofs.ToldLaws.{helds, helds_append, wanted_under, told_lines, insert_told, told_attempt}
use Rattle.store.proofs.ToldLaws.{save_told}
use Rattle.store.specs.declared.calls.SaveError.TheVariants as Sv
use Rattle.text.specs.declared.uuid.Spelled.{Spelled}

-- ---- the last line under a key

unfoldable last_line : Key → List Held → Option (List ℕ)
last_line k [] = none
last_line k (h ∷ hs) = later_or (last_line k hs) (pick (same_key k h.key) (some h.line) none)

last_held : (k : Key) (fs : List (Filing saving)) → line_filed (last_filed k fs) ≡ last_line k (helds fs)
unfolding last_filed last_line helds
last_held k [] = refl
last_held k (f ∷ fs) =
    go (last_filed k fs) (same_key k f.held.key)
    ∙ ap (λ (o : Option (List ℕ)). later_or o (pick (same_key k f.held.key) (some f.held.line) none))
    (last_held k fs)
  where
    go : (o : Option (Filing saving)) (b : Bool)
        → line_filed (later_or o (pick b (some f) none)) ≡ later_or (line_filed o) (pick b (some f.held.line) none)
    go (some g) b = refl
    go none true = refl
    go none false = refl

later_assoc : (a b o : Option (List ℕ)) → later_or (later_or a b) o ≡ later_or a (later_or b o)
later_assoc none b o = refl
later_assoc (some x) b o = refl

last_both : (k : Key) (hs ks : List Held) → last_line k (hs ++ ks) ≡ later_or (last_line k ks) (last_line k hs)
unfolding last_line
last_both k [] ks = go (last_line k ks)
  where
    go : (o : Option (List ℕ)) → o ≡ later_or o none
    go none = refl
    go (some l) = refl
last_both k (h ∷ hs) ks =
    ap (λ (o : Option (List ℕ)). later_or o (pick (same_key k h.key) (some h.line) none)) (last_both k hs ks)
    ∙ later_assoc (last_line k ks) (last_line k hs) (pick (same_key k h.key) (some h.line) none)

-- another owner's lines are not under the key
abbrev Owned : ℕ → List Held → Type 0
Owned q [] = Unit {0}
Owned q (h ∷ hs) = (h.key.owner ≡ q) × Owned q hs

last_other : (k : Key) (q : ℕ) (hs : List Held) → (q ≡ k.owner → ⊥) → Owned q hs → last_line k hs ≡ none
unfolding last_line same_key
last_other k q [] n w = refl
last_other k q (h ∷ hs) n w =
    let e : eqb k.owner h.key.owner ≡ false
    = ne_eqb k.owner h.key.owner (λ z. n (sym (z ∙ w.0))) in
    ap (λ (o : Option (List ℕ)). later_or o (pick (same_key k h.key) (some h.line) none))
    (last_other k q hs n w.1)
    ∙ ap (λ (b : Bool). pick b (some h.line) none) (and_false_left (eqb k.owner h.key.owner) _ e)

-- ---- what a party's own call files, told by the call and its result

abbrev told : ℕ → Own → Reply saving → List Held
told o clears r = []
told o (inserts s) (inserted r) = told_lines o (lines_of s) r.count
told o (inserts s) (cleared r) = []
told o (inserts s) (saved v) = []
told o (inserts s) (shared r) = []
told o (saves a) (saved v) = told_attempt (attempt_of o a) (save_number v.answer)
told o (saves a) (inserted r) = []
told o (saves a) (cleared r) = []
told o (saves a) (shared r) = []

owned_lines : (q : ℕ) (ls : List (List ℕ)) (c : ℕ) → Owned q (told_lines q ls c)
unfolding told_lines
owned_lines q [] c = tt
owned_lines q (l ∷ ls) zero = tt
owned_lines q (l ∷ ls) (suc c) = go (wanted l) (owned_lines q ls c)
  where
    go : (y : Optional Spelled) → Owned q (told_lines q ls c) → Owned q (wanted_under q l y ++ told_lines q ls c)
    go None w = w
    go (Some g) w = (refl, w)

owned_save : (q : ℕ) (c : SaveCall) (k : ℕ) → Owned q (told_attempt (attempt_of q c.args) k)
owned_save q c k = go (attempt_of q c.args) refl
  where
    fits : (h : Held) → h.key.owner ≡ q → (b : Bool) → Owned q (pick b (h ∷ []) [])
    fits h e true = (e, tt)
    fits h e false = tt

    go : (y : Attempt Saved) → attempt_of q c.args ≡ y → Owned q (told_attempt y k)
    go (refused v) e = tt
    go (files h v) e = fits h (builds.owner q c h v e) (eqb k 0)

-- ---- a list of calls

-- what is filed since the last clear, by the party's own deeds
abbrev after_deed : ℕ → List Held → Own → Reply saving → List Held
after_deed o hs clears r = []
after_deed o hs (inserts s) r = hs ++ told o (inserts s) r
after_deed o hs (saves a) r = hs ++ told o (saves a) r

unfoldable after_all : ℕ → List Held → List Deed → List Held
after_all o hs [] = hs
after_all o hs (d ∷ ds) = after_all o (after_deed o hs d.call d.result) ds

abbrev after_call : ℕ → List Held → Option Own → Reply saving → List Held
after_call o hs none r = hs
after_call o hs (some x) r = after_deed o hs x r

and_deed_lem : (o : ℕ) (hs : List Held) (w : Option Own) (r : Reply saving) (ds : List Deed)
    → after_all o hs (and_deed w r ds) ≡ after_all o (after_call o hs w r) ds
unfolding after_all
and_deed_lem o hs none r ds = refl
and_deed_lem o hs (some x) r ds = refl

module _ (k : Key) where
  abbrev o : ℕ
  o = k.owner

  -- the filings fs and the lines gs have the same line last under the key
  abbrev Alike : List (Filing saving) → List Held → Type 0
  Alike fs gs = last_line k (helds fs) ≡ last_line k gs

  both : (fs xs : List (Filing saving)) → last_line k (helds (fs ++ xs))
      ≡ later_or (last_line k (helds xs)) (last_line k (helds fs))
  both fs xs = ap (last_line k) (helds_append fs xs) ∙ last_both k (helds fs) (helds xs)

  adds : (fs xs : List (Filing saving)) (gs ys : List Held) → Alike fs gs → last_line k (helds xs) ≡ last_line k ys
      → Alike (fs ++ xs) (gs ++ ys)
  adds fs xs gs ys e q =
      both fs xs ∙ ap (λ (w : Option (List ℕ)). later_or w (last_line k (helds fs))) q
      ∙ ap (later_or (last_line k ys)) e ∙ sym (last_both k gs ys)

  skips : (fs xs : List (Filing saving)) (gs : List Held) → Alike fs gs → last_line k (helds xs) ≡ none
      → Alike (fs ++ xs) gs
  skips fs xs gs e q = both fs xs ∙ ap (λ (w : Option (List ℕ)). later_or w (last_line k (helds fs))) q ∙ e

  skips-none : (fs : List (Filing saving)) (gs : List Held) → Alike fs gs → Alike (fs ++ []) gs
  skips-none fs gs e = ap (λ (xs : List (Filing saving)). last_line k (helds xs)) (append-nil fs) ∙ e

  module _ (n m : ℕ) where
    turn_alike : (p : ℕ) (d : Content) (fs : List (Filing saving)) (gs : List Held) (x : Call saving) → Alike fs gs
        → Alike (since x fs (filed_by p n m d x)) (after_call o gs (own_call o x) (book_turn n m d x).answer)
    unfolding book_turn
    turn_alike p d fs gs clear e = unfold helds in refl
    turn_alike p d fs gs (insert q s) e = go (owner_of q.party) (book_turn n m d (insert q s)).answer
      where
        by : ℕ → Caller
        by v = caller n m d.shares v

        filed : Reply saving → ℕ → List (Filing saving)
        filed a v = pick (is_utf8 s) (filed_lines p (insert q s) a (by v) d.held (lines_of s)) []

        is_told : (a : Reply saving) (v : ℕ)
            → helds (filed a v) ≡ told_lines v (lines_of s) (book_insert (by v) d.held s).answer.count
        is_told a v = insert_told (by v) p (insert q s) a s d.held

        own? : (a : Reply saving) (v : ℕ) (b : Bool) → eqb v o ≡ b
            → Alike (fs ++ filed a v)
            (after_call o gs (pick b (some (inserts s)) none) (inserted (book_insert (by v) d.held s).answer))
        own? a v true z =
            adds fs (filed a v) gs _ e
            (ap (last_line k) (is_told a v)
            ∙ ap (λ (w : ℕ). last_line k (told_lines w (lines_of s) (book_insert (by v) d.held s).answer.count))
            (eqb-true v o z))
        own? a v false z =
            skips fs (filed a v) gs e
            (ap (last_line k) (is_told a v) ∙ last_other k v _ (eqb-false v o z) (owned_lines v (lines_of s) _))

        go : (w : Owner) (a : Reply saving)
            → Alike (fs ++ by_owner w [] (λ v. filed a v))
            (after_call o gs (by_owner w none (λ v. pick (eqb v o) (some (inserts s)) none))
            (by_owner w (turn (inserted nobody_inserts) d.held)
            (λ v. replied {S = saving} inserted (book_insert (by v) d.held s))).answer)
        go None a = skips-none fs gs e
        go (Some v) a = own? a v (eqb v o) refl
    turn_alike p d fs gs (save q c) e = go (owner_of q.party) (book_turn n m d (save q c)).answer
      where
        by : ℕ → Caller
        by v = caller n m d.shares v

        filed : Reply saving → ℕ → List (Filing saving)
        filed a v = filed_attempt p (save q c) a (by v) d.held (attempt_of v c.args)

        value : ℕ → Saved
        value v =
            (book_attempt (refused_save Sv.NoRoom) (refused_save Sv.NoText) (by v) d.held (attempt_of v c.args)).answer

        is_told : (a : Reply saving) (v : ℕ)
            → helds (filed a v) ≡ told_attempt (attempt_of v c.args) (save_number (value v).answer)
        is_told a v = save_told (by v) p (save q c) a v c.args d.held

        own? : (a : Reply saving) (v : ℕ) (b : Bool) → eqb v o ≡ b
            → Alike (fs ++ filed a v) (after_call o gs (pick b (some (saves c.args)) none) (saved (value v)))
        own? a v true z =
            adds fs (filed a v) gs _ e
            (ap (last_line k) (is_told a v)
            ∙ ap (λ (w : ℕ). last_line k (told_attempt (attempt_of w c.args) (save_number (value v).answer)))
            (eqb-true v o z))
        own? a v false z =
            skips fs (filed a v) gs e
            (ap (last_line k) (is_told a v) ∙ last_other k v _ (eqb-false v o z) (owned_save v c _))

        go : (w : Owner) (a : Reply saving)
            → Alike (fs ++ by_owner w [] (λ v. filed a v))
            (after_call o gs (by_owner w none (λ v. pick (eqb v o) (some (saves c.args)) none))
            (by_owner w (turn (saved (refused_save Sv.NoOwner)) d.held)
            (λ v. replied {S = saving} saved
            (book_attempt (refused_save Sv.NoRoom) (refused_save Sv.NoText) (by v) d.held
            (attempt_of v c.args)))).answer)
        go None a = skips-none fs gs e
        go (Some v) a = own? a v (eqb v o) refl
    turn_alike p d fs gs (share q b) e = skips-none fs gs e

    run_alike : (xs : Calls) (p : ℕ) (d : Content) (fs : List (Filing saving)) (gs : List Held) → Alike fs gs
        → Alike (filings p n m d fs xs) (after_all o gs (deeds o xs (run_book n m d xs).answers))
    unfolding filings run_book deeds
    run_alike [] p d fs gs e = e ∙ unfold after_all in refl
    run_alike (x ∷ xs) p d fs gs e =
        run_alike xs (suc p) (book_after n m d x) (since x fs (filed_by p n m d x))
        (after_call o gs (own_call o x) (book_turn n m d x).answer) (turn_alike p d fs gs x e)
        ∙ ap (last_line k) (sym (and_deed_lem o gs (own_call o x) (book_turn n m d x).answer
        (deeds o xs (run_book n m (book_after n m d x) xs).answers)))

    -- the line last filed under the key, by the deeds alone
    by-deeds : n ≤ index_max → m ≤ text_max → (xs : Calls)
        → line_filed (last_of n m xs k) ≡ last_line k (after_all o [] (deeds o xs (stored n m xs).answers))
    by-deeds ln lm xs =
        last_held k (filings 0 n m nothing_held [] xs)
        ∙ run_alike xs 0 nothing_held [] [] (unfold helds in refl)
        ∙ ap (λ (rs : List (Reply saving)). last_line k (after_all o [] (deeds o xs rs)))
        (sym (whole_guarantee n m ln lm xs).answers)

pub isolated : Isolated
isolated p o own n m n' m' ln lm ln' lm' xs ys e = record {
  same = λ u. looks n m ln lm xs u ∙ ap looked_in (line u) ∙ sym (looks n' m' ln' lm' ys u);
  same_near = λ u.
      nears n m ln lm xs u
      ∙ ap (λ (a : Option (List ℕ)). near_in a (line_filed (last_of n m xs (key_by o (without_checksum u))))) (line u)
      ∙ ap (near_in (line_filed (last_of n' m' ys (key_by o u)))) (line (without_checksum u))
      ∙ sym (nears n' m' ln' lm' ys u);
}
  where
    line : (u : Uuid) → line_filed (last_of n m xs (key_by o u)) ≡ line_filed (last_of n' m' ys (key_by o u))
    line u =
        by-deeds (key_by o u) n m ln lm xs
        ∙ ap (λ (ds : List Deed). last_line (key_by o u) (after_all o [] ds)) e
        ∙ sym (by-deeds (key_by o u) n' m' ln' lm' ys)

    looks : (a b : ℕ) → a ≤ index_max → b ≤ text_max → (zs : Calls) (u : Uuid)
        → look_up p u (stored a b zs).index (stored a b zs).text ≡ looked_in (line_filed (last_of a b zs (key_by o u)))
    looks a b la lb zs u =
        (whole_guarantee a b la lb zs).finds p u
        ∙ ap (λ (w : Owner). by_owner w no_owner (λ r. looked_in (line_filed (last_of a b zs (key_by r u))))) own

    nears : (a b : ℕ) → a ≤ index_max → b ≤ text_max → (zs : Calls) (u : Uuid)
        → near_up p u (stored a b zs).index (stored a b zs).text
        ≡ near_in (line_filed (last_of a b zs (key_by o u))) (line_filed (last_of a b zs (key_by o (without_checksum u))))
    nears a b la lb zs u =
        near_after a b la lb zs p u
        ∙ ap (λ (w : Owner). by_owner w nobody (λ r. near_in (line_filed (last_of a b zs (key_by r u)))
        (line_filed (last_of a b zs (key_by r (without_checksum u)))))) own
