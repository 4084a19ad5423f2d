-- What a save filed is what it attempted, and the save stands at its filing's place in the list of calls.
-- Assumes nothing.
use Rattle.std.specs.Prelude.{Option as Optional, Result, Ok, Err, ⊤, Some, None}
use mathlib.Core.Bool.{Bool, true, false}
use mathlib.Core.List.{List, [], ◌∷◌, ◌++◌}
use mathlib.Core.Option.{Option, none, some}
use mathlib.Core.Path.{◌≡◌, refl, sym, ap, ◌∙◌, subst}
use Prim.Native.Nat.{ℕ, suc, ◌+◌}
use native.Mathlib.Omega.{arith}
use Rattle.text.specs.Bytes.{pick}
use Rattle.text.specs.Utf8.{is_utf8}
use Rattle.store.specs.Parties.{owner_of, by_owner, Named, Owner}
use Rattle.store.specs.Book.{Caller, caller, turn, room_for, by_room, Reached, after, stopped, reach, on_reached}
use Rattle.store.specs.Book.{replied}
use Rattle.store.specs.Book.{Attempt, refused, files, Saving, book_attempt, Call, clear, insert, save, Reply}
use Rattle.store.specs.Book.{saved}
use Rattle.store.specs.Book.{share, book_turn, book_after, run_book}
use Rattle.store.specs.Shares.{Content, nothing_held}
use Rattle.store.specs.Filings.{Filing, filing, filed_line, filed_lines, filed_attempt, filed_as, filed_by, since}
use Rattle.store.specs.Filings.{filings, later_or, last_filed, nth}
use Rattle.store.specs.Held.{Key, Held, same_key, file}
use Rattle.store.specs.Lines.{lines_of, wanted}
use Rattle.store.proofs.HeldLaws.{same_eq}
use Rattle.store.specs.declared.table.Full.TheVariants as R
use Rattle.store.specs.declared.table.Full.{Full}
use Rattle.text.specs.declared.uuid.Spelled.{Spelled}

abbrev Every : {A : Type 0} → (A → Type 0) → List A → Type 0
Every P [] = Unit {0}
Every P (x ∷ xs) = P x × Every P xs

every_append : {A : Type 0} (P : A → Type 0) (xs ys : List A) → Every P xs → Every P ys → Every P (xs ++ ys)
every_append P [] ys p q = q
every_append P (x ∷ xs) ys p q = (p.0, every_append P xs ys p.1 q)

every-also : {A : Type 0} (P Q : A → Type 0) (xs : List A) → ((x : A) → P x → Q x) → Every P xs → Every Q xs
every-also P Q [] f p = tt
every-also P Q (x ∷ xs) f p = (f x p.0, every-also P Q xs f p.1)

module _ (S : Saving) where
  -- a filing by the call x at place p, whose answer is r
  record By (p : ℕ) (x : Call S) (r : Reply S) (f : Filing S) : Type 0 where
    at_is : f.at ≡ p
    by_is : f.by ≡ x
    answer_is : f.answer ≡ r

  module _ (c : Caller) (p : ℕ) (x : Call S) (r : Reply S) where
    by_line : (l : List ℕ) (y : Optional Spelled) → Every (By p x r) (filed_line p x r c.owner l y)
    by_line l None = tt
    by_line l (Some u) = (record { at_is = refl; by_is = refl; answer_is = refl }, tt)

    by_lines : (ls : List (List ℕ)) (hs : List Held) → Every (By p x r) (filed_lines p x r c hs ls)
    unfolding filed_lines
    by_lines [] hs = tt
    by_lines (l ∷ ls) hs = go (reach c hs l) (λ (ks : List Held). by_lines ls ks)
      where
        go : (y : Reached) → ((ks : List Held) → Every (By p x r) (filed_lines p x r c ks ls))
            → Every (By p x r) (on_reached y (λ e. [])
            (λ ks. filed_line p x r c.owner l (wanted l) ++ filed_lines p x r c ks ls))
        go (stopped e) ih = tt
        go (after ks) ih = every_append (By p x r) (filed_line p x r c.owner l (wanted l))
            (filed_lines p x r c ks ls) (by_line l (wanted l)) (ih ks)

    by_insert : (s : List ℕ) (hs : List Held)
        → Every (By p x r) (pick (is_utf8 s) (filed_lines p x r c hs (lines_of s)) [])
    by_insert s hs = go (is_utf8 s)
      where
        go : (b : Bool) → Every (By p x r) (pick b (filed_lines p x r c hs (lines_of s)) [])
        go true = by_lines (lines_of s) hs
        go false = tt

    by_save : (y : Attempt S.Value) (hs : List Held) → Every (By p x r) (filed_attempt p x r c hs y)
    by_save (refused v) hs = tt
    by_save (files h v) hs = go (room_for c h hs)
      where
        go : (b : Result ⊤ Full) → Every (By p x r) (by_room b [] [] (filing p x r h ∷ []))
        go (Err R.Index) = tt
        go (Err R.Text) = tt
        go (Ok u) = (record { at_is = refl; by_is = refl; answer_is = refl }, tt)

  by_as : (p n m : ℕ) (r : Reply S) (c : Content) (x : Call S) → Every (By p x r) (filed_as p r n m c x)
  by_as p n m r c clear = tt
  by_as p n m r c (insert q s) = go (owner_of q.party)
    where
      go : (w : Owner)
          → Every (By p (insert q s) r) (by_owner w []
          (λ o. pick (is_utf8 s)
          (filed_lines p (insert q s) r (caller n m c.shares o) c.held (lines_of s)) []))
      go None = tt
      go (Some o) = by_insert (caller n m c.shares o) p (insert q s) r s c.held
  by_as p n m r c (save q a) = go (owner_of q.party)
    where
      go : (w : Owner)
          → Every (By p (save q a) r) (by_owner w []
          (λ o. filed_attempt p (save q a) r (caller n m c.shares o) c.held (S.attempt o a)))
      go None = tt
      go (Some o) = by_save (caller n m c.shares o) p (save q a) r (S.attempt o a) c.held
  by_as p n m r c (share q b) = tt

  -- where a save filed it, the line and the answer are those of the attempt for its owner
  record Honestly (f : Filing S) (q : Named) (a : S.Args) : Type 0 where
    owner : ℕ
    value : S.Value
    own : owner_of q.party ≡ Some owner
    attempted : S.attempt owner a ≡ files f.held value
    answers : f.answer ≡ saved value

  abbrev Honest : Filing S → Type 0
  Honest f = (q : Named) (a : S.Args) → f.by ≡ save q a → Honestly f q a

  inserted_not : (p q : Named) (s : List ℕ) (a : S.Args) → ◌≡◌ {A = Call S} (insert p s) (save q a) → ⊥
  inserted_not p q s a e = let z : ◌≡◌ {A = ℕ} 0 1 = cc in omega arith

  module _ (n m : ℕ) where
    honest_turn : (p : ℕ) (c : Content) (x : Call S) → Every Honest (filed_by p n m c x)
    honest_turn p c clear = tt
    honest_turn p c (insert q s) =
        every-also (By p (insert q s) (book_turn n m c (insert q s)).answer) Honest (filed_by p n m c (insert q s))
        (λ f b r a e. absurd (inserted_not q r s a (sym b.by_is ∙ e)))
        (by_as p n m (book_turn n m c (insert q s)).answer c (insert q s))
    honest_turn p c (save q x) = go (owner_of q.party) refl
      where
        same_party : (r : Named) (a : S.Args) → ◌≡◌ {A = Call S} (save q x) (save r a) → q ≡ r
        same_party r a e = cc

        same_args : (r : Named) (a : S.Args) → ◌≡◌ {A = Call S} (save q x) (save r a) → x ≡ a
        same_args r a e = cc

        by : ℕ → Caller
        by o = caller n m c.shares o

        its : Reply S
        its = (book_turn n m c (save q x)).answer

        answer : (o : ℕ) → owner_of q.party ≡ Some o → (h : Held) (v : S.Value) → S.attempt o x ≡ files h v
            → room_for (by o) h c.held ≡ Ok tt → its ≡ saved v
        answer o w h v e r =
            unfold book_turn in (ap (λ (y : Owner). (by_owner y (turn (saved S.nobody) c.held)
            (λ o. replied {S = S} saved
            (book_attempt S.full S.crowded (by o) c.held (S.attempt o x)))).answer) w
            ∙ ap (λ (y : Attempt S.Value). saved (book_attempt S.full S.crowded (by o) c.held y).answer) e
            ∙ ap (λ (b : Result ⊤ Full). saved (by_room b (turn S.full c.held) (turn S.crowded c.held)
            (turn v (file h c.held))).answer) r)

        fits : (o : ℕ) → owner_of q.party ≡ Some o → (h : Held) (v : S.Value) → S.attempt o x ≡ files h v
            → (b : Result ⊤ Full) → room_for (by o) h c.held ≡ b
            → Every Honest (by_room b [] [] (filing p (save q x) its h ∷ []))
        fits o w h v e (Err R.Index) r = tt
        fits o w h v e (Err R.Text) r = tt
        fits o w h v e (Ok u) r = (
          λ r' a z. record {
            owner = o;
            value = v;
            own = ap (λ (y : Named). owner_of y.party) (sym (same_party r' a z)) ∙ w;
            attempted = ap (S.attempt o) (sym (same_args r' a z)) ∙ e;
            answers = answer o w h v e r;
          },
          tt,
        )

        tried : (o : ℕ) → owner_of q.party ≡ Some o → (y : Attempt S.Value) → S.attempt o x ≡ y
            → Every Honest (filed_attempt p (save q x) its (by o) c.held y)
        tried o w (refused v) e = tt
        tried o w (files h v) e = fits o w h v e (room_for (by o) h c.held) refl

        go : (w : Owner) → owner_of q.party ≡ w
            → Every Honest (by_owner w []
            (λ o. filed_attempt p (save q x) its (by o) c.held (S.attempt o x)))
        go None e = tt
        go (Some o) e = tried o e (S.attempt o x) refl
    honest_turn p c (share q b) = tt

    -- what holds of the filings of every call holds of those of a list
    every_run : (P : Filing S → Type 0) (xs : List (Call S)) (p : ℕ) (c : Content) (fs : List (Filing S))
        → Every P fs → ((k : ℕ) (d : Content) (x : Call S) → Every P (filed_by k n m d x))
        → Every P (filings p n m c fs xs)
    unfolding filings
    every_run P [] p c fs q t = q
    every_run P (x ∷ xs) p c fs q t =
        every_run P xs (suc p) (book_after n m c x) (since x fs (filed_by p n m c x)) (more x (t p c x)) t
      where
        more : (x : Call S) → Every P (filed_by p n m c x) → Every P (since x fs (filed_by p n m c x))
        more clear z = tt
        more (insert r s) z = every_append P fs (filed_by p n m c (insert r s)) q z
        more (save r a) z = every_append P fs (filed_by p n m c (save r a)) q z
        more (share r b) z = every_append P fs (filed_by p n m c (share r b)) q z

    -- a filing's call and its answer stand at its place, in lists whose part from p on these are
    module _ (all : List (Call S)) (rs : List (Reply S)) where
      abbrev Placed : Filing S → Type 0
      Placed f = (nth all f.at ≡ some f.by) × (nth rs f.at ≡ some f.answer)

      placed_by : (p : ℕ) (x : Call S) (r : Reply S) → nth all p ≡ some x → nth rs p ≡ some r
          → (f : Filing S) → By p x r f → Placed f
      placed_by p x r e q f b = (
        ap (nth all) b.at_is ∙ e ∙ ap some (sym b.by_is),
        ap (nth rs) b.at_is ∙ q ∙ ap some (sym b.answer_is),
      )

      placed_run : (xs : List (Call S)) (p : ℕ) (c : Content) (fs : List (Filing S)) → Every Placed fs
          → ((k : ℕ) → nth all (p + k) ≡ nth xs k) → ((k : ℕ) → nth rs (p + k) ≡ nth (run_book n m c xs).answers k)
          → Every Placed (filings p n m c fs xs)
      unfolding filings run_book
      placed_run [] p c fs q a b = q
      placed_run (x ∷ xs) p c fs q a b =
          placed_run xs (suc p) (book_after n m c x) (since x fs (filed_by p n m c x)) (more x here)
          (λ k. ap (nth all) (on k) ∙ a (suc k) ∙ unfold nth in refl)
          (λ k. ap (nth rs) (on k) ∙ b (suc k) ∙ unfold nth in refl)
        where
          on : (k : ℕ) → suc p + k ≡ p + suc k
          on k = omega arith

          first : p ≡ p + 0
          first = omega arith

          here : Every Placed (filed_by p n m c x)
          here =
              every-also (By p x (book_turn n m c x).answer) Placed (filed_by p n m c x)
              (placed_by p x (book_turn n m c x).answer (ap (nth all) first ∙ a 0 ∙ unfold nth in refl)
              (ap (nth rs) first ∙ b 0 ∙ unfold nth in refl))
              (by_as p n m (book_turn n m c x).answer c x)

          more : (y : Call S) → Every Placed (filed_by p n m c y) → Every Placed (since y fs (filed_by p n m c y))
          more clear z = tt
          more (insert r s) z = every_append Placed fs (filed_by p n m c (insert r s)) q z
          more (save r x) z = every_append Placed fs (filed_by p n m c (save r x)) q z
          more (share r x) z = every_append Placed fs (filed_by p n m c (share r x)) q z

    -- the last filing under a key is one of the filings, and under that key
    last_is : (P : Filing S → Type 0) (k : Key) (fs : List (Filing S)) (f : Filing S) → Every P fs
        → last_filed k fs ≡ some f → P f × (f.held.key ≡ k)
    unfolding last_filed
    last_is P k [] f p e = let z : ◌≡◌ {A = ℕ} 0 1 = cc in absurd (omega arith)
    last_is P k (g ∷ fs) f p e = go (last_filed k fs) refl e (last_is P k fs f p.1)
      where
        here : (b : Bool) → same_key k g.held.key ≡ b → pick b (some g) none ≡ some f → P f × (f.held.key ≡ k)
        here true q e =
            let w : g ≡ f = cc in
            subst (λ (x : Filing S). P x × (x.held.key ≡ k)) w (p.0, sym (same_eq k g.held.key q))
        here false q e = let z : ◌≡◌ {A = ℕ} 0 1 = cc in absurd (omega arith)

        go : (o : Option (Filing S)) → last_filed k fs ≡ o
            → later_or o (pick (same_key k g.held.key) (some g) none) ≡ some f
            → (last_filed k fs ≡ some f → P f × (f.held.key ≡ k)) → P f × (f.held.key ≡ k)
        go none q e ih = here (same_key k g.held.key) refl e
        go (some x) q e ih = let w : x ≡ f = cc in ih (q ∙ ap some w)

    -- the save that filed the line which was last filed under k: its owner, what it attempted and answered, and where it
    -- stands
    pub record SaveFiled (xs : List (Call S)) (k : Key) (f : Filing S) (q : Named) (a : S.Args) : Type 0 where
      pub owner : ℕ
      pub value : S.Value
      pub own : owner_of q.party ≡ Some owner
      pub attempted : S.attempt owner a ≡ files f.held value
      pub under : f.held.key ≡ k
      pub stands : nth xs f.at ≡ some (save q a)
      pub replied : nth (run_book n m nothing_held xs).answers f.at ≡ some (saved value)

    pub last_saved : (xs : List (Call S)) (k : Key) (f : Filing S) (q : Named) (a : S.Args)
        → last_filed k (filings 0 n m nothing_held [] xs) ≡ some f → f.by ≡ save q a → SaveFiled xs k f q a
    last_saved xs k f q a e b =
        let rs : List (Reply S) = (run_book n m nothing_held xs).answers in
        let r : Honest f × (f.held.key ≡ k) =
        last_is Honest k (filings 0 n m nothing_held [] xs) f (every_run Honest xs 0 nothing_held [] tt honest_turn) e in
        let w : Honestly f q a = r.0 q a b in
        let y : Placed xs rs f =
        (last_is (Placed xs rs) k (filings 0 n m nothing_held [] xs) f
        (placed_run xs rs xs 0 nothing_held [] tt (λ i. ap (nth xs) (from_0 i)) (λ i. ap (nth rs) (from_0 i))) e).0 in
        record {
          owner = w.owner;
          value = w.value;
          own = w.own;
          attempted = w.attempted;
          under = r.1;
          stands = y.0 ∙ ap some b;
          replied = y.1 ∙ ap some w.answers;
        }
      where
        from_0 : (i : ℕ) → 0 + i ≡ i
        from_0 i = omega arith
