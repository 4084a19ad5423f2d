-- What a removal leaves: the lines but one, which fit where they stood, and every other look-up as it was.
-- Assumes nothing.
use Rattle.std.specs.Prelude.{Result, Ok, Err, Some, None}
use mathlib.Core.Bool.{Bool, true, false}
use mathlib.Core.List.{List, [], ◌∷◌}
use mathlib.Core.Option.{Option, none, some}
use mathlib.Core.Path.{◌≡◌, refl, sym, ap, ap₂, ◌∙◌, subst}
use Prim.Native.Nat.{ℕ, suc, ◌+◌, ◌-◌, ◌≤◌}
use native.Mathlib.Omega.{arith}
use lib.Dec.{eqb, ltb}
use lib.ListN.{length}
use borrow.Author.Tests.{ltb-true, ltb-false}
use Rattle.text.specs.Bytes.{pick}
use Rattle.text.specs.Uuid.{without_checksum}
use Rattle.text.specs.declared.uuid.Uuid.{Uuid}
use Rattle.store.specs.declared.parties.Party.{Party}
use Rattle.store.specs.Parties.{owner_of, by_owner, Owner}
use Rattle.store.specs.Held.{Key, Held, key_by, same_key, strike, find, holds, index_max, text_max}
use Rattle.store.specs.Shares.{Content, nothing_held, use_of, larger, claims_from, share_sizes, with_held}
use Rattle.store.specs.Layout.{Encodes, encode_index, encode_text}
use Rattle.store.specs.Decode.{content}
use Rattle.store.specs.Inner.{Good}
use Rattle.store.specs.Store.{Done, unchanged, holding, looked_in, looked_at, look_by, look_up, no_owner, says_of}
use Rattle.store.specs.Saves.{saving}
use Rattle.store.specs.Guarantee.{fresh}
use Rattle.store.specs.Promises.{Untouched}
use Rattle.store.specs.Near.{nobody, near_in, near_at, near_by, near_up}
use Rattle.store.specs.Removing.{removed_from, remove_by, store_remove, RemovalsLeave, Other, Removed, AllRemoved}
use Rattle.store.specs.Removing.{Act, calls, removes, Said, said, store_act, Acted, and_acted, run_acts, BookActed}
use Rattle.store.specs.Removing.{BookAct, book_act, book_acts, WithRemovals}
use Rattle.store.specs.Removing as removing
use Rattle.store.specs.declared.calls.LookError.{LookError}
use Rattle.store.specs.declared.calls.LookError.TheVariants as L
use Rattle.store.proofs.BookLaws.{Fits, fits_none, keeps_turn}
use Rattle.store.proofs.BoolLaws.{true-false, or_left, or_right}
use Rattle.store.proofs.DecodeLaws.{length_text}
use Rattle.store.proofs.EncodesLaws.{content_encodes, encodes_fit}
use Rattle.store.proofs.HeldLaws.{same_eq, struck, distinct-strike, shapes_strike, find-strike}
use Rattle.store.proofs.PartyLaws.{remove_nobody}
use Rattle.store.proofs.RemovingLaws.{find_holds, room_struck, texts_struck}
use Rattle.store.proofs.Saves.{builds}
use Rattle.store.proofs.ShareLaws.{length_encoded, content_encoded}
use Rattle.store.proofs.StoreLaws.{one_call, fresh_index, fresh_text}

-- ---- lines without one

pub strike_none : (k : Key) (hs : List Held) → holds k hs ≡ false → strike k hs ≡ hs
unfolding strike holds
strike_none k [] e = refl
strike_none k (h ∷ hs) e =
    ap₂ (λ (b : Bool) (ks : List Held). pick b ks (h ∷ ks)) (or_left (same_key k h.key) (holds k hs) e)
    (strike_none k hs (or_right (same_key k h.key) (holds k hs) e))

find_struck : (k : Key) (hs : List Held) → find k (strike k hs) ≡ none
find_struck k hs = go (find k (strike k hs)) refl
  where
    go : (o : Option (List ℕ)) → find k (strike k hs) ≡ o → o ≡ none
    go none e = refl
    go (some l) e = absurd (true-false (sym (find_holds k (strike k hs) (some l) e) ∙ struck k hs))

-- they claim no more
use_struck : (o : ℕ) (k : Key) (hs : List Held) → use_of o (strike k hs) ≤ use_of o hs
unfolding use_of strike
use_struck o k [] = omega arith
use_struck o k (h ∷ hs) = go (same_key k h.key) (use_struck o k hs)
  where
    go : (b : Bool) → use_of o (strike k hs) ≤ use_of o hs
        → use_of o (pick b (strike k hs) (h ∷ strike k hs)) ≤ pick (eqb h.key.owner o) (length h.line) 0 + use_of o hs
    go true l = omega (arith, l)
    go false l = omega (arith, l)

larger_more : (x y b : ℕ) → x ≤ y → larger x b ≤ larger y b
larger_more x y b l = go (ltb x b) (ltb y b) refl refl
  where
    go : (p q : Bool) → ltb x b ≡ p → ltb y b ≡ q → pick p b x ≤ pick q b y
    go true true e f = omega arith
    go true false e f = omega (arith, ltb-false y b f)
    go false true e f = absurd (omega (arith, ltb-false x b e, ltb-true y b f, l))
    go false false e f = l

claims_struck : (k : Key) (hs : List Held) (g : List ℕ) (o : ℕ) → claims_from o g (strike k hs) ≤ claims_from o g hs
unfolding claims_from
claims_struck k hs [] o = omega arith
claims_struck k hs (b ∷ g) o = omega (
  arith,
  larger_more (use_of o (strike k hs)) (use_of o hs) b (use_struck o k hs),
  claims_struck k hs g (suc o),
)

good_struck : (n m : ℕ) (k : Key) (hs : List Held) → Good n m hs → Good n m (strike k hs)
good_struck n m k hs g = record {
  shapes = shapes_strike k hs g.shapes;
  once = distinct-strike k hs g.once;
  index = omega (arith, room_struck k hs, g.index);
  text = omega (arith, texts_struck k hs, g.text);
}

fits_struck : (n m : ℕ) (k : Key) (c : Content) → Fits n m c → Fits n m (with_held c (strike k c.held))
fits_struck n m k c f = record {
  given = f.given;
  front = f.front;
  good = good_struck (n - share_sizes c.shares) m k c.held f.good;
  within = omega (arith, claims_struck k c.held c.shares 0, f.within);
}

-- ---- refused, or without a line

-- what a removal comes to, by whether a line is held
abbrev left_by : List ℕ → List ℕ → Key → Content → Bool → Done (Result Bool LookError)
left_by i t k c b = pick b (holding i t (Ok true) (with_held c (strike k c.held))) (unchanged i t (Ok false))

module _ (i t : List ℕ) where
  -- an answer that is not true leaves the buffers
  leaves : (p : Party) (u : Uuid) → ((store_remove i t p u).answer ≡ Ok true → ⊥) → Untouched i t (store_remove i t p u)
  unfolding store_remove remove_by
  leaves p u = party (owner_of p)
    where
      one : (k : Key) (c : Content) (b : Bool) → ((left_by i t k c b).answer ≡ Ok true → ⊥)
          → Untouched i t (left_by i t k c b)
      one k c true n = absurd (n refl)
      one k c false n = refl

      sound : (k : Key) (o : Option Content) → ((removed_from k i t o).answer ≡ Ok true → ⊥)
          → Untouched i t (removed_from k i t o)
      sound k none n = refl
      sound k (some c) n = one k c (holds k c.held) n

      of_party : Owner → Done (Result Bool LookError)
      of_party w = by_owner w (unchanged i t (Err L.NoOwner)) (λ o. removed_from (key_by o u) i t (content i t))

      party : (w : Owner) → ((of_party w).answer ≡ Ok true → ⊥) → Untouched i t (of_party w)
      party None n = refl
      party (Some o) n = sound (key_by o u) (content i t) n

  pub removals_leave : RemovalsLeave i t
  removals_leave = record {
    remove_refused = λ p u e q. leaves p u (λ z. let y : ◌≡◌ {A = ℕ} 0 1 = cc in absurd (omega arith));
    none_held = λ p u q. leaves p u (λ z. true-false (answer_is (sym z ∙ q)));
  }
    where
      answer_is : ◌≡◌ {A = Result Bool LookError} (Ok true) (Ok false) → true ≡ false
      answer_is e = cc

-- ---- one removal

module _ (i t : List ℕ) (c : Content) (e : content i t ≡ some c) where
  remove_is : (p : Party) (o : ℕ) → owner_of p ≡ Some o → (u : Uuid)
      → store_remove i t p u ≡ left_by i t (key_by o u) c (holds (key_by o u) c.held)
  unfolding store_remove remove_by
  remove_is p o q u =
      ap (λ (w : Owner). by_owner w (unchanged i t (Err L.NoOwner)) (λ r. removed_from (key_by r u) i t (content i t))) q
      ∙ ap (removed_from (key_by o u) i t) e

  -- look-ups go by what is held
  finds : (q : Party) (v : Uuid)
      → look_up q v i t ≡ by_owner (owner_of q) no_owner (λ r. looked_in (find (key_by r v) c.held))
  unfolding look_up look_by
  finds q v = ap (λ (o : Option Content). by_owner (owner_of q) no_owner (λ r. looked_at (key_by r v) o)) e

  finds_near : (q : Party) (v : Uuid)
      → near_up q v i t
      ≡ by_owner (owner_of q) nobody
      (λ r. near_in (find (key_by r v) c.held) (find (key_by r (without_checksum v)) c.held))
  unfolding near_up near_by
  finds_near q v = ap (λ (o : Option Content). by_owner (owner_of q) nobody (λ r. near_at (key_by r v) o)) e

-- another key's line stays
other_key : (p q : Party) (o r : ℕ) (u v : Uuid) → owner_of p ≡ Some o → owner_of q ≡ Some r → Other p u q v
    → same_key (key_by r v) (key_by o u) ≡ false
other_key p q o r u v a b n = go (same_key (key_by r v) (key_by o u)) refl
  where
    go : (x : Bool) → same_key (key_by r v) (key_by o u) ≡ x → x ≡ false
    go false e = refl
    go true e =
        let z : key_by r v ≡ key_by o u = same_eq (key_by r v) (key_by o u) e in
        absurd (n (b ∙ ap (λ (k : Key). Some k.owner) z ∙ sym a) (ap (λ (k : Key). k.uuid) z))

module _ (i t : List ℕ) (c : Content) (e : content i t ≡ some c) (p : Party) (o : ℕ) (own : owner_of p ≡ Some o)
    (u : Uuid) where
  abbrev k : Key
  k = key_by o u

  abbrev left : Content
  left = with_held c (strike k c.held)

  -- by its answer and by what is held then
  by_content : (d : Done (Result Bool LookError)) → d.answer ≡ Ok (holds k c.held)
      → content d.index d.text ≡ some left → Removed i t c p k d
  by_content d a w = record {
    says = a ∙ sym (ap says_of (finds i t c e p u ∙ mine c.held) ∙ told (find k c.held) refl);
    held = w;
    gone = finds d.index d.text left w p u ∙ mine (strike k c.held) ∙ ap looked_in (find_struck k c.held);
    same = λ q v n. finds d.index d.text left w q v ∙ same_by q v n (owner_of q) refl ∙ sym (finds i t c e q v);
    same_near = λ q v n s.
        finds_near d.index d.text left w q v ∙ near_same q v n s (owner_of q) refl ∙ sym (finds_near i t c e q v);
  }
    where
      mine : (hs : List Held)
          → by_owner (owner_of p) no_owner (λ r. looked_in (find (key_by r u) hs)) ≡ looked_in (find k hs)
      mine hs = ap (λ (z : Owner). by_owner z no_owner (λ r. looked_in (find (key_by r u) hs))) own

      told : (x : Option (List ℕ)) → find k c.held ≡ x → says_of (looked_in x) ≡ Ok (holds k c.held)
      told none f = ap (λ (b : Bool). Ok b) (sym (find_holds k c.held none f))
      told (some l) f = ap (λ (b : Bool). Ok b) (sym (find_holds k c.held (some l) f))

      other : (q : Party) (v : Uuid) → Other p u q v → (r : ℕ) → owner_of q ≡ Some r
          → find (key_by r v) (strike k c.held) ≡ find (key_by r v) c.held
      other q v n r f = find-strike (key_by r v) k c.held (other_key p q o r u v own f n)

      same_by : (q : Party) (v : Uuid) → Other p u q v → (z : Owner) → owner_of q ≡ z
          → by_owner z no_owner (λ r. looked_in (find (key_by r v) (strike k c.held)))
          ≡ by_owner z no_owner (λ r. looked_in (find (key_by r v) c.held))
      same_by q v n None f = refl
      same_by q v n (Some r) f = ap looked_in (other q v n r f)

      near_same : (q : Party) (v : Uuid) → Other p u q v → Other p u q (without_checksum v)
          → (z : Owner) → owner_of q ≡ z
          → by_owner z nobody (λ r. near_in (find (key_by r v) (strike k c.held))
          (find (key_by r (without_checksum v)) (strike k c.held)))
          ≡ by_owner z nobody (λ r. near_in (find (key_by r v) c.held) (find (key_by r (without_checksum v)) c.held))
      near_same q v n s None f = refl
      near_same q v n s (Some r) f = ap₂ near_in (other q v n r f) (other q (without_checksum v) s r f)

pub removed : AllRemoved
removed i t b c e p o own u =
    subst (Removed i t c p (key_by o u)) (sym (remove_is i t c e p o own u))
    (by_content i t c e p o own u (left_by i t (key_by o u) c (holds (key_by o u) c.held))
    (answers (holds (key_by o u) c.held)) (holding_left (key_by o u) (holds (key_by o u) c.held) refl))
  where
    answers : (x : Bool) → (left_by i t (key_by o u) c x).answer ≡ Ok x
    answers true = refl
    answers false = refl

    holding_left : (k : Key) (x : Bool) → holds k c.held ≡ x
        → content (left_by i t k c x).index (left_by i t k c x).text ≡ some (with_held c (strike k c.held))
    holding_left k true q =
        let w : Encodes i t c = content_encodes i t c b e in
        let f = encodes_fit i t c w in
        content_encoded (length i) (length t) (with_held c (strike k c.held)) w.given f.0
        (good_struck (length i - share_sizes c.shares) (length t) k c.held f.1) w.index_most w.text_most
    holding_left k false q = e ∙ ap (λ (hs : List Held). some (with_held c hs)) (sym (strike_none k c.held q))

-- ---- removals among the calls

-- the book's turn of a removal
abbrev removes_by : Content → Uuid → Owner → BookAct
removes_by c u w =
    by_owner w (record { answer = removing.removed (Err L.NoOwner); content = c })
    (λ o. record {
      answer = removing.removed (Ok (holds (key_by o u) c.held));
      content = with_held c (strike (key_by o u) c.held);
    })

module _ (n m : ℕ) (ln : n ≤ index_max) (lm : m ≤ text_max) where
  abbrev with : {A : Type 0} → A → Content → Done A
  with a c = record { answer = a; index = encode_index n c.shares c.held; text = encode_text m c.held }

  module _ (c : Content) (f : Fits n m c) where
    abbrev i : List ℕ
    i = encode_index n c.shares c.held

    abbrev t : List ℕ
    t = encode_text m c.held

    is_held : content i t ≡ some c
    is_held = content_encoded n m c f.given f.front f.good ln lm

    one_removal : (p : Party) (u : Uuid)
        → removing.then_says removing.removed (store_remove i t p u)
        ≡ with (book_act n m c (removes p u)).answer (book_act n m c (removes p u)).content
    one_removal p u = go (owner_of p) refl
      where
        to : (key : Key) (b : Bool) → holds key c.held ≡ b
            → removing.then_says removing.removed (left_by i t key c b)
            ≡ with (removing.removed (Ok b)) (with_held c (strike key c.held))
        to key true e =
            ap₂ (λ (x y : ℕ). record {
              answer = removing.removed (Ok true);
              index = encode_index x c.shares (strike key c.held);
              text = encode_text y (strike key c.held);
            }) (length_encoded n m c f.front f.good) (length_text (n - share_sizes c.shares) m c.held f.good)
        to key false e =
            ap (λ (hs : List Held). record {
              answer = removing.removed (Ok false);
              index = encode_index n c.shares hs;
              text = encode_text m hs;
            }) (sym (strike_none key c.held e))

        go : (w : Owner) → owner_of p ≡ w
            → removing.then_says removing.removed (store_remove i t p u)
            ≡ with (removes_by c u w).answer (removes_by c u w).content
        go None e = ap (removing.then_says removing.removed) (sym (remove_nobody p i t e u))
        go (Some o) e =
            ap (removing.then_says removing.removed) (remove_is i t c is_held p o e u)
            ∙ to (key_by o u) (holds (key_by o u) c.held) refl

    one_act : (x : Act) → store_act i t x ≡ with (book_act n m c x).answer (book_act n m c x).content
    unfolding store_act
    one_act (calls x) = ap (removing.then_says said) (one_call n m ln lm c f x)
    one_act (removes p u) = one_removal p u

    keeps_act : (x : Act) → Fits n m (book_act n m c x).content
    keeps_act (calls x) = keeps_turn n m lm saving builds c f x
    keeps_act (removes p u) = go (owner_of p)
      where
        go : (w : Owner) → Fits n m (removes_by c u w).content
        go None = f
        go (Some o) = fits_struck n m (key_by o u) c f

  abbrev ended : BookActed → Acted
  ended r = record {
    answers = r.answers;
    index = encode_index n r.content.shares r.content.held;
    text = encode_text m r.content.held;
  }

  from : (xs : List Act) (c : Content) → Fits n m c
      → (run_acts (encode_index n c.shares c.held) (encode_text m c.held) xs ≡ ended (book_acts n m c xs))
      × Fits n m (book_acts n m c xs).content
  unfolding run_acts book_acts
  from [] c f = (refl, f)
  from (x ∷ xs) c f =
      let w = from xs (book_act n m c x).content (keeps_act c f x) in (
        ap (λ (d : Done Said). and_acted d.answer (run_acts d.index d.text xs)) (one_act c f x)
            ∙ ap (and_acted (book_act n m c x).answer) w.0,
        w.1,
      )

  pub with_removals : WithRemovals n m
  with_removals xs =
      let w = from xs nothing_held (fits_none n m) in
      let q : run_acts (fresh n) (fresh m) xs ≡ ended (book_acts n m nothing_held xs)
      = ap₂ (λ (i t : List ℕ). run_acts i t xs) (fresh_index n m) (fresh_text n m) ∙ w.0 in (
        ap (λ (r : Acted). r.answers) q,
        ap (λ (r : Acted). content r.index r.text) q ∙ is_held (book_acts n m nothing_held xs).content w.1,
      )
