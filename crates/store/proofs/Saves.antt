-- Demand 3, whole: the guarantee with document 01's save, whose built lines fit and read back.
-- Assumes nothing.
use Rattle.std.specs.Prelude.{Some, None, Result, Ok, Err, ⊤}
use mathlib.Core.Path.{◌≡◌, refl, sym, subst, ap, ◌∙◌}
use mathlib.Core.Bool.{Bool, true, false}
use mathlib.Core.Option.{some}
use mathlib.Core.List.{List, [], ◌∷◌, ◌++◌, map}
use Prim.Native.Nat.{ℕ, ◌+◌, ◌≤◌, ◌<◌}
use native.Mathlib.Omega.{arith}
use lib.ListN.{length, take, drop}
use lib.Seq.{take-append_seam, drop-append-add}
use Rattle.text.specs.Bytes.{pick, byte}
use Rattle.text.specs.Uuid.{uuid_text}
use Rattle.text.specs.declared.uuid.Uuid.{Uuid}
use Rattle.text.proofs.UuidLaws.{uuid_text-length}
use Rattle.line.specs.Maps.{to_map}
use Rattle.map.specs.declared.mapping_data.MappingData.{MappingData}
use Rattle.map.specs.Build.{checks_of, filled_buttons, filled_axes, ended, pair_texts, built_line, name_start_of, built_map}
use Rattle.store.specs.declared.calls.Saved.{Saved}
use Rattle.store.specs.declared.parties.Party.{Party}
use Rattle.store.specs.Parties.{owner_of, by_owner, Named, Owner}
use Rattle.store.specs.Held.{Key, Held, key_by, find, index_max, text_max}
use Rattle.store.specs.Layout.{Shape}
use Rattle.store.specs.Shares.{nothing_held, with_held}
use Rattle.store.specs.Decode.{content}
use Rattle.store.specs.Book.{refused, files, Call, insert, save, saved, number_of, book_turn, shares_after}
use Rattle.store.specs.Store.{Runs, store_call, answered, no_owner, looked_in, look_by, look_up}
use Rattle.store.specs.Filings.{Filing, last_filed, line_filed, nth}
use Rattle.store.specs.Guarantee.{Calls, stored, booked, next, last_of, looked_for, built_held, built_save, FromSave}
use Rattle.store.specs.Guarantee.{Guarantee}
use Rattle.store.specs.Inner.{Builds}
use Rattle.store.specs.Saves.{SaveArgs, SaveCall, unsaved_name, refused_save, attempt_after, attempt_of, store_save}
use Rattle.store.specs.Saves.{Passes, ReadsBack, saving}
use Rattle.map.proofs.BuiltLaws.{built_positive}
use Rattle.store.proofs.LimitLaws.{built_fits}
use Rattle.map.proofs.ReadBack.{reads_back}
use Rattle.store.proofs.FilingsLaws.{says_run}
use Rattle.store.proofs.SaveFilingLaws.{SaveFiled, last_saved}
use Rattle.store.proofs.StoreLaws.{whole, whole-held, whole-look_up, whole-next, next-held}
use Rattle.store.proofs.NextLaws.{save_answers, save_holds, insert_answers, insert_holds}
use Rattle.store.specs.declared.calls.SaveError.TheVariants as Sv
use Rattle.map.specs.declared.error.MappingError.{MappingError}

-- the bytes of a built line at the name's place
name_bytes : (d : MappingData) (buttons axes name : List ℕ) (uuid : Uuid)
    → take (length name) (drop name_start_of (built_line d buttons axes name uuid)) ≡ name
unfolding built_line ended
name_bytes d buttons axes name uuid =
    let rest : List ℕ =
    ended (pair_texts (byte "b") buttons (filled_buttons d) ++ pair_texts (byte "a") axes (filled_axes d)) in
    let e : name_start_of ≡ length (uuid_text uuid) + 1 = omega (arith, uuid_text-length uuid) in
    ap (λ (k : ℕ). take (length name) (drop k (uuid_text uuid ++ (byte "," ∷ (name ++ (byte "," ∷ rest)))))) e
    ∙ ap (take (length name)) (drop-append-add (uuid_text uuid) (byte "," ∷ (name ++ (byte "," ∷ rest))) 1)
    ∙ take-append_seam name (byte "," ∷ rest)

-- an attempt that files: the checks are passed, and the line and the map are build's
pub record Files (o : ℕ) (a : SaveArgs) (h : Held) (v : Saved) : Type 0 where
  pub passed : Passes a
  pub line : built_held o a ≡ h
  pub value : built_save a ≡ v

pub files_are : (o : ℕ) (a : SaveArgs) (h : Held) (v : Saved) → attempt_of o a ≡ files h v → Files o a h v
unfolding attempt_of
files_are o a h v e = go (checks_of a.slots a.buttons a.axes a.name) refl e
  where
    name : (b : Bool) → unsaved_name a.name ≡ b → checks_of a.slots a.buttons a.axes a.name ≡ Ok tt
        → pick b (refused (refused_save Sv.UnsavedName)) (files (built_held o a) (built_save a)) ≡ files h v
        → Files o a h v
    name true n p q = let z : ◌≡◌ {A = ℕ} 0 1 = cc in absurd (omega arith)
    name false n p q = record { passed = record { build = p; name = n }; line = cc; value = cc }

    go : (r : Result ⊤ MappingError) → checks_of a.slots a.buttons a.axes a.name ≡ r → attempt_after o a r ≡ files h v
        → Files o a h v
    go (Ok _) p q = name (unsaved_name a.name) refl p q
    go (Err x) p q = let z : ◌≡◌ {A = ℕ} 0 1 = cc in absurd (omega arith)

-- and the other way round
pub attempt_files : (o : ℕ) (a : SaveArgs) → Passes a → attempt_of o a ≡ files (built_held o a) (built_save a)
unfolding attempt_of
attempt_files o a p =
    ap (attempt_after o a) p.build
    ∙ ap (λ (b : Bool). pick b (refused (refused_save Sv.UnsavedName)) (files (built_held o a) (built_save a))) p.name

pub builds : Builds saving
builds = record {
  owner = λ o c h v e. sym (ap (λ (x : Held). x.key.owner) (files_are o c.args h v e).line);
  shape = λ o b c h v e. shaped o b c h v (files_are o c.args h v e);
  reads = λ o c h v e. read o c h v (files_are o c.args h v e);
}
  where
    shaped : (o : ℕ) → o < 256 → (c : SaveCall) (h : Held) (v : Saved) → Files o c.args h v → Shape h
    shaped o b c h v f =
        let a : SaveArgs = c.args in
        subst Shape f.line (record {
          key = record { owner = b; uuid = c.small };
          some = built_positive c.args.slots c.args.buttons c.args.axes c.args.name c.args.uuid;
          most = built_fits c.args.slots c.args.buttons c.args.axes c.args.name c.args.uuid
              f.passed.build;
        })

    read : (o : ℕ) (c : SaveCall) (h : Held) (v : Saved) → Files o c.args h v → ReadsBack c.args h.line v
    read o c h v f =
        subst (λ (x : Held). ReadsBack c.args x.line v) f.line
        (subst (λ (w : Saved). ReadsBack c.args
        (built_line c.args.slots c.args.buttons c.args.axes c.args.name c.args.uuid) w)
        f.value
        (record {
          reading = reads_back c.args.slots c.args.buttons c.args.axes c.args.name c.args.uuid
              c.small f.passed.build;
          name = unfold built_map to_map in
              (name_bytes c.args.slots c.args.buttons c.args.axes c.args.name c.args.uuid);
          default_off = unfold built_map to_map in refl;
          hats_zero = unfold built_map to_map in refl;
        }))

-- the save of the theorem is the save of the contract
pub save_is : (i t : List ℕ) (p : Named) (c : SaveCall)
    → store_call {S = saving} i t (save p c) ≡ answered saved (store_save i t p.party c.args)
unfolding store_call store_save
save_is i t p c = refl

module _ (n m : ℕ) (ln : n ≤ index_max) (lm : m ≤ text_max) (xs : Calls) where
  from_save : (k : Key) (f : Filing saving) (p : Named) (c : SaveCall) → SaveFiled saving n m xs k f p c
      → FromSave n m xs k f p c
  from_save k f p c w =
      let z : Files w.owner c.args f.held w.value
      = files_are w.owner c.args f.held w.value w.attempted in
      record {
        returned = w.value;
        stands = w.stands;
        replied = ap (λ (r : Runs saving). nth r.answers f.at) (whole n m ln lm saving builds xs) ∙ w.replied;
        done = ap (λ (v : Saved). v.answer) (sym z.value);
        line = ap (λ (h : Held). h.line) (sym z.line);
        map = ap (λ (v : Saved). v.map) (sym z.value);
        by = w.own ∙ ap (λ (o : ℕ). Some o)
            (ap (λ (h : Held). h.key.owner) z.line ∙ ap (λ (x : Key). x.owner) w.under);
        under = ap (λ (h : Held). h.key.uuid) z.line ∙ ap (λ (x : Key). x.uuid) w.under;
        reads = builds.reads w.owner c f.held w.value w.attempted;
      }

  -- a look-up by key, and by party
  pub finds_key : (k : Key) → look_by k (stored n m xs).index (stored n m xs).text
      ≡ looked_in (line_filed (last_of n m xs k))
  finds_key k =
      whole-look_up n m ln lm saving builds xs k
      ∙ ap looked_in (says_run k n m xs 0 nothing_held [] (unfold find last_filed in refl))

  finds_party : (p : Party) (u : Uuid) → look_up p u (stored n m xs).index (stored n m xs).text ≡ looked_for n m xs p u
  unfolding look_up
  finds_party p u = go (owner_of p)
    where
      go : (w : Owner)
          → by_owner w no_owner (λ o. look_by (key_by o u) (stored n m xs).index (stored n m xs).text)
          ≡ by_owner w no_owner (λ o. looked_in (line_filed (last_of n m xs (key_by o u))))
      go None = refl
      go (Some o) = finds_key (key_by o u)

  -- what is held after a call that leaves the shares
  pub held_next : (x : Call saving) → shares_after n m (booked n m xs).content x ≡ (booked n m xs).content.shares
      → content (next n m xs x).index (next n m xs x).text
      ≡ some (with_held (booked n m xs).content (book_turn n m (booked n m xs).content x).held)
  held_next x e =
      next-held n m ln lm saving builds xs x
      ∙ ap (λ (s : List ℕ). some (record { shares = s; held = (book_turn n m (booked n m xs).content x).held })) e

  -- demand 3, whole
  pub whole_guarantee : Guarantee n m xs
  whole_guarantee = record {
    answers = ap (λ (r : Runs saving). r.answers) (whole n m ln lm saving builds xs);
    numbers = ap (λ (r : Runs saving). map number_of r.answers) (whole n m ln lm saving builds xs);
    held = whole-held n m ln lm saving builds xs;
    finds = finds_party;
    saves = λ k f p c e b. from_save k f p c (last_saved saving n m xs k f p c e b);
    save_room = λ p o own c ok. record {
      answer =
          whole-next n m ln lm saving builds xs (save p c)
          ∙ save_answers n m (booked n m xs).content p o own saving c (built_held o c.args) (built_save c.args)
          (attempt_files o c.args ok);
      held =
          held_next (save p c) (unfold shares_after in refl)
          ∙ ap (λ (hs : List Held). some (with_held (booked n m xs).content hs))
          (save_holds n m (booked n m xs).content p o own saving c (built_held o c.args) (built_save c.args)
          (attempt_files o c.args ok));
    };
    insert_room = λ p o own s passed l rest u hs valid cut reached e q. record {
      answer =
          whole-next n m ln lm saving builds xs (insert p s)
          ∙ insert_answers n m (booked n m xs).content p o own saving s passed l rest u hs valid cut reached e q;
      held =
          held_next (insert p s) (unfold shares_after in refl)
          ∙ ap (λ (hs : List Held). some (with_held (booked n m xs).content hs))
          (insert_holds n m (booked n m xs).content p o own saving s passed l rest u hs valid cut reached e q);
    };
  }
