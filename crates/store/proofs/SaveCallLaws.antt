-- The exits of `save`: what build answered and left in the scratch array says what the save's own checks come to.
-- Assumes nothing.
use Rattle.std.specs.Prelude.{Some, Result, Ok, Err, ⊤}
use mathlib.Core.Path.{◌≡◌, refl, sym, ap, ap₂, ◌∙◌, subst}
use mathlib.Core.Bool.{Bool, true, false}
use mathlib.Core.List.{List, ◌++◌}
use Prim.Native.Nat.{ℕ, ◌+◌, ◌-◌, ◌≤◌, ◌<◌}
use native.Mathlib.Nat.{sub-zero}
use native.Mathlib.Omega.{arith}
use lib.ListN.{length, take, drop, length-append}
use lib.Seq.{take_at}
use borrow.Author.Tests.{lt-ltb}
use Rattle.text.specs.Bytes.{pick, first_of, written}
use Rattle.line.specs.declared.mapping.Mapping.{Mapping}
use Rattle.map.specs.declared.error.MappingError.{MappingError}
use Rattle.map.specs.declared.from_data.Built.{Built}
use Rattle.map.specs.Build.{checks_of, built_line, built_map}
use Rattle.map.specs.Build as build
use Rattle.map.proofs.CheckLaws.{refused_build_lem, whole_build}
use Rattle.store.specs.declared.calls.Saved.{Saved}
use Rattle.store.specs.Held.{line_max}
use Rattle.text.specs.Search.{lf}
use Rattle.store.specs.Book.{under, Attempt, refused, files}
use Rattle.store.specs.declared.parties.Party.{Party}
use Rattle.store.specs.Parties.{owner_of, by_owner, Owner}
use Rattle.store.specs.Store.{Done, unchanged, store_attempt}
use Rattle.store.specs.Inner.{store_file, said_by}
use Rattle.store.specs.Saves.{SaveArgs, unsaved_name, refused_save, accepted_save, attempt_after, attempt_of}
use Rattle.store.specs.Saves.{store_save}
use Rattle.store.proofs.SaveLaws.{value_of, attempt_files}
use Rattle.map.proofs.LengthLaws.{line_length_lem}
use Rattle.map.proofs.BuiltLaws.{built_positive}
use Rattle.store.proofs.LimitLaws.{built_fits}
use Rattle.store.specs.declared.calls.SaveError.TheVariants as Sv
use Rattle.store.specs.declared.calls.SaveError.{SaveError}

-- 22
module _ (name : List ℕ) (r : ℕ) (e : r ≡ first_of lf name) where
  pub unsaved_lf : r < length name → true ≡ unsaved_name name
  unsaved_lf h = rw (lt-ltb (first_of lf name) (length name) (subst (λ (k : ℕ). k < length name) e h))

-- a save's attempt, in the store
abbrev tries : List ℕ → List ℕ → ℕ → Attempt Saved → Done Saved
tries = store_attempt (refused_save Sv.Unsound) (refused_save Sv.NoRoom) (refused_save Sv.NoText)

-- a line that is built stands at the front of what is left
pub record Made (a : SaveArgs) (r : Built) (after : List ℕ) : Type 0 where
  pub passed : checks_of a.slots a.buttons a.axes a.name ≡ Ok tt
  pub map : r.map ≡ built_map a.slots a.name
  pub some : 1 ≤ r.len
  pub most : r.len ≤ line_max
  pub within : r.len ≤ length after
  pub bytes : take (r.len - 0) (drop 0 after) ≡ built_line a.slots a.buttons a.axes a.name a.uuid

-- what a party's save attempts, by its checks
module _ (p : Party) (o : ℕ) (own : owner_of p ≡ Some o) (a : SaveArgs) where
  abbrev checks : Result ⊤ MappingError
  checks = checks_of a.slots a.buttons a.axes a.name

  abbrev pub line : List ℕ
  line = built_line a.slots a.buttons a.axes a.name a.uuid

  attempted : (r : Result ⊤ MappingError) → checks ≡ r → (i t : List ℕ)
      → store_save i t p a ≡ tries i t o (attempt_after o a r)
  unfolding store_save attempt_of
  attempted r e i t =
      ap (λ (w : Owner). by_owner w (unchanged i t (refused_save Sv.NoOwner))
      (λ v. tries i t v (attempt_of v a))) own
      ∙ ap (λ (x : Result ⊤ MappingError). tries i t o
      (attempt_after o a x)) e

  module _ (out : List ℕ) (r : Built) (after : List ℕ) (long : line_max ≤ length out)
      (built : build.Builds a.slots a.buttons a.axes a.name a.uuid out r after) where
    pub save_refused : (e : MappingError) → r.answer ≡ Err e → (i t : List ℕ)
        → record { answer = refused_save (Sv.Refused e); index = i; text = t } ≡ store_save i t p a
    save_refused e q i t = go checks refl
      where
        go : (x : Result ⊤ MappingError) → checks ≡ x
            → record { answer = refused_save (Sv.Refused e); index = i; text = t } ≡ store_save i t p a
        go (Err f) ok =
            let b = refused_build_lem a.slots a.buttons a.axes a.name a.uuid out checks refl f ok in
            let w : Err f ≡ Err e = ap (λ (x : Built). x.answer) (b.0 ∙ sym built.0) ∙ q in
            let z : f ≡ e = cc in
            ap (λ (y : MappingError). record { answer = refused_save (Sv.Refused y); index = i; text = t }) (sym z)
            ∙ sym (attempted (Err f) ok i t)
        go (Ok _) ok =
            let b = whole_build a.slots a.buttons a.axes a.name a.uuid out checks refl ok (length line)
            (line_length_lem a.slots a.buttons a.axes a.name a.uuid)
            (omega (arith, built_fits a.slots a.buttons a.axes a.name a.uuid ok)) in
            let w : (Ok tt) ≡ Err e = ap (λ (x : Built). x.answer) (b.0 ∙ sym built.0) ∙ q in
            let z : ◌≡◌ {A = ℕ} 0 1 = cc in absurd (omega arith)

    -- the line that was built
    pub made : r.answer ≡ Ok tt → Made a r after
    made q = go checks refl
      where
        go : (x : Result ⊤ MappingError) → checks ≡ x → Made a r after
        go (Err f) p =
            let b = refused_build_lem a.slots a.buttons a.axes a.name a.uuid out checks refl f p in
            let w : Err f ≡ Ok tt = ap (λ (x : Built). x.answer) (b.0 ∙ sym built.0) ∙ q in
            let z : ◌≡◌ {A = ℕ} 0 1 = cc in absurd (omega arith)
        go (Ok _) p =
            let fits : length line ≤ line_max = built_fits a.slots a.buttons a.axes a.name a.uuid p in
            let b = whole_build a.slots a.buttons a.axes a.name a.uuid out checks refl p (length line)
            (line_length_lem a.slots a.buttons a.axes a.name a.uuid) (omega arith) in
            let e : r ≡ record { answer = Ok tt; map = built_map a.slots a.name; len = length line } =
            built.0 ∙ sym b.0 in
            let n : r.len ≡ length line = ap (λ (x : Built). x.len) e in
            let o : after ≡ line ++ drop (0 + length line) out = built.1 ∙ sym b.1 ∙ unfold written in refl in
            record {
              passed = p;
              map = ap (λ (x : Built). x.map) e;
              some = omega (arith, n, built_positive a.slots a.buttons a.axes a.name a.uuid);
              most = omega (arith, n);
              within = omega (arith, n, ap length o, length-append line (drop (0 + length line) out));
              bytes = ap₂ (λ (k : ℕ) (s : List ℕ). take k s) (sub-zero r.len ∙ n) o
                  ∙ take_at line (drop (0 + length line) out) _ refl;
            }

  -- a line that is built, filed
  module _ {r : Built} {after : List ℕ} (m : Made a r after) (i t : List ℕ) where
    named : (b : Bool) → unsaved_name a.name ≡ b
        → store_save i t p a ≡ tries i t o
        (pick b (refused (refused_save Sv.UnsavedName))
        (files (under o a.uuid line) (accepted_save (built_map a.slots a.name))))
    named b e =
        attempted (Ok tt) m.passed i t
        ∙ ap (λ (x : Bool). tries i t o
        (pick x (refused (refused_save Sv.UnsavedName))
        (files (under o a.uuid line) (accepted_save (built_map a.slots a.name))))) e

    pub save_unsaved : unsaved_name a.name ≡ true
        → record { answer = refused_save Sv.UnsavedName; index = i; text = t } ≡ store_save i t p a
    save_unsaved e = sym (named true e)

    said : (w : Mapping) (x : Result ⊤ SaveError)
        → said_by w x ≡ value_of i t (under o a.uuid line) refused_save (accepted_save w) x
    said w (Ok u) = refl
    said w (Err e) = refl

    pub save_filed : unsaved_name a.name ≡ false → (d : Done (Result ⊤ SaveError))
        → d ≡ store_file i t (under o a.uuid (take (r.len - 0) (drop 0 after)))
        → record { answer = said_by r.map d.answer; index = d.index; text = d.text } ≡ store_save i t p a
    save_filed e d q =
        ap (λ (x : Saved). record { answer = x; index = d.index; text = d.text })
        (ap (λ (w : Mapping). said_by w d.answer) m.map ∙ said (built_map a.slots a.name) d.answer)
        ∙ attempt_files i t (under o a.uuid line) refused_save (accepted_save (built_map a.slots a.name)) d
        (q ∙ ap (λ (l : List ℕ). store_file i t (under o a.uuid l)) m.bytes)
        ∙ sym (named false e)
