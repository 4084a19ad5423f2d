-- One line filed by number: what `survey`, `file_row` and `settle` say together.
-- Assumes nothing.
use Rattle.std.specs.Prelude.{Result, Ok, Err}
use mathlib.Core.Bool.{true}
use mathlib.Core.List.{List}
use mathlib.Core.Option.{some}
use mathlib.Core.Path.{◌≡◌, refl, sym, ap, ◌∙◌, subst}
use Prim.Native.Nat.{ℕ, ◌≤◌}
use native.Mathlib.Omega.{arith}
use lib.ListN.{length, take, drop}
use lib.Seq.{take-length}
use Rattle.store.specs.declared.chains.Link.{Link}
use Rattle.store.specs.declared.rows.Row.{Row}
use Rattle.store.specs.declared.claims.Dues.{Dues}
use Rattle.store.specs.declared.table.Fill.{Fill}
use Rattle.store.specs.declared.border.Border.{Border}
use Rattle.store.specs.declared.border.Standing.{Standing}
use Rattle.store.specs.Book.{room_for, by_room}
use Rattle.store.specs.Border.{Bordered}
use Rattle.store.specs.Claims.{Owed}
use Rattle.store.specs.Decode.{decode}
use Rattle.store.specs.Held.{Key, Held, file, line_max}
use Rattle.store.specs.Inner.{known, behind}
use Rattle.store.specs.Layout.{Bytes}
use Rattle.store.specs.Table.{Loads, Tabled, Files', Filed, fits, full, Fileable, FilesRow, FilesLine, SomeDues}
use Rattle.store.specs.Table.{Settles, Settled, Encoded}
use Rattle.store.proofs.DecodeLaws.{laid, lines_of_lem, index_kept, text_kept}
use Rattle.store.specs.declared.table.Full.TheVariants as R
use Rattle.store.specs.declared.table.Full.{Full}

module _ (d : Dues) (i t s : List ℕ) (a : List Row) (heads : List ℕ) (links : List Link) (f : Fill) (loads : Loads i a heads links f)
    (b₀ : Border) (bordered : Bordered a f.count b₀) (k : Key) (some_byte : 1 ≤ length s) (most : length s ≤ line_max)
  where
    abbrev w₀ : Standing
    w₀ = record { fill = f; border = b₀ }

    whole : take (length s) (drop 0 s) ≡ s
    whole = take-length s

    ready : (g : List ℕ) (hs : List Held) → decode i t ≡ some hs → Owed g k.owner hs d
        → Files' g d i t s a heads links f.count w₀ k 0 (length s) hs
    ready g hs e o = record {
      owed = o;
      standing = record { in_rows = loads t s hs e; bordered = bordered };
      inside = omega arith;
      shape = record {
        some = subst (λ (l : List ℕ). 1 ≤ length l) (sym whole) some_byte;
        most = subst (λ (l : List ℕ). length l ≤ line_max) (sym whole) most;
      };
    }

    pub one_files : known (decode i t) ≡ true → SomeDues d k.owner i t → Fileable d i t a heads links (record { fill = f; border = b₀ }) k 0 (length s)
    one_files e (g, o) =
        let q : (hs : List Held) × (decode i t ≡ some hs) = lines_of_lem (decode i t) e in
        (g, s, (f.count, (q.0, ready g q.0 q.1 (o q.0 q.1))))

    module _ (b : List Row) (heads' : List ℕ) (links' : List Link) (r : Result Standing Full)
        (w : FilesRow d i t a heads links (record { fill = f; border = b₀ }) k 0 (length s) b heads' links' r) where
      abbrev h : Held
      h = record { key = k; line = s }

      abbrev By : List ℕ → List Held → Type 0
      By g hs = Filed g i t s b heads' links' f.count w₀ (record { key = k; line = take (length s) (drop 0 s) }) hs r

      filed : (g : List ℕ) (hs : List Held) → decode i t ≡ some hs → Owed g k.owner hs d → By g hs
      filed g hs e o = w g s f.count hs (ready g hs e o)

      same : (g : List ℕ) (hs : List Held)
          → room_for (behind g i t k.owner) (record { key = k; line = take (length s) (drop 0 s) }) hs
          ≡ room_for (behind g i t k.owner) (record { key = k; line = s }) hs
      same g hs = ap (λ (l : List ℕ). room_for (behind g i t k.owner) (record { key = k; line = l }) hs) whole

      -- without room
      stays : (x : Full) (ks hs : List Held) → by_room (Err x) hs hs ks ≡ hs
      stays R.Index ks hs = refl
      stays R.Text ks hs = refl

      pub one_full : (x : Full) → r ≡ Err x → Bytes i → FilesLine d i t (record { key = k; line = s }) (Err x) i t
      one_full x e b g hs q o = go (filed g hs q o)
        where
          go : By g hs → (Err x ≡ room_for (behind g i t k.owner) (record { key = k; line = s }) hs)
              × Encoded (length i) (length t) i t (by_room (Err x) hs hs (file (record { key = k; line = s }) hs))
          go (fits w' p c y) = let z : ◌≡◌ {A = ℕ} 0 1 = cc in absurd (omega arith)
          go (full v p c y) =
              let z : x ≡ v = cc in (
                ap (λ (w : Full). Err w) z ∙ sym p ∙ same g hs,
                subst (λ (ks : List Held). Encoded (length i) (length t) i t ks) (sym (stays x _ hs))
                    (record { index = index_kept i t hs (laid i t hs b q); text = text_kept i t hs (laid i t hs b q) }),
              )

      -- with room
      module _ (w' : Standing) (e : r ≡ Ok w') where
        there : (g : List ℕ) (hs : List Held) → By g hs
            → ((Ok tt) ≡ room_for (behind g i t k.owner) (record { key = k; line = s }) hs)
            × Tabled i t s b f.count w'.fill.count (file (record { key = k; line = s }) hs)
        there g hs (full v p c y) = let z : ◌≡◌ {A = ℕ} 0 1 = cc in absurd (omega arith)
        there g hs (fits w'' p c y) =
            let z : w'' ≡ w' = cc in (
              sym p ∙ same g hs,
              subst (λ (v : Standing). Tabled i t s b f.count v.fill.count (file (record { key = k; line = s }) hs)) z
                  (subst (λ (l : List ℕ). Tabled i t s b f.count w''.fill.count
                  (file (record { key = k; line = l }) hs)) whole
                  y.in_rows.tabled),
            )

        pub one_settles : known (decode i t) ≡ true → SomeDues d k.owner i t → Settles i t s b f w'.fill.count
        one_settles z (g, o) =
            let q : (hs : List Held) × (decode i t ≡ some hs) = lines_of_lem (decode i t) z in
            (file (record { key = k; line = s }) q.0, (there g q.0 (filed g q.0 q.1 (o q.0 q.1))).1)

        pub one_filed : (i' t' : List ℕ) → Settled i t s b f w'.fill.count i' t'
            → FilesLine d i t (record { key = k; line = s }) (Ok tt) i' t'
        one_filed i' t' z g hs q o =
            let x = there g hs (filed g hs q o) in
            let y = z (file (record { key = k; line = s }) hs) x.1 in
            (x.0, record { index = y.0; text = y.1 })
