-- Filing a line by number: the row before with its key is struck out, and the new line is the last one. Where there is no
-- room, that row's length is put back.
-- Assumes nothing.
use Rattle.std.specs.Prelude.{Ok, Err}
use mathlib.Core.Bool.{Bool, true, false}
use mathlib.Core.List.{List, [], ◌∷◌, ◌++◌}
use mathlib.Core.Logic.{⊎_elim}
use mathlib.Core.Path.{◌≡◌, refl, sym, ap, ap₂, ◌∙◌, subst}
use Prim.Native.Nat.{ℕ, ◌+◌, ◌-◌, ◌≤◌, ◌<◌}
use native.Mathlib.Numerals.{add-one}
use native.Mathlib.Omega.{arith}
use lib.Dec.{eqb}
use lib.ListN.{length, take, drop, length-drop}
use lib.Seq.{length-take-le}
use borrow.Author.Count.{below_more}
use borrow.Author.Tests.{eqb-false, ne_eqb, le-ltb}
use Rattle.text.specs.Bytes.{pick}
use Rattle.store.specs.declared.chains.Link.{Link}
use Rattle.store.specs.declared.rows.Row.{Row}
use Rattle.store.specs.declared.border.Standing.{Standing}
use Rattle.store.specs.declared.claims.Dues.{Dues}
use Rattle.store.specs.Book.{room_for}
use Rattle.store.specs.Border.{Replaces, Replaced}
use Rattle.store.specs.Held.{Key, Held, file}
use Rattle.store.specs.Inner.{sizes, behind}
use Rattle.store.specs.Keys.{Chained, Sought}
use Rattle.store.specs.Layout.{texts}
use Rattle.store.specs.Tree.{Searched}
use Rattle.store.specs.declared.tree.Node.{Node}
use Rattle.store.specs.Rows.{row_in, key_in, start_in, len_in, row_put, len_put, len_before, put_before, row_key, row_of}
use Rattle.store.specs.Table.{living, source_of, line_at, Tabled, InRows, InStanding}
use Rattle.store.specs.Table.{Weighable, room_by, Files', Filed, fits, full}
use Rattle.store.proofs.FilingLaws.{others_less, room_is, index_there, text_there}
use Rattle.store.proofs.StandingLaws.{measured_end, measured_used, measured_same, standing_measured}
use Rattle.store.proofs.StruckLaws.{Struck, struck, Before, before, tabled_same, row_before, row_new, key_before, key_new}
use Rattle.store.proofs.StruckLaws.{inside_still, ahead_still, stands_still}
use Rattle.store.proofs.TableLaws.{chained_agree}
use Rattle.store.proofs.TreeLaws.{searched_keys}
use Rattle.store.proofs.WriteLaws.{put_long, len_back, put_before_long, put_before_key}
use Rattle.store.specs.declared.table.Full.{Full}

module _ {g : List ℕ} {d : Dues} {i t s : List ℕ} {a : List Row} {heads : List ℕ} {links : List Link} {old : ℕ} {w : Standing}
    {u : Key} {start len : ℕ} {hs : List Held} (z : Files' g d i t s a heads links old w u start len hs)
    (cl : w.fill.count < length a)
  where
    abbrev n : ℕ
    n = w.fill.count

    abbrev a' : List Row
    a' = row_put a n u start len

    abbrev K' : ℕ → Key
    K' k = key_in a' k

    abbrev S : ℕ → List Held
    S k = line_at t s a old k

    abbrev x : InRows i t s a heads links old w.fill hs
    x = z.standing.in_rows

    abbrev h : Held
    h = record { key = u; line = take len (drop start s) }

    len_is : length (take len (drop start s)) ≡ len
    len_is = length-take-le len (drop start s) (omega (arith, length-drop start s, z.inside))

    module _ (b : List Row) where
      abbrev S'' : ℕ → List Held
      S'' k = line_at t s b old k

      -- filed: one number more
      module _ (y : Struck x u start len cl b) where
        new_line : S'' n ≡ record { key = u; line = take len (drop start s) } ∷ []
        unfolding line_at
        new_line =
            ap (λ (r : Row). pick (eqb r.len 0) []
            (record { key = row_key r; line = take r.len (drop r.start (source_of t s old n)) } ∷ []))
            y.last
            ∙ ap₂ (λ (c d : Bool). pick c [] (record { key = u; line = take len (drop start (pick d t s)) } ∷ []))
            (ne_eqb len 0 (λ e. omega (arith, z.shape.some, len_is))) (le-ltb n old x.tabled.olds)

        filed_is : file (record { key = u; line = take len (drop start s) }) hs ≡ living S'' (n + 1)
        filed_is =
            unfold file in (ap₂ (λ (v q : List Held). v ++ q) y.lines (sym new_line))
            ∙ sym (ap (living S'') (add-one n) ∙ unfold living in refl)

        inside' : (k : ℕ) → k < n + 1 → start_in b k + len_in b k ≤ length (source_of t s old k)
        inside' = below_more (λ (k : ℕ). start_in b k + len_in b k ≤ length (source_of t s old k)) n
            (inside_still x u start len cl b y)
            (subst (λ (c : Bool). start_in b n + len_in b n ≤ length (pick c t s)) (sym (le-ltb n old x.tabled.olds))
            (omega (arith, ap (λ (r : Row). r.start) y.last, ap (λ (r : Row). r.len) y.last, z.inside)))

        older' : (j k : ℕ) → j < k → k < n + 1 → K' j ≡ K' k → len_in b j ≡ 0
        older' j k l v o =
            below_more (λ (k : ℕ). j < k → K' j ≡ K' k → len_in b j ≡ 0) n
            (λ k p c e.
            let m : len_in a j ≡ 0
            = x.older j k c p
            (sym (key_before x u start len cl j (omega arith)) ∙ e ∙ key_before x u start len cl k p) in
            ⊎_elim (λ g. g) (λ g. ap (λ (r : Row). r.len) g ∙ m) (y.either j (omega arith)))
            (λ c e. y.once j c (sym (key_before x u start len cl j c) ∙ e ∙ key_new x u start len cl)) k v l o

        -- what is filled then
        module _ (v : Standing) (c : Replaced b w v) where
          inside_v : (k : ℕ) → k < v.fill.count → start_in b k + len_in b k ≤ length (source_of t s old k)
          inside_v k l = inside' k (omega (arith, c.count))

          filed_v : file (record { key = u; line = take len (drop start s) }) hs ≡ living S'' v.fill.count
          filed_v = filed_is ∙ ap (living S'') (sym c.count)

          end_is : v.fill.end ≡ sizes 0 (file h hs)
          end_is = measured_end t s b old v inside_v c.measured ∙ ap (sizes 0) (sym filed_v)

          used_is : v.fill.used ≡ length (texts (file h hs))
          used_is = measured_used t s b old v inside_v c.measured ∙ ap (λ (q : List Held). length (texts q)) (sym filed_v)

          pub weighs : Weighable d v.fill
          weighs = record {
            theirs = others_less g i t h hs d z.owed v.fill end_is used_is;
            used = c.most;
            others = z.owed.others_most;
            share = z.owed.share_most;
          }

          pub room_same : room_by d (length i) (length t) v.fill ≡ room_for (behind g i t u.owner) h hs
          room_same = room_is g i t h hs d z.owed v.fill end_is used_is

          module _ (fit : room_by d (length i) (length t) v.fill ≡ Ok tt) where
            tabled_v : Tabled i t s b old (n + 1) (file h hs)
            tabled_v = record {
              is = filed_is;
              inside = inside';
              ahead = ahead_still x u start len cl b y;
              stands = stands_still x u start len cl b y;
              olds = omega (arith, x.tabled.olds);
              most = omega (arith, cl, y.long);
              good = record {
                index = omega (arith, end_is, index_there g i t h hs d z.owed v.fill end_is used_is fit);
                text = text_there g i t h hs d z.owed v.fill end_is used_is fit;
              };
            }

            pub rows_more : (heads' : List ℕ) (links' : List Link) → Chained K' heads' links' (n + 1)
                → InStanding i t s b heads' links' old v (file h hs)
            rows_more heads' links' ch = record {
              in_rows = record {
                tabled = subst (λ (m : ℕ). Tabled i t s b old m (file h hs)) (sym c.count) tabled_v;
                older = λ j k l q o. older' j k l (omega (arith, c.count))
                    (y.keys j (omega (arith, c.count)) ∙ o ∙ sym (y.keys k (omega (arith, c.count))));
                chained = subst (Chained (key_in b) heads' links') (sym c.count)
                    (chained_agree K' (key_in b) (n + 1) y.keys heads' links' ch);
                end = end_is;
                used = used_is;
                limits = x.limits;
              };
              bordered = c.measured.bordered;
            }

    -- the new line is put down as the last one of b, and the one held under its key takes `had` bytes
    pub record Placed (b : List Row) (r had : ℕ) : Type 0 where
      pub put : b ≡ row_put a w.fill.count u start len
      pub sought : Sought (key_in b) w.fill.count r
      pub least : r ≤ w.fill.count
      pub taken : had ≡ len_before b r

    module _ {b : List Row} {r had : ℕ} (p : Placed b r had) where
      pub long_b : length b ≡ length a
      long_b = ap length p.put ∙ put_long a n u start len

      kept_b : (k : ℕ) → k < w.fill.count → row_in b k ≡ row_in a k
      kept_b k l = ap (λ (v : List Row). row_in v k) p.put ∙ row_before x u start len cl k l

      last_b : row_in b w.fill.count ≡ row_of u start len
      last_b = ap (λ (v : List Row). row_in v n) p.put ∙ row_new x u start len cl

      pub replaces : {c : List Row} → c ≡ put_before b r 0 → Replaces b c w u r had len
      replaces e = record {
        measured = measured_same a b w kept_b (standing_measured z.standing);
        few = omega (arith, cl, long_b);
        fit = (
          omega (arith, x.end, ap (sizes 0) x.tabled.is, x.tabled.good.index, x.limits.0),
          (omega (arith, x.used, x.tabled.good.text, x.limits.1), omega (arith, z.shape.most, len_is)),
        );
        some = omega (arith, z.shape.some, len_is);
        least = p.least;
        struck_len = p.taken;
        struck = e;
        same = λ l. ap (λ (k : Key). k.owner) (p.sought.hit l p.least ∙ ap row_key last_b);
        last_key = ap row_key last_b;
        last_len = ap (λ (v : Row). v.len) last_b;
      }

      module _ {c : List Row} (e : c ≡ put_before b r 0) where
        goes_out : Struck x u start len cl c
        goes_out = struck x u start len cl c
            (subst (Before x u start len cl) (sym (e ∙ ap (λ (v : List Row). put_before v r 0) p.put))
            (before x u start len cl r (subst (λ (v : List Row). Sought (key_in v) n r) p.put p.sought) p.least))

        -- the length put back: no room
        back : put_before c r had ≡ b
        back = go (eqb r 0) refl
          where
            go : (q : Bool) → eqb r 0 ≡ q → put_before c r had ≡ b
            go true q =
                ap (λ (v : Bool). pick v c (len_put c (r - 1) had)) q
                ∙ e ∙ ap (λ (v : Bool). pick v b (len_put b (r - 1) 0)) q
            go false q =
                let l : r ≡ 0 → ⊥ = eqb-false r 0 q in
                let m : r - 1 < length b = omega (arith, p.least, cl, l, long_b) in
                ap (λ (v : Bool). pick v c (len_put c (r - 1) had)) q
                ∙ ap₂ (λ (v : List Row) (k : ℕ). len_put v (r - 1) k)
                (e ∙ ap (λ (v : Bool). pick v b (len_put b (r - 1) 0)) q)
                (p.taken ∙ ap (λ (v : Bool). pick v 0 (len_in b (r - 1))) q)
                ∙ len_back b (r - 1) m

        pub can_weigh : {v : Standing} → Replaced c w v → Weighable d v.fill
        can_weigh {v} q = weighs c goes_out v q

        module _ {v : Standing} (q : Replaced c w v) {heads' : List ℕ} {links' : List Link} where
          pub files_full : {o : List Row} → o ≡ put_before c r had → (k : Full)
              → room_by d (length i) (length t) v.fill ≡ Err k
              → Filed g i t s o heads' links' old w (record { key = u; line = take len (drop start s) }) hs (Err k)
          files_full {o} f k l =
              full k (sym (room_same c goes_out v q) ∙ l) refl
              (subst (λ (y : List Row). Tabled i t s y old w.fill.count hs) (sym (f ∙ back))
              (tabled_same x.tabled b long_b kept_b))

          pub files_fit : Chained (key_in b) heads' links' (w.fill.count + 1)
              → room_by d (length i) (length t) v.fill ≡ Ok tt
              → Filed g i t s c heads' links' old w (record { key = u; line = take len (drop start s) }) hs (Ok v)
          files_fit ch l =
              fits v (sym (room_same c goes_out v q) ∙ l) refl
              (rows_more c goes_out v q l heads' links'
              (subst (λ (y : List Row). Chained (key_in y) heads' links' (n + 1)) p.put ch))

-- a line that is struck out leaves the tree
pub searched_on : (w : List Node) (a b : List Row) (n m r : ℕ) → r ≤ length a → b ≡ put_before a r 0 → m ≡ n + 1
    → Searched (key_in a) w (n + 1) (length a) → Searched (key_in b) w m (length b)
searched_on w a b n m r l e c x =
    subst (λ (q : ℕ). Searched (key_in b) w q (length b)) (sym c)
    (subst (Searched (key_in b) w (n + 1)) (sym (ap length e ∙ put_before_long a r 0))
    (searched_keys (key_in a) (key_in b) w (n + 1) (length a)
    (λ k p. sym (ap (λ (v : List Row). key_in v k) e ∙ put_before_key a r 0 l k)) x))
