-- The lines of a sound store by number, as `survey` writes them down one behind the other.
-- Assumes nothing.
use mathlib.Core.Bool.{Bool, true, false}
use mathlib.Core.List.{List, [], ◌∷◌, ◌++◌, append_assoc, append-nil}
use mathlib.Core.Option.{some}
use mathlib.Core.Path.{◌≡◌, refl, sym, ap, ap₂, ◌∙◌, subst}
use Prim.Native.Nat.{ℕ, ◌+◌, ◌-◌, ◌*◌, ◌≤◌, ◌<◌}
use native.Mathlib.Nat.{zero-add}
use native.Mathlib.Numerals.{add-one}
use native.Mathlib.Omega.{arith}
use lib.ListN.{length, take, drop}
use lib.Seq.{take_at, drop_at}
use borrow.Author.Count.{below_more}
use borrow.Author.Tests.{lt-ltb}
use Rattle.text.specs.Bytes.{pick}
use Rattle.store.specs.declared.chains.Link.{Link}
use Rattle.store.specs.declared.rows.Row.{Row}
use Rattle.store.specs.declared.records.Head.{Head}
use Rattle.store.specs.declared.table.Fill.{Fill}
use Rattle.store.specs.Decode.{head_at}
use Rattle.store.specs.Held.{Key, Held, distinct}
use Rattle.store.specs.Layout.{Bytes}
use Rattle.store.specs.Inner.{Lies, size_of, sizes}
use Rattle.store.specs.Keys.{Enough, Chained}
use Rattle.store.specs.Rows.{row_in, key_in, start_in, len_in, row_put, row_of}
use Rattle.store.specs.Layout.{Shapes, texts}
use Rattle.store.specs.Table.{living, line_at, Extends, InRows, Loads}
use Rattle.store.proofs.DecodeLaws.{Laid, laid, good}
use Rattle.store.proofs.HeldLaws.{texts-append}
use Rattle.store.proofs.OnceLaws.{Listing, list_first, list_end, list_turn, twice_once}
use Rattle.store.proofs.RecordLaws.{head_least}
use Rattle.store.proofs.RowLaws.{Rest, first, Onward, ended, stands, onward, size_not}
use Rattle.store.proofs.RowLaws.{sizes-append, sizes_cons, sizes-none}
use Rattle.store.proofs.RowLaws.{texts_sum, texts_cons, texts-none, texts-first}
use Rattle.store.proofs.LivingLaws.{living_front}
use Rattle.store.proofs.TableLaws.{living-same, gives_other, gives_new}
use Rattle.store.proofs.WriteLaws.{put_long, row_same, row_other}

-- the first n lines are written down, and the rest of the lines lies from `at` on
pub record Loaded (i : List ℕ) (at : ℕ) (a : List Row) (n u : ℕ) (hs : List Held) : Type 0 where
  pub rest : Rest i at
  pub front : List Held
  pub is : hs ≡ front ++ rest.hs
  pub off : rest.off ≡ length (texts front)
  pub end : at ≡ sizes 0 front
  pub used : u ≡ length (texts front)
  pub inside : (k : ℕ) → k < n → start_in a k + len_in a k ≤ length (texts front)
  pub lives : (t s z : List ℕ) (old : ℕ) → n ≤ old → t ≡ texts hs ++ z → living (line_at t s a old) n ≡ front
  pub ahead : (t s z : List ℕ) (old : ℕ) → n ≤ old → t ≡ texts hs ++ z → (k : ℕ) → k < n
      → length (texts (living (line_at t s a old) k)) ≤ start_in a k

pub record Loading (i : List ℕ) (at : ℕ) (a : List Row) (heads : List ℕ) (links : List Link) (n used : ℕ) : Type 0 where
  pub many : 21 * n ≤ at
  pub enough : Enough (length a) (length i)
  pub chained : Chained (key_in a) heads links n
  pub listing : Listing i at a n
  pub loaded : (hs : List Held) → Lies 0 hs i → Loaded i at a n used hs

-- as many rows are enough for a part of an index
pub enough_less : {N n m : ℕ} → m ≤ n → Enough N n → Enough N m
enough_less l w = record {
  some = w.some;
  most = w.most;
  records = omega (arith, w.records, l);
  within = omega (arith, w.within, l);
}

pub loads_extend : (i t : List ℕ) (a : List Row) (heads : List ℕ) (links : List Link) (f : Fill)
    → Loads i a heads links f → Extends i t f
loads_extend i t a heads links f w hs d = ((w t [] hs d).end, (w t [] hs d).used)

pub load-first : (i : List ℕ) (a : List Row) (heads : List ℕ) (links : List Link) → Enough (length a) (length i)
    → Chained (key_in a) heads links 0 → Loading i 0 a heads links 0 0
load-first i a heads links m c = record {
  many = omega arith;
  enough = m;
  chained = c;
  listing = list_first i a;
  loaded = λ hs q. record {
    rest = first i 0 hs q;
    front = [];
    is = refl;
    off = sym texts-none;
    end = sym (sizes-none 0);
    used = sym texts-none;
    inside = λ k p. absurd (omega arith);
    lives = λ t s z old p e. unfold living in refl;
    ahead = λ t s z old p e k q. absurd (omega arith);
  };
}

module _ (i : List ℕ) (at : ℕ) (a : List Row) (heads : List ℕ) (links : List Link) (n used : ℕ) (w : Loading i at a heads links n used)
  where
    pub load_less : n < length a
    load_less = omega (arith, w.many, w.enough.some, w.enough.records, w.listing.within)

    module _ (head : Head) (e : head ≡ head_at (drop at i)) where
      pub load_end : head.size ≡ 0 → Bytes i → Loads i a heads links (record { count = n; end = at; used = used })
      load_end z b t s hs d = go (w.loaded hs l.rows.lies)
          (onward i at head e (w.loaded hs l.rows.lies).rest)
        where
          l : Laid i t hs
          l = laid i t hs b d

          apart : (j k : ℕ) → j < k → k < n → key_in a j ≡ key_in a k
              → len_in a j ≡ 0
          apart j k p q x =
              let o : false ≡ distinct hs
              = twice_once i (key_in a) n
              (list_end i at a n w.listing head e z)
              (record { a = j; b = k; less = p; below = q; same = x }) 0 hs l.rows.lies in
              let y : ◌≡◌ {A = Bool} false true = o ∙ l.once in
              let v : ◌≡◌ {A = ℕ} 0 1 = cc in
              absurd (omega arith)

          go : (x : Loaded i at a n used hs) → Onward i at head e x.rest
              → InRows i t s a heads links n (record { count = n; end = at; used = used }) hs
          go x (stands h ks q y r) = absurd (size_not i at head e x.rest.off h y z)
          go x (ended q y) =
              let f : hs ≡ x.front = x.is ∙ ap (λ (r : List Held). x.front ++ r) q ∙ append-nil x.front in
              record {
                tabled = record {
                  is = f ∙ sym (x.lives t s _ n (omega arith) l.rows.text);
                  inside = λ k p. subst (λ (c : Bool). start_in a k + len_in a k ≤ length (pick c t s))
                      (sym (lt-ltb k n p))
                      (omega (arith, x.inside k p, ap (λ (r : List Held). length (texts r)) f, (good i t hs l).text));
                  ahead = x.ahead t s _ n (omega arith) l.rows.text;
                  stands = λ k p u.
                      let r = living_front (line_at t s a n) k (n - k) n (omega arith) in (
                        r.0,
                        d ∙ ap (λ (v : List Held). some v)
                            (f ∙ sym (x.lives t s _ n (omega arith) l.rows.text) ∙ r.1),
                      );
                  olds = omega arith;
                  most = omega (arith, load_less);
                  good = record { index = (good i t hs l).index; text = (good i t hs l).text };
                };
                older = apart;
                chained = w.chained;
                end = x.end ∙ ap (sizes 0) (sym f);
                used = x.used ∙ ap (λ (r : List Held). length (texts r)) (sym f);
                limits = (l.index, l.text);
              }

      -- one line more
      module _ (m : head.size ≡ 0 → ⊥) (b : List Row) (eb : b ≡ row_put a n head.key head.off head.len)
          (heads' : List ℕ) (links' : List Link) (ch : Chained (key_in b) heads' links' (n + 1)) where
        step : (hs : List Held) (x : Loaded i at a n used hs) → Onward i at head e x.rest
            → Loaded i (at + head.size) (row_put a n head.key head.off head.len) (n + 1) (head.off + head.len)
            hs
        step hs x (ended q y) = absurd (m y)
        step hs x (stands h ks q y l) =
            record {
              rest = record { off = x.rest.off + length h.line; hs = ks; lies = l };
              front = front';
              is = is';
              off = omega (arith, x.off, longer);
              end = omega (
                arith,
                x.end,
                sizes-append x.front (h ∷ []) 0,
                sizes_cons (0 + length (texts x.front)) h [],
                sizes-none (0 + length (texts x.front) + length h.line),
                size_is,
              );
              used = omega (arith, off_is, len_is, longer);
              inside = below_more (λ (k : ℕ). start_in a' k + len_in a' k ≤ length (texts front')) n
                  (λ k p. omega (
                    arith,
                    x.inside k p,
                    ap (λ (r : Row). r.start) (other k p),
                    ap (λ (r : Row). r.len) (other k p),
                    longer,
                  ))
                  (omega (
                    arith,
                    ap (λ (r : Row). r.start) new,
                    ap (λ (r : Row). r.len) new,
                    off_is,
                    len_is,
                    longer,
                  ));
              lives = λ t s z old p et.
                  ap (living (line_at t s a' old)) (add-one n)
                  ∙ unfold living in
                  (ap₂ (λ (v w : List Held). v ++ w) (before t s z old n (omega arith) (omega arith) et)
                  (here t s z old (omega arith) et));
              ahead = λ t s z old p et.
                  below_more (λ (k : ℕ). length (texts (living (line_at t s a' old) k)) ≤ start_in a' k) n
                  (λ k q'. omega (
                    arith,
                    x.ahead t s z old (omega arith) et k q',
                    ap (λ (v : List Held). length (texts v)) (same t s old k (omega arith)),
                    ap (λ (r : Row). r.start) (other k q'),
                  ))
                  (omega (
                    arith,
                    ap (λ (v : List Held). length (texts v)) (before t s z old n (omega arith) (omega arith) et),
                    ap (λ (r : Row). r.start) new,
                    off_is,
                  ));
            }
          where
            a' : List Row
            a' = row_put a n head.key head.off head.len

            other : (k : ℕ) → k < n → row_in (row_put a n head.key head.off head.len) k ≡ row_in a k
            other k p = row_other a n head.key head.off head.len k (λ z. omega arith)

            new : row_in (row_put a n head.key head.off head.len) n
                ≡ row_of head.key head.off head.len
            new = row_same a n head.key head.off head.len load_less

            front' : List Held
            front' = x.front ++ (h ∷ [])

            is' : hs ≡ (x.front ++ (h ∷ [])) ++ ks
            is' = x.is ∙ ap (λ (r : List Held). x.front ++ r) q ∙ sym (append_assoc x.front (h ∷ []) ks)

            off_is : head.off ≡ length (texts x.front)
            off_is = ap (λ (v : Head). v.off) y ∙ x.off

            len_is : head.len ≡ length h.line
            len_is = ap (λ (v : Head). v.len) y

            size_is : head.size ≡ size_of (0 + length (texts x.front)) h
            size_is = ap (λ (v : Head). v.size) y ∙ ap (λ (o : ℕ). size_of o h) (x.off ∙ sym (zero-add _))

            longer : length (texts (x.front ++ (h ∷ []))) ≡ length (texts x.front) + length h.line
            longer = texts_sum x.front (h ∷ []) ∙ omega (arith, texts_cons h [], texts-none)

            some : 1 ≤ length h.line
            some = (subst Shapes q x.rest.lies.shapes).0.some

            line_is : (t z : List ℕ) → t ≡ texts hs ++ z
                → take (length h.line) (drop (length (texts x.front)) t) ≡ h.line
            line_is t z et =
                ap (λ (r : List ℕ). take (length h.line) (drop (length (texts x.front)) r))
                (et ∙ ap (λ (r : List Held). texts r ++ z) (x.is ∙ ap (λ (r : List Held). x.front ++ r) q)
                ∙ ap (λ (r : List ℕ). r ++ z) (texts-append x.front (h ∷ ks))
                ∙ append_assoc (texts x.front) (texts (h ∷ ks)) z
                ∙ ap (λ (r : List ℕ). texts x.front ++ r) (texts-first h ks z))
                ∙ ap (take (length h.line)) (drop_at (texts x.front) (h.line ++ (texts ks ++ z)) _ refl)
                ∙ take_at h.line (texts ks ++ z) _ refl

            same : (t s : List ℕ) (old k : ℕ) → k ≤ n
                → living (line_at t s (row_put a n head.key head.off head.len) old) k ≡ living (line_at t s a old) k
            same t s old k p = living-same _ _ k
                (λ j q'. gives_other t s a old n head.key head.off head.len j (λ z. omega arith))

            before : (t s z : List ℕ) (old k : ℕ) → k ≡ n → n + 1 ≤ old → t ≡ texts hs ++ z
                → living (line_at t s (row_put a n head.key head.off head.len) old) n ≡ x.front
            before t s z old k ek p et = same t s old n (omega arith) ∙ x.lives t s z old (omega arith) et

            here : (t s z : List ℕ) (old : ℕ) → n < old → t ≡ texts hs ++ z
                → line_at t s (row_put a n head.key head.off head.len) old n ≡ h ∷ []
            here t s z old p et =
                gives_new t s a old n head.key head.off head.len load_less
                (omega (arith, len_is, some))
                ∙ ap (λ (c : Bool). record { key = head.key; line = take head.len (drop head.off (pick c t s)) }
                ∷ [])
                (lt-ltb n old p)
                ∙ ap₂ (λ (v : Key) (r : List ℕ). record { key = v; line = r } ∷ []) (ap (λ (v : Head). v.key) y)
                (ap₂ (λ (c d : ℕ). take c (drop d t)) len_is off_is ∙ line_is t z et)

        pub load-turn : Loading i (at + head.size) b heads' links' (n + 1) (head.off + head.len)
        load-turn = subst (λ (v : List Row). Loading i (at + head.size) v heads' links' (n + 1) (head.off + head.len))
            (sym eb)
            (record {
              many = omega (
                arith,
                w.many,
                ap (λ (v : Head). v.size) e,
                head_least (drop at i) (λ z. m (ap (λ (v : Head). v.size) e ∙ z)),
              );
              enough = subst (λ (v : ℕ). Enough v (length i)) (sym (put_long a n head.key head.off head.len)) w.enough;
              chained = subst (λ (v : List Row). Chained (key_in v) heads' links' (n + 1)) eb ch;
              listing = list_turn i at a n w.listing head e m load_less;
              loaded = λ hs l. step hs (w.loaded hs l) (onward i at head e (w.loaded hs l).rest);
            })
