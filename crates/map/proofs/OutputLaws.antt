-- Laws of texts that are put one after the other into an output, and of the line in its parts.
-- Assumes nothing.
use Rattle.std.specs.Prelude.{Option}
use Rattle.std.specs.Option.{unwrap_or}
use Prim.Native.Nat.{ℕ, ◌+◌, ◌<◌, ◌≤◌}
use mathlib.Core.Path.{◌≡◌, refl, sym, ap, ◌∙◌}
use mathlib.Core.List.{List, [], ◌∷◌, ◌++◌, append_assoc, append-nil}
use native.Mathlib.Numerals.{add-one}
use native.Mathlib.Omega.{arith}
use lib.ListN.{length, take, drop, get_or, length-append, take-append-drop}
use lib.Seq.{take-suc}
use Rattle.text.specs.Bytes.{byte, written, Wrote}
use Rattle.text.specs.Decimal.{decimal}
use Rattle.text.specs.Inner.{Put}
use Rattle.text.specs.Uuid.{uuid_text}
use Rattle.text.specs.declared.uuid.Uuid.{Uuid}
use Rattle.text.proofs.BytesLaws.{answer_fits, buffer_fits, written-length, written-append, written_none}
use Rattle.line.specs.declared.mapping.Entry.{Entry}
use Rattle.line.specs.Tables.{ident_text}
use Rattle.map.specs.declared.from_data.filled.Pairs.{Pairs}
use Rattle.map.specs.declared.from_data.filled.Placed.{Placed}
use Rattle.map.specs.declared.from_data.output.Output.{Output}
use Rattle.map.specs.declared.mapping_data.MappingData.{MappingData}
use Rattle.map.specs.Build.{ended, pair_text, pair_texts, filled_buttons, filled_axes, built_line}
use Rattle.map.specs.Inner.{placed_in, Gathered, pair_of, pairs_of, pair_fields, head_text, line_text, Room, Holds, Puts}
use Rattle.map.specs.Inner.{lengths_of, pairs_length, line_length, line_len_of}

-- ---- puts
-- what a writer of the text layer leaves where there is room
pub wrote_put : (l : List ℕ) (at : ℕ) (v : List ℕ) (w : Option ℕ) (m : List ℕ) (r d : ℕ) → at + length v ≤ length l
    → Wrote l at v w m → r ≡ unwrap_or w d → Put l at v r m
wrote_put l at v w m r d h p e =
    (e ∙ ap (λ (o : Option ℕ). unwrap_or o d) (p.0 ∙ answer_fits l at v h), p.1 ∙ buffer_fits l at v h)

module _ (l : List ℕ) (at : ℕ) (xs : List ℕ) (n : ℕ) (m : List ℕ) (p : Put l at xs n m) where
  pub put_length : at + length xs ≤ length l → length m ≡ length l
  put_length h = ap length p.1 ∙ written-length l at xs h

  module _ (ys : List ℕ) (h : Room l at (xs ++ ys)) where
    -- room for the next one
    pub put_room : Room m n ys
    put_room =
        let s = length-append xs ys in
        omega (arith, p.0, put_length (omega arith))

    pub put_then : (r : ℕ) (k : List ℕ) → Put m n ys r k → Put l at (xs ++ ys) r k
    put_then r k q =
        let s = length-append xs ys in (
          omega (arith, p.0, q.0),
          q.1 ∙ ap (λ (b : List ℕ). written b n ys) p.1
              ∙ written-append l at xs ys n p.0 (omega (arith, p.0)),
        )

-- ---- three texts, one after the other
module _ (l : List ℕ) (at : ℕ) (xs ys zs : List ℕ) (h : Room l at ((xs ++ ys) ++ zs)) where
  both_fit : Room l at (xs ++ ys)
  both_fit = omega (arith, length-append (xs ++ ys) zs)

  module _ (n : ℕ) (m : List ℕ) (p : Put l at xs n m) where
    pub three_second : Room m n ys
    three_second = put_room l at xs n m p ys both_fit

    module _ (r : ℕ) (k : List ℕ) (q : Put m n ys r k) where
      both_put : Put l at (xs ++ ys) r k
      both_put = put_then l at xs n m p ys both_fit r k q

      pub three_last : Room k r zs
      three_last = put_room l at (xs ++ ys) r k both_put zs h

      pub three_put : (s : ℕ) (o : List ℕ) → Put k r zs s o → Put l at ((xs ++ ys) ++ zs) s o
      three_put s o t = put_then l at (xs ++ ys) r k both_put zs h s o t

-- the line: its head, the buttons' pairs and the axes'
module _ (l : List ℕ) (p : Pairs) (name : List ℕ) (uuid : Uuid) (h : Room l 0 (line_text p name uuid)) (n : ℕ)
    (m : List ℕ) (x : Put l 0 (head_text uuid name) n m) where
  abbrev buttons_text : List ℕ
  buttons_text = pairs_of (byte "b") p.buttons.items

  abbrev axes_text : List ℕ
  axes_text = pairs_of (byte "a") p.axes.items

  pub buttons_fit : Room m n buttons_text
  buttons_fit = three_second l 0 (head_text uuid name) buttons_text axes_text h n m x

  module _ (r : ℕ) (k : List ℕ) (y : Put m n buttons_text r k) where
    pub axes_fit : Room k r axes_text
    axes_fit = three_last l 0 (head_text uuid name) buttons_text axes_text h n m x r k y

    pub line_put : (s : ℕ) (o : List ℕ) → Put k r axes_text s o → Put l 0 (line_text p name uuid) s o
    line_put s o z = three_put l 0 (head_text uuid name) buttons_text axes_text h n m x r k y s o z

-- ---- puts into an output
-- what fits as a whole fits in parts
pub first_fits : (o : Output) (xs ys : List ℕ) → Holds o (xs ++ ys) → Holds o xs
first_fits o xs ys h = omega (arith, length-append xs ys)

module _ (o : Output) (xs ys : List ℕ) (h : Holds o (xs ++ ys)) (p : Output) (x : Puts o xs p) where
  pub rest_fits : Holds p ys
  rest_fits = put_room o.out.now o.at xs p.at p.out.now x.1 ys h

  pub puts_then : (q : Output) → Puts p ys q → Puts o (xs ++ ys) q
  puts_then q y = (y.0 ∙ x.0, put_then o.out.now o.at xs p.at p.out.now x.1 ys h q.at q.out.now y.1)

-- a text in four parts
pub record InFour (w : List ℕ) : Type 0 where
  pub a : List ℕ
  pub b : List ℕ
  pub c : List ℕ
  pub d : List ℕ
  pub is : w ≡ a ++ (b ++ (c ++ d))

-- they are put one after the other
module _ (w : List ℕ) (f : InFour w) (o : Output) (h : Holds o w) where
  whole_fits : Holds o (f.a ++ (f.b ++ (f.c ++ f.d)))
  whole_fits = omega (arith, ap (λ (v : List ℕ). length v) f.is)

  pub four_first : Holds o f.a
  four_first = first_fits o f.a (f.b ++ (f.c ++ f.d)) whole_fits

  module _ (p : Output) (x : Puts o f.a p) where
    three_fit : Holds p (f.b ++ (f.c ++ f.d))
    three_fit = rest_fits o f.a (f.b ++ (f.c ++ f.d)) whole_fits p x

    pub four_second : Holds p f.b
    four_second = first_fits p f.b (f.c ++ f.d) three_fit

    module _ (q : Output) (y : Puts p f.b q) where
      two_fit : Holds q (f.c ++ f.d)
      two_fit = rest_fits p f.b (f.c ++ f.d) three_fit q y

      pub four_third : Holds q f.c
      four_third = first_fits q f.c f.d two_fit

      module _ (r : Output) (z : Puts q f.c r) where
        pub four_last : Holds r f.d
        four_last = rest_fits q f.c f.d two_fit r z

        pub four_put : (s : Output) → Puts r f.d s → Puts o w s
        four_put s t =
            rw f.is
            (puts_then o f.a (f.b ++ (f.c ++ f.d)) whole_fits p x s
            (puts_then p f.b (f.c ++ f.d) three_fit q y s (puts_then q f.c f.d two_fit r z s t)))

-- the pair of a slot, and what stands before the pairs
pub pair_is : (letter : ℕ) (s : Placed) → pair_of letter s
    ≡ ident_text s.entry.element ++ ((byte ":" ∷ letter ∷ []) ++ (decimal s.place ++ byte "," ∷ []))
pair_is letter s = simp append_assoc

abbrev pub pair_in_four : (letter : ℕ) (s : Placed) → InFour (pair_of letter s)
pair_in_four letter s =
    record {
      a = ident_text s.entry.element;
      b = byte ":" ∷ letter ∷ [];
      c = decimal s.place;
      d = byte "," ∷ [];
      is = pair_is letter s;
    }

pub head_is : (uuid : Uuid) (name : List ℕ) → head_text uuid name
    ≡ uuid_text uuid ++ (byte "," ∷ [] ++ (name ++ byte "," ∷ []))
head_is uuid name = simp append_assoc

abbrev pub head_in_four : (uuid : Uuid) (name : List ℕ) → InFour (head_text uuid name)
head_in_four uuid name =
    record { a = uuid_text uuid; b = byte "," ∷ []; c = name; d = byte "," ∷ []; is = head_is uuid name }

-- ---- the pairs
module _ (letter : ℕ) where
  pairs_append : (xs ys : List Placed) → pairs_of letter (xs ++ ys) ≡ pairs_of letter xs ++ pairs_of letter ys
  unfolding pairs_of
  pairs_append [] ys = refl
  pairs_append (s ∷ xs) ys =
      rw (pairs_append xs ys) (sym (append_assoc (pair_of letter s) (pairs_of letter xs) (pairs_of letter ys)))

  pairs_part : (ss : List Placed) (j : ℕ) → length (pairs_of letter (take j ss)) ≤ length (pairs_of letter ss)
  pairs_part ss j =
      let e = pairs_append (take j ss) (drop j ss) in
      let w : pairs_of letter ss ≡ pairs_of letter (take j ss) ++ pairs_of letter (drop j ss) =
      rw (take-append-drop j ss) at e in
      omega (arith, ap length w, length-append (pairs_of letter (take j ss)) (pairs_of letter (drop j ss)))

  -- the pairs of ss, of which the first i are put
  module _ (ss : List Placed) (o : Output) (room : Holds o (pairs_of letter ss)) (i : ℕ) (p : Output)
      (x : Puts o (pairs_of letter (take i ss)) p) where
    module _ (d : Placed) (h : i < length ss) where
      next_pair : pairs_of letter (take (i + 1) ss) ≡ pairs_of letter (take i ss) ++ pair_of letter (get_or ss i d)
      unfolding pairs_of
      next_pair =
          rw (add-one, take-suc ss i d h)
          (pairs_append (take i ss) (get_or ss i d ∷ [])
          ∙ ap (λ (t : List ℕ). pairs_of letter (take i ss) ++ t) (append-nil (pair_of letter (get_or ss i d))))

      next_fits : Holds o (pairs_of letter (take i ss) ++ pair_of letter (get_or ss i d))
      next_fits = omega (arith, ap length next_pair, pairs_part ss (i + 1))

      pub pairs_room : Holds p (pair_of letter (get_or ss i d))
      pairs_room = rest_fits o (pairs_of letter (take i ss)) (pair_of letter (get_or ss i d)) next_fits p x

      pub pairs_turn : (q : Output) → Puts p (pair_of letter (get_or ss i d)) q
          → Puts o (pairs_of letter (take (i + 1) ss)) q
      pairs_turn q y =
          rw next_pair
          (puts_then o (pairs_of letter (take i ss)) (pair_of letter (get_or ss i d)) next_fits p x q y)

  pub pairs_none : (ss : List Placed) (o : Output) → Puts o (pairs_of letter (take 0 ss)) o
  unfolding pairs_of
  pairs_none ss o = (refl, (omega arith, written_none o.out.now o.at))

  -- entries with their places, and entries
  pub pairs_placed : (codes : List ℕ) (es : List Entry) → pairs_of letter (placed_in codes es) ≡ pair_fields letter codes es
  unfolding pairs_of pair_fields
  pairs_placed codes [] = refl
  pairs_placed codes (e ∷ es) = rw (pairs_placed codes es)

pub lengths_placed : (codes : List ℕ) (es : List Entry) → lengths_of (placed_in codes es) ≡ pairs_length codes es
unfolding lengths_of pairs_length
lengths_placed codes [] = refl
lengths_placed codes (e ∷ es) = rw (lengths_placed codes es)

-- ---- the line in its parts
ended-append : (xs ys : List (List ℕ)) → ended (xs ++ ys) ≡ ended xs ++ ended ys
unfolding ended
ended-append [] ys = refl
ended-append (x ∷ xs) ys = rw (ended-append xs ys) (sym (append_assoc x (byte "," ∷ ended xs) (ended ys)))

pub ended_pairs : (letter : ℕ) (codes : List ℕ) (es : List Entry)
    → ended (pair_texts letter codes es) ≡ pair_fields letter codes es
unfolding ended pair_texts pair_fields
ended_pairs letter codes [] = refl
ended_pairs letter codes (e ∷ es) =
    rw (ended_pairs letter codes es)
    (sym (append_assoc (pair_text letter codes e) (byte "," ∷ []) (pair_fields letter codes es)))

pub line_parts : (d : MappingData) (buttons axes name : List ℕ) (uuid : Uuid)
    → built_line d buttons axes name uuid
    ≡ (head_text uuid name ++ pair_fields (byte "b") buttons (filled_buttons d)) ++ pair_fields (byte "a") axes
    (filled_axes d)
unfolding built_line ended
line_parts d buttons axes name uuid =
    rw (
      ended-append (pair_texts (byte "b") buttons (filled_buttons d)) (pair_texts (byte "a") axes (filled_axes d)),
      ended_pairs (byte "b") buttons (filled_buttons d),
      ended_pairs (byte "a") axes (filled_axes d),
    )
    (simp append_assoc)

module _ (d : MappingData) (buttons axes name : List ℕ) (uuid : Uuid) (p : Pairs) (g : Gathered d buttons axes p) where
  pub line_held : line_text p name uuid ≡ built_line d buttons axes name uuid
  line_held =
      rw (
        g.first,
        g.last,
        pairs_placed (byte "b") buttons (filled_buttons d),
        pairs_placed (byte "a") axes (filled_axes d),
      )
      (sym (line_parts d buttons axes name uuid))

  pub length-held : line_len_of p name ≡ line_length d buttons axes name
  length-held =
      rw (g.first, g.last, lengths_placed buttons (filled_buttons d), lengths_placed axes (filled_axes d))
