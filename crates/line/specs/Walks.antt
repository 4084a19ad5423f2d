-- The walker steps through exactly the fields of a line: the theorem `walks_line` in ../proofs/WalkLaws.antt.
-- The theorem rests on these definitions; they assume nothing.
use Rattle.std.specs.Prelude.{ℕ, ◌+◌, ◌<◌, ◌≡◌, true, List, [], ◌∷◌, length, Option, Some, Result, Ok}
use Rattle.line.specs.declared.parser.Error.{Error}
use Rattle.line.specs.declared.parser.Token.{Token}
use Rattle.text.specs.Bytes.{byte, first_of}
use Rattle.text.specs.Utf8.{is_utf8}
use Rattle.text.specs.declared.uuid.Spelled.{Spelled}
use Rattle.line.specs.declared.parser.Token.TheVariants as Tk
use Rattle.line.specs.Fields.{first_field, later_fields}
use Rattle.line.specs.Pairs.{pair_of}
use Rattle.line.specs.Walker.{start_of, guid_of}
use Rattle.line.specs.Parser.{answers_from}

-- the answers for pairs, the first of them at p
unfoldable pub pairs_at : ℕ → List (List ℕ) → List (Option (Result Token Error))
pairs_at p [] = []
pairs_at p (f ∷ fs) = Some (pair_of f p) ∷ pairs_at (p + length f + 1) fs

-- the answers for the fields after the first comma, the first of them at p: the name, then the pairs
unfoldable pub named_at : ℕ → List (List ℕ) → List (Option (Result Token Error))
named_at p [] = []
named_at p (f ∷ fs) = Some (Ok (Tk.Name p (length f))) ∷ pairs_at (p + length f + 1) fs

-- "Second field: the name. Then pairs"; "after 3 to 6 and 8 the next call takes the next pair": of the walker that is
-- made over a line whose first field is a UUID and has a comma after it
abbrev pub WalksLine : Type 0
WalksLine =
    (s : List ℕ) (u : Spelled) → is_utf8 s ≡ true → guid_of (first_field s) ≡ Some u
    → first_of (byte ",") s < length s
    → answers_from (length s) s 0 (start_of s)
    ≡ Some (Ok (Tk.Uuid u.id)) ∷ named_at (first_of (byte ",") s + 1) (later_fields s)
