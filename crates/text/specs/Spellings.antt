-- The four spellings of one UUID, which of them was read, and its text in lower case: the theorems `spelled_alike`,
-- `reader_forms` and `lower_text`.
-- The theorems rest on these definitions; they assume nothing.
use Rattle.std.specs.Prelude.{ℕ, ◌+◌, ◌≡◌, List, [], ◌∷◌, ◌++◌, map, length, take, drop, Option, Some, None}
use Rattle.text.specs.Bytes.{pick, byte, ascii}
use Rattle.text.specs.declared.uuid.Spelled.{Spelled}
use Rattle.text.specs.declared.uuid.Form.{Form}
use Rattle.text.specs.declared.uuid.Form.TheVariants as F
use Rattle.text.specs.Uuid.{is_from, uuid_of, uuid_text}

-- ---- "32 hex digits; RFC 4122's form with hyphens [..]; that form in braces [..]; that form after [..] `urn:uuid:`"

-- 32 digits with hyphens after the 8th, 12th, 16th and 20th
abbrev pub with_hyphens : List ℕ → List ℕ
with_hyphens d =
    take 8 d ++ (byte "-" ∷ (take 4 (drop 8 d) ++ (byte "-" ∷ (take 4 (drop 12 d) ++ (byte "-" ∷ (take 4 (drop 16 d)
    ++ (byte "-" ∷ take 12 (drop 20 d))))))))

abbrev pub with_braces : List ℕ → List ℕ
with_braces d = byte "{" ∷ (with_hyphens d ++ (byte "}" ∷ []))

abbrev pub with_urn : List ℕ → List ℕ
with_urn d = ascii "urn:uuid:" ++ with_hyphens d

-- the same UUID, or none, in another form
abbrev pub in_form : Form → Option Spelled → Option Spelled
in_form f (Some g) = Some (record { id = g.id; form = f })
in_form f None = None

-- the theorem `spelled_alike`: 32 characters are read alike in each of the four spellings, digits or not, but for the
-- form that is told
pub record SpelledAlike (d : List ℕ) : Type 0 where
  pub digits : uuid_of d ≡ in_form F.Simple (uuid_of d)
  pub hyphens : uuid_of (with_hyphens d) ≡ in_form F.Hyphenated (uuid_of d)
  pub braces : uuid_of (with_braces d) ≡ in_form F.Braced (uuid_of d)
  pub urn : uuid_of (with_urn d) ≡ in_form F.Urn (uuid_of d)

-- "(36 characters)", "(38)", "(45)": the length of each form
abbrev pub form_length : Form → ℕ
form_length F.Simple = 32
form_length F.Hyphenated = 36
form_length F.Braced = 38
form_length F.Urn = 45
form_length F.Xinput = 6

-- the theorem `reader_forms`: what is read has the length of the form that is told, and `xinput` is never told
pub record FormTold (s : List ℕ) (g : Spelled) : Type 0 where
  pub fits : length s ≡ form_length g.form
  pub not_xinput : g.form ≡ F.Xinput → ⊥

abbrev pub ReaderForms : Type 0
ReaderForms = (s : List ℕ) (g : Spelled) → uuid_of s ≡ Some g → FormTold s g

-- ---- "Either letter case."

-- a letter in lower case, and any other byte as it is
abbrev pub lower_byte : ℕ → ℕ
lower_byte b = pick (is_from (byte "A") (byte "F") b) (b + 32) b

-- the theorem `lower_text`: what is written of a UUID that was read is its 32 digits in lower case
abbrev pub LowerText : Type 0
LowerText = (d : List ℕ) (g : Spelled) → length d ≡ 32 → uuid_of d ≡ Some g → uuid_text g.id ≡ map lower_byte d
