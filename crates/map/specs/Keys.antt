-- The buttons of key codes (request P7), by document 01's two button rules.
-- Public contracts rest on these definitions; they assume nothing.
use Rattle.std.specs.Prelude.{ℕ, zero, suc, ◌+◌, ◌-◌, List, [], ◌∷◌, ◌&&◌, leb}
use Rattle.text.specs.Bytes.{pick}
use Rattle.line.specs.declared.ev.Code.{Code}
use Rattle.line.specs.declared.ev.Button.{Button}
use Rattle.map.specs.declared.keys.KeyTable.{KeyTable}

-- ---- "512 numbers for key codes 10100 to 102ff"
abbrev pub key_first : ℕ
key_first = 0x10100

abbrev pub key_count : ℕ
key_count = 512

-- "each the button number or 0", "from document 01's two button rules": "Button k of 1..15: 10130 + k - 1. Button k of
-- 16..19: 10220 + k - 16.", from the code to the number
abbrev pub key_number : ℕ → ℕ
key_number c =
    pick (leb 0x10130 c && leb c 0x1013e) (c - 0x10130 + 1)
    (pick (leb 0x10220 c && leb c 0x10223) (c - 0x10220 + 16)
    0)

-- the numbers of n codes from c on
abbrev pub key_numbers : ℕ → ℕ → List ℕ
key_numbers zero c = []
key_numbers (suc n) c = key_number c ∷ key_numbers n (suc c)

-- the table
unfoldable pub keys : List ℕ
keys = key_numbers key_count key_first

abbrev pub key_table : KeyTable
key_table = record { buttons = keys }

-- the button of a key code; number 0 is Unknown
abbrev pub key_button : Code → Button
key_button c = record { 0 = key_number c.0 }
