-- What pairs do together: the laws on whole lines of pairs are stated by these.
-- No public contract rests on these: a reader may leave them out.
use Rattle.std.specs.Prelude.{ℕ, List, [], ◌∷◌, ◌++◌}
use Rattle.std.specs.Int.Bits.{bit_or}
use Rattle.line.specs.declared.mapping.Entry.{Entry}
use Rattle.line.specs.Maps.{MapView, puts_into}
use Rattle.line.specs.Effects.{effect_of}

-- the hat flags of pairs, one after the other
unfoldable pub flags_of : List (List ℕ) → List ℕ → List ℕ → List ℕ
flags_of [] buttons axes = []
flags_of (f ∷ fs) buttons axes = (effect_of f buttons axes).flags ++ flags_of fs buttons axes

-- flags or-ed in
unfoldable pub or_all : List ℕ → ℕ → ℕ
or_all [] h = h
or_all (f ∷ fs) h = or_all fs (bit_or h f)

-- the map after them
abbrev pub after : MapView → List Entry → List ℕ → MapView
after v es fs =
    record {
      list = puts_into es v.list;
      name_start_of = v.name_start_of;
      name_len_of = v.name_len_of;
      is_default = v.is_default;
      hat_flags = or_all fs v.hat_flags;
    }
