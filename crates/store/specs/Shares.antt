-- The parties' guaranteed shares of the text, and what they and the lines claim of it (document 02, P10).
-- Public contracts rest on these definitions; they assume nothing.
use Rattle.std.specs.Prelude.{List, [], ◌∷◌, ℕ, suc, ◌+◌, eqb, ltb, length, replicate, get_or, set}
use Rattle.text.specs.Bytes.{pick}
use Rattle.store.specs.Held.{Held, is_long}

-- "each party, named by its owner byte (0 is the hall)": so many parties
abbrev pub owners : ℕ
owners = 256

-- the shares of all parties, by owner from 0 on; a party that has none has 0
abbrev pub no_shares : List ℕ
no_shares = replicate owners 0

abbrev pub share_of : ℕ → List ℕ → ℕ
share_of o s = get_or s o 0

-- what a store holds: each party's share, and the lines
pub record Content : Type 0 where
  pub shares : List ℕ
  pub held : List Held

-- of a fresh store
abbrev pub nothing_held : Content
nothing_held = record { shares = no_shares; held = [] }

-- the use of a party: the bytes of its lines
unfoldable pub use_of : ℕ → List Held → ℕ
use_of o [] = 0
use_of o (h ∷ hs) = pick (eqb h.key.owner o) (length h.line) 0 + use_of o hs

-- "the larger of use and share"
abbrev pub larger : ℕ → ℕ → ℕ
larger used share = pick (ltb used share) share used

-- "the sum over all parties of the larger of use and share": over the parties from owner o on, of which the first has
-- the first of the shares
unfoldable pub claims_from : ℕ → List ℕ → List Held → ℕ
claims_from o [] hs = 0
claims_from o (b ∷ bs) hs = larger (use_of o hs) b + claims_from (suc o) bs hs

abbrev pub claims : List ℕ → List Held → ℕ
claims s hs = claims_from 0 s hs

-- "kind 4's 4 bytes counted"; "share 0 has no record"; P12: "kind 6, the owner byte and four bytes of share"
abbrev pub share_size : ℕ → ℕ
share_size b = pick (eqb b 0) 0 (pick (is_long b) 6 4)

-- the records of the shares, added up
unfoldable pub share_sizes : List ℕ → ℕ
share_sizes [] = 0
share_sizes (b ∷ bs) = share_size b + share_sizes bs

-- "takes an accepted one as that party's share until its next one or a clear"
abbrev pub with_share : ℕ → ℕ → Content → Content
with_share o b c = record { shares = set c.shares o b; held = c.held }

-- other lines, and the shares as they were
abbrev pub with_held : Content → List Held → Content
with_held c hs = record { shares = c.shares; held = hs }
