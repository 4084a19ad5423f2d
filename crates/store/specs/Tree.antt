-- A search tree of numbers by the digits of their keys: where a key's path leads, and that each number's key is found
-- on its path.
-- No public contract rests on these: a reader may leave them out.
-- K is the key of each number, wherever it is read from.
use Rattle.std.specs.Prelude.{◌≡◌, List, [], ℕ, zero, suc, ◌+◌, ◌-◌, ◌*◌, ◌/◌, ◌%◌, ◌^◌, ◌≤◌, ◌<◌, eqb, ltb, length, get_or}
use Rattle.text.specs.Bytes.{pick}
use Rattle.store.specs.declared.tree.Node.{Node}
use Rattle.store.specs.declared.tree.Place.{Place}
use Rattle.store.specs.declared.tree.Place.TheVariants as Pl
use Rattle.store.specs.Held.{Key}

-- the digit of a key at depth t: three bits, of the last of a half one
abbrev pub digit : Key → ℕ → ℕ
digit k t = (pick (ltb t 22) k.uuid.high (pick (ltb t 44) k.uuid.low k.owner)) / 2 ^ (3 * (t % 22)) % 8

-- node p; one more than the node below it at digit d, 0 where there is none; one more than the last number of its key
abbrev pub node_in : List Node → ℕ → Node
node_in w p = get_or w p (record { kids = []; last = 0 })

abbrev pub kid_in : List Node → ℕ → ℕ → ℕ
kid_in w p d = get_or (node_in w p).kids d 0

abbrev pub last_in : List Node → ℕ → ℕ
last_in w p = (node_in w p).last

-- one more than the node at depth t on the path of a key, 0 where the path has ended; it goes on below the key
unfoldable pub place : List Node → Key → ℕ → ℕ
place w u zero = 1
place w u (suc t) = pick (eqb (place w u t) 0) 0 (kid_in w (place w u t - 1) (digit u t))

-- none of the nodes before depth t has that key
abbrev pub Passed : (ℕ → Key) → List Node → Key → ℕ → Type 0
Passed K w u t = (s : ℕ) → s < t → K (place w u s - 1) ≡ u → ⊥

-- m is the first node with that key on its path, at depth t
pub record At (K : ℕ → Key) (w : List Node) (u : Key) (t m : ℕ) : Type 0 where
  pub leads : place w u t ≡ m + 1
  pub key : K m ≡ u
  pub passed : Passed K w u t

-- the key stands on its path, and its node names the last of the first n numbers with it
pub record Stands (K : ℕ → Key) (w : List Node) (n : ℕ) (u : Key) : Type 0 where
  pub t : ℕ
  pub m : ℕ
  pub at : At K w u t m
  pub within : m < n
  pub some : 0 < last_in w m
  pub most : last_in w m ≤ n
  pub hit : K (last_in w m - 1) ≡ u
  pub clear : (j : ℕ) → last_in w m ≤ j → j < n → K j ≡ u → ⊥

-- the first n numbers are in the tree; a path goes to higher numbers
pub record Treed (K : ℕ → Key) (w : List Node) (n : ℕ) : Type 0 where
  pub stands : (k : ℕ) → k < n → Stands K w n (K k)
  pub digits : (p : ℕ) → p < n → length (node_in w p).kids ≡ 8
  pub below : (p d : ℕ) → p < n → kid_in w p d ≤ n
  pub up : (p d : ℕ) → p < n → 0 < kid_in w p d → p + 1 < kid_in w p d

-- `descend`: a path led to a node of the first n, past other keys
pub record Led (K : ℕ → Key) (w : List Node) (u : Key) (n t at : ℕ) : Type 0 where
  pub leads : place w u t ≡ at + 1
  pub within : at < n
  pub depth : t ≤ at
  pub passed : Passed K w u t

-- and there the key stands, or the path ends
pub record Ends (K : ℕ → Key) (w : List Node) (u : Key) (n at d : ℕ) : Type 0 where
  pub t : ℕ
  pub led : Led K w u n t at
  pub other : K at ≡ u → ⊥
  pub none : kid_in w at d ≡ 0
  pub is : d ≡ digit u t
  pub few : d < 8

pub record Meets (K : ℕ → Key) (w : List Node) (u : Key) (n at : ℕ) : Type 0 where
  pub t : ℕ
  pub led : Led K w u n t at
  pub key : K at ≡ u

abbrev pub Lands : (ℕ → Key) → List Node → ℕ → Place → Type 0
Lands K w n (Pl.Found at) = Meets K w (K n) n at
Lands K w n (Pl.Missing at d) = Ends K w (K n) n at d

-- the first n numbers of m are in the tree, where there is one
abbrev pub Searched : (ℕ → Key) → List Node → ℕ → ℕ → Type 0
Searched K w n m = 0 < length w → (m ≤ length w) × ((length w ≤ 65535) × Treed K w n)
