-- Parts of a buffer lent and given back, and bytes written into it.
-- Assumes nothing.
use mathlib.Core.List.{List, ◌++◌, append_assoc}
use mathlib.Core.Path.{◌≡◌, sym, ap, ap₂, ◌∙◌, subst}
use Prim.Native.Nat.{ℕ, ◌+◌, ◌-◌, ◌≤◌}
use native.Mathlib.Nat.{add_assoc}
use native.Mathlib.Omega.{arith}
use lib.ListN.{length, take, drop, replicate, length-append, length-replicate, length-drop}
use lib.ListN.{take-append-drop}
use lib.Seq.{drop-drop, take_at, length-take-le, drop-append-add}
use borrow.Rule.Slice.PartMut.{put_mid, mid_of}
use Rattle.text.proofs.LentLaws.{tail_lent}
use Rattle.text.specs.Bytes.{written}

-- bytes written behind those just written
pub written_next : (l : List ℕ) (at : ℕ) (v w : List ℕ) (b : ℕ) → b ≡ at + length v → at + length v ≤ length l
    → written (written l at v) b w ≡ written l at (v ++ w)
unfolding written
written_next l at v w b e h =
    let p : List ℕ = take at l ++ v in
    let r : List ℕ = drop (at + length v) l in
    let n : length p ≡ b = length-append (take at l) v ∙ rw (length-take-le at l (omega arith)) (sym e) in
    let q : take at l ++ (v ++ r) ≡ p ++ r = sym (append_assoc (take at l) v r) in
    ap (λ (x : List ℕ). take b x ++ (w ++ drop (b + length w) x)) q
    ∙ ap₂ (λ (x y : List ℕ). x ++ (w ++ y)) (take_at p r b n)
    (subst (λ (m : ℕ). drop (m + length w) (p ++ r) ≡ drop (length w) r) n (drop-append-add p r (length w))
    ∙ drop-drop (length w) (at + length v) l
    ∙ ap (λ (m : ℕ). drop m l) (add_assoc at (length v) (length w)
    ∙ ap (λ (m : ℕ). at + m) (sym (length-append v w))))
    ∙ append_assoc (take at l) v (w ++ drop (at + length (v ++ w)) l)
    ∙ ap (λ (x : List ℕ). take at l ++ x) (sym (append_assoc v w (drop (at + length (v ++ w)) l)))

-- a part between two places was lent, and written
pub put_between : (l : List ℕ) (from k : ℕ) (ys v : List ℕ) → k ≡ length v → ys ≡ v → put_mid from k l ys ≡ written l from v
unfolding written
put_between l from k ys v n e =
    ap₂ (λ (x y : List ℕ). take from l ++ (x ++ y)) e (ap (λ (m : ℕ). drop m (drop from l)) n ∙ drop-drop (length v) from l)

-- and set to 0
pub between_zero : (l : List ℕ) (from to : ℕ) (ys : List ℕ) → from ≤ to
    → ys ≡ replicate (length (mid_of from (to - from) l)) 0 → to ≤ length l
    → put_mid from (to - from) l ys ≡ written l from (replicate (to - from) 0)
unfolding written
between_zero l from to ys h e b =
    let n : length (mid_of from (to - from) l) ≡ to - from
    = length-take-le (to - from) (drop from l) (rw (length-drop from l) (omega arith)) in
    let m : drop (to - from) (drop from l) ≡ drop (from + length (replicate {A = ℕ} (to - from) 0)) l
    = drop-drop (to - from) from l
    ∙ ap (λ (k : ℕ). drop (from + k) l) (sym (length-replicate {A = ℕ} (to - from) 0)) in
    ap₂ (λ (x y : List ℕ). take from l ++ (x ++ y)) (e ∙ ap (λ (k : ℕ). replicate {A = ℕ} k 0) n) m

pub between_none : (l : List ℕ) (from to : ℕ) → to ≤ from → l ≡ written l from (replicate (to - from) 0)
unfolding written
between_none l from to h =
    let z : to - from ≡ 0 = omega arith in
    let n : from ≡ from + 0 = omega arith in
    sym (ap (λ (k : ℕ). take from l ++ (replicate {A = ℕ} k 0 ++ drop (from + length (replicate {A = ℕ} k 0)) l)) z
    ∙ ap (λ (k : ℕ). take from l ++ drop k l) (sym n) ∙ take-append-drop from l)

-- what is written at a place, by the part from there on
pub written_part : (l : List ℕ) (at : ℕ) (v : List ℕ) → written l at v ≡ take at l ++ (v ++ drop (length v) (drop at l))
unfolding written
written_part l at v = ap (λ (x : List ℕ). take at l ++ (v ++ x)) (sym (drop-drop (length v) at l))

-- a part from `at` on was lent, and v written at its front
pub tail_written : (at : ℕ) (l v ys : List ℕ) → ys ≡ v ++ drop (length v) (mid_of at (length l - at) l)
    → put_mid at (length l - at) l ys ≡ written l at v
tail_written at l v ys e = tail_lent at l (λ (x : List ℕ). v ++ drop (length v) x) ys e ∙ sym (written_part l at v)
