-- A list that is made place by place. Assumes nothing.
use Rattle.std.proofs.Common.{ℕ, ◌≡◌, ◌+◌, List, get_or, sym, ◌∙◌, arith}
use Rattle.std.specs.Fn.{Called, Mut}
use Rattle.std.specs.Array.{IsFromFnResult}
use Rattle.std.specs.List.{range_with_len}
use Rattle.std.proofs.lemmas.List.{ext_get_or}
use Rattle.std.proofs.lemmas.List.FromFn.{length-range_with_len, get_or-range_with_len}

-- an array whose element at each place is one more than the place
pub counted_up : {F : Type 0} (g : Mut F (ℕ × Unit {0}) ℕ) (at : F) (ys : List ℕ) (n : ℕ) → IsFromFnResult g at ys n
    → ((p q : F) (i y : ℕ) → Called g p (i, tt) y q → y ≡ i + 1) → ys ≡ range_with_len 1 n
counted_up g at ys n m each =
    ext_get_or 0 ys (range_with_len 1 n) (m.long ∙ sym (length-range_with_len 1 n))
    (λ k l.
    let t = m.at k 0 (omega (arith, m.long)) in
    let h = each t.0 t.1 k (get_or ys k 0) t.2 in
    omega (arith, h, get_or-range_with_len 1 n k 0 (omega (arith, m.long))))
