-- A store has a content exactly when it encodes that: `content` is document 01's soundness, with the shares of P10.
-- Assumes nothing.
use mathlib.Core.List.{List, ◌++◌}
use mathlib.Core.Option.{some}
use mathlib.Core.Path.{◌≡◌, refl, sym, ap, ap₂, ◌∙◌, subst}
use Prim.Native.Nat.{ℕ, ◌+◌, ◌-◌, ◌≤◌}
use native.Mathlib.Omega.{arith}
use lib.ListN.{length, drop, length-append, length-replicate}
use lib.Seq.{drop_at}
use Rattle.store.specs.Decode.{fronted, content}
use Rattle.store.specs.Inner.{Good, sizes}
use Rattle.store.specs.Layout.{Bytes, Given, records, texts, share_records, padded, encode_records, encode_index}
use Rattle.store.specs.Layout.{encode_text, Encodes}
use Rattle.store.specs.Shares.{Content, share_sizes}
use Rattle.store.proofs.BodyLaws.{bytes_behind}
use Rattle.store.proofs.DecodeLaws.{Laid, laid, index_kept, text_kept}
use Rattle.store.proofs.ShareLaws.{length_shares, front_is, given_front, encode_split}
use Rattle.store.proofs.ShareLaws.{content_parts, content_encoded}

-- what fills a buffer up fits in it
pub padded_fits : (n : ℕ) (s b : List ℕ) → b ≡ padded n s → length b ≡ n → length s ≤ n
unfolding padded
padded_fits n s b e l = omega (arith, simp (length-append, length-replicate) at (ap length e))

-- the part behind the shares is a list of bytes too
pub rest_bytes : (i : List ℕ) → Bytes i → Bytes (fronted i).rest
rest_bytes i b =
    let s : List ℕ = share_records 0 (fronted i).shares in
    let e : drop (length s) i ≡ (fronted i).rest
    = ap (drop (length s)) (front_is i b) ∙ drop_at s (fronted i).rest (length s) refl in
    subst Bytes e (bytes_behind i (length s) b)

pub content_encodes : (i t : List ℕ) (c : Content) → Bytes i → content i t ≡ some c → Encodes i t c
content_encodes i t c b e =
    let p = content_parts i t c e in
    let r : List ℕ = (fronted i).rest in
    let s : List ℕ = (fronted i).shares in
    let l : Laid r t c.held = laid r t c.held (rest_bytes i b) p.1.1 in
    let n : length i ≡ share_sizes s + length r
    = ap length (front_is i b) ∙ length-append (share_records 0 s) r
    ∙ ap (λ (k : ℕ). k + length r) (length_shares 0 s) in
    let m : length r ≡ length i - share_sizes s = omega (arith, n) in
    record {
      index = front_is i b
          ∙ ap (λ (q : List ℕ). share_records 0 s ++ q) (index_kept r t c.held l)
          ∙ ap (λ (k : ℕ). share_records 0 s ++ encode_records k c.held) m
          ∙ sym (encode_split (length i) s c.held (omega (arith, n)))
          ∙ ap (λ (q : List ℕ). encode_index (length i) q c.held) (sym p.1.0);
      text = text_kept r t c.held l;
      once = l.once;
      shapes = l.rows.lies.shapes;
      given = subst (λ (q : List ℕ). Given q) (sym p.1.0) (given_front i b);
      index_most = p.0;
      text_most = l.text;
    }

-- what a store encodes has room in it
pub encodes_fit : (i t : List ℕ) (c : Content) → Encodes i t c
    → (share_sizes c.shares ≤ length i) × Good (length i - share_sizes c.shares) (length t) c.held
encodes_fit i t c e = (omega (arith, fits), good)
  where
    fits : share_sizes c.shares + sizes 0 c.held ≤ length i
    fits =
        let l : length (share_records 0 c.shares ++ records 0 c.held) ≤ length i
        = padded_fits (length i) (share_records 0 c.shares ++ records 0 c.held) i
        (e.index ∙ unfold encode_index in refl) refl in
        omega (
          arith,
          l,
          length-append (share_records 0 c.shares) (records 0 c.held),
          length_shares 0 c.shares,
        )

    good : Good (length i - share_sizes c.shares) (length t) c.held
    good = record {
      shapes = e.shapes;
      once = e.once;
      index = omega (arith, fits);
      text = padded_fits (length t) (texts c.held) t (e.text ∙ unfold encode_text in refl) refl;
    }

pub encodes_content : (i t : List ℕ) (c : Content) → Encodes i t c → content i t ≡ some c
encodes_content i t c e =
    let f = encodes_fit i t c e in
    ap₂ content e.index e.text
    ∙ content_encoded (length i) (length t) c e.given f.0 f.1 e.index_most e.text_most
