-- Bytes that stand one behind the other. Assumes nothing.
use Rattle.std.proofs.Common.{◌≡◌, ℕ, ◌+◌, ◌<◌, ◌≤◌, ◌-◌, List, [], ◌∷◌, ◌++◌, length, get_or, take, drop, refl, sym, ap, subst, ◌∙◌, append_assoc, append-nil, length-append, arith}
use Rattle.std.proofs.lemmas.List.{take_more, take-take, take_at, drop_at, drop-take, length-take-le}
use Rattle.std.proofs.lemmas.Grind.{common_steps}
use Rattle.reader.specs.Spans.{Spans}

pub spans_none : (u : List ℕ) (at : ℕ) → at ≤ length u → Spans u at [] at
spans_none u at h = record { ends = omega arith; within = h; is = sym (append-nil (take at u)) }

pub spans_join : (u : List ℕ) (a b c : ℕ) (v w : List ℕ) → Spans u a v b → Spans u b w c → Spans u a (v ++ w) c
spans_join u a b c v w p q =
    record {
      ends = let l = length-append v w in let e = p.ends in let f = q.ends in omega arith;
      within = q.within;
      is = q.is ∙ ap (λ (x : List ℕ). x ++ w) p.is ∙ append_assoc (take a u) v w;
    }

pub spans_one : (u : List ℕ) (at : ℕ) → at < length u → Spans u at (get_or u at 0 ∷ []) (at + 1)
spans_one u at h = record { ends = omega arith; within = omega arith; is = take_more u at 0 h }

pub spans_more : (u : List ℕ) (a b : ℕ) (v : List ℕ) → Spans u a v b → b < length u → Spans u a (v ++ get_or u b 0 ∷ []) (b + 1)
spans_more u a b v p h = spans_join u a b (b + 1) v (get_or u b 0 ∷ []) p (spans_one u b h)

module _ (u : List ℕ) (at to : ℕ) where
  -- what stands between two places
  pub spans_at : (v : List ℕ) → Spans u at v to → take (to - at) (drop at u) ≡ v
  spans_at v p =
      let e = p.ends in let l = p.within in
      let m : to ≡ at + (to - at) = omega arith in
      sym (drop-take at (to - at) u) ∙ ap (λ (n : ℕ). drop at (take n u)) (sym m) ∙ ap (drop at) p.is ∙ drop_at (take at u) v at (length-take-le at u (omega arith))

  pub spans_front : (v w : List ℕ) → Spans u at (v ++ w) to → Spans u at v (at + length v)
  spans_front v w p =
      let k = length-append v w in let e = p.ends in let l = p.within in
      let n : length (take at u) ≡ at = length-take-le at u (omega arith) in
      record {
        ends = refl;
        within = omega arith;
        is =
            sym (take-take (at + length v) to u (omega arith)) ∙ ap (take (at + length v)) (p.is ∙ sym (append_assoc (take at u) v w))
            ∙ take_at (take at u ++ v) w (at + length v) (length-append (take at u) v ∙ ap (λ m. m + length v) n);
      }

  pub spans_back : (v w : List ℕ) → Spans u at (v ++ w) to → Spans u (at + length v) w to
  spans_back v w p =
      let k = length-append v w in let e = p.ends in
      record {
        ends = omega arith;
        within = p.within;
        is = let q = spans_front v w p in grind (arith, common_steps);
      }

-- what stands between a front and a back
pub inner_is : (u : List ℕ) (at to from end : ℕ) (a v b : List ℕ) → from ≡ at + length a → end + length b ≡ to → Spans u at (a ++ (v ++ b)) to → take (end - from) (drop from u) ≡ v
inner_is u at to from end a v b f g p =
    let q = spans_back u at to a (v ++ b) p in
    let r = spans_front u (at + length a) to v b q in
    let k = length-append v b in let e = q.ends in let z = r.ends in
    spans_at u from end v (subst (λ (m : ℕ). Spans u m v end) (sym f) (subst (Spans u (at + length a) v) (omega arith) r))

-- the byte at a place is that of the text there
pub span_byte : (u : List ℕ) (at k m : ℕ) (v : List ℕ) → at ≤ m → m < k → Spans u at v k → get_or u m 0 ≡ get_or v (m - at) 0
span_byte u at k m v l n p =
    grind (arith, common_steps)
