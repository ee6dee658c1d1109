-- The white space at a place. Assumes nothing.
use Rattle.std.proofs.Common.{◌≡◌, ℕ, suc, ◌+◌, ◌≤◌, List, [], ◌∷◌, length, take, drop, sym, ap, ◌∙◌, subst, length-drop, arith}
use Rattle.std.proofs.Math.Seq.{take-add}
use Rattle.std.proofs.lemmas.Bool.{cond_both}
use Rattle.std.proofs.lemmas.List.{get_or-drop}
use Rattle.std.proofs.lemmas.List.Folds.{length-prefix_len}
use Rattle.std.proofs.lemmas.List.Sums.{prefix_len-le-length, prefix_len_stops}
use Rattle.grammar.specs.Ahead.{white_len}
use Rattle.grammar.specs.Bytes.{white}
use Rattle.reader.specs.Spans.{Whites}
use Rattle.reader.specs.Scans.{SkipsWhite}

front_white : (w : List ℕ) → Whites (take (white_len w) w)
front_white [] = tt
front_white (b ∷ w) =
    cond_both (white b) (1 + white_len w) 0 (λ n. Whites (take n (b ∷ w)))
    (λ e. let s : suc (white_len w) ≡ 1 + white_len w = omega arith in subst (λ n. Whites (take n (b ∷ w))) s (e, front_white w))
    (λ _. tt)

pub skips_white : (u : List ℕ) (from : ℕ) → from ≤ length u → SkipsWhite u from (from + white_len (drop from u))
skips_white u from h =
    let w = drop from u in
    let n = white_len w in
    let few = prefix_len-le-length white w in
    let l = length-drop from u in
    record {
      skipped = take n w;
      white = front_white w;
      spans = record { ends = ap (λ m. from + m) (length-prefix_len white w); within = omega arith; is = take-add from n u };
      settles = λ m. ap white (sym (get_or-drop from u n 0)) ∙ prefix_len_stops white w 0 (omega arith);
    }
