-- A session from one byte to the next. Assumes nothing.
use Rattle.std.proofs.Common.{◌≡◌, ◌≢◌, ℕ, zero, suc, ◌+◌, ◌-◌, ◌≤◌, false, List, [], ◌∷◌, ◌++◌, map, length, take, eqb, vec_len, codes, sym, refl, ap, ◌∙◌, subst, ⊎_elim, append_assoc, append-nil, arith, length-take}
use Rattle.std.specs.Option.{option_map}
use Rattle.std.specs.List.{flat_map}
use Rattle.std.proofs.lemmas.List.Elements.{All-push}
use Rattle.std.proofs.lemmas.List.{flat_map_more, map_push, take_all, take-append-le}
use Rattle.std.proofs.lemmas.Bool.{cases_lt, cond_both, eqb-false}
use Rattle.calendar.proofs.Exact.{no_date, no_stamp}
use Rattle.visits.specs.Answers.{Answer, reply, reply_to, wording}
use Rattle.visits.specs.Lines.{line_feed, carriage_return, IsUnbroken, Cut, rest, ends_in, text}
use Rattle.visits.specs.Sessions.{Counted, Ended, WentOn, Told, Complete}
use Rattle.visits.specs.Visits.{either}
use Rattle.visits.proofs.Counting.{counted_more}
use Rattle.visits.specs.declared.session.Session.{Session}

-- ---- what is kept of a line

pub kept_full : (xs : List ℕ) (b : ℕ) → 15 ≤ length xs → length xs ≤ 15 → xs ≡ take 15 (xs ++ b ∷ [])
kept_full xs b l h = sym (take-append-le 15 xs (b ∷ []) l ∙ take_all 15 xs h)

-- the front of the front and a byte is the front of all
kept_on : (n : ℕ) (line : List ℕ) (b : ℕ) → take n (take n line ++ b ∷ []) ≡ take n (line ++ b ∷ [])
kept_on zero line b = refl
kept_on (suc n) [] b = refl
kept_on (suc n) (x ∷ line) b = ap (λ r. x ∷ r) (kept_on n line b)

text_length : (line : List ℕ) → length line ≤ length (text line) + 1
text_length line = cond_both (ends_in line carriage_return) (take (length line - 1) line) line (λ t. length line ≤ length t + 1) (λ _. simp length-take (grind arith)) (λ _. omega arith)

long_reply : (line : List ℕ) → 15 ≤ length line → reply_to line ≡ codes "no day"
long_reply line h =
    let l : 14 ≤ length (text line) = omega (arith, text_length line) in
    λ i. reply (text line) (either (no_date (text line) (λ e. omega arith) i) (option_map (λ s. s.date) (no_stamp (text line) (λ e. omega arith) i)))

-- the front of a line gets the reply that the line gets
front_reply : (line : List ℕ) → reply_to (take 15 line) ≡ reply_to line
front_reply line =
    ⊎_elim (λ l. ap reply_to (take_all 15 line (omega arith)))
    (λ (g : 15 ≤ length line). long_reply (take 15 line) (simp length-take (grind arith)) ∙ sym (long_reply line g))
    (cases_lt (length line) 15)

-- ---- lines

module _ (bs : List ℕ) (ended : List (List ℕ)) (begun : List ℕ) (c : Cut bs ended begun) where
  cut_on : (b : ℕ) → (b ≡ line_feed → ⊥) → Cut (bs ++ b ∷ []) ended (begun ++ b ∷ [])
  cut_on b n = record {
    parts = ap (λ xs. xs ++ b ∷ []) c.parts ∙ append_assoc (flat_map (λ line. line ++ line_feed ∷ []) ended) begun (b ∷ []);
    lines = c.lines;
    open_end = All-push (λ x. x ≢ line_feed) begun b c.open_end n;
  }

  cut_end : (b : ℕ) → b ≡ line_feed → Cut (bs ++ b ∷ []) (ended ++ begun ∷ []) []
  cut_end b e = record {
    parts = (λ i. c.parts i ++ e i ∷ []) ∙ append_assoc (flat_map (λ line. line ++ line_feed ∷ []) ended) begun (line_feed ∷ []) ∙ flat_map_more (λ line. line ++ line_feed ∷ []) [] ended begun ∙ sym (append-nil _);
    lines = All-push IsUnbroken ended begun c.lines c.open_end;
    open_end = λ k d h. absurd (omega arith);
  }

-- ---- sessions

module _ (bs : List ℕ) (given : List Answer) (s t : Session) (told : Told bs given s) where
  pub told_on : (b : ℕ) → (b ≡ line_feed → ⊥) → WentOn s b t → Told (bs ++ b ∷ []) (given ++ []) t
  told_on b n on = subst (λ xs. Told (bs ++ b ∷ []) xs t) (sym (append-nil given)) (record {
    ended = told.ended;
    begun = told.begun ++ b ∷ [];
    cut = cut_on bs told.ended told.begun told.cut b n;
    answered = told.answered;
    counted = subst (Counted given) (sym on.tally) told.counted;
    kept = on.line ∙ ap (λ xs. take 15 (xs ++ b ∷ [])) told.kept ∙ kept_on 15 told.begun b;
  })

  module _ (a : Answer) (end : Ended s a t) where
    answered : map wording (given ++ a ∷ []) ≡ map reply_to (told.ended ++ told.begun ∷ [])
    answered =
        let e = end.answer ∙ ap reply_to told.kept ∙ front_reply told.begun in
        map_push wording given a ∙ (λ i. told.answered i ++ e i ∷ []) ∙ sym (map_push reply_to told.ended told.begun)

    counted : Counted (given ++ a ∷ []) t.tally
    counted = subst (Counted (given ++ a ∷ [])) (sym end.tally) (counted_more given s.tally a told.counted)

    pub told_end : (b : ℕ) → b ≡ line_feed → Told (bs ++ b ∷ []) (given ++ a ∷ []) t
    told_end b e = record {
      ended = told.ended ++ told.begun ∷ [];
      begun = [];
      cut = cut_end bs told.ended told.begun told.cut b e;
      answered = answered;
      counted = counted;
      kept = end.line;
    }

    pub complete_end : false ≡ eqb (vec_len s.line) 0 → Complete bs (given ++ a ∷ []) t.tally
    complete_end some = record {
      ended = told.ended;
      begun = told.begun;
      cut = told.cut;
      answered = answered ∙ ap (λ xs. map reply_to (told.ended ++ xs)) (sym (one_rest told.begun (subst (λ xs. length xs ≢ 0) told.kept (λ e. eqb-false _ 0 (sym some) (omega (arith, s.line.ok.0))))));
      counted = counted;
    }
      where
        one_rest : (begun : List ℕ) → length (take 15 begun) ≢ 0 → rest begun ≡ begun ∷ []
        one_rest [] h = absurd (h refl)
        one_rest (b ∷ begun) h = refl
