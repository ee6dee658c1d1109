-- What a pass has counted and found. Assumes nothing.
use Rattle.std.proofs.Common.{◌≡◌, ℕ, ◌-◌, ◌≤◌, not, List, [], ◌∷◌, ◌++◌, length, Option, SomeIff, MatchOption, sym, ◌∙◌, subst, arith, length-drop}
use Rattle.std.specs.List.{after_last, suffix_len}
use Rattle.std.specs.Option.{option_or}
use Rattle.std.proofs.lemmas.List.Sums.{count_by-le-length}
use Rattle.grammar.specs.Items.{Item, value_place}
use Rattle.limits.specs.Limits.{place_of, is_order, IsBeyond, NoneBeyond, FirstBeyond, IsForeign, NoneForeign, FirstForeign}
use Rattle.limits.specs.Records.{is_record}
use Rattle.limits.specs.Tallies.{Counted, Tallied}
use Rattle.limits.specs.declared.tally.Tally.{Tally}
use Rattle.limits.proofs.Firsts.{first_kept}

-- of one item more
pub tallied_more : {sender : List ℕ} {is : List Item} {old new : Tally} (x : Item) (beyond foreign : Option ℕ)
    → SomeIff beyond (IsBeyond is x) (place_of x) → SomeIff foreign (IsForeign sender x) (value_place (place_of x))
    → new.sender.now ≡ old.sender.now → Counted (is ++ x ∷ []) new → new.found.beyond ≡ option_or old.found.beyond beyond → new.found.foreign ≡ option_or old.found.foreign foreign
    → Tallied sender is old → Tallied sender (is ++ x ∷ []) new
tallied_more {sender} {is} {old} x beyond foreign b f same counted e g t =
    record {
      for_sender = same ∙ t.for_sender;
      counted = counted;
      beyond =
          subst (λ (o : Option ℕ). MatchOption o (NoneBeyond (is ++ x ∷ [])) (FirstBeyond (is ++ x ∷ []))) (sym e)
          (first_kept IsBeyond place_of is x old.found.beyond beyond t.beyond b);
      foreign =
          subst (λ (o : Option ℕ). MatchOption o (NoneForeign sender (is ++ x ∷ [])) (FirstForeign sender (is ++ x ∷ []))) (sym g)
          (first_kept (λ front y. IsForeign sender y) (λ y. value_place (place_of y)) is x old.found.foreign foreign t.foreign f);
    }

-- it has counted no more than there were
pub few : {sender : List ℕ} {is : List Item} {tally : Tally} → Tallied sender is tally → (tally.found.records ≤ length is) × (tally.orders ≤ length is)
few {is} {tally} t = (
  omega (arith, t.counted.records, count_by-le-length is_record is),
  omega (arith, t.counted.orders, count_by-le-length is_order (after_last is_record is), length-drop (length is - suffix_len (λ x. not (is_record x)) is) is),
)
