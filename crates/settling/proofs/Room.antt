-- The verdict where no rule below 35 stands against a filing. Assumes nothing.
use Rattle.std.proofs.Common.{◌≡◌, ◌≤◌, Bool, true, false, ◌&&◌, not, cond, ltb, Option, Some, None, is_none, refl, sym, ◌∙◌, subst}
use Rattle.std.proofs.lemmas.Bool.{false≢true, false_from_ne_true, ltb-false}
use Rattle.std.specs.Prelude.{IsTrue}
use Rattle.calendar.specs.Calendar.{Date}
use Rattle.faults.specs.Rules.{number_of}
use Rattle.faults.specs.declared.rules.Rule.{Rule}
use Rattle.faults.specs.declared.rules.Rule.TheVariants.{Unmatched, NoRoom}
use Rattle.register.specs.Contents.{Contents, has_room}
use Rattle.filings.specs.declared.filing.Filing.{Filing}
use Rattle.settling.specs.Against.{Against, is_kept, is_unmatched}
use Rattle.settling.specs.Settled.{Settled, done}
use Rattle.settling.specs.Verdicts.{IsLowest}

module _ (c : Contents) (today : Date) (q : Filing) (below : (r : Rule) → ¬ (IsTrue (ltb (number_of r) 35) × Against c today q r)) where
  pub matched : is_unmatched q.deed (c.at q.key) ≡ false
  matched = false_from_ne_true _ (λ h. below Unmatched (refl, h))

  high : (s : Rule) → Against c today q s → 35 ≤ number_of s
  high s h = ltb-false (number_of s) 35 (false_from_ne_true _ (λ low. below s (low, h)))

  none : (is_kept q.key q.deed && not (has_room c q.key)) ≡ false → (r : Rule) → Against c today q r → ⊥
  none e NoRoom h = false≢true (sym e ∙ h)
  none e r h = below r (refl, h)

  last : (full : Bool) → (is_kept q.key q.deed && not (has_room c q.key)) ≡ full → IsLowest (Against c today q) (cond full (Some NoRoom) None)
  last true e = (e, high)
  last false e = none e

  -- and so the deed is done, if there is room
  pub settled : (v : Option Rule) (d : Contents) → v ≡ cond (is_kept q.key q.deed && not (has_room c q.key)) (Some NoRoom) None → d ≡ cond (is_none v) (done c q.key q.deed) c → Settled c today q v d
  settled v d e after = record { verdict = subst (IsLowest (Against c today q)) (sym e) (last _ refl); after = after }
