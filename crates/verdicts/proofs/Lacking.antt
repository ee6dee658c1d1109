-- Where no absence breaks a rule. Assumes nothing.
use Rattle.std.proofs.Common.{◌≡◌, ℕ, Bool, true, false, not, ◌&&◌, List, [], ◌∷◌, ◌++◌, Some, None, refl, ap, ◌∙◌, arith}
use Rattle.std.specs.List.{flat_map}
use Rattle.fields.specs.Fields.{id_of}
use Rattle.fields.specs.declared.field.Field.{Field}
use Rattle.faults.specs.Along.{given}
use Rattle.faults.specs.declared.rules.Rule.{Rule}
use Rattle.rules.specs.Views.{View, has}
use Rattle.rules.specs.Places.{rules_at, asks}
use Rattle.rules.specs.Rules.{broken}
use Rattle.rules.proofs.Telling.{asked}
use Rattle.verdicts.specs.Faults.{fault, lacks, lacking}
use Rattle.verdicts.specs.Walks.{lacking_any}

none_of : (rs : List Rule) (v : View) (n k tag : ℕ) (f : Field) → ((r : Rule) → lacks r v f ≡ false) → flat_map (λ r. lacking r v n k tag f) rs ≡ []
none_of [] v n k tag f h = refl
none_of (r ∷ rs) v n k tag f h =
    ap (λ b. given b (fault n k r (id_of f) tag) ++ flat_map (λ q. lacking q v n k tag f) rs) (h r) ∙ none_of rs v n k tag f h

off : (h b : Bool) → h ≡ true → (not h && b) ≡ false
off h b e = grind (arith, e)

both_off : (h b : Bool) → (h ≡ false → b ≡ false) → (not h && b) ≡ false
both_off true b k = refl
both_off false b k = k refl

-- not that of a field that is written
pub written : (v : View) (n k tag : ℕ) (f : Field) → has v f ≡ true → lacking_any None v n k tag f ≡ []
written v n k tag f h = none_of (rules_at (Some f)) v n k tag f (λ r. off (has v f) (broken r v f) h)

-- nor that of one that is not asked for
pub not_asked : (v : View) (n k tag : ℕ) (f : Field) → asks v f ≡ false → lacking_any None v n k tag f ≡ []
not_asked v n k tag f a = none_of (rules_at (Some f)) v n k tag f (λ r. both_off (has v f) (broken r v f) (λ h. asked r v f h a))
