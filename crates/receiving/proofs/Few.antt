-- An upload that is taken has no more records than there are verdict rows. Assumes nothing.
use Rattle.std.proofs.Common.{◌≡◌, ℕ, ◌+◌, ◌≤◌, Bool, true, false, List, [], ◌∷◌, ◌++◌, length, inl, refl, sym, ap, subst, arith, append_assoc, append-nil}
use Rattle.std.proofs.lemmas.List.Sums.{sum_by-cons, sum_by-append}
use Rattle.std.specs.Prelude.{if◌then◌else◌}
use Rattle.grammar.specs.Items.{Item, structure}
use Rattle.grammar.specs.declared.states.Element.TheVariants.{Rec}
use Rattle.grammar.specs.declared.states.Tag.TheVariants.{Open}
use Rattle.records.specs.Records.{records_of}
use Rattle.limits.specs.Limits.{IsBeyond, NoneBeyond, most_records}
use Rattle.limits.specs.Records.{is_record, records_in}

as_many : (is : List Item) → records_in is ≡ length (records_of is)
as_many (structure (Open Rec) at ∷ is) = omega (arith, as_many is, sum_by-cons (λ i. if is_record i then 1 else 0) (structure (Open Rec) at) is)
as_many (x ∷ is) = omega (arith, as_many is, sum_by-cons (λ i. if is_record i then 1 else 0) x is)
as_many [] = refl

one_more : (front : List Item) (x : Item) → records_in (front ++ x ∷ []) ≡ records_in front + (if is_record x then 1 else 0)
one_more front x = omega (arith, sum_by-append (λ i. if is_record i then 1 else 0) front (x ∷ []))

fits : (b : Bool) (n m : ℕ) → m ≡ n + (if b then 1 else 0) → n ≤ most_records → (b ≡ true → ¬ (most_records ≤ n)) → m ≤ most_records
fits true n m e h k = let l = k refl in omega (arith, e, l)
fits false n m e h k = omega (arith, e, h)

within : (front is : List Item) → ((f : List Item) (x : Item) (b : List Item) → is ≡ f ++ (x ∷ b) → ¬ IsBeyond (front ++ f) x) → records_in front ≤ most_records → records_in (front ++ is) ≤ most_records
within front [] none h = subst (λ l. records_in l ≤ most_records) (sym (append-nil front)) h
within front (x ∷ is) none h =
    subst (λ l. records_in l ≤ most_records) (append_assoc front (x ∷ []) is)
    (within (front ++ x ∷ []) is
    (λ f y b e k. none (x ∷ f) y b (ap (λ l. x ∷ l) e) (subst (λ l. IsBeyond l y) (append_assoc front (x ∷ []) f) k))
    (fits (is_record x) (records_in front) _ (one_more front x) h (λ t k. none [] x is refl (inl (t, subst (λ l. most_records ≤ records_in l) (sym (append-nil front)) k)))))

pub few_records : (is : List Item) → NoneBeyond is → length (records_of is) ≤ 4096
few_records is n = let w = within [] is (λ f x b e. n.never f x b e) (omega arith) in omega (arith, w, as_many is)
