-- To compare entries field by field is to tell whether they are the same.
use Rattle.std.proofs.Common.{◌≡◌, Bool, ◌&&◌, Option, Some, None, refl, ap, rules}
use Rattle.std.proofs.lemmas.Bool.Decides.{Decides-and, Decides-like, Decides-eqb}
use Rattle.std.proofs.lemmas.Slice.Eq.{bytes_eq-Decides, slice_eq-Decides}
use Rattle.std.specs.Bool.{Decides}
use Rattle.std.specs.Cmp.{booleans_Decides}
use Rattle.std.specs.Option.{option_eq}
use Rattle.std.specs.Str.{bytes_eq}
use Rattle.std.specs.Prelude.{◌==◌}
use Rattle.std.proofs.Math.Bool.{beq}
use Rattle.std.specs.Cmp.Lexicographic.{pointwise}
use Rattle.register.specs.Keys.{same_key}
use Rattle.register.specs.declared.entry.Entry.{Entry}
use Rattle.register.specs.declared.key.Key.{Key}
use Rattle.register.specs.declared.refills.Refills.{Refills}

same_from : {a b : Key} → a.sender ≡ b.sender → a.identifier ≡ b.identifier → a ≡ b
same_from s i = search rules

keys : (a b : Key) → Decides (same_key a b) (a ≡ b)
keys a b = Decides-like _ (λ p. same_from p.0 p.1) (λ e. (ap (λ k. k.sender) e, ap (λ k. k.identifier) e))
    (Decides-and _ _ (bytes_eq-Decides a.sender b.sender) (bytes_eq-Decides a.identifier b.identifier))

origins : (a b : Option Key) → Decides (option_eq same_key a b) (a ≡ b)
origins None None = (λ _. refl, λ _. refl)
origins None (Some b) = search rules
origins (Some a) None = search rules
origins (Some a) (Some b) = Decides-like _ (λ e. ap Some e) (search rules) (keys a b)

taken : (a b : Refills) → Decides (pointwise beq a.taken b.taken) (a ≡ b)
taken a b = Decides-like _ (λ e. ap (λ ts. record { taken = ts }) e) (λ e. ap (λ r. r.taken) e) (slice_eq-Decides booleans_Decides a.taken b.taken _ refl)

abbrev pub equal : Entry → Entry → Bool
equal a b = bytes_eq a.patient b.patient && (bytes_eq a.birth b.birth && (bytes_eq a.category b.category && (bytes_eq a.visit b.visit && (option_eq same_key a.origin b.origin && ((a.times == b.times) && (pointwise beq a.refills.taken b.refills.taken && beq a.cancelled b.cancelled))))))

all_same : {a b : Entry} → a.patient ≡ b.patient → a.birth ≡ b.birth → a.category ≡ b.category → a.visit ≡ b.visit
    → a.origin ≡ b.origin → a.times ≡ b.times → a.refills ≡ b.refills → a.cancelled ≡ b.cancelled → a ≡ b
all_same p b c v o t r x = search rules

pub entries : (a b : Entry) → Decides (equal a b) (a ≡ b)
entries a b = Decides-like _
    (λ p. all_same p.0 p.1.0 p.1.1.0 p.1.1.1.0 p.1.1.1.1.0 p.1.1.1.1.1.0 p.1.1.1.1.1.1.0 p.1.1.1.1.1.1.1)
    (λ e. (ap (λ x. x.patient) e, (ap (λ x. x.birth) e, (ap (λ x. x.category) e, (ap (λ x. x.visit) e, (ap (λ x. x.origin) e, (ap (λ x. x.times) e, (ap (λ x. x.refills) e, ap (λ x. x.cancelled) e))))))))
    (Decides-and _ _ (bytes_eq-Decides a.patient b.patient)
    (Decides-and _ _ (bytes_eq-Decides a.birth b.birth)
    (Decides-and _ _ (bytes_eq-Decides a.category b.category)
    (Decides-and _ _ (bytes_eq-Decides a.visit b.visit)
    (Decides-and _ _ (origins a.origin b.origin)
    (Decides-and _ _ (Decides-eqb a.times b.times)
    (Decides-and _ _ (taken a.refills b.refills)
    (booleans_Decides a.cancelled b.cancelled))))))))
