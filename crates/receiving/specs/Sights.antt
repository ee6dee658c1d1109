-- What rules 32 and 33 can see of other records. Assumes nothing. gs and hs are what was accepted before, in one use and in another.
--     SeenAs gs o e                a record stands under o after gs that is marked like e and has its times
--     SamePrescription gs hs o     of the prescription o the same is seen: whether it stands, its mark and its times
--     SameRefills gs hs k e        a visit with the entry e under the key k: of each refill that it takes, whether it is taken under another key; and the same of its origin
--     SameClaims gs hs k d         so it is, if the deed is a visit that the register keeps
--     SameSight gs hs q            the same is seen at the filing q, as far as one of the two rules may be broken by it: whether what stands under its key is dispensed under another; and the same claims
--     Sights s k n xs vs ws gs hs  so it is at each of the records xs of the sender k, numbered from n, that breaks no rule of the first three tiers; vs and ws are their verdicts
use Rattle.std.specs.Prelude.{◌≡◌, ◌↔◌, ℕ, ◌+◌, IsTrue, ◌&&◌, List, [], ◌∷◌, ◌++◌, Option, Some}
use Rattle.records.specs.Records.{Record}
use Rattle.faults.specs.declared.rules.Rule.{Rule}
use Rattle.register.specs.Entries.{source}
use Rattle.register.specs.Refills.{is_refill, has_refill}
use Rattle.register.specs.declared.entry.Entry.{Entry}
use Rattle.register.specs.declared.key.Key.{Key}
use Rattle.verdicts.specs.Sights.{Setting}
use Rattle.verdicts.specs.Faults.{faults_of}
use Rattle.filings.specs.declared.filing.Deed.{Deed}
use Rattle.filings.specs.declared.filing.Deed.TheVariants.{Visit}
use Rattle.filings.specs.declared.filing.Filing.{Filing}
use Rattle.settling.specs.Against.{is_kept}
use Rattle.settling.specs.Standing.{Standing, DispensedBy, TakenBy}
use Rattle.receiving.specs.Contents.{filing_of}
use Rattle.receiving.specs.Events.{accepted_one}

pub record SeenAs (gs : List Filing) (o : Key) (e : Entry) : Type 0 where
  pub entry : Entry
  pub stands : Standing gs o entry
  pub mark : entry.cancelled ≡ e.cancelled
  pub times : entry.times ≡ e.times

pub record SamePrescription (gs hs : List Filing) (o : Key) : Type 0 where
  pub there : (e : Entry) → Standing gs o e → SeenAs hs o e
  pub here : (e : Entry) → Standing hs o e → SeenAs gs o e

pub record SameRefills (gs hs : List Filing) (k : Key) (e : Entry) : Type 0 where
  pub taken : (n : ℕ) (o : Key) → IsTrue (is_refill n && has_refill e.refills n) → source k e ≡ Some o → TakenBy gs o n k ↔ TakenBy hs o n k
  pub origin : (o : Key) → e.origin ≡ Some o → SamePrescription gs hs o

abbrev pub SameClaims : List Filing → List Filing → Key → Deed → Type 0
SameClaims gs hs k (Visit e) = IsTrue (is_kept k (Visit e)) → SameRefills gs hs k e
SameClaims gs hs k _ = Unit {0}

pub record SameSight (gs hs : List Filing) (q : Filing) : Type 0 where
  pub dispensed : (e f : Entry) → Standing gs q.key e → Standing hs q.key f → DispensedBy gs q.key ↔ DispensedBy hs q.key
  pub claims : SameClaims gs hs q.key q.deed

abbrev pub Sights : Setting → List ℕ → ℕ → List Record → List (Option Rule) → List (Option Rule) → List Filing → List Filing → Type 0
Sights s k n (x ∷ xs) (v ∷ vs) (w ∷ ws) gs hs =
    ((q : Filing) → faults_of s n x ≡ [] → filing_of k x ≡ Some q → SameSight gs hs q)
    × Sights s k (n + 1) xs vs ws (gs ++ accepted_one k x v) (hs ++ accepted_one k x w)
Sights s k n _ _ _ gs hs = Unit {0}
