-- A sender's own entries. Assumes nothing.
use Rattle.std.proofs.Common.{◌≡◌, ◌≢◌, ℕ, Bool, true, false, if◌then◌else◌, List, Option, Some, None, refl, sym, ap, ◌∙◌}
use Rattle.std.proofs.lemmas.Option.{none-some, same_Some}
use Rattle.std.specs.Cmp.Lexicographic.{same_text}
use Rattle.std.specs.Str.{bytes_eq}
use Rattle.records.specs.Records.{Record}
use Rattle.faults.specs.declared.rules.Rule.{Rule}
use Rattle.register.specs.Contents.{Contents}
use Rattle.register.specs.Keys.{same_key}
use Rattle.register.specs.declared.key.Key.{Key}
use Rattle.verdicts.specs.Sights.{Setting}
use Rattle.filings.specs.Filings.{filed}
use Rattle.filings.specs.declared.filing.Deed.{Deed}
use Rattle.filings.specs.declared.filing.Filing.{Filing}
use Rattle.receiving.specs.Contents.{filing_of}
use Rattle.receiving.specs.Judging.{filed_in, Judges, Run, ended, judged}
use Rattle.settling.proofs.Deeds.{elsewhere}

-- two registers have the same entries of the sender k
abbrev pub Own : List ℕ → Contents → Contents → Type 0
Own k c d = (j : Key) → j.sender ≡ k → c.at j ≡ d.at j

-- what is filed is filed under a key of its sender
signed : (b : Bool) (k i : List ℕ) (o : Option Deed) (q : Filing) → filed (if b then Some (record { sender = k; identifier = i }) else None) o ≡ Some q → q.key.sender ≡ k
signed true k i (Some a) q h = sym (ap (λ f. f.key.sender) (same_Some _ q h))
signed true k i None q h = absurd (none-some q h)
signed false k i o q h = absurd (none-some q h)

pub filing_sender : (k : List ℕ) (x : Record) (q : Filing) → filing_of k x ≡ Some q → q.key.sender ≡ k
filing_sender k x q h = signed _ k _ _ q h

-- and under keys of other senders nothing changes
pub differ : (x y : List ℕ) → x ≢ y → bytes_eq x y ≡ false
differ x y h = by (bytes_eq x y) refl
  where
    by : (b : Bool) → bytes_eq x y ≡ b → b ≡ false
    by true e = absurd (h (same_text x y (sym e)))
    by false e = refl

apart : (a b : Key) → a.sender ≢ b.sender → same_key a b ≡ false
apart a b h = rw (differ a.sender b.sender h) refl

filed_apart : (k : List ℕ) (x : Record) (c : Contents) (o : Option Filing) → filing_of k x ≡ o → (j : Key) → j.sender ≢ k → (filed_in c o).at j ≡ c.at j
filed_apart k x c None e j h = refl
filed_apart k x c (Some q) e j h = elsewhere c q.key j q.deed (apart q.key j (λ p. h (sym p ∙ filing_sender k x q e)))

judged_apart : (s : Setting) (k : List ℕ) (n : ℕ) (x : Record) (c : Contents) (v : Option Rule) (d : Contents) → Judges s k n x c v d → (j : Key) → j.sender ≢ k → d.at j ≡ c.at j
judged_apart s k n x c None d h j e = ap (λ m. m.at j) h.after ∙ filed_apart k x c (filing_of k x) refl j e
judged_apart s k n x c (Some r) d h j e = ap (λ m. m.at j) h.after

pub run_apart : (s : Setting) (k : List ℕ) {n : ℕ} {xs : List Record} {c : Contents} {vs : List (Option Rule)} {d : Contents} → Run s k n xs c vs d → (j : Key) → j.sender ≢ k → d.at j ≡ c.at j
run_apart s k ended j e = refl
run_apart s k (judged {n = n} {x = x} {c = c} {m = m} {v = v} h r) j e = run_apart s k r j e ∙ judged_apart s k n x c v m h j e
