-- What the functions that read on from a place find. Assumes nothing.
--     fits c b                    the byte b is of the class c
--     FaultAt u at c f            the fault f: another byte stands at the place, with the cause c, or none
--     ByteMissing u at p c f      the same, where the byte fails the test p
--     TextMissing u from t c f    the fault f: the text t breaks off
--     Each takes es v             each byte of v is one that es at its place takes
--     Stands takes u from es to   between the places such bytes stand
--     StandsTo takes u from es k  from the place on they stand as far as k, where u ends or has another byte
--     Missing takes u from es c f the fault f says so, with the cause c
--     ClassesBreak u from cs k    from the place on bytes of these classes stand as far as k, and no further
--     SkipsWhite u from to        from one place to the other white space stands, and no further
--     IsCharacter u at to         one character of a value stands between the places
--     ValueEnds u from to         between the places a value stands, and a < behind it
--     ValueBreaksAt u from k      from the place on a value stands as far as k, and neither goes on there nor ends
--     ValueBreaks u from f        the fault f says so
use Rattle.std.specs.Prelude.{◌≡◌, ℕ, ◌<◌, Bool, true, false, List, [], ◌∷◌, ◌++◌, length, ◌==◌, slice_index}
use Rattle.grammar.specs.Bytes.{capital}
use Rattle.calendar.specs.Digits.{is_digit}
use Rattle.grammar.specs.Grammar.{Value}
use Rattle.reader.specs.Spans.{Spans, Refuses, Departs, Whites, Settles, Halved, none_after}
use Rattle.reader.specs.declared.faults.Cause.{Cause}
use Rattle.reader.specs.declared.faults.CharacterFault.{CharacterFault}
use Rattle.reader.specs.declared.faults.CharacterFault.TheVariants as character
use Rattle.reader.specs.declared.faults.TagFault.{TagFault}
use Rattle.reader.specs.declared.faults.TagFault.TheVariants as tag
use Rattle.reader.specs.declared.classes.Class.{Class}
use Rattle.reader.specs.declared.classes.Class.TheVariants.{Byte, Capital, Digit}

abbrev pub fits : Class → ℕ → Bool
fits (Byte x) b = b == x
fits Capital b = capital b
fits Digit b = is_digit b

abbrev pub FaultAt : List ℕ → ℕ → Cause → TagFault → Type 0
FaultAt u at c (tag.Wrong d k) = (d ≡ c) × (k ≡ at) × (k < length u)
FaultAt u at c (tag.Ended k) = (k ≡ at) × (k ≡ length u)

abbrev pub ByteMissing : List ℕ → ℕ → (ℕ → Bool) → Cause → TagFault → Type 0
ByteMissing u at p c (tag.Wrong d k) = (d ≡ c) × (k ≡ at) × (k < length u) × (p (slice_index u k) ≡ false)
ByteMissing u at p c (tag.Ended k) = (k ≡ at) × (k ≡ length u)

abbrev pub TextMissing : List ℕ → ℕ → List ℕ → Cause → TagFault → Type 0
TextMissing u from t c (tag.Wrong d k) = (d ≡ c) × (k < length u) × Departs u from t k
TextMissing u from t c (tag.Ended k) = (k ≡ length u) × Departs u from t k

abbrev pub Each : {E : Type 0} → (E → ℕ → Bool) → List E → List ℕ → Type 0
Each takes [] [] = Unit {0}
Each takes [] (b ∷ v) = ⊥
Each takes (e ∷ es) [] = ⊥
Each takes (e ∷ es) (b ∷ v) = (takes e b ≡ true) × Each takes es v

pub record Stands {E : Type 0} (takes : E → ℕ → Bool) (u : List ℕ) (from : ℕ) (es : List E) (to : ℕ) : Type 0 where
  pub bytes : List ℕ
  pub each : Each takes es bytes
  pub spans : Spans u from bytes to

pub record StandsTo {E : Type 0} (takes : E → ℕ → Bool) (u : List ℕ) (from : ℕ) (es : List E) (k : ℕ) : Type 0 where
  pub before : List E
  pub next : E
  pub rest : List E
  pub expected : es ≡ before ++ (next ∷ rest)
  pub stand : Stands takes u from before k
  pub refuses : Refuses u k (takes next)

abbrev pub Missing : {E : Type 0} → (E → ℕ → Bool) → List ℕ → ℕ → List E → Cause → TagFault → Type 0
Missing takes u from es c (tag.Wrong d k) = (d ≡ c) × (k < length u) × StandsTo takes u from es k
Missing takes u from es c (tag.Ended k) = (k ≡ length u) × StandsTo takes u from es k

abbrev pub ClassesBreak : List ℕ → ℕ → List Class → ℕ → Type 0
ClassesBreak u from cs k = StandsTo fits u from cs k

pub record SkipsWhite (u : List ℕ) (from to : ℕ) : Type 0 where
  pub skipped : List ℕ
  pub white : Whites skipped
  pub spans : Spans u from skipped to
  pub settles : Settles u to

pub record IsCharacter (u : List ℕ) (at to : ℕ) : Type 0 where
  pub bytes : List ℕ
  pub value : Value bytes
  pub some : at < to
  pub spans : Spans u at bytes to

pub record ValueEnds (u : List ℕ) (from to : ℕ) : Type 0 where
  pub bytes : List ℕ
  pub value : Value bytes
  pub spans : Spans u from bytes to
  pub within : to < length u
  pub bracket : slice_index u to ≡ 0x3c

pub record ValueBreaksAt (u : List ℕ) (from k : ℕ) : Type 0 where
  pub bytes : List ℕ
  pub half : List ℕ
  pub value : Value bytes
  pub halved : Halved half
  pub spans : Spans u from (bytes ++ half) k
  pub refuses : Refuses u k (none_after half)

abbrev pub ValueBreaks : List ℕ → ℕ → CharacterFault → Type 0
ValueBreaks u from (character.Wrong k) = (k < length u) × ValueBreaksAt u from k
ValueBreaks u from (character.Ended k) = (k ≡ length u) × ValueBreaksAt u from k
