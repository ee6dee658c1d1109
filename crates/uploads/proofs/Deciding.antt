-- One answer to a call is right, and no other. Assumes nothing.
use Rattle.std.proofs.Common.{◌≡◌, ℕ, true, false, List, [], ◌∷◌, ◌++◌, Option, Some, None, Result, Ok, Err, MatchOption, codes, refl, sym, ap, ◌∙◌, subst, arith}
use Rattle.std.proofs.lemmas.Option.{MatchOption-at_some, MatchOption-at_none}
use Rattle.std.specs.Option.{option_map, ok_or}
use Rattle.calendar.specs.Calendar.{Date}
use Rattle.calendar.specs.Days.{date_of}
use Rattle.calendar.specs.declared.day.Day.{Day}
use Rattle.grammar.specs.Grammar.{declaration, Lawful}
use Rattle.reader.specs.Spans.{Departs}
use Rattle.reader.specs.Laws.{Law, taken as lawfully}
use Rattle.reader.specs.declared.faults.Refusal.{Refusal}
use Rattle.reader.specs.declared.faults.Refusal.TheVariants.{Declaration, Foreign, TooMany, Call}
use Rattle.reader.proofs.Uniques.{one, lawful_of}
use Rattle.reader.proofs.Answering.{declaration_law}
use Rattle.limits.proofs.Firsts.{first_unique, first_not_nowhere}
use Rattle.limits.specs.declared.tally.Survey.{Survey}
use Rattle.uploads.specs.Calls.{Told, right_day, right_length}
use Rattle.grammar.specs.Items.{items_of}
use Rattle.limits.specs.Records.{records_in}
use Rattle.limits.specs.Limits.{NoneBeyond, FirstBeyond, NoneForeign, FirstForeign}
use Rattle.uploads.specs.Answers.{Taken, Within, Sound, Answer, wrong_call, wrong_length, wrong_structure, too_many, foreign, taken, Answered, SpaceInDeclaration}

module _ (c : Told) where
  no_day : (d : Date) → right_day c ≡ None → right_day c ≡ Some d → ⊥
  no_day d h k = cc

  length_clash : right_length c.upload ≡ false → right_length c.upload ≡ true → ⊥
  length_clash h k = cc

  lawful_clash : (r : Refusal) → Lawful c.upload → Law c.upload (Err r) → ⊥
  lawful_clash r l h = let e = one c.upload (Ok (tt {0})) (Err r) (lawfully l) h in cc

  same : (r q : Refusal) → Law c.upload (Err r) → Law c.upload (Err q) → r ≡ q
  same r q h k = let e = one c.upload (Err r) (Err q) h k in cc

  same_day : {d e : Date} → right_day c ≡ Some d → right_day c ≡ Some e → d ≡ e
  same_day h k = cc

  same_taken : {d e : Date} {m n : ℕ} → d ≡ e → m ≡ n → ◌≡◌ {A = Result Taken Refusal} (Ok (record { upload = c.upload; sender = c.sender; day = d; records = m })) (Ok (record { upload = c.upload; sender = c.sender; day = e; records = n }))
  same_taken p q = λ i. Ok (record { upload = c.upload; sender = c.sender; day = p i; records = q i })

  decided : (r q : Result Taken Refusal) → Answer c r → Answer c q → r ≡ q
  decided _ _ (wrong_call h) (wrong_call k) = refl
  decided _ _ (wrong_call h) (wrong_length {d} k m) = absurd (no_day d h k)
  decided _ _ (wrong_call h) (wrong_structure {d} s k) = absurd (no_day d h s.day)
  decided _ _ (wrong_call h) (too_many {d} s l k) = absurd (no_day d h s.day)
  decided _ _ (wrong_call h) (foreign {d} s l k) = absurd (no_day d h s.day)
  decided _ _ (wrong_call h) (taken {d} s l k n) = absurd (no_day d h s.day)
  decided _ _ (wrong_length {d} h m) (wrong_call k) = absurd (no_day d k h)
  decided _ _ (wrong_length h m) (wrong_length k n) = refl
  decided _ _ (wrong_length h m) (wrong_structure s k) = absurd (length_clash m s.length)
  decided _ _ (wrong_length h m) (too_many s l k) = absurd (length_clash m s.length)
  decided _ _ (wrong_length h m) (foreign s l k) = absurd (length_clash m s.length)
  decided _ _ (wrong_length h m) (taken s l k n) = absurd (length_clash m s.length)
  decided _ _ (wrong_structure {d} s h) (wrong_call k) = absurd (no_day d k s.day)
  decided _ _ (wrong_structure s h) (wrong_length k m) = absurd (length_clash m s.length)
  decided _ _ (wrong_structure {r} s h) (wrong_structure {r = q} t k) = ap (λ x. Err x) (same r q h k)
  decided _ _ (wrong_structure {r} s h) (too_many t l k) = absurd (lawful_clash r l h)
  decided _ _ (wrong_structure {r} s h) (foreign t l k) = absurd (lawful_clash r l.lawful h)
  decided _ _ (wrong_structure {r} s h) (taken t l k n) = absurd (lawful_clash r l.lawful h)
  decided _ _ (too_many {d} s l h) (wrong_call k) = absurd (no_day d k s.day)
  decided _ _ (too_many s l h) (wrong_length k m) = absurd (length_clash m s.length)
  decided _ _ (too_many s l h) (wrong_structure {r} t k) = absurd (lawful_clash r l k)
  decided _ _ (too_many {k = i} s l h) (too_many {k = j} t m k) = ap (λ x. Err (TooMany x)) (first_unique (h l) (k l))
  decided _ _ (too_many s l h) (foreign t m k) = absurd (first_not_nowhere (h l) (m.limits l))
  decided _ _ (too_many s l h) (taken t m k n) = absurd (first_not_nowhere (h l) (m.limits l))
  decided _ _ (foreign {d} s l h) (wrong_call k) = absurd (no_day d k s.day)
  decided _ _ (foreign s l h) (wrong_length k m) = absurd (length_clash m s.length)
  decided _ _ (foreign s l h) (wrong_structure {r} t k) = absurd (lawful_clash r l.lawful k)
  decided _ _ (foreign s l h) (too_many t m k) = absurd (first_not_nowhere (k m) (l.limits m))
  decided _ _ (foreign s l h) (foreign t m k) = ap (λ x. Err (Foreign x)) (first_unique (h l.lawful) (k l.lawful))
  decided _ _ (foreign s l h) (taken t m k n) = absurd (first_not_nowhere (h l.lawful) (k l.lawful))
  decided _ _ (taken {d} s l h m) (wrong_call k) = absurd (no_day d k s.day)
  decided _ _ (taken s l h n) (wrong_length k m) = absurd (length_clash m s.length)
  decided _ _ (taken s l h n) (wrong_structure {r} t k) = absurd (lawful_clash r l.lawful k)
  decided _ _ (taken s l h n) (too_many t m k) = absurd (first_not_nowhere (k m) (l.limits m))
  decided _ _ (taken s l h n) (foreign t m k) = absurd (first_not_nowhere (k m.lawful) (h m.lawful))
  decided _ _ (taken s l h n) (taken t m k o) = same_taken (same_day s.day t.day) (n l.lawful ∙ sym (o l.lawful))

  pub answered : (r : Result Taken Refusal) → Answer c r → Answered c r
  answered r h = record { law = h; only = λ q k. decided r q h k }

-- ---- a space before the ?> of the declaration

spaced : (w : List ℕ) → Departs (codes "<?xml version=\"1.0\" encoding=\"Big5\" ?>" ++ w) 0 declaration 35
spaced w =
    record {
      read = codes "<?xml version=\"1.0\" encoding=\"Big5\"";
      next = 0x3f;
      rest = 0x3e ∷ [];
      text = refl;
      spans = record { ends = refl; within = omega arith; is = refl };
      refuses = λ _. refl;
    }

pub space_in_declaration : SpaceInDeclaration
space_in_declaration c d w s e =
    let t = subst (λ (u : List ℕ). Departs u 0 declaration 35) (sym e) (spaced w) in
    answered c (Err (Declaration 35)) (wrong_structure s (declaration_law c.upload 35 t.spans.within t))

-- ---- what the passes say

pub no_day_told : {c : Told} {o : Option Day} {r : Refusal} → option_map date_of o ≡ right_day c → o ≡ None → ◌≡◌ {A = Result Day Refusal} (Err r) (ok_or o Call) → Answer c (Err r)
no_day_told {c} {o} {r} h n e =
    let same : r ≡ Call = cc in
    subst (λ (q : Refusal). Answer c (Err q)) (sym same) (wrong_call (sym h ∙ ap (option_map date_of) n))

pub told_day : {t : Option Date} {o : Option Day} {d : Day} → option_map date_of o ≡ t → o ≡ Some d → t ≡ Some (date_of d)
told_day h e = sym h ∙ ap (option_map date_of) e

pub record Surveyed (u sender : List ℕ) (s : Survey) : Type 0 where
  pub records : (l : Lawful u) → s.records ≡ records_in (items_of l)
  pub beyond : (l : Lawful u) → MatchOption s.beyond (NoneBeyond (items_of l)) (FirstBeyond (items_of l))
  pub foreign : (l : Lawful u) → MatchOption s.foreign (NoneForeign sender (items_of l)) (FirstForeign sender (items_of l))

-- the call is right, its upload is lawful, and s is what was found in it
pub record Seen (c : Told) (d : Date) (s : Survey) : Type 0 where
  pub sound : Sound c d
  pub lawful : Lawful c.upload
  pub survey : Surveyed c.upload c.sender s

pub seen : (c : Told) {o : Option Day} {d : Day} {s : Survey} {u : List ℕ} → option_map date_of o ≡ right_day c → o ≡ Some d → true ≡ right_length c.upload → Law c.upload (Ok (tt {0})) → u ≡ c.upload → Surveyed u c.sender s → Seen c (date_of d) s
seen c {s} h e l w q v =
    record {
      sound = record { day = told_day h e; length = sym l };
      lawful = lawful_of w;
      survey = subst (λ (u : List ℕ). Surveyed u c.sender s) q v;
    }

module _ {c : Told} {d : Date} {s : Survey} (h : Seen c d s) where
  pub beyond_limits : {k : ℕ} → s.beyond ≡ Some k → Answer c (Err (TooMany k))
  beyond_limits {k} e = too_many h.sound h.lawful (λ m. MatchOption-at_some (NoneBeyond (items_of m)) _ k e (h.survey.beyond m))

  module _ (none : s.beyond ≡ None) where
    within : Within c.upload
    within = record { lawful = h.lawful; limits = λ m. MatchOption-at_none _ (FirstBeyond (items_of m)) none (h.survey.beyond m) }

    pub foreign_sender : {k : ℕ} → s.foreign ≡ Some k → Answer c (Err (Foreign k))
    foreign_sender {k} e = foreign h.sound within (λ m. MatchOption-at_some (NoneForeign c.sender (items_of m)) _ k e (h.survey.foreign m))

    pub all_right : {w : List ℕ} → w ≡ c.upload → s.foreign ≡ None → Answer c (Ok (record { upload = w; sender = c.sender; day = d; records = s.records }))
    all_right q e =
        subst (λ (u : List ℕ). Answer c (Ok (record { upload = u; sender = c.sender; day = d; records = s.records }))) (sym q)
        (taken h.sound within (λ m. MatchOption-at_none _ (FirstForeign c.sender (items_of m)) e (h.survey.foreign m)) h.survey.records)
