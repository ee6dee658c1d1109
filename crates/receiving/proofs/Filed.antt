-- A record that breaks none of its own rules files something, so an answer counts as accepted what is filed. Assumes nothing.
use Rattle.std.proofs.Common.{◌≡◌, ◌≢◌, ℕ, Bool, true, false, not, ◌&&◌, ◌||◌, ◌==◌, if◌then◌else◌, List, [], ◌∷◌, ◌++◌, length, Option, Some, None, Result, Ok, Err, inl, inr, is_some, refl, sym, ap, ◌∙◌, subst, arith, length-append}
use Rattle.std.proofs.lemmas.Bool.{true≢false, false≢true, false_from_ne_true, and_parts}
use Rattle.std.proofs.lemmas.Bool.Decides.{nat_tests}
use Rattle.std.proofs.lemmas.List.Sums.{sum_by-cons}
use Rattle.std.proofs.lemmas.Option.{none-some}
use Rattle.std.specs.List.{find}
use Rattle.std.specs.Option.{option_map_or}
use Rattle.std.specs.Prelude.{is_none, is_ok, count_by, nat_le, IfOk}
use Rattle.calendar.specs.Calendar.{Date}
use Rattle.calendar.specs.Written.{date_in}
use Rattle.grammar.proofs.Tested.{test_from_lawful}
use Rattle.grammar.specs.Grammar.{Lawful}
use Rattle.grammar.specs.Threads.{is_lawful}
use Rattle.grammar.specs.Items.{Item, structure, value_place, items_of}
use Rattle.grammar.specs.declared.states.FieldId.{FieldId}
use Rattle.grammar.specs.declared.states.Segment.{Segment}
use Rattle.grammar.specs.declared.states.Segment.TheVariants.{Header, Visit, Order}
use Rattle.grammar.specs.declared.states.Element.TheVariants.{Rec}
use Rattle.grammar.specs.declared.states.Tag.TheVariants.{Open}
use Rattle.records.specs.Records.{Written, Part, Record, part_ahead, begins, tag_place, fields_ahead, records_of}
use Rattle.fields.specs.Fields.{row, id_of, segment_of, field_at}
use Rattle.fields.specs.declared.field.Field.{Field}
use Rattle.fields.specs.declared.field.Field.TheVariants.{H01, M07, M15}
use Rattle.fields.specs.declared.action.Action.{Action}
use Rattle.fields.specs.declared.action.Action.TheVariants.{Normal, Exceptional, Cancel, Delete}
use Rattle.fields.specs.declared.category.Category.{Category}
use Rattle.fields.specs.declared.need.Need.{Need}
use Rattle.fields.specs.declared.need.Need.TheVariants.{Required}
use Rattle.fields.proofs.Naming.{only, row_apart}
use Rattle.fields.proofs.Whole.{table}
use Rattle.cells.specs.Cells.{is_at}
use Rattle.cells.specs.Filled.{is_written, first_at, value_of, value_in, fields_in}
use Rattle.faults.specs.Along.{In}
use Rattle.faults.specs.declared.report.Fault.{Fault}
use Rattle.faults.specs.declared.rules.Rule.{Rule}
use Rattle.faults.specs.declared.rules.Rule.TheVariants.{Unknown, Missing, Signs}
use Rattle.rules.specs.Views.{View, has, withdraws, is_visit_action, withdraws_by}
use Rattle.rules.specs.Needs.{need_for, is_required}
use Rattle.rules.specs.Rules.{broken}
use Rattle.register.specs.Contents.{Contents}
use Rattle.register.specs.Keys.{are_signs}
use Rattle.register.specs.declared.key.Key.{Key}
use Rattle.uploads.specs.Calls.{Told, right_day, is_sender, least_rows}
use Rattle.uploads.specs.Answers.{Taken, Sound, Answer, Answered}
use Rattle.uploads.specs.Answers as answers
use Rattle.verdicts.proofs.Members.{has_value, value_has}
use Rattle.verdicts.specs.Sights.{Setting, view}
use Rattle.verdicts.specs.Faults.{fault}
use Rattle.verdicts.specs.Broken.{header, visit, IsWritten, BelongsTo, WrittenIn, BreaksAt, absent, written, Breaks}
use Rattle.filings.specs.Filings.{filed, deed_by, Values}
use Rattle.filings.specs.declared.filing.Filing.{Filing}
use Rattle.judging.specs.declared.upload.Counts.{Counts}
use Rattle.receiving.specs.Contents.{records_in, values_of, filing_of, option_list}
use Rattle.receiving.specs.Judging.{Judges, Run, ended, judged, faults_along}
use Rattle.receiving.specs.Events.{Call, Event, accepted_one, accepted_among, accepted_in}
use Rattle.receiving.specs.Receiving.{told_of, setting_on, counts_of, event_of, Received, goes_back, taken}
use Rattle.receiving.specs.declared.receive.Delivery.{Delivery}
use Rattle.lists.specs.Lists.{Meaning}
use Rattle.reader.specs.declared.faults.Refusal.{Refusal}
use Rattle.judging.proofs.Judging.{ok_is}
use Rattle.receiving.proofs.Taking.{sender, sound, limits}
use Rattle.receiving.proofs.Reading.{in_each}

-- what is found first: nothing before it passes the test
record First {X : Type 0} (p : X → Bool) (xs : List X) (x : X) : Type 0 where
  front : List X
  back : List X
  is : xs ≡ front ++ (x ∷ back)
  passes : p x ≡ true
  before : (y : X) → In y front → p y ≡ false

module _ {X : Type 0} (p : X → Bool) where
  first_head : (y : X) (xs : List X) (x : X) (b : Bool) → p y ≡ b → find p (y ∷ xs) ≡ Some x → (find p xs ≡ Some x → First p xs x) → First p (y ∷ xs) x
  first_head y xs x true q e r =
      let s : y ≡ x = grind (arith) in
      record { front = []; back = xs; is = ap (λ z. z ∷ xs) s; passes = subst (λ z. p z ≡ true) s q; before = λ z i. absurd i }
  first_head y xs x false q e r =
      let w = r (grind (arith)) in
      record { front = y ∷ w.front; back = w.back; is = ap (λ zs. y ∷ zs) w.is; passes = w.passes; before = before w.front w.before }
    where
      before : (zs : List X) → ((z : X) → In z zs → p z ≡ false) → (z : X) → In z (y ∷ zs) → p z ≡ false
      before zs h z (inl s) = subst (λ a. p a ≡ false) (sym s) q
      before zs h z (inr i) = h z i

  found_first : (xs : List X) (x : X) → find p xs ≡ Some x → First p xs x
  found_first [] x e = absurd (none-some x e)
  found_first (y ∷ xs) x e = first_head y xs x (p y) refl e (found_first xs x)

-- what is written, and which field an ID names

named_by : (g : Segment) (i : FieldId) (f : Field) (o : Option Field) → field_at g i ≡ o → option_map_or (λ h. row h == row f) o false ≡ true → i ≡ id_of f
named_by g i f None e h = absurd (false≢true h)
named_by g i f (Some k) e h = (only g i k e).0 ∙ ap id_of (row_apart k f (grind (arith, nat_tests)))

-- a rule that is broken at a field of the part is broken by its first value there, or by its absence
module _ (v : View) (n k : ℕ) (p : Part) (r : Rule) (f : Field) (b : BelongsTo p f) (e : v.value f ≡ value_in (segment_of f) f p.fields) (h : broken r v f ≡ true) where
  is_it : Written → Bool
  is_it w = is_written w && is_at (segment_of f) w.id f

  first_of : (w : Written) → First is_it p.fields w → BreaksAt v n k p (fault n k r w.id (value_place w.place))
  unfolding is_it
  first_of w t = written r f t.front w t.back t.is (has_value w l) i b new h
    where
      l : is_written w ≡ true
      l = (and_parts (is_written w) (is_at (segment_of f) w.id f) t.passes).0

      i : w.id ≡ id_of f
      i = named_by (segment_of f) w.id f (field_at (segment_of f) w.id) refl (and_parts (is_written w) (is_at (segment_of f) w.id f) t.passes).1

      new : ¬ WrittenIn t.front w.id
      new u =
          let at = subst (λ j. is_at (segment_of f) j f ≡ true) (sym u.named) (and_parts (is_written w) (is_at (segment_of f) w.id f) t.passes).1 in
          let no = t.before u.field u.stands in
          let is = value_has u.field u.written in
          true≢false (grind arith)

  told_by : (o : Option Written) → first_at (segment_of f) f p.fields ≡ o → (y : Fault) × BreaksAt v n k p y
  unfolding is_it
  told_by None q = (fault n k r (id_of f) p.tag, absent r f b (e ∙ ap value_of q) h)
  told_by (Some w) q = (fault n k r w.id (value_place w.place), first_of w (found_first is_it p.fields w q))

  told : (y : Fault) × BreaksAt v n k p y
  told = told_by (first_at (segment_of f) f p.fields) refl

-- the header and the visit of the record are what they are called
pub record Titled (x : Record) : Type 0 where
  pub header : x.header.segment ≡ Header
  pub visit : x.visit.segment ≡ Visit

part_titled : (g : Segment) (is : List Item) → (part_ahead g is).segment ≡ g
part_titled g [] = refl
part_titled g (i ∷ is) = by (begins g i) (part_titled g is)
  where
    by : (b : Bool) → (part_ahead g is).segment ≡ g → (if b then record { segment = g; tag = tag_place i; fields = fields_ahead is } else part_ahead g is).segment ≡ g
    by true e = refl
    by false e = e

-- so they are in every record that is read
pub records_titled : (is : List Item) (x : Record) → In x (records_of is) → Titled x
records_titled (structure (Open Rec) at ∷ is) x (inl e) = subst Titled (sym e) (record { header = part_titled Header is; visit = part_titled Visit is })
records_titled (structure (Open Rec) at ∷ is) x (inr h) = records_titled is x h
records_titled (i ∷ is) x h = records_titled is x h
records_titled [] x h = absurd h

pub titled : (u : List ℕ) → is_lawful u ≡ true → (x : Record) → In x (records_in u) → Titled x
titled u t = in_each (λ rs. (x : Record) → In x rs → Titled x) u t (λ l. records_titled (items_of l))

-- a record that breaks none of its own rules breaks none at a field of header or visit
module _ (s : Setting) (n : ℕ) (x : Record) (t : Titled x) (clean : (y : Fault) → ¬ Breaks s n x y) where
  holds_in : (g : Segment) (r : Rule) (f : Field) → segment_of f ≡ g → g ≢ Order → broken r (view s x [] []) f ≡ false
  holds_in Header r f e o =
      false_from_ne_true _ (λ h.
      let w = told (view s x [] []) n 0 x.header r f (e ∙ sym t.header) (ap (λ g. value_in (segment_of f) f (fields_in x [] g)) e) h in
      clean w.0 (record { segment = 0; part = x.header; before = []; seen = []; stands = header; breaks = w.1 }))
  holds_in Visit r f e o =
      false_from_ne_true _ (λ h.
      let w = told (view s x [] []) n 1 x.visit r f (e ∙ sym t.visit) (ap (λ g. value_in (segment_of f) f (fields_in x [] g)) e) h in
      clean w.0 (record { segment = 1; part = x.visit; before = []; seen = []; stands = visit; breaks = w.1 }))
  holds_in Order r f e o = absurd (o refl)

  -- no rule is broken at a field of its header or visit
  pub holds_at : (r : Rule) (f : Field) → segment_of f ≢ Order → broken r (view s x [] []) f ≡ false
  holds_at r f o = holds_in (segment_of f) r f refl o

-- what it has of M15, by its action and category

acts : (a : Option Action) → is_none a ≡ false → (is_visit_action a || withdraws_by a) ≡ true
acts None h = absurd (true≢false h)
acts (Some Normal) h = refl
acts (Some Exceptional) h = refl
acts (Some Cancel) h = refl
acts (Some Delete) h = refl

needs_key : (a : Option Action) (c : Option Category) → is_none a ≡ false → (is_visit_action a && is_none c) ≡ false → need_for a c M15 ≡ Required
needs_key None c h k = absurd (true≢false h)
needs_key (Some Normal) None h k = absurd (true≢false k)
needs_key (Some Normal) (Some c) h k = table.needed M15 c false refl
needs_key (Some Exceptional) None h k = absurd (true≢false k)
needs_key (Some Exceptional) (Some c) h k = table.needed M15 c true refl
needs_key (Some Cancel) c h k = refl
needs_key (Some Delete) c h k = refl

has_key : (o h : Bool) (d : Need) → ((o || true) && (not h && (is_required d && true))) ≡ false → d ≡ Required → h ≡ true
has_key o h d m e = let q = ap is_required e in grind arith

right_key : (h g a w : Bool) → (not (not h || g) && (a && (not w || true))) ≡ false → h ≡ true → a ≡ true → g ≡ true
right_key h g a w m e k = grind arith

-- with a key and an action something is filed
deed_filed : (k : Key) (a : Option Action) (v : Values) → is_none a ≡ false → is_some (filed (Some k) (deed_by a v)) ≡ true
deed_filed k None v h = absurd (true≢false h)
deed_filed k (Some Normal) v h = refl
deed_filed k (Some Exceptional) v h = refl
deed_filed k (Some Cancel) v h = refl
deed_filed k (Some Delete) v h = refl

signs_filed : (a b : Bool) (k : Key) (o : Option Action) (v : Values) → a ≡ true → b ≡ true → is_none o ≡ false → is_some (filed (if a && b then Some k else None) (deed_by o v)) ≡ true
signs_filed a b k o v p q h = rw (p, q) (deed_filed k o v h)

pub files : (s : Setting) (n : ℕ) (x : Record) (k : List ℕ) → Titled x → are_signs 10 k ≡ true → ((y : Fault) → ¬ Breaks s n x y) → is_some (filing_of k x) ≡ true
files s n x k t h clean =
    let v = view s x [] [] in
    let action = holds_at s n x t clean Unknown H01 (λ e. cc) in
    let category = holds_at s n x t clean Unknown M07 (λ e. cc) in
    let missing = holds_at s n x t clean Missing M15 (λ e. cc) in
    let misspelt = holds_at s n x t clean Signs M15 (λ e. cc) in
    let there = has_key v.ordered (has v M15) _ missing (needs_key _ _ action category) in
    let right = right_key (has v M15) (are_signs 20 (v.value M15)) _ (withdraws v) misspelt there (acts _ action) in
    signs_filed (are_signs 10 k) (are_signs 20 (v.value M15)) (record { sender = k; identifier = v.value M15 }) _ (values_of x) h right action

-- as many are accepted as file something

one_listed : (o : Option Filing) → is_some o ≡ true → length (option_list o) ≡ 1
one_listed None h = absurd (false≢true h)
one_listed (Some q) h = refl

one_counted : (s : Setting) (k : List ℕ) (n : ℕ) (x : Record) (c : Contents) (v : Option Rule) (d : Contents) → are_signs 10 k ≡ true → Titled x → Judges s k n x c v d
    → length (accepted_one k x v) ≡ if is_none v then 1 else 0
one_counted s k n x c None d h t j = one_listed (filing_of k x) (files s n x k t h (λ y b. j.verdict y.rule (inl (y, b, refl))))
one_counted s k n x c (Some r) d h t j = refl

pub counted : (s : Setting) (k : List ℕ) {n : ℕ} {xs : List Record} {c : Contents} {vs : List (Option Rule)} {d : Contents} → are_signs 10 k ≡ true
    → ((x : Record) → In x xs → Titled x) → Run s k n xs c vs d → count_by is_none vs ≡ length (accepted_among k xs vs)
counted s k h t ended = refl
counted s k h t (judged {n = n} {x = x} {xs = xs} {c = c} {m = m} {v = v} {vs = vs} j r) =
    let one = one_counted s k n x c v m h (t x (inl refl)) j in
    let rest = counted s k h (λ y i. t y (inr i)) r in
    omega (arith, one, rest, sum_by-cons (λ o. if is_none o then 1 else 0) v vs, length-append (accepted_one k x v) (accepted_among k xs vs))

-- of the records of a call that is taken, as many have no verdict as file something
pub counted_call : (call : Call) (t : Taken) {c : Contents} {vs : List (Option Rule)} {d : Contents} → Answered (told_of call) (Ok t)
    → Run (setting_on t.day call) call.sender 1 (records_in call.upload) c vs d → count_by is_none vs ≡ length (accepted_among call.sender (records_in call.upload) vs)
counted_call call t a run =
    counted (setting_on t.day call) call.sender (sender (told_of call) t.day (sound (told_of call) t a.law).day)
    (titled call.upload (test_from_lawful call.upload (limits (told_of call) t a.law).lawful)) run

-- and the answer says how many
pub counts_accepted : {c d : Contents} {e : Event} (n : Counts) → Received c e d → e.reply.answer ≡ Ok n → n.accepted ≡ length (accepted_in e)
counts_accepted {e = e} n (goes_back {r = o} a p) h = absurd (false≢true (ap is_ok (sym (ap (λ y. y.answer) p) ∙ h)))
counts_accepted {e = e} n (taken {t = t} {vs = vs} a run p) h =
    let same : counts_of vs (faults_along (setting_on t.day e.call) 1 (records_in e.call.upload) vs) ≡ n = ok_is _ n (sym (ap (λ y. y.answer) p) ∙ h) in
    sym (ap (λ m. m.accepted) same) ∙ counted_call e.call t a run ∙ ap (λ y. length (accepted_among e.call.sender (records_in e.call.upload) y.verdicts)) (sym p)

pub filed_in_all : (m : Meaning) (c d : Contents) (by : Delivery) (vs : List (Option Rule)) (fs : List Fault) (r : Result Counts Refusal) → Received c (event_of m by vs fs r) d
    → IfOk r (λ n. n.accepted ≡ length (accepted_in (event_of m by vs fs r)))
filed_in_all m c d by vs fs (Ok n) h = counts_accepted n h refl
filed_in_all m c d by vs fs (Err r) h = tt
