-- What a deed leaves at each key. Assumes nothing.
--     left puts d o   what the deed d leaves of what stands under its key, if a visit is put or not
--     after k o q     what the filing q leaves of what stands under k, if a visit is put
use Rattle.std.proofs.Common.{◌≡◌, Bool, true, false, cond, ◌&&◌, ◌||◌, not, if◌then◌else◌, Option, Some, None, is_some, nat_lt, refl, sym, ap, ◌∙◌}
use Rattle.std.proofs.lemmas.Bool.{cond-true}
use Rattle.std.proofs.lemmas.Map.{update_same, update_other}
use Rattle.std.specs.Option.{option_map, option_map_or}
use Rattle.register.specs.Contents.{Contents, has_room, put_in, with_entry}
use Rattle.register.specs.Identifiers.{is_placeholder}
use Rattle.register.specs.Keys.{same_key}
use Rattle.register.specs.declared.entry.Entry.{Entry}
use Rattle.register.specs.declared.key.Key.{Key}
use Rattle.register.proofs.Sameness.{same_itself}
use Rattle.filings.specs.declared.filing.Deed.{Deed}
use Rattle.filings.specs.declared.filing.Deed.TheVariants.{Visit, Cancel, Delete}
use Rattle.filings.specs.declared.filing.Filing.{Filing}
use Rattle.settling.specs.Settled.{marked, done}

abbrev pub left : Bool → Deed → Option Entry → Option Entry
left puts (Visit e) o = if puts then Some (marked false e) else o
left puts (Cancel p) o = option_map (marked true) o
left puts (Delete p) o = None

abbrev pub after : Key → Option Entry → Filing → Option Entry
after k o q = if same_key q.key k then left true q.deed o else o

-- a visit is put
abbrev pub puts : Contents → Key → Bool
puts c k = not (is_placeholder k.identifier) && has_room c k

put_here : (c : Contents) (k : Key) (e : Entry) → (put_in c k e).at k ≡ cond (has_room c k) (Some e) (c.at k)
put_here c k e = elim (has_room c k) as (λ b. (cond b (with_entry c k e) c).at k ≡ cond b (Some e) (c.at k)) [
  | true ↦ update_same same_key c.at k (Some e) k (same_itself k)
  | false ↦ refl
]

put_elsewhere : (c : Contents) (j k : Key) (e : Entry) → same_key j k ≡ false → (put_in c j e).at k ≡ c.at k
put_elsewhere c j k e h = elim (has_room c j) as (λ b. (cond b (with_entry c j e) c).at k ≡ c.at k) [
  | true ↦ update_other same_key c.at j (Some e) k h
  | false ↦ refl
]

visit_here : (c : Contents) (k : Key) (e : Entry) (b : Bool) → (cond b c (put_in c k e)).at k ≡ cond (not b && has_room c k) (Some e) (c.at k)
visit_here c k e true = refl
visit_here c k e false = put_here c k e

cancel_here : (c : Contents) (k : Key) (o : Option Entry) → c.at k ≡ o → (option_map_or (λ e. put_in c k (marked true e)) o c).at k ≡ option_map (marked true) o
cancel_here c k None h = h
cancel_here c k (Some e) h = put_here c k (marked true e) ∙ cond-true (has_room c k) _ _ (ap (λ o. is_some o || nat_lt c.count c.most) h)

pub here : (c : Contents) (k : Key) (d : Deed) → (done c k d).at k ≡ left (puts c k) d (c.at k)
here c k (Visit e) = visit_here c k (marked false e) (is_placeholder k.identifier)
here c k (Cancel p) = cancel_here c k (c.at k) refl
here c k (Delete p) = update_same same_key c.at k None k (same_itself k)

pub elsewhere : (c : Contents) (j k : Key) (d : Deed) → same_key j k ≡ false → (done c j d).at k ≡ c.at k
elsewhere c j k (Visit e) h = elim (is_placeholder j.identifier) as (λ b. (cond b c (put_in c j (marked false e))).at k ≡ c.at k) [
  | true ↦ refl
  | false ↦ put_elsewhere c j k (marked false e) h
]
elsewhere c j k (Cancel p) h = elim (c.at j) as (λ o. (option_map_or (λ e. put_in c j (marked true e)) o c).at k ≡ c.at k) [
  | None ↦ refl
  | Some e ↦ put_elsewhere c j k (marked true e) h
]
elsewhere c j k (Delete p) h = update_other same_key c.at j None k h

-- two registers that have the same under a key, and room for it or not, have the same there after a deed
pub alike : (c d : Contents) (k : Key) (a : Deed) → c.at k ≡ d.at k → has_room c k ≡ has_room d k → (done c k a).at k ≡ (done d k a).at k
alike c d k a e r = here c k a ∙ (λ i. left (not (is_placeholder k.identifier) && r i) a (e i)) ∙ sym (here d k a)
