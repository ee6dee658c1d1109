-- Where a rule can be broken at all. Assumes nothing.
use Rattle.std.proofs.Common.{◌≡◌, ℕ, Bool, true, false, not, ◌&&◌, ◌||◌, Some, refl, arith}
use Rattle.std.specs.List.{slice_get}
use Rattle.faults.specs.Along.{In}
use Rattle.faults.specs.declared.rules.Rule.{Rule}
use Rattle.faults.proofs.Along.{in_got}
use Rattle.fields.specs.declared.field.Field.{Field}
use Rattle.faults.specs.declared.rules.Rule.TheVariants.{Misplaced, Repeated, Unknown, Missing, Barred, Form, Dates, Newborn, LateCard, VisitNumber, Signs, OrderMoment, OrderNumber, OrderKind, Signature, Code, Origin, Prevention, Refills, Unmatched, Late, Dispensed, Prescription, Uncancellable, NoRoom}
use Rattle.fields.specs.declared.field.Field.TheVariants.{H00, H01, M05, M06, M07, M08, M11, M12, M13, M15, M16, M17, M33, M35, M36, M37, M38, M39, M40, M41, M42, M43, M50, M52, D01, D02, D03, D06, D11, D12}
use Rattle.fields.specs.Fields.{segment_of}
use Rattle.rules.specs.Views.{has}
use Rattle.rules.specs.Needs.{need, is_required, is_order_field, is_excused}
use Rattle.rules.specs.Places.{rules_at, Told, Asked}

never : {A : Type 0} → false ≡ true → A
never h = absurd cc

-- the rule of that index is one of the field's
listed : (r : Rule) (f : Field) (k : ℕ) → slice_get (rules_at (Some f)) k ≡ Some r → In r (rules_at (Some f))
listed r f k e = in_got (rules_at (Some f)) k r e

pub told : Told
told Misplaced v f h = never h
told Repeated v f h = never h
told Missing v f h = listed Missing f 2 refl
told Barred v f h = listed Barred f 3 refl
told Form v f h = listed Form f 4 refl
told Unknown v H00 h = listed Unknown H00 5 refl
told Unknown v H01 h = listed Unknown H01 5 refl
told Unknown v M07 h = listed Unknown M07 5 refl
told Unknown v _ h = never h
told Dates v M11 h = listed Dates M11 5 refl
told Dates v _ h = never h
told Newborn v M08 h = listed Newborn M08 5 refl
told Newborn v _ h = never h
told LateCard v M12 h = listed LateCard M12 5 refl
told LateCard v _ h = never h
told VisitNumber v M13 h = listed VisitNumber M13 5 refl
told VisitNumber v _ h = never h
told Signs v M15 h = listed Signs M15 5 refl
told Signs v M16 h = listed Signs M16 5 refl
told Signs v M17 h = listed Signs M17 5 refl
told Signs v M52 h = listed Signs M52 5 refl
told Signs v _ h = never h
told OrderMoment v D01 h = listed OrderMoment D01 5 refl
told OrderMoment v _ h = never h
told OrderNumber v D03 h = listed OrderNumber D03 5 refl
told OrderNumber v _ h = never h
told OrderKind v D02 h = listed OrderKind D02 5 refl
told OrderKind v _ h = never h
told Signature v D11 h = listed Signature D11 5 refl
told Signature v _ h = never h
told Code v M05 h = listed Code M05 5 refl
told Code v M06 h = listed Code M06 5 refl
told Code v M13 h = listed Code M13 6 refl
told Code v M35 h = listed Code M35 5 refl
told Code v M36 h = listed Code M36 5 refl
told Code v M37 h = listed Code M37 5 refl
told Code v M38 h = listed Code M38 5 refl
told Code v M39 h = listed Code M39 5 refl
told Code v M40 h = listed Code M40 5 refl
told Code v M41 h = listed Code M41 5 refl
told Code v M42 h = listed Code M42 5 refl
told Code v M43 h = listed Code M43 5 refl
told Code v M50 h = listed Code M50 5 refl
told Code v D06 h = listed Code D06 5 refl
told Code v D12 h = listed Code D12 5 refl
told Code v _ h = never h
told Origin v M16 h = listed Origin M16 6 refl
told Origin v _ h = never h
told Prevention v M07 h = listed Prevention M07 6 refl
told Prevention v _ h = never h
told Refills v M33 h = listed Refills M33 5 refl
told Refills v _ h = never h
told Unmatched v f h = never h
told Late v f h = never h
told Dispensed v f h = never h
told Prescription v f h = never h
told Uncancellable v f h = never h
told NoRoom v f h = never h

-- tests that fail of an absent field, and of one that is not required
and_off : (h b : Bool) → h ≡ false → (h && b) ≡ false
and_off h b e = grind (arith, e)

missing_off : (o h r e : Bool) → r ≡ false → (o && (not h && (r && not e))) ≡ false
missing_off o h r e k = grind (arith, k)

fits_off : (h x y : Bool) → h ≡ false → (not (not h || x) && y) ≡ false
fits_off h x y e = grind (arith, e)

stands_off : (h x z y : Bool) → h ≡ false → (not ((not h || x) || z) && y) ≡ false
stands_off h x z y e = grind (arith, e)

not_asked : {A : Type 0} → true ≡ false → A
not_asked h = absurd cc

pub asked : Asked
asked Misplaced v f h a = refl
asked Repeated v f h a = refl
asked Missing v D02 h a = not_asked a
asked Missing v H00 h a = not_asked a
asked Missing v H01 h a = not_asked a
asked Missing v M07 h a = not_asked a
asked Missing v M08 h a = not_asked a
asked Missing v M11 h a = not_asked a
asked Missing v M13 h a = not_asked a
asked Missing v M16 h a = not_asked a
asked Missing v D03 h a = not_asked a
asked Missing v D11 h a = not_asked a
asked Missing v f h a = missing_off (v.ordered || not (is_order_field (segment_of f))) (has v f) (is_required (need v f)) (is_excused v f) a
asked Barred v f h a = and_off _ _ h
asked Form v f h a = and_off _ _ h
asked Unknown v H00 h a = not_asked a
asked Unknown v H01 h a = not_asked a
asked Unknown v M07 h a = not_asked a
asked Unknown v _ h a = refl
asked Dates v M11 h a = not_asked a
asked Dates v _ h a = refl
asked Newborn v M08 h a = not_asked a
asked Newborn v _ h a = refl
asked LateCard v M12 h a = fits_off _ _ _ h
asked LateCard v _ h a = refl
asked VisitNumber v M13 h a = not_asked a
asked VisitNumber v _ h a = refl
asked Signs v M15 h a = fits_off _ _ _ h
asked Signs v M16 h a = not_asked a
asked Signs v M17 h a = fits_off _ _ _ h
asked Signs v M52 h a = fits_off _ _ _ h
asked Signs v _ h a = refl
asked OrderMoment v D01 h a = fits_off _ _ _ h
asked OrderMoment v _ h a = refl
asked OrderNumber v D03 h a = not_asked a
asked OrderNumber v _ h a = refl
asked OrderKind v D02 h a = not_asked a
asked OrderKind v _ h a = refl
asked Signature v D11 h a = not_asked a
asked Signature v _ h a = refl
asked Code v M05 h a = stands_off _ _ _ _ h
asked Code v M06 h a = stands_off _ _ _ _ h
asked Code v M35 h a = stands_off _ _ _ _ h
asked Code v M36 h a = stands_off _ _ _ _ h
asked Code v M37 h a = stands_off _ _ _ _ h
asked Code v M38 h a = stands_off _ _ _ _ h
asked Code v M39 h a = stands_off _ _ _ _ h
asked Code v M40 h a = stands_off _ _ _ _ h
asked Code v M41 h a = stands_off _ _ _ _ h
asked Code v M42 h a = stands_off _ _ _ _ h
asked Code v M43 h a = stands_off _ _ _ _ h
asked Code v M50 h a = stands_off _ _ _ _ h
asked Code v D06 h a = stands_off _ _ _ _ h
asked Code v D12 h a = stands_off _ _ _ _ h
asked Code v M13 h a = not_asked a
asked Code v _ h a = refl
asked Origin v M16 h a = not_asked a
asked Origin v _ h a = refl
asked Prevention v M07 h a = not_asked a
asked Prevention v _ h a = refl
asked Refills v M33 h a = fits_off _ _ _ h
asked Refills v _ h a = refl
asked Unmatched v f h a = refl
asked Late v f h a = refl
asked Dispensed v f h a = refl
asked Prescription v f h a = refl
asked Uncancellable v f h a = refl
asked NoRoom v f h a = refl
