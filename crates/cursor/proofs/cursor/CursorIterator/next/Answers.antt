use Rattle.std.proofs.Common.{rules, Some, None, refl, arith}
use Rattle.cursor.specs.declared.cursor.Piece.TheVariants.{Structure, Field}
use Rattle.cursor.proofs.Left.{advances, nearer_end}
use Rattle.cursor.proofs.cursor.CursorIterator.next.Goals as goal

pub returns-in-Structure-clause-steps : goal.returns-in-Structure-clause-steps
returns-in-Structure-clause-steps c =
    advances c.args.self.now _ (Some (Structure c.in-Structure.tag c.past_white-place.result)) refl (search rules) tt
    (rw (c.text.ensures, c.leads_to-self.ensures) (record { told = c.in-Structure.ensures.told }))

pub returns-in-Structure-clause-goes : goal.returns-in-Structure-clause-goes
returns-in-Structure-clause-goes c = nearer_end c.args.self.now _ _ (returns-in-Structure-clause-steps c)

pub returns-in-Field-clause-steps : goal.returns-in-Field-clause-steps
returns-in-Field-clause-steps c =
    advances c.args.self.now _ (Some (Field _ c.past_white-place.result _)) refl (omega arith) tt
    (rw c.value_end-end.ensures (record { told = c.in-Field.ensures.told }))

pub returns-in-Field-clause-goes : goal.returns-in-Field-clause-goes
returns-in-Field-clause-goes c = nearer_end c.args.self.now _ _ (returns-in-Field-clause-steps c)

pub returns-in-Nothing-clause-steps : goal.returns-in-Nothing-clause-steps
returns-in-Nothing-clause-steps c = advances c.args.self.now c.args.self.now None refl tt refl (record { told = c.in-Nothing.ensures })
