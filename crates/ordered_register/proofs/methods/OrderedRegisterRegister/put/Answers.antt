use Rattle.ordered_register.proofs.Tables.{put}
use Rattle.ordered_register.proofs.methods.OrderedRegisterRegister.put.Goals as goal

pub returns-in-Ok : goal.returns-in-Ok
returns-in-Ok c =
    let told = c.put.ensures in
    let means = put c.args.self.now.table c.args.key c.put.new.self c.args.entry c.put.result told.answer told.after told.law in
    record { answer = rw c.in-Ok.is at means.0; after = means.1 }

pub returns-in-Err : goal.returns-in-Err
returns-in-Err c =
    let told = c.put.ensures in
    let means = put c.args.self.now.table c.args.key c.put.new.self c.args.entry c.put.result told.answer told.after told.law in
    record { answer = rw c.in-Err.is at means.0; after = means.1 }
