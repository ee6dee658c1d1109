use Rattle.fields.proofs.Naming.{naming, standing}
use Rattle.fields.proofs.field.fields_stand.Goals as goal

pub returns : goal.returns
returns c = record { naming = naming; standing = standing }
