use Rattle.cursor.proofs.Steps.{meets}
use Rattle.cursor.proofs.cursor.Cursor.wants.Goals as goal

pub returns : goal.returns
returns c = rw (c.wants.ensures, c.closes.ensures) (meets c.args.self.now.upload.now c.args.self.now.at c.args.self.now.state c.args.self.now.within c.args.self.now.rest c.args.place c.requires)
