-- What a cursor has still to give, and what a call of `next` does. Assumes nothing.
--     left c                the items that the bytes from its place on hold, in its state. They are read by the path that the test gives; whatever other way there is gives the same (`left_is` in proofs/)
--     Advances old r new    the call gives the first of them and leaves the others, in the same upload and further on; or there is none, and it leaves the cursor as it was
use Rattle.std.specs.Prelude.{◌≡◌, ◌<◌, List, drop, Option, IfNone, IfSome}
use Rattle.std.specs.Iterator.{YieldsFirstBy}
use Rattle.grammar.specs.Items.{Item, items}
use Rattle.grammar.proofs.Tested.{rest_from_test}
use Rattle.cursor.specs.Pieces.{item, Steps}
use Rattle.cursor.specs.declared.cursor.Cursor.{Cursor}
use Rattle.cursor.specs.declared.cursor.Piece.{Piece}

unfoldable pub left : Cursor → List Item
left c = items c.at (rest_from_test c.state (drop c.at c.upload.now) c.rest)

pub record Advances (old : Cursor) (r : Option Piece) (new : Cursor) : Type 0 where
  pub gives : YieldsFirstBy item left old r new
  pub steps : Steps old.upload.now old.at old.state r new.at new.state
  pub upload : new.upload.now ≡ old.upload.now
  pub falls : IfSome r (λ _. old.at < new.at)
  pub ends : IfNone r (new ≡ old)
