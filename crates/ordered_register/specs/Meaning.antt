-- What an ordered register holds. Assumes nothing.
--     contents_of r   the entries of its table, as a finite table from keys
use Rattle.register.specs.Contents.{Contents, holding}
use Rattle.ordered_register.specs.declared.store.OrderedRegister.{OrderedRegister}

abbrev pub contents_of : OrderedRegister → Contents
contents_of r = holding r.table.entries r.table.most
