-- What a hash register holds. Assumes nothing.
--     contents_of r   what the register r holds
--     finite r        that it is finite, as every register shows
use Rattle.std.proofs.Common.{◌≤◌, sym, subst}
use Rattle.register.proofs.Holding.{finite as finite_rows}
use Rattle.register.specs.Contents.{Contents, IsFinite}
use Rattle.hash_register.specs.Slots.{held}
use Rattle.hash_register.specs.Tables.{table_contents}
use Rattle.hash_register.specs.declared.store.HashRegister.{HashRegister}

abbrev pub contents_of : HashRegister → Contents
contents_of r = table_contents r.most r.count r.slots.items

pub finite : (r : HashRegister) → IsFinite (contents_of r)
finite r =
    let within = subst (λ n. n ≤ r.most) r.table.counted r.table.within in
    subst (λ n. IsFinite (record { at = (contents_of r).at; count = n; most = r.most })) (sym r.table.counted) (finite_rows (held r.slots.items) r.most r.table.distinct within)
