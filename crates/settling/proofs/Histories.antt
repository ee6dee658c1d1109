-- What a register tells of its other entries, the filings tell too. Assumes nothing.
use Rattle.std.proofs.Common.{◌≡◌, ◌≢◌, ◌↔◌, ℕ, List, Option, Some, None, refl, sym, subst}
use Rattle.std.specs.Prelude.{IsSomeAnd}
use Rattle.register.specs.Contents.{Contents, Elsewhere, DispensedElsewhere, TakenElsewhere}
use Rattle.register.specs.Entries.{Takes}
use Rattle.register.specs.declared.entry.Entry.{Entry}
use Rattle.register.specs.declared.key.Key.{Key}
use Rattle.filings.specs.declared.filing.Filing.{Filing}
use Rattle.settling.specs.Standing.{Standing, DispensedBy, TakenBy, Holds}

module _ (qs : List Filing) (c : Contents) (h : Holds qs c) where
  module _ (j : Key) (P : Key → Entry → Type 0) where
    to_elsewhere : (k : Key) → k ≢ j → (e : Entry) → Standing qs k e → P k e → Elsewhere c j P
    to_elsewhere k other e s p = (k, other, subst (λ o. IsSomeAnd o (P k)) (sym ((h k e).1 s)) p)

    from_elsewhere : (w : Elsewhere c j P) → (e : Entry) × Standing qs w.0 e × P w.0 e
    from_elsewhere (k, other, p) = go (c.at k) refl p
      where
        go : (o : Option Entry) → c.at k ≡ o → IsSomeAnd o (P k) → (e : Entry) × Standing qs k e × P k e
        go None is p = absurd p
        go (Some e) is p = (e, (h k e).0 is, p)

  pub dispensed : (k : Key) → DispensedBy qs k ↔ DispensedElsewhere c k
  dispensed k = let P = λ (_ : Key) (e : Entry). e.origin ≡ Some k in (
    λ s. to_elsewhere k P s.by s.other s.entry s.stands s.from,
    λ w. let f = from_elsewhere k P w in record { by = w.0; other = w.1; entry = f.0; stands = f.1; from = f.2 },
  )

  pub taken : (k j : Key) (n : ℕ) → TakenBy qs k n j ↔ TakenElsewhere c k n j
  taken k j n = (
    λ s. to_elsewhere j (Takes k n) s.by s.other s.entry s.stands s.takes,
    λ w. let f = from_elsewhere j (Takes k n) w in record { by = w.0; other = w.1; entry = f.0; stands = f.1; takes = f.2 },
  )
