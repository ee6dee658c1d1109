use Rattle.std.proofs.Common.{◌≡◌, ◌-◌, ◌≤◌, length, Less, Greater}
use Rattle.std.specs.List.{AllWithin}
use Rattle.ordered.proofs.search.find.Given as goal

-- the keys before `low` are below the key, and those from `high` on above it
abbrev pub invariant-loop-low : goal.invariant-loop-low
invariant-loop-low g l = (l.low ≤ l.high) × (l.high ≤ length l.rows)
    × AllWithin (λ row. g.K.Ord.cmp l.key row.0 ≡ Greater) l.rows 0 l.low
    × AllWithin (λ row. g.K.Ord.cmp l.key row.0 ≡ Less) l.rows l.high (length l.rows)

abbrev pub decreases-loop-low : goal.decreases-loop-low
decreases-loop-low g l = l.high - l.low
