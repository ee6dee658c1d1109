use Rattle.lists.proofs.Rising.{unlawful_at, first_at, above_at}
use Rattle.lists.proofs.row.is_bad.Goals as goal

pub returns-then-not-is_lawful : goal.returns-then-not-is_lawful
returns-then-not-is_lawful c = unlawful_at _ _ _ c.requires _ c.is_lawful.ensures c.if-not-is_lawful.true

pub returns-then-i-gt0 : goal.returns-then-i-gt0
returns-then-i-gt0 c = above_at _ _ _ c.requires _ c.is_lawful.ensures _ c.if-not-is_lawful.false c.if-i-gt0.true c.is_below.ensures

pub returns-else-i-gt0 : goal.returns-else-i-gt0
returns-else-i-gt0 c = first_at _ _ _ c.requires _ c.is_lawful.ensures c.if-not-is_lawful.false c.if-i-gt0.false
