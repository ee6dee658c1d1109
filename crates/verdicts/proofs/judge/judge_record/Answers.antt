use Rattle.verdicts.proofs.Laws.{fault_law}
use Rattle.verdicts.proofs.judge.judge_record.Goals as goal

pub returns-then-not-is_clean-clause-law : goal.returns-then-not-is_clean-clause-law
returns-then-not-is_clean-clause-law g c = fault_law _ _ _

pub returns-else-not-is_clean-clause-law : goal.returns-else-not-is_clean-clause-law
returns-else-not-is_clean-clause-law g c = fault_law _ _ _
