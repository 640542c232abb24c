use Rattle.logger.proofs.Meeting.{clauses_can_be_met}
use Rattle.logger.proofs.theory.clauses_can_be_met.Goals as goal

pub returns : goal.returns
returns c = clauses_can_be_met
