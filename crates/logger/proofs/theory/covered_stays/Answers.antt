use Rattle.logger.proofs.Covering.{covered_stays}
use Rattle.logger.proofs.theory.covered_stays.Goals as goal

pub returns : goal.returns
returns c = covered_stays
