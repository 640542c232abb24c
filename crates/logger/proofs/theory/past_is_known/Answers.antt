use Rattle.logger.proofs.Covering.{past_is_known}
use Rattle.logger.proofs.theory.past_is_known.Goals as goal

pub returns : goal.returns
returns c = past_is_known
