use Rattle.logger.proofs.Running.{invariant_is_kept}
use Rattle.logger.proofs.theory.invariant_is_kept.Goals as goal

pub returns : goal.returns
returns c = invariant_is_kept
