use Rattle.logger.proofs.Running.{runs_stay_sound}
use Rattle.logger.proofs.theory.runs_stay_sound.Goals as goal

pub returns : goal.returns
returns c = runs_stay_sound
