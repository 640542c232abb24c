use Rattle.script.proofs.Turns as turns
use Rattle.script.proofs.run.choice.ends_by_itself.Goals as goal

pub returns : goal.returns
returns c = turns.ends_by_itself
