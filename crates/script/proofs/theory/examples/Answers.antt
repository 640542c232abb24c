use Rattle.std.proofs.Common.{refl}
use Rattle.calls.specs.Recovery.{reach, replay}
use Rattle.script.proofs.theory.examples.Goals as goal

pub returns : goal.returns
unfolding reach replay
returns c = record {
  carried_and_back = refl;
  forgotten = refl;
  stored_and_back = refl;
  cut_before = refl;
  cut_carried = refl;
  cut_noted = refl;
  cut_after = refl;
  too_many = refl;
}
