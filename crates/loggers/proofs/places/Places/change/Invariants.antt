use Rattle.loggers.proofs.Placing.{Passed}
use Rattle.loggers.proofs.places.Places.change.Given as goal

abbrev pub invariant-loop-place : goal.invariant-loop-place
invariant-loop-place g l = Passed (goal.F-post g l.rule) l.fn.self.places l.place-items l.place-index
