use Rattle.std.proofs.Common.{refl, rules}
use Rattle.loggers.proofs.Placing.{passed_full, passed_empty}
use Rattle.loggers.proofs.places.Places.change.Goals as goal
use Rattle.loggers.proofs.places.Places.change.Goals.{in-Some, in_default}

pub loop-place-preserved : goal.loop-place-preserved
loop-place-preserved g c =
    let xs = c.args.self.now.places in
    let ys = c.loop-place.place-items in
    let i = c.loop-place.place-index in
    elim c.match-place.branch [
      | in-Some w ↦ rw w.place-items-is (passed_full _ xs ys i _ w.in-Some.x _ c.loop-place.invariant (search rules) w.in-Some.is (record { shown = _; shows = refl; left = _; met = w.rule.ensures; leaves = refl }))
      | in_default w ↦ rw w.place-items-is (passed_empty _ xs ys i _ c.loop-place.invariant (search rules) w.in_default.is)
    ]
