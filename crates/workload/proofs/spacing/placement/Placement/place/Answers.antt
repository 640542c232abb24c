use Rattle.std.proofs.Common.{sym, subst, rules}
use Rattle.workload.specs.Spacing.{Steady}
use Rattle.workload.proofs.Steady.{widened_steady}
use Rattle.workload.proofs.spacing.placement.Placement.place.Goals as goal

pub returns-in-Some-Width : goal.returns-in-Some-Width
returns-in-Some-Width c = record {
  value = search rules;
  steady = subst Steady (sym c.widen.ensures) (widened_steady c.args.self c.in-Some-Width.w (search rules) (search rules) c.requires.0 (search rules));
}
