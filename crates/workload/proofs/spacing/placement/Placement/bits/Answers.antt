use Rattle.workload.proofs.Floats.{finite_number}
use Rattle.workload.proofs.spacing.placement.Placement.bits.Goals as goal

pub float_to_bits-high : goal.float_to_bits-high
float_to_bits-high c = finite_number c.args.self.greatest c.requires.1

pub float_to_bits-low : goal.float_to_bits-low
float_to_bits-low c = finite_number c.args.self.position c.requires.0
