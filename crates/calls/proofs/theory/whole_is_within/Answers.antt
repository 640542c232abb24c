use Rattle.calls.proofs.Guarantees.{whole_is_within}
use Rattle.calls.proofs.theory.whole_is_within.Goals as goal

pub returns : goal.returns
returns g c =
    let met = g.met.L.Logger in
    whole_is_within g.L.Logger (record { begins = met.begins; lawful = met.lawful; finds = met.finds; misses = met.misses }) g.W.Workload.machine
