use Rattle.calls.proofs.Guarantees.{guaranteed}
use Rattle.calls.proofs.theory.guarantee_holds.Goals as goal

pub returns : goal.returns
returns g c =
    let met = g.met.L.Logger in
    guaranteed g.L.Logger (record { begins = met.begins; lawful = met.lawful; finds = met.finds; misses = met.misses }) g.W.Workload.machine
