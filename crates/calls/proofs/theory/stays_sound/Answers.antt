use Rattle.calls.proofs.Playing.{stays_sound}
use Rattle.calls.proofs.theory.stays_sound.Goals as goal

pub returns : goal.returns
returns g c =
    let met = g.met.L.Logger in
    stays_sound g.L.Logger (record { begins = met.begins; lawful = met.lawful; finds = met.finds; misses = met.misses }) g.W.Workload.machine
