-- The cluster and the logger that the code's struct stands for.
use Rattle.workload.specs.declared.Workload as workload
use Rattle.hosts.specs.View.{look}
use Rattle.logger.specs.HostSets.{members}
use Rattle.cluster.specs.declared.cluster.Cluster as code
use Rattle.calls.specs.Calls.{System}

abbrev pub system : {L W S : Type 0} → workload.Ghosts W S → code.Cluster L W → System S L
system work c = record { cluster = record { network = look work c.hosts; f = c.f; whole = c.whole; down = members c.down }; logger = c.logger }
