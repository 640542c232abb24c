-- What the hosts stand for.
use Rattle.workload.specs.declared.Workload as workload
use Rattle.network.specs.Host.{Host}
use Rattle.network.specs.Network.{Network}
use Rattle.records.specs.View.{Lists, lists_of, row}
use Rattle.hosts.specs.declared.hosts.Hosts.{Hosts}

abbrev pub host_of : {S : Type 0} → S → Lists → Host S
host_of x l = record { state = x; receipts = l.receipts; sends = l.sends; outputs = l.outputs }

-- the network that the hosts and their workload stand for
abbrev pub look : {W S : Type 0} → workload.Ghosts W S → Hosts W → Network S
look work x = record {
  n = x.n;
  machine = work.machine (work.hosts x.workload);
  hosts = λ h. host_of (work.state x.workload h) (lists_of x.records h);
  posts = row x.outside.posts;
  released = row x.outside.released;
}
