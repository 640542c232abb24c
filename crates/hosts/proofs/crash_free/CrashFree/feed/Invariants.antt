use Rattle.hosts.specs.View.{look}
use Rattle.hosts.proofs.Feeding.{Feeding}
use Rattle.hosts.proofs.crash_free.CrashFree.feed.Given as goal

abbrev pub invariant-loop-item : goal.invariant-loop-item
invariant-loop-item g l =
    Feeding g.T.Item.feed g.T.Item.pair g.T.Item.note (look g.W.Workload l.initial.self.hosts) l.initial.items (look g.W.Workload l.self.hosts) l.items l.item-index
