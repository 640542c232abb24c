use Rattle.std.proofs.Common.{◌≡◌, map, take}
use Rattle.calls.specs.declared.call.Made.{Made}
use Rattle.calls.specs.Trace.{Trace}
use Rattle.cluster.specs.View.{system}
use Rattle.cluster.proofs.cluster.Cluster.play.Given as goal

-- the calls so far are a trace, and the others stand as they were
abbrev pub invariant-loop-made : goal.invariant-loop-made
invariant-loop-made g l =
    Trace g.L.Logger (g.W.Workload.machine l.n) l.n l.f (take l.made-index l.calls) (system g.W.Workload l.self)
    × (map (λ (x : Made). x.call) l.calls ≡ map (λ (x : Made). x.call) l.initial.calls)
