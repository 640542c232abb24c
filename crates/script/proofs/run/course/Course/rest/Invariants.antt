use Rattle.std.proofs.Common.{◌-◌, ◌≤◌, List, length}
use Rattle.calls.specs.declared.call.Made.{Made}
use Rattle.cluster.specs.View.{system}
use Rattle.script.specs.Course.{Reached}
use Rattle.script.specs.Standing.{SameRun}
use Rattle.script.proofs.run.course.Course.rest.Given as goal

-- the turns so far; each took a byte of the script at least
abbrev pub invariant-loop : goal.invariant-loop
invariant-loop g l = record {
  same : SameRun l.fn.self l.self l.fn.listing l.listing;
  reached : (t : List Made) × Reached g.L.Logger l.fn.self.script.now (system g.W.Workload l.fn.cluster) l.fn.self.place l.fn.self.number l.fn.listing.bytes.now l.fn.listing.written t (system g.W.Workload l.cluster) l.self.place l.self.number l.listing.bytes.now l.listing.written;
  behind : l.self.number ≤ l.self.place;
}

abbrev pub decreases-loop : goal.decreases-loop
decreases-loop g l = length l.fn.self.script.now - l.self.place
