use Rattle.calls.proofs.call.CallDisplay.fmt.Goals as goal

pub returns-in-Deliver-clause-writes : goal.returns-in-Deliver-clause-writes
returns-in-Deliver-clause-writes g c = rw c.in-Deliver.is c.write-in-Deliver.ensures.writes

pub returns-in-Cut-clause-writes : goal.returns-in-Cut-clause-writes
returns-in-Cut-clause-writes g c = rw c.in-Cut.is c.write-in-Cut.ensures.writes
