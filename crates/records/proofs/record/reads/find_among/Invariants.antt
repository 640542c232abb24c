use Rattle.std.proofs.Common.{◌≡◌, drop}
use Rattle.std.specs.List.{slice_get}
use Rattle.network.specs.Network.{bodies_to}
use Rattle.records.proofs.record.reads.find_among.Given as goal

-- the body looked for is among those that are left
abbrev pub invariant-loop-send : goal.invariant-loop-send
invariant-loop-send l = slice_get (bodies_to l.p (drop l.send-index l.sends)) l.before ≡ slice_get (bodies_to l.p l.sends) l.i
