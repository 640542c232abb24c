use Rattle.std.proofs.Common.{◌≡◌, ℕ, suc, ◌+◌, ◌-◌, ◌<◌, ◌∷◌, ap, length, arith}
use Rattle.std.proofs.lemmas.List.FromFn.{length-range_with_len}
use Rattle.std.specs.List.{range_with_len}
use Rattle.workload.proofs.host_range.HostRangeIterator.next.Goals as goal

first : (a e : ℕ) → a < e → range_with_len a (e - a) ≡ a ∷ range_with_len (a + 1) (e - (a + 1))
first a e l = let k : e - a ≡ suc (e - (a + 1)) = omega arith in ap (range_with_len a) k

fewer : (a e : ℕ) → a < e → length (range_with_len (a + 1) (e - (a + 1))) < length (range_with_len a (e - a))
fewer a e l = rw (length-range_with_len (a + 1) (e - (a + 1)), length-range_with_len a (e - a)) (omega arith)

pub returns-then-self-clause-steps : goal.returns-then-self-clause-steps
returns-then-self-clause-steps c = rw (c.new-host.ensures, ← c.self.view_is) (first _ _ c.if-self.true)

pub returns-then-self-clause-goes : goal.returns-then-self-clause-goes
returns-then-self-clause-goes c = record { on = λ f. (tt, tt, rw (← c.self.view_is) (fewer _ _ c.if-self.true)); keeps = tt; rests = λ f. tt }
