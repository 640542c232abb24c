use Rattle.std.proofs.Common.{ap, ◌∙◌}
use Rattle.loggers.specs.Places.{with_place}
use Rattle.loggers.specs.Pessimistic.{Stored, State, state}
use Rattle.loggers.proofs.pessimistic.PessimisticLogger.note.Goals as goal

pub returns : goal.returns
returns c =
    let l = state c.args.self.now in
    let d = c.args.d in
    let storing = λ (t : Stored). let m : State = record { n = l.n; f = l.f; down = l.down; store = t } in m in
    ap storing (c.set.ensures ∙ (λ i. with_place l.store (c.new-q.ensures i) (c.new-r.ensures i) (c.from.ensures i)))
