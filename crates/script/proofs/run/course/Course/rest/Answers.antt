use Rattle.std.proofs.Common.{[], Ok, refl, ap, ◌∙◌, arith, rules}
use Rattle.cluster.specs.View.{system}
use Rattle.script.specs.Course.{Reached}
use Rattle.script.proofs.Courses.{more, comes_to_end, comes_to_stop}
use Rattle.script.proofs.run.course.Course.rest.Goals as goal

pub loop-init : goal.loop-init
loop-init g c = record { same = record { script = refl; buffer = refl }; reached = ([], Reached.start); behind = c.requires }

pub returns-in_err-turn-clause-finished : goal.returns-in_err-turn-clause-finished
returns-in_err-turn-clause-finished g c =
    let l = c.loop in
    let e = c.in_err-turn.was in
    comes_to_stop (system g.W.Workload c.turn.new.cluster) l.self c.turn.new.self l.listing c.turn.new.listing l.invariant.reached.1 (ap (λ x. x.now) l.invariant.same.script)
    c.in_err-turn.field-0.0 c.from_residual.result (rw e at c.turn.ensures.turned) (rw e at c.turn.ensures.after) c.from_residual.ensures.1

pub loop-preserved : goal.loop-preserved
loop-preserved g c =
    let l = c.loop in
    let e = c.in_ok-turn.was ∙ ap Ok c.if-branch.true in
    let A = rw e at c.turn.ensures.after in
    let one = more (system g.W.Workload c.turn.new.cluster) l.self c.turn.new.self l.listing c.turn.new.listing l.invariant.reached.1 (ap (λ x. x.now) l.invariant.same.script)
    (rw e at c.turn.ensures.turned) A in
    record { same = search rules; reached = (one.calls, one.reached); behind = omega (arith, one.further, A.number) }

pub returns-clause-finished : goal.returns-clause-finished
returns-clause-finished g c =
    let l = c.loop in
    let e = c.in_ok-turn.was ∙ ap Ok c.if-branch.false in
    comes_to_end (system g.W.Workload c.turn.new.cluster) l.self c.turn.new.self l.listing c.turn.new.listing l.invariant.reached.1 (ap (λ x. x.now) l.invariant.same.script)
    (rw e at c.turn.ensures.turned) (rw e at c.turn.ensures.after)
