use Rattle.std.proofs.Common.{◌<◌, List, length, Ok, refl, ◌∙◌, subst, arith}
use Rattle.std.proofs.lemmas.List.{take_all}
use Rattle.std.proofs.lemmas.Result.{err_from_is_err_and}
use Rattle.calls.specs.declared.call.Call.TheVariants.{Post}
use Rattle.calls.specs.declared.call.Made.{Made}
use Rattle.calls.specs.Calls.{Answer, Opened}
use Rattle.calls.specs.Trace.{Trace}
use Rattle.cluster.specs.View.{system}
use Rattle.calls.proofs.Playing.{open_refused, open_accepted, trace_more, calls_kept, made_all}
use Rattle.cluster.proofs.cluster.Cluster.play.Goals as goal

pub returns-in_err-opened : goal.returns-in_err-opened
returns-in_err-opened g c =
    let e = err_from_is_err_and c.from_residual.result c.from_residual.ensures.1 in
    let a = system g.W.Workload c.args.self.now in
    let b = system g.W.Workload c.open.new.self in
    let o = open_refused g.L.Logger g.W.Workload.machine c.args.n c.args.f a b _
    (subst (λ (r : Answer). Opened g.L.Logger g.W.Workload.machine a c.args.n c.args.f r b) c.in_err-opened.was c.open.ensures) in
    rw (e.1, e.2) (o.0, refl, o.1)

pub loop-made-init : goal.loop-made-init
loop-made-init g c =
    let a = system g.W.Workload c.args.self.now in
    let b = system g.W.Workload c.open.new.self in (
      (open_accepted g.L.Logger g.W.Workload.machine c.args.n c.args.f a b _
          (subst (λ (r : Answer). Opened g.L.Logger g.W.Workload.machine a c.args.n c.args.f r b) c.in_ok-opened.was c.open.ensures)).2,
      refl,
    )

pub loop-made-preserved : goal.loop-made-preserved
loop-made-preserved g c =
    let none : Made = record { call = Post 0 0; answer = Ok 0 } in
    let l : c.loop-made.made-index < length c.loop-made.calls = omega arith in (
      trace_more g.L.Logger g.W.Workload.machine c.args.n c.args.f c.loop-made.calls c.loop-made.made-index none c.call-made.result
          (system g.W.Workload c.loop-made.self) (system g.W.Workload c.call-made.new.self) l c.call-made.ensures c.loop-made.invariant.0,
      calls_kept c.loop-made.calls c.loop-made.made-index none c.call-made.result l ∙ c.loop-made.invariant.1,
    )

pub returns : goal.returns
returns g c =
    let met = g.met.L.Logger in
    let machine = g.W.Workload.machine in
    let a = system g.W.Workload c.args.self.now in
    let b = system g.W.Workload c.loop-made.self in
    let o = open_accepted g.L.Logger machine c.args.n c.args.f a (system g.W.Workload c.open.new.self) _
    (subst (λ (r : Answer). Opened g.L.Logger machine a c.args.n c.args.f r (system g.W.Workload c.open.new.self)) c.in_ok-opened.was c.open.ensures) in (
      o.0,
      o.1,
      made_all g.L.Logger (record { begins = met.begins; lawful = met.lawful; finds = met.finds; misses = met.misses }) machine c.args.n c.args.f c.args.calls.now
          c.loop-made.calls b o.1
          (subst (λ (xs : List Made). Trace g.L.Logger (machine c.args.n) c.args.n c.args.f xs b) (take_all c.loop-made.made-index c.loop-made.calls (omega arith)) c.loop-made.invariant.0)
          c.loop-made.invariant.1,
    )
