use Rattle.std.proofs.Common.{ℕ, List, ◌++◌, sym, subst, rules, arith}
use Rattle.network.proofs.Histories.{count_from_low}
use Rattle.network.specs.Host.{optional}
use Rattle.records.specs.Index.{FiledIn}
use Rattle.records.proofs.Filing.{room_for, counted_more, filed_more, still_fewer}
use Rattle.records.proofs.record.HostRecord.grow.Goals as goal

pub file-requires : goal.file-requires
file-requires c = let r = c.args.self.now in room_for _ r.sends.items c.args.reaction.send r.filed (omega (arith, r.replies, c.requires))

pub count_sender-requires : goal.count_sender-requires
count_sender-requires c = λ h.
    let r = c.args.self.now in
    let low = count_from_low c.args.message.sender r.receipts.items in
    omega (arith, r.counted c.args.message.sender h, c.requires)

pub invariant_of-self : goal.invariant_of-self
invariant_of-self c =
    let r = c.args.self.now in
    record {
      replies = rw (c.push.ensures.items, c.push_some.ensures) (still_fewer r.receipts.items r.sends.items _ c.args.reaction.send r.replies);
      statements = rw (c.push.ensures.items, c.push_some-2.ensures) (still_fewer r.receipts.items r.outputs.items _ c.args.reaction.output r.statements);
      counted = rw (c.push.ensures.items, c.from.ensures, c.count_sender.ensures) (counted_more r.taken r.receipts.items _ (search rules) r.counted);
      filed = rw c.push_some.ensures
          (subst (λ (g : ℕ → List ℕ). FiledIn g (r.sends.items ++ optional c.args.reaction.send)) (sym c.file.ensures) (filed_more _ r.sends.items c.args.reaction.send r.filed));
    }
