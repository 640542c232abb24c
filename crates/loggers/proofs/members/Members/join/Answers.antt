use Rattle.std.proofs.Common.{refl, ◌∙◌, add-one, rules}
use Rattle.std.specs.List.{range_with_len}
use Rattle.std.proofs.lemmas.Iterator.Consumers.{YieldsList-from_first}
use Rattle.logger.specs.HostSets.{members}
use Rattle.loggers.specs.FamilyBased.{join, join_one}
use Rattle.loggers.proofs.Turns.{folded, by_turns}
use Rattle.loggers.proofs.members.Members.join.Goals as goal

pub returns : goal.returns
returns c =
    let m = c.args.self.now in
    let one = join_one m.f (members m.down) in
    folded one members (λ a h b f' k. search rules) refl c.fold.ensures.ran (YieldsList-from_first (λ h. h) (λ h. h) (range_with_len 0 m.n) c.hosts.ensures.hosts)
    ∙ by_turns one (join m.f (members m.down) (members c.args.known)) (λ n. rw add-one) m.n
