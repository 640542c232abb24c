use Rattle.std.proofs.Common.{ℕ, cond, not, Option, refl, ◌∙◌, add-one, arith, rules}
use Rattle.std.specs.List.{range_with_len}
use Rattle.std.proofs.lemmas.Grind.{common_steps}
use Rattle.std.proofs.lemmas.Iterator.Consumers.{YieldsList-from_first, YieldsList-from_filter}
use Rattle.logger.specs.HostSets.{members}
use Rattle.loggers.specs.FamilyBased.{Holding, merge, gather}
use Rattle.loggers.specs.FamilyViews.{seen, holdings}
use Rattle.loggers.proofs.Turns.{folded, by_turns, fold_up}
use Rattle.loggers.proofs.Entries.{holdings_read}
use Rattle.loggers.proofs.holdings.gather.Goals as goal

pub returns : goal.returns
returns c =
    let m = c.args.hosts.now in
    let down = members m.down in
    let held = holdings c.args.held.now in
    let one = λ (o : Option Holding) (h : ℕ). merge o (held h) in
    let hosts = YieldsList-from_first (λ h. h) (λ h. h) (range_with_len 0 m.n) (c.filter.ensures.source ∙ c.hosts.ensures.hosts) in
    folded one seen (λ a h b f' k. (grind (arith, common_steps, holdings_read), search rules)) refl c.fold.ensures.ran
    (YieldsList-from_filter _ (λ h. not (down h)) hosts c.filter.ensures.closure (λ x b q k. search rules))
    ∙ fold_up one down _ (range_with_len 0 m.n)
    ∙ by_turns (λ o h. cond (down h) o (one o h)) (gather down held) (λ n. rw add-one) m.n
