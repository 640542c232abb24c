use Rattle.std.proofs.Common.{ap, ◌∙◌, rules}
use Rattle.records.specs.View.{Lists, lists, no_lists, with_taken}
use Rattle.records.proofs.Tables.{edited_at, read_at}
use Rattle.records.proofs.records.Records.grow.Goals as goal

pub returns : goal.returns
returns c =
    let all = c.args.self.now.records in
    edited_at lists no_lists all c.args.p _ c.index.ensures.value (search rules) c.grow.new.self _
    (c.grow.ensures ∙ ap (λ (l : Lists). with_taken l c.args.message c.args.reaction) (read_at lists no_lists all c.args.p _ c.index.ensures.value (search rules) c.index-self-index.result))
