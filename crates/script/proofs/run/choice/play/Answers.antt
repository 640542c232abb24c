use Rattle.std.proofs.Common.{ap, rules}
use Rattle.script.specs.Choice.{RunsRead}
use Rattle.script.specs.Run.{first_read}
use Rattle.script.specs.Standing.{leaving}
use Rattle.script.proofs.Choices.{read_left}
use Rattle.script.proofs.Courses.{holds_of}
use Rattle.script.proofs.run.choice.play.Goals as goal

pub returns-clause-value : goal.returns-clause-value
returns-clause-value c =
    read_left _ _ _ (holds_of (λ s xs p. RunsRead (first_read s xs) s xs p) _ _ _ _ _ (leaving c.play-ended.new.self c.play-ended.new.listing c.play-ended.result)
    (ap (λ x. x.now) c.new-course.ensures.script) c.new-listing.ensures.bytes (search rules) c.play-ended.ensures.runs)
