use Rattle.std.proofs.Common.{append_assoc, rules}
use Rattle.std.proofs.lemmas.Fmt.{decimal_digit}
use Rattle.format.proofs.line.Line.number.Goals as goal

pub returns-then-n-lt10-clause-text : goal.returns-then-n-lt10-clause-text
returns-then-n-lt10-clause-text c = search (rules, decimal_digit, append_assoc)
