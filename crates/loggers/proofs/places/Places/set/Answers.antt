use Rattle.std.proofs.Common.{rules}
use Rattle.loggers.proofs.Placing.{set_place}
use Rattle.loggers.proofs.places.Places.set.Goals as goal

pub returns : goal.returns
returns g c = set_place c.args.self.now.places c.args.x c.args.q c.args.r c.place.result c.place.ensures.value (search rules) c.place.ensures.named
