use Rattle.std.proofs.Common.{◌≡◌, None, Option, Bor, replicate, option_copied, unwrap_or, sym, ap, ◌∙◌}
use Rattle.loggers.specs.declared.family_based.FamilyBased.{FamilyBased}
use Rattle.loggers.specs.FamilyBased.{note_at, with_holdings}
use Rattle.loggers.specs.Places.{at, with_place}
use Rattle.loggers.specs.FamilyViews.{holdings, state}
use Rattle.loggers.proofs.Entries.{Row, row_or_none, table_set}
use Rattle.loggers.proofs.family_based.FamilyBasedLogger.note.Goals as goal
use Rattle.loggers.proofs.family_based.FamilyBasedLogger.note.Goals.{in-Some, in-None}

pub returns : goal.returns
returns c =
    let l = c.args.self.now in
    let rule = note_at c.args.p c.args.d in
    let read = λ (o : Option (Bor Row)). unwrap_or (option_copied o) (replicate 8 None) in
    let same : c.match-get.self ≡ l = elim c.match-get.branch [ in-Some w ↦ w.self-is | in-None w ↦ w.self-is ] in
    let held : c.match-get.held ≡ read c.get.result = elim c.match-get.branch [
      | in-Some w ↦ w.held-is ∙ sym (ap read w.in-Some.is)
      | in-None w ↦ w.held-is ∙ sym (ap read w.in-None.is)
    ] in
    let was = ap holdings (held ∙ ap (λ (o : Option Row). unwrap_or o (replicate 8 None)) (c.get.ensures ∙ (λ i. at l.table.places None (c.new-q.ensures i) (c.new-r.ensures i)))) ∙ row_or_none _ in
    let set = c.set.ensures ∙ (λ i. with_place (at (same i).table.places None) (c.new-q.ensures i) (c.new-r.ensures i) c.note_at.new.held) in
    ap (λ (m : FamilyBased). state record { hosts = m.hosts; table = c.set.new.self }) same
    ∙ ap (with_holdings (state l)) (table_set rule c.args.d l.table.places c.set.new.self.places c.note_at.new.held set (c.note_at.ensures ∙ ap rule was))
