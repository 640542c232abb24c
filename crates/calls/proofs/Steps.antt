-- One call of a trace, accepted or refused.
use Rattle.std.proofs.Common.{◌≡◌, ◌≤◌, true, ◌⊎◌, None, Ok, Err, Result, sym, refl, ap, ◌∙◌, subst, inl, inr}
use Rattle.std.proofs.lemmas.Bool.{le-leb}
use Rattle.network.specs.declared.refusal.Refusal.{Refusal}
use Rattle.network.specs.Checks.{checked, unless_refused}
use Rattle.network.proofs.Checked.{Pass, checked_pass}
use Rattle.logger.specs.declared.logger.Logger as logger
use Rattle.calls.specs.declared.call.Call.{Call}
use Rattle.calls.specs.declared.call.Call.TheVariants.{Post, Deliver, Cut, Release, Crash, Recover, Show}
use Rattle.calls.specs.Cluster.{Cluster, down_count}
use Rattle.calls.specs.Calls.{Answer, checks, done, made, if_accepted, System, Follows, Called}
use Rattle.calls.specs.Trace.{post_in, release_in}
use Rattle.calls.proofs.Laws.{Laws}
use Rattle.calls.specs.Sound.{Sounds}
use Rattle.calls.proofs.Accepts.{accepted_whole, Kept, recovered_is, accepted}

-- a refused call gives nothing to the outside world
refused_in : (call : Call) (e : Refusal) → (post_in call (Err e) ≡ None) × (release_in call (Err e) ≡ None)
refused_in (Post p b) e = (refl, refl)
refused_in (Deliver p s) e = (refl, refl)
refused_in (Cut p s i) e = (refl, refl)
refused_in (Release p) e = (refl, refl)
refused_in (Crash p) e = (refl, refl)
refused_in Recover e = (refl, refl)
refused_in (Show p) e = (refl, refl)

module _ {L S : Type 0} {log : logger.Ghosts L} {a b : System S L} {call : Call} {answer : Answer} (k : Called log a call answer b) where
  abbrev Accepted : Type 0
  Accepted =
      Pass (checks a.cluster call) × (done (log.found a.logger) a.cluster call ≡ (answer, b.cluster))
      × Follows log (made (log.found a.logger) a.cluster call) a.logger b.logger

  abbrev Refused : Type 0
  Refused = (e : Refusal) × (◌≡◌ {A = Answer × Cluster S} (Err e, a.cluster) (answer, b.cluster)) × (a.logger ≡ b.logger)

  settled : Accepted ⊎ Refused
  settled = go (checked (checks a.cluster call)) refl k.cluster k.logger
    where
      go : (r : Result (Unit {0}) Refusal) → checked (checks a.cluster call) ≡ r
          → unless_refused r a.cluster (done (log.found a.logger) a.cluster call) ≡ (answer, b.cluster)
          → Follows log (if_accepted r (made (log.found a.logger) a.cluster call)) a.logger b.logger
          → Accepted ⊎ Refused
      go (Ok u) i e fo = inl (checked_pass (checks a.cluster call) (rw i), e, fo)
      go (Err x) i e fo = inr (x, e, fo)

  pub was_whole : b.cluster.whole ≡ true → a.cluster.whole ≡ true
  was_whole w = elim settled [ inl x ↦ accepted_whole a.cluster call x.0 | inr x ↦ ap (λ (y : Answer × Cluster S). y.1.whole) x.1 ∙ w ]

  pub kept : Laws log → Sounds log a.cluster a.logger → b.cluster.whole ≡ true → Kept log a.cluster call answer b.cluster b.logger
  kept laws s w = elim settled [
    | inl x ↦ subst (λ (y : Answer × Cluster S). Kept log a.cluster call y.0 y.1 b.logger) x.1
        (accepted s.2 laws call x.0 b.logger x.2 (ap (λ (y : Answer × Cluster S). y.1.whole) x.1 ∙ w))
    | inr x ↦ subst (λ (y : Answer × Cluster S). Kept log a.cluster call y.0 y.1 b.logger) x.1
        (let none = refused_in call x.0 in
        record { sounds = subst (Sounds log a.cluster) x.2 s; adds = rw (none.0, none.1); room = rw none.0 tt; spares = λ d h u v. refl })
  ]

  pub stays_whole : Laws log → Sounds log a.cluster a.logger → a.cluster.whole ≡ true → down_count b.cluster ≤ a.cluster.f → b.cluster.whole ≡ true
  stays_whole laws s w few = elim settled [
    | inl x ↦ ap (λ (y : Answer × Cluster S). y.1.whole) (sym x.1)
        ∙ done_whole call (subst (λ (y : Answer × Cluster S). down_count y.1 ≤ a.cluster.f) (sym x.1) few)
    | inr x ↦ ap (λ (y : Answer × Cluster S). y.1.whole) (sym x.1) ∙ w
  ]
    where
      done_whole : (call : Call) → down_count (done (log.found a.logger) a.cluster call).1 ≤ a.cluster.f → (done (log.found a.logger) a.cluster call).1.whole ≡ true
      done_whole (Post p b) few = w
      done_whole (Deliver p q) few = w
      done_whole (Cut p q i) few = le-leb _ a.cluster.f few
      done_whole (Release p) few = w
      done_whole (Crash p) few = le-leb _ a.cluster.f few
      done_whole Recover few = ap (λ (y : Answer × Cluster S). y.1.whole) (recovered_is s.2 laws) ∙ w
      done_whole (Show p) few = w
