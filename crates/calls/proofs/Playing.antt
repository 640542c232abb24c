-- A list of calls made one after the other on a cluster that is opened for it.
use Rattle.std.proofs.Common.{◌≡◌, ℕ, ◌+◌, ◌<◌, Bool, true, ◌&&◌, ltb, leb, List, [], ◌∷◌, map, length, get_or, take, set, is_ok, Ok, Err, Result, sym, refl, ap, ◌∙◌, subst, arith, ltb-true, leb-true}
use lib.Seq.{map-set}
use Rattle.std.proofs.lemmas.List.{take_more_set, set-get_or, get_or-map}
use Rattle.workload.specs.Machine.{Machine}
use Rattle.network.specs.declared.refusal.Refusal.{Refusal}
use Rattle.network.specs.Checks.{checked, unless_refused}
use Rattle.logger.specs.declared.logger.Logger as logger
use Rattle.network.specs.World.{nothing}
use Rattle.network.proofs.Checked.{checked_pass}
use Rattle.logger.specs.Clauses.{Sizes}
use Rattle.logger.specs.Operation.{Operation}
use Rattle.calls.specs.declared.call.Call.{Call}
use Rattle.calls.specs.declared.call.Made.{Made}
use Rattle.calls.specs.Calls.{Answer, System, Follows, Called, Opened, open_checks, if_accepted}
use Rattle.calls.specs.Cluster.{Cluster, opened}
use Rattle.calls.specs.Played.{MadeAll}
use Rattle.calls.specs.Sound.{Sounds, StaysSound}
use Rattle.calls.specs.Trace.{Trace, opens, then}
use Rattle.calls.proofs.Alikes.{no_logger_shows}
use Rattle.calls.proofs.Guarantees.{guaranteed, whole_is_within}
use Rattle.calls.proofs.Keeps.{open_sound}
use Rattle.calls.proofs.Laws.{Laws}
use Rattle.calls.proofs.Steps.{kept}

module _ {L S : Type 0} (log : logger.Ghosts L) (machine : ℕ → Machine S) (n f : ℕ) where
  -- a refused open leaves everything as it was
  pub open_refused : (a b : System S L) (e : Refusal) → Opened log machine a n f (Err e) b → (checked (open_checks n f) ≡ Err e) × (b ≡ a)
  open_refused a b e o = go (checked (open_checks n f)) o.cluster o.logger
    where
      go : (x : Result (Unit {0}) Refusal) → unless_refused x a.cluster (Ok 0, opened (machine n) n f) ≡ (Err e, b.cluster)
          → Follows log (if_accepted x (Operation.start n f ∷ [])) a.logger b.logger → (x ≡ Err e) × (b ≡ a)
      go (Ok u) h k = (let z : ◌≡◌ {A = ℕ} 0 1 = cc (ap (λ (r : Answer × Cluster S). r.0) h) in absurd (omega arith))
      go (Err d) h k =
          (cc (ap (λ (r : Answer × Cluster S). r.0) h), λ i. record { cluster = sym (ap (λ (r : Answer × Cluster S). r.1) h) i; logger = sym k i })

  -- an accepted one answers 0 and tells the logger to start
  pub open_starts :
      (a b : System S L) (k : ℕ) → Opened log machine a n f (Ok k) b
      → (k ≡ 0) × (checked (open_checks n f) ≡ Ok tt) × ((l : L) × log.acts (Operation.start n f) a.logger l × (◌≡◌ {A = System S L} (record { cluster = opened (machine n) n f; logger = l }) b))
  open_starts a b k o = go (checked (open_checks n f)) o.cluster o.logger
    where
      go : (x : Result (Unit {0}) Refusal) → unless_refused x a.cluster (Ok 0, opened (machine n) n f) ≡ (Ok k, b.cluster)
          → Follows log (if_accepted x (Operation.start n f ∷ [])) a.logger b.logger
          → (k ≡ 0) × (x ≡ Ok tt) × ((l : L) × log.acts (Operation.start n f) a.logger l × (◌≡◌ {A = System S L} (record { cluster = opened (machine n) n f; logger = l }) b))
      go (Ok u) h w =
          (cc (ap (λ (r : Answer × Cluster S). r.0) h), refl, (w.0, w.1, λ i. record { cluster = ap (λ (r : Answer × Cluster S). r.1) h i; logger = w.2 i }))
      go (Err d) h w = (let z : ◌≡◌ {A = ℕ} 0 1 = cc (ap (λ (r : Answer × Cluster S). r.0) h) in absurd (omega arith))

  -- and begins a trace
  pub open_accepted : (a b : System S L) (k : ℕ) → Opened log machine a n f (Ok k) b → (k ≡ 0) × (checked (open_checks n f) ≡ Ok tt) × Trace log (machine n) n f [] b
  open_accepted a b k o = let x = open_starts a b k o in (x.0, x.1, subst (λ (s : System S L). Trace log (machine n) n f [] s) x.2.2 (opens x.2.1))

  -- one call more
  pub trace_more :
      (xs : List Made) (i : ℕ) (d : Made) (r : Answer) (a b : System S L) → i < length xs → Called log a (get_or xs i d).call r b
      → Trace log (machine n) n f (take i xs) a
      → Trace log (machine n) n f (take (i + 1) (set xs i (record { call = (get_or xs i d).call; answer = r }))) b
  trace_more xs i d r a b l c t =
      subst (λ (ys : List Made). Trace log (machine n) n f ys b) (sym (take_more_set xs i (record { call = (get_or xs i d).call; answer = r }) l))
      (then {x = record { call = (get_or xs i d).call; answer = r }} t c)

-- an answer written beside its call leaves the calls as they were
pub calls_kept : (xs : List Made) (i : ℕ) (d : Made) (r : Answer) → i < length xs
    → map (λ (x : Made). x.call) (set xs i (record { call = (get_or xs i d).call; answer = r })) ≡ map (λ (x : Made). x.call) xs
calls_kept xs i d r l =
    let call : Made → Call = λ x. x.call in
    map-set call xs i (record { call = (get_or xs i d).call; answer = r })
    ∙ ap (set (map call xs) i) (sym (get_or-map call xs i d d.call l)) ∙ set-get_or (map call xs) i d.call

-- what the checks of an open ask
sizes_of : (n f : ℕ) → checked (open_checks n f) ≡ Ok tt → Sizes n f
sizes_of n f e =
    let ok = checked_pass (open_checks n f) (ap is_ok e) in
    let few = and_parts (leb 2 n) (leb n 8) ok.0 in
    let some = and_parts (leb 1 f) (ltb f n) ok.1.0 in
    record { two = leb-true 2 n few.0; eight = leb-true n 8 few.1; one = leb-true 1 f some.0; below = ltb-true f n some.1 }
  where
    and_parts : (a b : Bool) → (a && b) ≡ true → (a ≡ true) × (b ≡ true)
    and_parts a b h = grind arith

module _ {L S : Type 0} (log : logger.Ghosts L) (laws : Laws log) (machine : ℕ → Machine S) (n f : ℕ) where
  pub made_all :
      (before after : List Made) (b : System S L) → checked (open_checks n f) ≡ Ok tt → Trace log (machine n) n f after b
      → map (λ (x : Made). x.call) after ≡ map (λ (x : Made). x.call) before
      → MadeAll log machine n f before after b
  made_all before after b ok t same =
      let sizes = sizes_of n f ok in
      record {
        same_calls = same;
        trace = t;
        whole = whole_is_within log laws machine n f sizes after b t;
        guarantee = guaranteed log laws machine n f sizes after b t;
        alike = λ posts pairs valid e. no_logger_shows log machine n f sizes posts pairs valid after b t (same ∙ e);
      }

-- an accepted open makes the cluster sound, and each call keeps it so
pub stays_sound : {L S : Type 0} (log : logger.Ghosts L) (laws : Laws log) (machine : ℕ → Machine S) → StaysSound log machine
stays_sound {L} {S} log laws machine = record { opened = opened_sound; called = λ a b call answer c s whole. (kept c laws s whole).sounds }
  where
    opened_sound : (a b : System S L) (n f k : ℕ) → Opened log machine a n f (Ok k) b → Sounds log b.cluster b.logger
    opened_sound a b n f k o =
        let x = open_starts log machine n f a b k o in
        subst (λ (s : System S L). Sounds log s.cluster s.logger) x.2.2 (nothing, λ h. 0, open_sound laws (machine n) n f a.logger x.2.0 (sizes_of n f x.1) x.2.1)
