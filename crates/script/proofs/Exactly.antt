-- Under a logger whose rules are exact, a run leaves what the definition says.
use Rattle.std.proofs.Common.{◌≡◌, ℕ, suc, ◌+◌, ◌-◌, List, [], ◌∷◌, length, Some, None, Ok, Err, Option, Result, sym, refl, ap, ◌∙◌, arith}
use Rattle.workload.specs.Machine.{Machine}
use Rattle.network.specs.declared.refusal.Refusal.{Refusal}
use Rattle.network.specs.Checks.{checked, unless_refused}
use Rattle.logger.specs.declared.logger.Logger as logger
use Rattle.logger.specs.Operation.{Operation}
use Rattle.calls.specs.declared.call.Call.{Call}
use Rattle.calls.specs.declared.call.Made.{Made}
use Rattle.calls.specs.Calls.{Answer, System, Follows, Called, checks, done, made, if_accepted, open_checks}
use Rattle.calls.specs.Cluster.{opened}
use Rattle.calls.specs.Recovery.{Finder}
use Rattle.script.specs.Exact.{Exact, all_after}
use Rattle.format.specs.declared.fault.ListFault.{ListFault}
use Rattle.format.specs.declared.fault.ReadFault.{ReadFault}
use Rattle.format.specs.declared.fault.RunFault.{RunFault}
use Rattle.script.specs.Course.{Reached, Ended, GoesOn, IfOpened, Runs}
use Rattle.format.specs.Lines.{placed, ending}
use Rattle.format.specs.Reader.{reading, size}
use Rattle.script.specs.Run.{Left, stops, open_line, call_line, outcome, operations, called, go_on, if_opened, turn, plays, plays_opened, runs}
use Rattle.script.proofs.Courses.{inside}
use Rattle.script.proofs.Turns.{same_turns}

-- one turn of the definition, over what was read
module _ {S M : Type 0} (rules : Exact M) (m : ℕ) (s : List ℕ) (i k : ℕ) (xs : List ℕ) (w : ℕ) (a : System S M) where
  on_read : (h : Result (Option Call) ReadFault) → reading s i ≡ h → plays rules (suc m) s i k xs w a ≡ turn rules h (plays rules m s) i k xs w a
  unfolding plays
  on_read h e = ap (λ (r : Result (Option Call) ReadFault). turn rules r (plays rules m s) i k xs w a) e

  on_listed :
      (c : Call) (r : Answer) (b : System S M) (o : Result ℕ ListFault) → reading s i ≡ Ok (Some c) → called rules a c ≡ (r, b) → ending xs w (call_line k c r) ≡ o
      → plays rules (suc m) s i k xs w a
      ≡ go_on o (λ end. plays rules m s (i + 1 + size c) (k + 1) (placed xs w (call_line k c r)) end b) (λ e. stops xs w (RunFault.Listing e) k i)
  on_listed c r b o e q p =
      on_read (Ok (Some c)) e
      ∙ ap (λ (y : Answer × System S M). go_on (ending xs w (call_line k c y.0))
      (λ end. plays rules m s (i + 1 + size c) (k + 1) (placed xs w (call_line k c y.0)) end y.1) (λ e. stops xs w (RunFault.Listing e) k i)) q
      ∙ ap (λ (y : Result ℕ ListFault). go_on y (λ end. plays rules m s (i + 1 + size c) (k + 1) (placed xs w (call_line k c r)) end b) (λ e. stops xs w (RunFault.Listing e) k i)) p

-- What a logger does is given by rules over a view of it.
pub record FollowsRules {L M : Type 0} (log : logger.Ghosts L) (rules : Exact M) (view : L → M) : Type 0 where
  pub starts : (n f : ℕ) (l l' : L) → log.acts (Operation.start n f) l l' → view l' ≡ rules.fresh n f
  pub does : (op : Operation) (l l' : L) → log.acts op l l' → view l' ≡ rules.after op (view l)
  pub finds : (l : L) → log.found l ≡ rules.found (view l)

module _ {L M : Type 0} (log : logger.Ghosts L) (rules : Exact M) (view : L → M) (exact : FollowsRules log rules view) where
  follows : (ops : List Operation) (l l' : L) → Follows log ops l l' → all_after rules ops (view l) ≡ view l'
  follows [] l l' e = ap view e
  follows (op ∷ ops) l l' F = ap (all_after rules ops) (sym (exact.does op l F.0 F.1)) ∙ follows ops F.0 l' F.2

module _ {L S M : Type 0} (log : logger.Ghosts L) (rules : Exact M) (view : L → M) (exact : FollowsRules log rules view) where
  abbrev seen : System S L → System S M
  seen a = record { cluster = a.cluster; logger = view a.logger }

  called_seen : (a b : System S L) (c : Call) (r : Answer) → Called log a c r b → called rules (seen a) c ≡ (r, seen b)
  unfolding called
  called_seen a b c r C = λ i. ((cluster i).0, record { cluster = (cluster i).1; logger = told i })
    where
      found : rules.found (view a.logger) ≡ log.found a.logger
      found = sym (exact.finds a.logger)

      cluster : outcome rules (seen a) c ≡ (r, b.cluster)
      cluster = ap (λ (g : Finder). unless_refused (checked (checks a.cluster c)) a.cluster (done g a.cluster c)) found ∙ C.cluster

      told : all_after rules (operations rules (seen a) c) (view a.logger) ≡ view b.logger
      told = ap (λ (g : Finder). all_after rules (if_accepted (checked (checks a.cluster c)) (made g a.cluster c)) (view a.logger)) found
          ∙ follows log rules view exact _ a.logger b.logger C.logger

  module _ (s : List ℕ) (a₀ : System S L) (i₀ k₀ : ℕ) (xs₀ : List ℕ) (w₀ : ℕ) where
    abbrev all : Left
    all = plays rules (suc (length s - i₀)) s i₀ k₀ xs₀ w₀ (seen a₀)

    reached_left : {t : List Made} {a : System S L} {i k w : ℕ} {xs : List ℕ} → Reached log s a₀ i₀ k₀ xs₀ w₀ t a i k xs w
        → plays rules (suc (length s - i)) s i k xs w (seen a) ≡ all
    reached_left Reached.start = refl
    reached_left (Reached.then {a = a} {b = b} {i = i} {k = k} {w = w} {end = end} {xs = xs} {x = x} R e C p) =
        let l = inside s i x.call e in
        let line = call_line k x.call x.answer in
        same_turns rules (suc (length s - (i + 1 + size x.call))) (length s - i) s (i + 1 + size x.call) (k + 1) (placed xs w line) end (seen b) (omega arith) (omega arith)
        ∙ sym (on_listed rules (length s - i) s i k xs w (seen a) x.call x.answer (seen b) (Ok end) e (called_seen a b x.call x.answer C) p)
        ∙ reached_left R

    ended_left : {t : List Made} {a : System S L} {p : Left} → Ended log s a₀ i₀ k₀ xs₀ w₀ t a p → p ≡ all
    ended_left (Ended.over {a = a} {i = i} {k = k} {w = w} {xs = xs} R e) = sym (on_read rules (length s - i) s i k xs w (seen a) (Ok None) e) ∙ reached_left R
    ended_left (Ended.unread {a = a} {i = i} {k = k} {w = w} {xs = xs} {e = x} R e) =
        sym (on_read rules (length s - i) s i k xs w (seen a) (Err x) e) ∙ reached_left R
    ended_left (Ended.unlisted {a = a} {b = b} {i = i} {k = k} {w = w} {xs = xs} {x = x} {e = f} R e C p) =
        sym (on_listed rules (length s - i) s i k xs w (seen a) x.call x.answer (seen b) (Err f) e (called_seen a b x.call x.answer C) p) ∙ reached_left R

  pub runs_left : (machine : ℕ → Machine S) (n f : ℕ) (s xs : List ℕ) (p : Left) → Runs log machine n f s xs p → p ≡ runs rules (suc (length s)) machine n f s xs
  runs_left machine n f s xs p = go (checked (open_checks n f))
    where
      after : (l : L) → view l ≡ rules.fresh n f → (t : List Made) (b : System S L) (o : Result ℕ ListFault)
          → GoesOn log s xs o (record { cluster = opened (machine n) n f; logger = l }) t b p
          → p ≡ go_on o (λ end. plays rules (suc (length s)) s 5 2 (placed xs 0 open_line) end (record { cluster = opened (machine n) n f; logger = rules.fresh n f }))
          (λ e. stops xs 0 (RunFault.Listing e) 1 0)
      after l fresh t b (Ok end) E =
          ended_left s (record { cluster = opened (machine n) n f; logger = l }) 5 2 (placed xs 0 open_line) end E
          ∙ same_turns rules (suc (length s - 5)) (suc (length s)) s 5 2 (placed xs 0 open_line) end (record { cluster = opened (machine n) n f; logger = view l }) (omega arith) (omega arith)
          ∙ ap (λ (x : M). plays rules (suc (length s)) s 5 2 (placed xs 0 open_line) end (record { cluster = opened (machine n) n f; logger = x })) fresh
      after l fresh t b (Err e) E = E.2

      go : (x : Result (Unit {0}) Refusal) → IfOpened log machine n f s xs x p → p ≡ if_opened x xs (plays_opened rules (suc (length s)) s xs (machine n) n f)
      go (Ok u) R = after R.new (exact.starts n f R.old R.new R.start) R.calls R.system (ending xs 0 open_line) R.course
      go (Err e) R = R
