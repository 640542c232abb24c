-- The first turn of a run, and the trace that the others make of it.
use Rattle.std.proofs.Common.{◌≡◌, ℕ, ◌+◌, List, [], ◌∷◌, Ok, Err, Result, sym, refl, ap, ◌∙◌, subst, arith}
use Rattle.std.specs.Result.{IsErrAnd}
use Rattle.workload.specs.Machine.{Machine}
use Rattle.network.specs.declared.refusal.Refusal.{Refusal}
use Rattle.network.specs.Checks.{checked, unless_refused}
use Rattle.logger.specs.declared.logger.Logger as logger
use Rattle.logger.specs.Operation.{Operation}
use Rattle.calls.specs.declared.call.Made.{Made}
use Rattle.calls.specs.Calls.{Answer, System, Follows, open_checks, if_accepted}
use Rattle.calls.specs.Cluster.{Cluster, opened}
use Rattle.calls.specs.Trace.{Trace}
use Rattle.calls.proofs.Playing.{made_all}
use Rattle.calls.proofs.Laws.{Laws}
use Rattle.format.specs.declared.fault.ListFault.{ListFault}
use Rattle.format.specs.declared.fault.RunFault.{RunFault}
use Rattle.format.specs.declared.listing.Listing.{Listing}
use Rattle.script.specs.declared.run.course.Course.{Course}
use Rattle.script.specs.Course.{OpenListed, first_listed, open_value, open_listing, Reached, Ended, Finished, GoesOn, IfOpened, Runs}
use Rattle.format.specs.Lines.{placed, ending}
use Rattle.script.specs.Run.{Left, stops, open_line}
use Rattle.script.specs.Standing.{Begins, Stays, Leads, leaving}
use Rattle.format.proofs.Endings.{placed_full}

module _ {L S : Type 0} (log : logger.Ghosts L) (m : Machine S) (n f : ℕ) (s : List ℕ) (a₀ : System S L) (i₀ k₀ : ℕ) (xs₀ : List ℕ) (w₀ : ℕ)
    (T : Trace log m n f [] a₀) where
  reached_trace : {t : List Made} {a : System S L} {i k w : ℕ} {xs : List ℕ} → Reached log s a₀ i₀ k₀ xs₀ w₀ t a i k xs w → Trace log m n f t a
  reached_trace Reached.start = T
  reached_trace (Reached.then R e c p) = Trace.then (reached_trace R) c

  ended_trace : {t : List Made} {a : System S L} {p : Left} → Ended log s a₀ i₀ k₀ xs₀ w₀ t a p → Trace log m n f t a
  ended_trace (Ended.over R e) = reached_trace R
  ended_trace (Ended.unread R e) = reached_trace R
  ended_trace (Ended.unlisted R e c p) = Trace.then (reached_trace R) c

-- what a line that was put, or not, says of the answer
first_put : (o : Result ℕ ListFault) (end : ℕ) → Ok end ≡ first_listed o → o ≡ Ok end
first_put (Ok x) end e = cc
first_put (Err f) end e = absurd (cc)

first_not_put : (o : Result ℕ ListFault) (f : RunFault) → Err f ≡ first_listed o → (e : ListFault) × (o ≡ Err e) × (f ≡ RunFault.Listing e)
first_not_put (Ok x) f h = absurd (cc)
first_not_put (Err e) f h = (e, refl, cc)

module _ {L S : Type 0} (log : logger.Ghosts L) (laws : Laws log) (machine : ℕ → Machine S) (n f : ℕ) (s before : List ℕ) (a b : System S L) (ys : List ℕ) where
  -- what the checks of the open say, with its effect
  abbrev Effect : Result (Unit {0}) Refusal → Answer → Type 0
  Effect x answer =
      (unless_refused x a.cluster (Ok 0, opened (machine n) n f) ≡ (answer, b.cluster)) × Follows log (if_accepted x (Operation.start n f ∷ [])) a.logger b.logger

  abbrev start_of : System S L
  start_of = record { cluster = opened (machine n) n f; logger = b.logger }

  starts : (u : Unit {0}) (answer : Answer) → Effect (Ok u) answer → (answer ≡ Ok 0) × (b ≡ start_of) × log.acts (Operation.start n f) a.logger b.logger
  starts u answer h = (
    sym (ap (λ (r : Answer × Cluster S). r.0) h.0),
    (λ i. record { cluster = sym (ap (λ (r : Answer × Cluster S). r.1) h.0) i; logger = b.logger }),
    subst (λ (l : L). log.acts (Operation.start n f) a.logger l) h.1.2 h.1.1,
  )

  -- the open is accepted and its line put
  goes_on : (end : ℕ) (p : Left) → OpenListed log machine n f before a (Ok end) ys b → Finished log s b 5 2 ys end p → Runs log machine n f s before p
  goes_on end p O F = go (checked (open_checks n f)) refl (O.call.cluster, O.call.logger)
    where
      go : (x : Result (Unit {0}) Refusal) → checked (open_checks n f) ≡ x → Effect x O.answer → IfOpened log machine n f s before x p
      go (Ok u) ok h =
          let o = starts u O.answer h in
          let put = first_put (ending before 0 open_line) end (O.value ∙ ap (λ (r : Answer). open_value r before) o.0) in
          let lists = O.listing ∙ ap (λ (r : Answer). open_listing r before) o.0 in
          let ended = subst (λ (z : System S L). Ended log s z 5 2 (placed before 0 open_line) end F.calls F.system p) o.1
          (subst (λ (zs : List ℕ). Ended log s b 5 2 zs end F.calls F.system p) lists F.ended) in
          record {
            old = a.logger;
            new = b.logger;
            start = o.2;
            calls = F.calls;
            system = F.system;
            course = subst (λ (r : Result ℕ ListFault). GoesOn log s before r start_of F.calls F.system p) (sym put) ended;
            guaranteed = made_all log laws machine n f F.calls F.calls F.system ok
                (ended_trace log (machine n) n f s start_of 5 2 (placed before 0 open_line) end (Trace.opens o.2) ended) refl;
          }
      go (Err e) ok h =
          let v = O.value ∙ ap (λ (r : Answer). open_value r before) (sym (ap (λ (r : Answer × Cluster S). r.0) h.0)) in
          absurd (cc)

  -- the open is refused, or its line does not fit
  stops_at_once : (fault : RunFault) → OpenListed log machine n f before a (Err fault) ys b → Runs log machine n f s before (stops ys 0 fault 1 0)
  stops_at_once fault O = go (checked (open_checks n f)) refl (O.call.cluster, O.call.logger)
    where
      same : (e : RunFault) → ys ≡ before → fault ≡ e → stops ys 0 fault 1 0 ≡ stops before 0 e 1 0
      same e h k = cc

      go : (x : Result (Unit {0}) Refusal) → checked (open_checks n f) ≡ x → Effect x O.answer → IfOpened log machine n f s before x (stops ys 0 fault 1 0)
      go (Ok u) ok h =
          let o = starts u O.answer h in
          let full = first_not_put (ending before 0 open_line) fault (O.value ∙ ap (λ (r : Answer). open_value r before) o.0) in
          let lists = O.listing ∙ ap (λ (r : Answer). open_listing r before) o.0 ∙ placed_full before open_line 0 full.0 full.1 in
          record {
            old = a.logger;
            new = b.logger;
            start = o.2;
            calls = [];
            system = start_of;
            course = subst (λ (r : Result ℕ ListFault). GoesOn log s before r start_of [] start_of (stops ys 0 fault 1 0)) (sym full.1) (refl, refl, same _ lists full.2);
            guaranteed = made_all log laws machine n f [] [] start_of ok (Trace.opens o.2) refl;
          }
      go (Err e) ok h =
          let answer = sym (ap (λ (r : Answer × Cluster S). r.0) h.0) in
          let v = O.value ∙ ap (λ (r : Answer). open_value r before) answer in
          let fault-is : fault ≡ RunFault.Cluster e = cc in
          same _ (O.listing ∙ ap (λ (r : Answer). open_listing r before) answer) fault-is

-- the same from a course c, which has not begun, over the listing l
module _ {L S : Type 0} (log : logger.Ghosts L) (laws : Laws log) (machine : ℕ → Machine S) (n f : ℕ) (a b : System S L) (c : Course) (l : Listing) (begins : Begins c l) where
  pub opens : (xs : List ℕ) (w : ℕ) → OpenListed log machine n f l.bytes.now a (Ok w) xs b → (p : Left) → Finished log c.script.now b 5 (c.number + 1) xs w p
      → Runs log machine n f c.script.now l.bytes.now p
  opens xs w O p F = goes_on log laws machine n f c.script.now l.bytes.now a b xs w p O (subst (λ (k : ℕ). Finished log c.script.now b 5 k xs w p) second F)
    where
      second : c.number + 1 ≡ 2
      second = omega (arith, begins.number)

  pub opens_not : (f' : RunFault) (r : Result (Unit {0}) RunFault) (d : Course) (m : Listing) → OpenListed log machine n f l.bytes.now a (Err f') m.bytes.now b
      → Stays c d l m → IsErrAnd r (λ e. e ≡ f') → Leads log machine n f c.script.now l.bytes.now b r d m
  opens_not f' (Ok u) d m O A h = absurd h
  opens_not f' (Err e) d m O A h =
      subst (λ (x : Left). Runs log machine n f c.script.now l.bytes.now x) stays
      (stops_at_once log laws machine n f c.script.now l.bytes.now a b m.bytes.now f' O)
    where
      stays : stops m.bytes.now 0 f' 1 0 ≡ leaving d m (Err e)
      stays = let w = A.written ∙ begins.written in let k = A.number ∙ begins.number in let i = A.place ∙ begins.place in cc
