-- A run, a turn at a time.
use Rattle.std.proofs.Common.{◌≡◌, ℕ, ◌+◌, ◌<◌, Bool, true, false, ltb, List, [], ◌∷◌, ◌++◌, length, Some, None, Ok, Err, Option, Result, sym, refl, ap, ◌∙◌, subst, inl, inr, arith}
use Rattle.std.proofs.lemmas.Bool.{cases_lt, le-ltb, cond-false}
use Rattle.std.specs.Result.{IsErrAnd}
use Rattle.logger.specs.declared.logger.Logger as logger
use Rattle.calls.specs.declared.call.Call.{Call}
use Rattle.calls.specs.declared.call.Made.{Made}
use Rattle.calls.specs.Calls.{System}
use Rattle.format.specs.declared.fault.ListFault.{ListFault}
use Rattle.format.specs.declared.fault.ReadFault.{ReadFault}
use Rattle.format.specs.declared.fault.RunFault.{RunFault}
use Rattle.format.specs.declared.listing.Listing.{Listing}
use Rattle.script.specs.declared.run.course.Course.{Course}
use Rattle.script.specs.Course.{listed, Turned, Reached, Ended, Finished}
use Rattle.format.specs.Lines.{ending}
use Rattle.format.specs.Reader.{reading, past, size}
use Rattle.script.specs.Run.{Left, ends, stops, call_line}
use Rattle.script.specs.Standing.{GoesTo, Stays, turn_end, leaving}
use Rattle.format.proofs.Endings.{placed_full}

-- a command is read only within the script
pub inside : (s : List ℕ) (i : ℕ) (c : Call) → reading s i ≡ Ok (Some c) → i < length s
inside s i c e =
    elim (cases_lt i (length s)) [
      | inl l ↦ l
      | inr l ↦
          let none : reading s i ≡ Ok None = cond-false (ltb i (length s)) _ _ (le-ltb i (length s) l) in
          absurd (cc)
    ]

-- what a line that was put, or not, says of a turn's answer
put_some : (o : Result ℕ ListFault) (end : ℕ) → Ok (Some end) ≡ listed o → o ≡ Ok end
put_some (Ok x) end e = cc
put_some (Err f) end e = absurd (cc)

never_none : (o : Result ℕ ListFault) → Ok None ≡ listed o → ⊥
never_none (Ok x) e = cc
never_none (Err f) e = cc

not_put : (o : Result ℕ ListFault) (f : RunFault) → Err f ≡ listed o → (e : ListFault) × (o ≡ Err e) × (f ≡ RunFault.Listing e)
not_put (Ok x) f h = absurd (cc)
not_put (Err e) f h = (e, refl, cc)

module _ {L S : Type 0} {log : logger.Ghosts L} {s : List ℕ} {a₀ : System S L} {i₀ k₀ : ℕ} {xs₀ : List ℕ} {w₀ : ℕ} {t : List Made} {a : System S L}
    (b : System S L) (c d : Course) (l m : Listing) (R : Reached log s a₀ i₀ k₀ xs₀ w₀ t a c.place c.number l.bytes.now l.written) (same : c.script.now ≡ s) where
  abbrev read : Result (Option Call) ReadFault
  read = reading c.script.now c.place

  reads : reading s c.place ≡ read
  reads = ap (λ (z : List ℕ). reading z c.place) (sym same)

  -- one turn, from c to d, with what it answers
  abbrev Turn : Result Bool RunFault → Result (Option Call) ReadFault → Type 0
  Turn r h = Turned log h c.number l.bytes.now l.written a (turn_end r m) m.bytes.now b

  -- one turn more
  pub record More : Type 0 where
    pub calls : List Made
    pub reached : Reached log s a₀ i₀ k₀ xs₀ w₀ calls b d.place d.number m.bytes.now m.written
    pub further : c.place < d.place
    pub in_script : c.place < length s

  pub more : Turn (Ok true) read → GoesTo (past c.place read) c d → More
  more T A = go read reads T A
    where
      go : (h : Result (Option Call) ReadFault) → reading s c.place ≡ h → Turn (Ok true) h → GoesTo (past c.place h) c d → More
      go (Ok None) q T A = let f = T.0 in absurd (cc)
      go (Err x) q T A = let f = T.0 in absurd (cc)
      go (Ok (Some x)) q T A =
          let calls = t ++ (record { call = x; answer = T.answer } ∷ []) in
          let put = put_some (ending l.bytes.now l.written (call_line c.number x T.answer)) m.written T.value in
          let here = inside s c.place x q in
          record {
            calls = calls;
            reached = subst (λ (n : ℕ). Reached log s a₀ i₀ k₀ xs₀ w₀ calls b n d.number m.bytes.now m.written) (sym A.place)
                (subst (λ (n : ℕ). Reached log s a₀ i₀ k₀ xs₀ w₀ calls b (c.place + 1 + size x) n m.bytes.now m.written) (sym A.number)
                (subst (λ (zs : List ℕ). Reached log s a₀ i₀ k₀ xs₀ w₀ calls b (c.place + 1 + size x) (c.number + 1) zs m.written) (sym T.listing)
                (Reached.then {x = record { call = x; answer = T.answer }} R q T.call put)));
            further = omega (arith, A.place);
            in_script = here;
          }

  -- the last turn, at the script's end
  pub comes_to_end : Turn (Ok false) read → Stays c d l m → Finished log s a₀ i₀ k₀ xs₀ w₀ (leaving d m (Ok tt))
  comes_to_end T A = subst (λ (n : ℕ). Finished log s a₀ i₀ k₀ xs₀ w₀ (ends m.bytes.now n)) (sym A.written) (go read reads T)
    where
      go : (h : Result (Option Call) ReadFault) → reading s c.place ≡ h → Turn (Ok false) h → Finished log s a₀ i₀ k₀ xs₀ w₀ (ends m.bytes.now l.written)
      go (Ok None) q T =
          record { calls = t; system = a; ended = subst (λ (zs : List ℕ). Ended log s a₀ i₀ k₀ xs₀ w₀ t a (ends zs l.written)) (sym T.1) (Ended.over R q) }
      go (Err x) q T = let f = T.0 in absurd (cc)
      go (Ok (Some x)) q T = absurd (never_none (ending l.bytes.now l.written (call_line c.number x T.answer)) T.value)

  -- the last turn, at a stop
  pub comes_to_stop : (f : RunFault) (r : Result (Unit {0}) RunFault) → Turn (Err f) read → Stays c d l m → IsErrAnd r (λ e. e ≡ f) → Finished log s a₀ i₀ k₀ xs₀ w₀ (leaving d m r)
  comes_to_stop f (Ok u) T A h = absurd h
  comes_to_stop f (Err e) T A h = subst (λ (x : Left). Finished log s a₀ i₀ k₀ xs₀ w₀ x) stays (go read reads T)
    where
      stays : stops m.bytes.now l.written f c.number c.place ≡ leaving d m (Err e)
      stays = let w = A.written in let k = A.number in let i = A.place in cc

      go : (h : Result (Option Call) ReadFault) → reading s c.place ≡ h → Turn (Err f) h
          → Finished log s a₀ i₀ k₀ xs₀ w₀ (stops m.bytes.now l.written f c.number c.place)
      go (Ok None) q T = let g = T.0 in absurd (cc)
      go (Err x) q T =
          let g = T.0 in
          let fault : f ≡ RunFault.Reader x = cc in
          record {
            calls = t;
            system = a;
            ended = subst (λ (y : RunFault). Ended log s a₀ i₀ k₀ xs₀ w₀ t a (stops m.bytes.now l.written y c.number c.place)) (sym fault)
                (subst (λ (zs : List ℕ). Ended log s a₀ i₀ k₀ xs₀ w₀ t a (stops zs l.written (RunFault.Reader x) c.number c.place)) (sym T.1) (Ended.unread R q));
          }
      go (Ok (Some x)) q T =
          let calls = t ++ (record { call = x; answer = T.answer } ∷ []) in
          let line = call_line c.number x T.answer in
          let full = not_put (ending l.bytes.now l.written line) f T.value in
          record {
            calls = calls;
            system = b;
            ended = subst (λ (y : RunFault). Ended log s a₀ i₀ k₀ xs₀ w₀ calls b (stops m.bytes.now l.written y c.number c.place)) (sym full.2)
                (subst (λ (zs : List ℕ). Ended log s a₀ i₀ k₀ xs₀ w₀ calls b (stops zs l.written (RunFault.Listing full.0) c.number c.place))
                (sym (T.listing ∙ placed_full l.bytes.now line l.written full.0 full.1))
                (Ended.unlisted {x = record { call = x; answer = T.answer }} R q T.call full.1));
          }

-- what holds of a run over a script and a listing, said of equal ones
pub holds_of : (P : List ℕ → List ℕ → Left → Type 0) (s s' xs xs' : List ℕ) (p p' : Left) → s' ≡ s → xs' ≡ xs → p ≡ p' → P s' xs' p' → P s xs p
holds_of P s s' xs xs' p p' e f g h =
    subst (λ (z : List ℕ). P z xs p) e (subst (λ (z : List ℕ). P s' z p) f (subst (λ (z : Left). P s' xs' z) (sym g) h))
