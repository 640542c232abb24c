-- The clauses can be met: a logger that hands everything on meets them.
use Rattle.std.proofs.Common.{◌≡◌, ℕ, zero, suc, ◌<◌, Bool, true, false, cond, not, ◌&&◌, ◌||◌, eqb, ltb, ◌⊎◌, Some, refl, inl, inr, arith}
use Rattle.std.proofs.lemmas.Bool.Decides.{nat_tests}
use Rattle.logger.specs.declared.determinant.Determinant.{Determinant}
use Rattle.logger.specs.Meaning.{Meaning, determinant, count, Findable, Up}
use Rattle.logger.specs.Clauses.{Started, MayCarry, Carry, InRange, MayNote, Note, Spread, Lose, Rejoin}
use Rattle.logger.specs.Operation.{start, carry, note, spread, lose, rejoin}
use Rattle.logger.specs.Events.{Events}
use Rattle.logger.specs.Invariant.{Invariant, Updated, next}
use Rattle.logger.specs.Reached.{Reached, starts, receives, takes_post, releases, crashes}
use Rattle.logger.specs.Sources.{source, is_source}
use Rattle.logger.specs.Theorems.{EachCanBeMet, CrashAndReturn, ClausesCanBeMet}
use Rattle.logger.proofs.Sources.{same_determinant, source_is}
use Rattle.logger.proofs.Counting.{more, none}
use Rattle.logger.proofs.Crashing.{findable_happened, leaves_some}
use Rattle.logger.proofs.Growing.{carry_keeps}
use Rattle.logger.proofs.Running.{stays_sound}

-- whether two determinants are the same
abbrev same : Determinant → Determinant → Bool
same e d = eqb e.receiver d.receiver && (eqb e.number d.number && is_source (Some (source e)) (source d))

same_is : (e d : Determinant) → same e d ≡ true → e ≡ d
same_is e d t = same_determinant e d (grind (arith, nat_tests)) (grind (arith, nat_tests)) (let w = source_is (Some (source e)) (source d) (grind arith) in cc)

same_self : (d : Determinant) → same d d ≡ true
same_self d = grind (arith, nat_tests)

-- whether some host below n passes P
abbrev some : ℕ → (ℕ → Bool) → Bool
some n P = ltb 0 (count n P)

some_is : (n : ℕ) (P : ℕ → Bool) → some n P ≡ true → (h : ℕ) × (h < n) × (P h ≡ true)
some_is n P t =
    let z = none n (λ _. false) (λ _. refl) in
    let w = more n P (λ _. false) (grind (arith, nat_tests)) in
    (w.0, w.1, w.2)

count_some : (n : ℕ) (P : ℕ → Bool) (h : ℕ) → h < n → P h ≡ true → 0 < count n P
count_some zero P h l e = absurd (omega arith)
count_some (suc n) P h l e = let ih = count_some n P h in grind arith

is_some : (n : ℕ) (P : ℕ → Bool) (h : ℕ) → h < n → P h ≡ true → some n P ≡ true
is_some n P h l e = let z = count_some n P h l e in grind (arith, nat_tests)

abbrev started : ℕ → ℕ → Meaning
started n f = record { n = n; f = f; down = λ h. false; held = λ h d. false; stored = λ d. false }

abbrev carried : Meaning → ℕ → ℕ → Meaning
carried m s p = record { n = m.n; f = m.f; down = m.down; held = λ h d. m.held h d || (eqb h p && m.held s d); stored = m.stored }

abbrev noted : Meaning → ℕ → Determinant → Meaning
noted m p d = record { n = m.n; f = m.f; down = m.down; held = λ h e. m.held h e || (eqb h p && same e d); stored = m.stored }

abbrev spreaded : Meaning → ℕ → Meaning
spreaded m p = record { n = m.n; f = m.f; down = m.down; held = m.held; stored = λ d. m.stored d || m.held p d }

abbrev lost : Meaning → ℕ → Meaning
lost m p = record { n = m.n; f = m.f; down = λ h. m.down h || eqb h p; held = λ h d. not (eqb h p) && m.held h d; stored = m.stored }

abbrev rejoined : Meaning → Meaning
rejoined m = record { n = m.n; f = m.f; down = λ h. false; held = λ h d. cond (m.down h) (some m.n (λ x. not (m.down x) && m.held x d)) (m.held h d); stored = m.stored }

starts_so : (n f : ℕ) → Started n f (started n f)
starts_so n f = grind arith

carries_so : (m : Meaning) (s p : ℕ) → MayCarry m s p → Carry m (carried m s p) s p
carries_so m s p may = grind (arith, nat_tests)

notes_so : (m : Meaning) (p : ℕ) (d : Determinant) → MayNote m p d → Note m (noted m p d) p d
notes_so m p d may = grind (arith, nat_tests, same_is, same_self)

spreads_so : (m : Meaning) (p : ℕ) → Up m p → Spread m (spreaded m p) p
spreads_so m p may = grind (arith, nat_tests)

loses_so : (m : Meaning) (p : ℕ) → Up m p → Lose m (lost m p) p
loses_so m p may = grind (arith, nat_tests)

rejoins_so : (m : Meaning) → Rejoin m (rejoined m)
rejoins_so m = record {
  same_n = refl;
  same_f = refl;
  none_down = λ h. refl;
  same_stored = λ d. refl;
  same_held = λ h d u. rw u;
  taught = λ q d l y w. inr (rw y (is_some m.n (λ x. not (m.down x) && m.held x d) w.0 w.1.host (grind arith)));
  only_taught = λ q d l y e. let w = some_is m.n (λ x. not (m.down x) && m.held x d) (rw y at e) in (w.0, record { host = w.1; up = grind arith }, grind arith);
}

each : EachCanBeMet
each (start n f) m may = (started n f, starts_so n f)
each (carry s p) m may = (carried m s p, carries_so m s p may)
each (note p d) m may = (noted m p d, notes_so m p d may)
each (spread p) m may = (spreaded m p, spreads_so m p may)
each (lose p) m may = (lost m p, loses_so m p may)
each rejoin m may = (rejoined m, rejoins_so m)

-- a host that is up may note its next receipt, since no determinant can be found for one that has not happened
pub may_note_next :
    (m : Meaning) (v : Events) (len rel : ℕ → ℕ) (p : ℕ)
    → Invariant m v len rel
    → Up m p
    → (next v len p).receiver ≡ p
    → (next v len p).number ≡ suc (len p)
    → InRange (next v len p)
    → ((next v len p).sender ≡ 8) ⊎ ((next v len p).sender < m.n)
    → MayNote m p (next v len p)
may_note_next m v len rel p inv up own num range sender = record { at_up = up; own = own; in_range = range; sender = sender; only = only }
  where
    only : (e : Determinant) → e.receiver ≡ (next v len p).receiver → e.number ≡ (next v len p).number → Findable m e → e ≡ next v len p
    only e i j w = let x = (findable_happened m v len rel inv e w).event.high in absurd (grind arith)

-- g but at p, where it is x
abbrev put : (ℕ → ℕ) → ℕ → ℕ → ℕ → ℕ
put g p x h = cond (eqb h p) x (g h)

put_updated : (g : ℕ → ℕ) (p x : ℕ) → Updated g (put g p x) p x
put_updated g p x = grind (arith, nat_tests)

abbrev none_yet : ℕ → ℕ
none_yet h = 0

-- host 0 takes posts, and host 1 what host 0 makes of them
abbrev events : Events
events = record { at = λ q k. determinant q k (cond (eqb q 0) 8 0) k; made = λ q k. k }

range : (q : ℕ) → q < 8 → InRange (events.at q 1)
range q l = record { receiver = l; number_low = omega arith; number_high = omega arith; sender = grind (arith, nat_tests); ssn_low = omega arith; ssn_high = omega arith }

abbrev posted : Meaning
posted = noted (started 3 1) 0 (events.at 0 1)

post_taken : Reached posted events (put none_yet 0 1) none_yet
post_taken =
    let first = starts {n = 3} {f = 1} {m = started 3 1} {v = events} (starts_so 3 1) in
    let inv = (stays_sound (started 3 1) events none_yet none_yet first).invariant in
    let may = may_note_next (started 3 1) events none_yet none_yet 0 inv (record { host = omega arith; up = refl }) refl refl (range 0 (omega arith)) (inl refl) in
    takes_post first (notes_so (started 3 1) 0 (events.at 0 1) may) (record { number = refl; sender = omega arith }) (put_updated none_yet 0 1)

abbrev passed : Meaning
passed = noted (carried posted 0 1) 1 (events.at 1 1)

-- both receipts have happened
abbrev both : ℕ → ℕ
both = put (put none_yet 0 1) 1 1

passed_on : Reached passed events both none_yet
passed_on =
    let cl = carries_so posted 0 1 (record { from_up = record { host = omega arith; up = refl }; to_up = record { host = omega arith; up = refl }; apart = omega arith }) in
    let inv = carry_keeps posted (carried posted 0 1) events (put none_yet 0 1) none_yet 0 1 cl (stays_sound posted events (put none_yet 0 1) none_yet post_taken).invariant in
    let may = may_note_next (carried posted 0 1) events (put none_yet 0 1) none_yet 1 inv (record { host = omega arith; up = refl }) refl refl (range 1 (omega arith)) (inr (omega arith)) in
    receives post_taken cl (notes_so (carried posted 0 1) 1 (events.at 1 1) may) (record { number = refl; sender = refl; made_low = omega arith; made_high = omega arith }) (put_updated (put none_yet 0 1) 1 1)

-- host 1 has released what it put out
abbrev released : ℕ → ℕ
released = put none_yet 1 1

given_out : Reached (spreaded passed 1) events both released
given_out = releases passed_on (spreads_so passed 1 (record { host = omega arith; up = refl })) (put_updated none_yet 1 1)

crash_and_return : CrashAndReturn
crash_and_return =
    let m = spreaded passed 1 in
    let cl = loses_so m 1 (record { host = omega arith; up = refl }) in
    let left = leaves_some m (lost m 1) events both released 1 cl (stays_sound m events both released given_out).invariant in
    let crashed = crashes given_out cl (omega arith) left.1 in
    let within = (stays_sound (lost m 1) events left.0 released crashed).invariant.released_within 1 (omega arith) in
    record {
      m = lost m 1;
      m' = rejoined (lost m 1);
      v = events;
      len = left.0;
      rel = released;
      hosts = refl;
      bound = refl;
      crashed = crashed;
      down = refl;
      released = refl;
      left = omega (arith, left.2 1, within);
      sender = refl;
      rejoined = rejoins_so (lost m 1);
    }

pub clauses_can_be_met : ClausesCanBeMet
clauses_can_be_met = record { each = each; run = crash_and_return }
