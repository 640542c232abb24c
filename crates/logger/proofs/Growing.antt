-- The operations at which nothing is forgotten keep the invariant.
use Rattle.std.proofs.Common.{◌≡◌, ℕ, suc, ◌<◌, ◌≤◌, ◌⊎◌, arith}
use native.Mathlib.Decide.{ℕ_discrete}
use Rattle.network.specs.Past.{Before}
use Rattle.std.proofs.lemmas.Bool.{cases_Bool}
use Rattle.logger.specs.declared.determinant.Determinant.{Determinant}
use Rattle.logger.specs.Meaning.{Meaning, Covered, Knows}
use Rattle.logger.specs.Clauses.{Note}
use Rattle.logger.specs.Events.{Events, origins, Event, Happened}
use Rattle.logger.specs.Invariant.{Invariant, Updated, next}
use Rattle.logger.specs.Theorems.{AgreeKeeps, CarryKeeps, ReceiveKeeps, OutsideKeeps, SpreadKeeps}
use Rattle.logger.proofs.Covering.{covered_grows, before_event}

pub agree_keeps : AgreeKeeps
agree_keeps m v v' len rel ag inv = grind (arith, before_event m v len rel inv)

pub carry_keeps : CarryKeeps
carry_keeps m m' v len rel s p cl inv = grind (arith, covered_grows m m' cl.grows)

release :
    (m : Meaning) (v : Events) (len rel rel' : ℕ → ℕ) (p : ℕ) → Invariant m v len rel → Updated rel rel' p (len p) → ((k : ℕ) → 1 ≤ k → k ≤ len p → Covered m (v.at p k))
    → Invariant m v len rel'
release m v len rel rel' p inv up cov = grind (arith, ℕ_discrete)

pub spread_keeps : SpreadKeeps
spread_keeps m m' v len rel p cl inv =
    let kept : Invariant m' v len rel = grind (arith, covered_grows m m' cl.grows) in
    let covers : (k : ℕ) → 1 ≤ k → k ≤ len p → Covered m' (v.at p k) = λ k l h. grind (arith, covered_grows m m' cl.grows) in
    record { keeps = kept; covers = covers; releases = λ rel' up. release m' v len rel rel' p kept up covers }

-- a note, where p knows the event in which its message was made
note_keeps :
    (m m' : Meaning) (v : Events) (len len' rel : ℕ → ℕ) (p : ℕ)
    → Note m m' p (next v len p)
    → Invariant m v len rel
    → (next v len p).number ≡ suc (len p)
    → ((next v len p).sender < m.n → Event m.n len (next v len p).sender (v.made p (suc (len p))) × Knows m p (v.at (next v len p).sender (v.made p (suc (len p)))))
    → Updated len len' p (suc (len p))
    → Invariant m' v len' rel
note_keeps m m' v len len' rel p cl inv num source up = record {
  well_formed = record { receiver = λ q k e. grind (arith, split q k); number = λ q k e. grind (arith, split q k); made = λ q k e l. grind (arith, split q k, grown) };
  held_happened = λ x e u h. grind (arith, grown, happened);
  stored_happened = λ e h. grind (arith, grown, happened);
  knows_own = λ x k u l h. grind (arith, cov, split x k);
  knows_before = λ x e u h a j b. grind (arith, cov, past a j);
  stored_before = λ e h a j b. grind (arith, cov, past a j, cases_Bool (m.stored e));
  released_within = λ h l. grind (arith, grown h);
  released_covered = λ h k l i j. grind (arith, cov);
}
  where
    cov : (e : Determinant) → Covered m e → Covered m' e
    cov = covered_grows m m' cl.grows

    grown : (h : ℕ) → len h ≤ len' h
    grown h = grind (arith, ℕ_discrete h p)

    split : (q k : ℕ) → k ≤ len' q → (k ≤ len q) ⊎ ((q ≡ p) × (k ≡ suc (len p)))
    split q k l = grind (arith, ℕ_discrete q p)

    happened : Happened m.n v len' (next v len p)
    happened = grind arith

    past : (a j : ℕ) → Before m.n (origins v) p (suc (len p)) a j → Knows m p (v.at a j)
    past a j b = grind arith

pub outside_keeps : OutsideKeeps
outside_keeps m m' v len len' rel p cl inv from up = note_keeps m m' v len len' rel p cl inv from.number (λ l. absurd (omega arith)) up

pub receive_keeps : ReceiveKeeps
receive_keeps m m₁ m₂ v len len' rel s p ca cl inv from up =
    note_keeps m₁ m₂ v len len' rel p cl (carry_keeps m m₁ v len rel s p ca inv) from.number (λ l. grind (arith, covered_grows m m₁ ca.grows)) up
