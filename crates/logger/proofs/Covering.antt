-- What is covered stays covered, with all that led to it.
use Rattle.std.proofs.Common.{◌≡◌, ℕ, ◌<◌, ◌≤◌, true, ◌⊎◌, refl, inl, arith}
use native.Mathlib.Decide.{ℕ_discrete}
use Rattle.network.specs.Past.{Before, Past, itself, before}
use Rattle.logger.specs.declared.determinant.Determinant.{Determinant}
use Rattle.logger.specs.Meaning.{Meaning, vouches, Covered, down_count, log_set}
use Rattle.logger.specs.Clauses.{Grows, Lose, Rejoin}
use Rattle.logger.specs.Events.{Events, origins, Event}
use Rattle.logger.specs.Invariant.{Invariant}
use Rattle.logger.specs.Theorems.{Survives, CoveredStays, CoversBefore, KnowsPast, HasNoOrphans, PastIsKnown}
use Rattle.logger.proofs.Counting.{mono_or, more}

pub survives : Survives
survives m d k l = grind (arith, more)

-- d covered in m makes d' covered in m': it is enough that each host that vouches for d vouches for d', or that d' is covered anyway
covers_over :
    (m m' : Meaning) (d d' : Determinant)
    → m'.n ≡ m.n
    → m'.f ≡ m.f
    → (m.stored d ≡ true → Covered m' d')
    → ((h : ℕ) → h < m.n → vouches m d h ≡ true → (vouches m' d' h ≡ true) ⊎ Covered m' d')
    → Covered m d
    → Covered m' d'
covers_over m m' d d' sn sf st v k = let w = mono_or m.n (vouches m d) (vouches m' d') v in grind arith

pub covered_grows : (m m' : Meaning) → Grows m m' → (d : Determinant) → Covered m d → Covered m' d
covered_grows m m' g d = covers_over m m' d d g.same_n g.same_f (λ s. grind arith) (λ h l v. grind arith)

pub covered_lose : (m m' : Meaning) (p : ℕ) → Lose m m' p → (d : Determinant) → Covered m d → Covered m' d
covered_lose m m' p cl d = covers_over m m' d d cl.same_n cl.same_f (λ s. grind arith) (λ h l v. grind (arith, ℕ_discrete h p))

pub covered_rejoin : (m m' : Meaning) → Rejoin m m' → down_count m ≤ m.f → (d : Determinant) → Covered m d → Covered m' d
covered_rejoin m m' cl few d k = let w = survives m d k few in covers_over m m' d d cl.same_n cl.same_f (λ s. grind arith) (λ h l v. grind arith) k

pub covered_stays : CoveredStays
covered_stays = record {
  survives = survives;
  carry = λ m m' s p cl. covered_grows m m' cl.grows;
  note = λ m m' p e cl. covered_grows m m' cl.grows;
  spread = λ m m' p cl. covered_grows m m' cl.grows;
  lose = covered_lose;
  rejoin = covered_rejoin;
}

pub covers_before : CoversBefore
covers_before m v len rel inv q k a j e b = covers_over m m (v.at q k) (v.at a j) refl refl (λ s. grind arith) (λ h l w. grind arith)

-- what an event comes from is an event
pub before_event : (m : Meaning) (v : Events) (len rel : ℕ → ℕ) → Invariant m v len rel → (q k a j : ℕ) → Event m.n len q k → Before m.n (origins v) q k a j → Event m.n len a j
before_event m v len rel inv q k a j e b = grind arith

pub past_event : (m : Meaning) (v : Events) (len rel : ℕ → ℕ) → Invariant m v len rel → (q k a j : ℕ) → Event m.n len q k → Past m.n (origins v) q k a j → Event m.n len a j
past_event m v len rel inv q k a j e itself = e
past_event m v len rel inv q k a j e (before {a = c} {j = i} w b) = before_event m v len rel inv c i a j (past_event m v len rel inv q k c i e w) b

-- what leads to something covered is covered
pub past_covered :
    (m : Meaning) (v : Events) (len rel : ℕ → ℕ) → Invariant m v len rel → (q k a j : ℕ) → Event m.n len q k → Covered m (v.at q k) → Past m.n (origins v) q k a j
    → Covered m (v.at a j)
past_covered m v len rel inv q k a j e z itself = z
past_covered m v len rel inv q k a j e z (before {a = c} {j = i} w b) =
    covers_before m v len rel inv c i a j (past_event m v len rel inv q k c i e w) b (past_covered m v len rel inv q k c i e z w)

pub knows_past : KnowsPast
knows_past m v len rel inv x k a j u l h itself = inv.knows_own x k u l h
knows_past m v len rel inv x k a j u l h (before {a = c} {j = i} w b) =
    let e = past_event m v len rel inv x k c i (record { host = u.host; low = l; high = h }) w in
    let o = knows_past m v len rel inv x k c i u l h w in
    grind (arith, covers_before m v len rel inv c i a j e b)

pub no_orphans : HasNoOrphans
no_orphans m v len rel inv d few x dep =
    let o = knows_past m v len rel inv x dep.number d.receiver d.number dep.up dep.receipt.low dep.receipt.high dep.past in
    let z = mono_or {Q = ⊥} m.n (vouches m d) (log_set m d) (λ h i e. inl (grind arith)) in
    grind arith

pub past_is_known : PastIsKnown
past_is_known = record { covers_before = covers_before; knows_past = knows_past; no_orphans = no_orphans }
