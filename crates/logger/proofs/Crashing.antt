-- A crash, and the return of the hosts that are down, keep the invariant.
use Rattle.std.proofs.Common.{◌≡◌, ℕ, zero, suc, ◌<◌, ◌≤◌, true, false, ◌⊎◌, refl, inl, inr, arith}
use native.Mathlib.Decide.{ℕ_discrete, dec_le}
use Rattle.network.specs.Past.{Before, previous}
use Rattle.std.proofs.lemmas.Bool.{cases_Bool}
use Rattle.logger.specs.declared.determinant.Determinant.{Determinant}
use Rattle.logger.specs.Meaning.{Meaning, Covered, down_count, Findable, Up, Knows}
use Rattle.logger.specs.Clauses.{Lose}
use Rattle.logger.specs.Events.{Events, origins, Event, Happened}
use Rattle.logger.specs.Invariant.{Invariant, Target, Left}
use Rattle.logger.specs.Theorems.{RejoinKeeps, AfterCrash, LoseKeeps, LeavesSome}
use Rattle.logger.proofs.Counting.{none}
use Rattle.logger.proofs.Covering.{survives, covered_lose, covered_rejoin}

pub rejoin_keeps : RejoinKeeps
rejoin_keeps m m' v len rel cl few rp inv = (grind (arith, covered_rejoin m m' cl few, cases_Bool), none m'.n m'.down cl.none_down)

-- what can be found happened
pub findable_happened : (m : Meaning) (v : Events) (len rel : ℕ → ℕ) → Invariant m v len rel → (d : Determinant) → Findable m d → Happened m.n v len d
findable_happened m v len rel inv d (inl s) = inv.stored_happened d s
findable_happened m v len rel inv d (inr w) = inv.held_happened w.0 d w.1 w.2

module _ (m m' : Meaning) (v : Events) (len rel : ℕ → ℕ) (p : ℕ) (cl : Lose m m' p) (inv : Invariant m v len rel) where
  was_up : (x : ℕ) → Up m' x → Up m x
  was_up x u = grind (arith, ℕ_discrete x p)

  same_held : (x : ℕ) (d : Determinant) → Up m' x → m'.held x d ≡ m.held x d
  same_held x d u = grind (arith, ℕ_discrete x p)

  -- what can still be found happened
  still_happened : (d : Determinant) → Findable m' d → Happened m.n v len d
  still_happened d w = grind (arith, was_up, same_held)

  module _ (len' : ℕ → ℕ) (few : down_count m' ≤ m'.f) (left : Left m' len len') where
    keep : (d : Determinant) → Covered m d → Covered m' d
    keep = covered_lose m m' p cl

    find_covered : (d : Determinant) → Covered m d → Findable m' d
    find_covered d z = survives m' d (keep d z) few

    find_known : (x : ℕ) (d : Determinant) → Up m' x → Knows m x d → Findable m' d
    find_known x d u k = grind (arith, find_covered, same_held)

    find_before : (d : Determinant) (a j : ℕ) → Findable m' d → Before m.n (origins v) d.receiver d.number a j → Findable m' (v.at a j)
    find_before d a j (inl s) b = grind (arith, find_covered)
    find_before d a j (inr w) b = find_known w.0 (v.at a j) w.1 (inv.knows_before w.0 d (was_up w.0 w.1) (grind (arith, same_held)) a j b)

    find_prefix : (q t : ℕ) → q < m.n → t ≤ len q → (1 ≤ t → Findable m' (v.at q t)) → (k : ℕ) → 1 ≤ k → k ≤ t → Findable m' (v.at q k)
    find_prefix q zero l h w k i j = absurd (omega arith)
    find_prefix q (suc t) l h w k i j = elim (ℕ_discrete k (suc t)) [
      | yes e ↦ grind arith
      | no e ↦ find_prefix q t l (omega arith) (λ o. find_before (v.at q (suc t)) q t (w (omega arith)) (grind (arith, previous))) k i (omega arith)
    ]

    within : (q k : ℕ) → Event m.n len q k → Findable m' (v.at q k) → k ≤ len' q
    within q k e w = elim (cases_Bool (m'.down q)) [
      | inl y ↦ (left.down q (grind arith) y).largest k (λ i l h. (v.at q i, grind arith, grind arith, find_prefix q k e.host e.high (λ o. w) i l h))
      | inr y ↦ grind arith
    ]

    shorter : (q : ℕ) → q < m.n → len' q ≤ len q
    shorter q l = elim (cases_Bool (m'.down q)) [ inl y ↦ let w = (left.down q (grind arith) y).findable (len' q) in grind (arith, still_happened) | inr y ↦ grind arith ]

    find_left : (q k : ℕ) → Event m.n len' q k → Findable m' (v.at q k)
    find_left q k e = elim (cases_Bool (m'.down q)) [
      | inl y ↦ let w = (left.down q (grind arith) y).findable k e.low e.high in grind (arith, still_happened w.0 w.3)
      | inr y ↦ grind (arith, was_up q, shorter q, find_known q (v.at q k))
    ]

    happened : (d : Determinant) → Findable m' d → Happened m.n v len' d
    happened d w = grind (arith, still_happened d w, within d.receiver d.number)

    after_crash : AfterCrash m' v len len' rel
    after_crash = record {
      shorter = λ q l. shorter q (grind arith);
      replayable = λ q k e y. grind (arith, find_left);
      keeps = record {
        well_formed = record {
          receiver = λ q k e. grind (arith, shorter);
          number = λ q k e. grind (arith, shorter);
          made = λ q k e l. grind (arith, shorter, find_left, find_before, within);
        };
        held_happened = λ x d u e. grind (arith, happened);
        stored_happened = λ d e. grind (arith, happened);
        knows_own = λ x k u l h. grind (arith, keep, was_up, same_held, shorter x);
        knows_before = λ x d u e a j b. grind (arith, keep, was_up, same_held);
        stored_before = λ d e a j b. grind (arith, keep);
        released_within = λ h l. grind (arith, within h (rel h), find_covered);
        released_covered = λ h k l i j. grind (arith, keep);
      };
    }

pub lose_keeps : LoseKeeps
lose_keeps m m' v len len' rel p cl inv few left = after_crash m m' v len rel p cl inv len' few left

-- a host below n of which P holds, or none
any : (n : ℕ) (P : ℕ → Type 0) → ((h : ℕ) → P h ⊎ ¬ (P h)) → ((h : ℕ) × (h < n) × P h) ⊎ ((h : ℕ) → h < n → ¬ (P h))
any zero P dec = inr (λ h l e. absurd (omega arith))
any (suc n) P dec = elim (dec n) [
  | inl e ↦ inl (n, omega arith, e)
  | inr e ↦ elim (any n P dec) [
    | inl w ↦ inl (w.0, omega arith, w.2)
    | inr w ↦ inr (λ h l x. elim (ℕ_discrete h n) [ yes i ↦ e (rw i at x) | no i ↦ w h (omega arith) x ])
  ]
]

findable_or_not : (m : Meaning) (d : Determinant) → Findable m d ⊎ ¬ (Findable m d)
findable_or_not m d = elim (any m.n (λ h. (m.down h ≡ false) × (m.held h d ≡ true)) (λ h. grind (arith, cases_Bool (m.down h), cases_Bool (m.held h d)))) [
  | inl w ↦ inl (grind arith)
  | inr w ↦ elim (cases_Bool (m.stored d)) [ inl s ↦ inl (inl s) | inr s ↦ inr (λ z. elim z [ inl x ↦ grind arith | inr x ↦ w x.0 x.1.host (x.1.up, x.2) ]) ]
]

-- the largest t up to k such that P holds from 1 to t
top : (P : ℕ → Type 0) → ((k : ℕ) → P k ⊎ ¬ (P k)) → (k : ℕ) → (t : ℕ) × (t ≤ k) × ((i : ℕ) → 1 ≤ i → i ≤ t → P i) × ((u : ℕ) → u ≤ k → ((i : ℕ) → 1 ≤ i → i ≤ u → P i) → u ≤ t)
top P dec zero = (0, omega arith, λ i l h. absurd (omega arith), λ u l w. l)
top P dec (suc k) =
    let w = top P dec k in
    elim (ℕ_discrete w.0 k) [
      | yes e ↦ elim (dec (suc k)) [
        | inl x ↦ (suc k, omega arith, λ i l h. elim (ℕ_discrete i (suc k)) [ yes o ↦ rw o x | no o ↦ w.2 i l (omega arith) ], λ u l z. l)
        | inr x ↦ (w.0, omega arith, w.2, λ u l z. elim (dec_le u k) [ yes o ↦ omega arith | no o ↦ absurd (x (z (suc k) (omega arith) (omega arith))) ])
      ]
      | no e ↦ (w.0, omega arith, w.2, λ u l z. elim (dec_le u k) [ yes o ↦ w.3 u o z | no o ↦ absurd (e (omega (arith, w.3 k (omega arith) (λ i g h. z i g (omega arith))))) ])
    ]

pub leaves_some : LeavesSome
leaves_some m m' v len rel p cl inv = (
  λ q. pick q (cases_Bool (m'.down q)),
  record { up = λ q l y. up q (cases_Bool (m'.down q)) y; down = λ q l y. down q (grind arith) (cases_Bool (m'.down q)) y },
  λ q. low q (cases_Bool (m'.down q)),
)
  where
    reach : (q : ℕ) → (t : ℕ) × (t ≤ len q) × ((i : ℕ) → 1 ≤ i → i ≤ t → Findable m' (v.at q i)) × ((u : ℕ) → u ≤ len q → ((i : ℕ) → 1 ≤ i → i ≤ u → Findable m' (v.at q i)) → u ≤ t)
    reach q = top (λ k. Findable m' (v.at q k)) (λ k. findable_or_not m' (v.at q k)) (len q)

    pick : (q : ℕ) → (m'.down q ≡ true) ⊎ (m'.down q ≡ false) → ℕ
    pick q (inl y) = (reach q).0
    pick q (inr y) = len q

    up : (q : ℕ) (o : (m'.down q ≡ true) ⊎ (m'.down q ≡ false)) → m'.down q ≡ false → pick q o ≡ len q
    up q (inl x) y = grind arith
    up q (inr x) y = refl

    low : (q : ℕ) (o : (m'.down q ≡ true) ⊎ (m'.down q ≡ false)) → pick q o ≤ len q
    low q (inl x) = (reach q).1
    low q (inr x) = omega arith

    happened : (d : Determinant) → Findable m' d → Happened m.n v len d
    happened = still_happened m m' v len rel p cl inv

    down : (q : ℕ) → q < m.n → (o : (m'.down q ≡ true) ⊎ (m'.down q ≡ false)) → m'.down q ≡ true → Target m' q (pick q o)
    down q l (inr x) y = grind arith
    down q l (inl x) y =
        let w = reach q in
        record {
          findable = λ k i j. (v.at q k, grind arith, grind arith, w.2 k i j);
          largest = λ u z. let y = z u in w.3 u (grind (arith, happened)) (λ i g h. let y = z i g h in grind (arith, happened y.0 y.3));
        }
