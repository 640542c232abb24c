-- Whole runs.
use Rattle.std.proofs.Common.{◌≡◌, ℕ, ◌≤◌, true, refl, arith}
use mathlib.Core.Path.{fun_ext}
use Rattle.logger.specs.Meaning.{Meaning, down_count}
use Rattle.logger.specs.Clauses.{Started, Grows}
use Rattle.logger.specs.Events.{Events, Event}
use Rattle.logger.specs.Invariant.{Replayable, Agree}
use Rattle.logger.specs.Reached.{starts, renames, carries, receives, takes_post, releases, crashes, rejoins, Sound}
use Rattle.logger.specs.Theorems.{InvariantIsKept, StaysSound, KeepsReleased, RunsStaySound}
use Rattle.logger.proofs.Counting.{none}
use Rattle.logger.proofs.Covering.{past_event, past_covered}
use Rattle.logger.proofs.Growing.{agree_keeps, carry_keeps, receive_keeps, outside_keeps, spread_keeps}
use Rattle.logger.proofs.Crashing.{lose_keeps, leaves_some, rejoin_keeps}

pub invariant_is_kept : InvariantIsKept
invariant_is_kept = record {
  agree = agree_keeps;
  carry = carry_keeps;
  receive = receive_keeps;
  outside = outside_keeps;
  spread = spread_keeps;
  lose = lose_keeps;
  leaves_some = leaves_some;
  rejoin = rejoin_keeps;
}

-- where nothing is forgotten, what could be found still can be
pub replayable_grows : (m m' : Meaning) (v : Events) (len len' : ℕ → ℕ) → Grows m m' → ((q : ℕ) → m.down q ≡ true → len' q ≡ len q) → Replayable m v len → Replayable m' v len'
replayable_grows m m' v len len' g same rp q k e y = grind arith

pub replayable_agrees : (m : Meaning) (v v' : Events) (len : ℕ → ℕ) → Agree m.n len v v' → Replayable m v len → Replayable m v' len
replayable_agrees m v v' len a rp q k e y = rw (a.at q k e) (rp q k e y)

pub few_grows : (m m' : Meaning) → Grows m m' → down_count m ≤ m.f → down_count m' ≤ m'.f
few_grows m m' g l = rw (fun_ext g.same_down, g.same_n, g.same_f) l

pub starts_sound : (n f : ℕ) (m : Meaning) (v : Events) → Started n f m → Sound m v (λ _. 0) (λ _. 0)
starts_sound n f m v s = grind (arith, none)

pub stays_sound : StaysSound
stays_sound m v len rel (starts {n = n} {f = f} s) = starts_sound n f m v s
stays_sound m v len rel (renames {v = v₀} w ag) =
    let o = stays_sound m v₀ len rel w in
    record { invariant = agree_keeps m v₀ v len rel ag o.invariant; replayable = replayable_agrees m v₀ v len ag o.replayable; few = o.few }
stays_sound m' v len rel (carries {m = m} {s = s} {p = p} w cl) =
    let o = stays_sound m v len rel w in
    record {
      invariant = carry_keeps m m' v len rel s p cl o.invariant;
      replayable = replayable_grows m m' v len len cl.grows (λ q y. refl) o.replayable;
      few = few_grows m m' cl.grows o.few;
    }
stays_sound m₂ v len' rel (receives {m = m} {m₁ = m₁} {len = len} {s = s} {p = p} w ca cl from up) =
    let o = stays_sound m v len rel w in
    record {
      invariant = receive_keeps m m₁ m₂ v len len' rel s p ca cl o.invariant from up;
      replayable = replayable_grows m₁ m₂ v len len' cl.grows (λ q y. grind arith) (replayable_grows m m₁ v len len ca.grows (λ q y. refl) o.replayable);
      few = few_grows m₁ m₂ cl.grows (few_grows m m₁ ca.grows o.few);
    }
stays_sound m' v len' rel (takes_post {m = m} {len = len} {p = p} w cl from up) =
    let o = stays_sound m v len rel w in
    record {
      invariant = outside_keeps m m' v len len' rel p cl o.invariant from up;
      replayable = replayable_grows m m' v len len' cl.grows (λ q y. grind arith) o.replayable;
      few = few_grows m m' cl.grows o.few;
    }
stays_sound m' v len rel' (releases {m = m} {rel = rel} {p = p} w cl up) =
    let o = stays_sound m v len rel w in
    record {
      invariant = (spread_keeps m m' v len rel p cl o.invariant).releases rel' up;
      replayable = replayable_grows m m' v len len cl.grows (λ q y. refl) o.replayable;
      few = few_grows m m' cl.grows o.few;
    }
stays_sound m' v len' rel (crashes {m = m} {len = len} {p = p} w cl few left) =
    let o = stays_sound m v len rel w in
    let k = lose_keeps m m' v len len' rel p cl o.invariant few left in
    record { invariant = k.keeps; replayable = k.replayable; few = few }
stays_sound m' v len rel (rejoins {m = m} w cl) =
    let o = stays_sound m v len rel w in
    let k = rejoin_keeps m m' v len rel cl o.few o.replayable o.invariant in
    record { invariant = k.0; replayable = λ q j e y. grind arith; few = omega (arith, k.1) }

pub keeps_released : KeepsReleased
keeps_released m v len rel w h k a j l i o past =
    let inv = (stays_sound m v len rel w).invariant in
    let e : Event m.n len h k = grind arith in
    (past_event m v len rel inv h k a j e past, past_covered m v len rel inv h k a j e (inv.released_covered h k l i o) past)

pub runs_stay_sound : RunsStaySound
runs_stay_sound = record { sound = stays_sound; keeps_released = keeps_released }
