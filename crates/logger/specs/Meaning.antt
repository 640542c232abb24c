-- What a logger means: which hosts are down, which determinants each host holds in its memory (its volatile set), and which are in the stable store.
-- Sets are tests, so that hosts can be counted.
use Rattle.std.specs.Prelude.{◌≡◌, ℕ, zero, suc, ◌<◌, Bool, true, false, cond, ◌||◌, ◌⊎◌}
use Rattle.logger.specs.declared.determinant.Determinant.{Determinant}

-- receipt number r of host q, of message number j of sender s
abbrev pub determinant : ℕ → ℕ → ℕ → ℕ → Determinant
determinant q r s j = record { receiver = q; number = r; sender = s; ssn = j }

-- hosts 0 to n - 1, of which at most f are to be down at once
pub record Meaning : Type 0 where
  pub n : ℕ
  pub f : ℕ
  pub down : ℕ → Bool
  pub held : ℕ → Determinant → Bool
  pub stored : Determinant → Bool

-- how many hosts below n pass a test
abbrev pub count : ℕ → (ℕ → Bool) → ℕ
count zero P = zero
count (suc n) P = cond (P n) (suc (count n P)) (count n P)

-- how many hosts are down
abbrev pub down_count : Meaning → ℕ
down_count m = count m.n m.down

-- x is a host that is up
pub record Up (m : Meaning) (x : ℕ) : Type 0 where
  pub host : x < m.n
  pub up : m.down x ≡ false

-- a host vouches for d when it is down or holds d
abbrev pub vouches : Meaning → Determinant → ℕ → Bool
vouches m d h = m.down h || m.held h d

-- d is stored, or more than f hosts vouch for it
abbrev pub Covered : Meaning → Determinant → Type 0
Covered m d = (m.stored d ≡ true) ⊎ (m.f < count m.n (vouches m d))

-- the Log set of d: all hosts if it is stored, and otherwise those that vouch
abbrev pub log_set : Meaning → Determinant → ℕ → Bool
log_set m d h = m.stored d || vouches m d h

-- some host that is up holds d
abbrev pub HeldByUp : Meaning → Determinant → Type 0
HeldByUp m d = (h : ℕ) × Up m h × (m.held h d ≡ true)

-- d can be found: it is stored, or some host that is up holds it
abbrev pub Findable : Meaning → Determinant → Type 0
Findable m d = (m.stored d ≡ true) ⊎ HeldByUp m d

-- x knows d: it holds d, or d is covered
abbrev pub Knows : Meaning → ℕ → Determinant → Type 0
Knows m x d = (m.held x d ≡ true) ⊎ Covered m d
