-- A table with a place for each of the 512 receipts that a determinant can name.
use Rattle.std.specs.Prelude.{◌≡◌, ℕ, ◌+◌, ◌-◌, ◌*◌, Bool, cond, ◌&&◌, ◌==◌, List, Some, None, Option, nat_lt, slice_index_or}
use Rattle.std.specs.Borrow.{MutBor}

-- where receipt number r of host q stands
abbrev pub place : ℕ → ℕ → ℕ
place q r = q * 64 + r - 1

-- there is such a place: for receipts 1 to 64 of hosts 0 to 7
abbrev pub has_place : ℕ → ℕ → Bool
has_place q r = nat_lt q 8 && (nat_lt 0 r && nat_lt r 65)

-- what the table has for receipt number r of host q, and `none` if it has no such place
abbrev pub at : {A : Type 0} → List A → A → ℕ → ℕ → A
at xs none q r = cond (has_place q r) (slice_index_or xs (place q r) none) none

-- the table t with x for receipt number r of host q
abbrev pub with_place : {A : Type 0} → (ℕ → ℕ → Option A) → ℕ → ℕ → A → ℕ → ℕ → Option A
with_place t q r x k j = cond (k == q && j == r) (Some x) (t k j)

-- a call at a `&mut` to x may leave y there, where `post` says of a call what it may answer and leave
pub record Leaves {A : Type 0} (post : MutBor A → Unit {0} → MutBor A → Type 0) (x y : A) : Type 0 where
  pub shown : MutBor A
  pub shows : shown.now ≡ x
  pub left : MutBor A
  pub met : post shown tt left
  pub leaves : left.now ≡ y

-- what was in a place, and what a call left of it; an empty place stays so
abbrev pub Changed : {A : Type 0} → (MutBor A → Unit {0} → MutBor A → Type 0) → Option A → Option A → Type 0
Changed post None o = o ≡ None
Changed {A = A} post (Some x) o = (y : A) × (o ≡ Some y) × Leaves post x y

-- the same of each place of two tables
abbrev pub EachChanged : {A : Type 0} → (MutBor A → Unit {0} → MutBor A → Type 0) → List (Option A) → List (Option A) → Type 0
EachChanged post xs ys = (q r : ℕ) → Changed post (at xs None q r) (at ys None q r)
