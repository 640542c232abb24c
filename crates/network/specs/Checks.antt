-- The checks of a call: the first that fails is why it is refused.
use Rattle.std.specs.Prelude.{ℕ, Bool, cond, List, [], ◌∷◌, Ok, Err, Result}
use Rattle.network.specs.declared.refusal.Refusal.{Refusal}
use Rattle.network.specs.declared.refusal.Refusal.TheVariants.{HostCount, DownBound, NoSuchHost, NoSuchSender, NoSuchPoint, NotWhole, HostDown, SenderDown, NothingWaits, ReceiptsFull, PostsFull, NothingToRelease, NobodyDown, TargetMissed}

-- the number of the check that fails
abbrev pub number : Refusal → ℕ
number HostCount = 1
number DownBound = 2
number NoSuchHost = 3
number NoSuchSender = 4
number NoSuchPoint = 5
number NotWhole = 6
number HostDown = 7
number SenderDown = 8
number NothingWaits = 9
number ReceiptsFull = 10
number PostsFull = 11
number NothingToRelease = 12
number NobodyDown = 13
number TargetMissed = 14

-- Checks in ascending order: each a test, with the refusal that it gives where it fails.
abbrev pub checked : List (Bool × Refusal) → Result (Unit {0}) Refusal
checked [] = Ok tt
checked (c ∷ cs) = cond c.0 (checked cs) (Err c.1)

-- what is given where no check fails
abbrev pub giving : {A : Type 0} → A → Result (Unit {0}) Refusal → Result A Refusal
giving x (Ok u) = Ok x
giving x (Err e) = Err e

-- An answer with what is left: a call that is refused leaves everything as it was.
abbrev pub unless_refused : {A : Type 0} → Result (Unit {0}) Refusal → A → Result ℕ Refusal × A → Result ℕ Refusal × A
unless_refused (Ok u) before done = done
unless_refused (Err e) before done = (Err e, before)
