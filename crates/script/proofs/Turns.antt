-- More turns than the script has bytes left change nothing: a turn that lists takes a byte of the script at least.
use Rattle.std.proofs.Common.{◌≡◌, ℕ, zero, suc, ◌+◌, ◌-◌, ◌<◌, List, length, Some, None, Ok, Err, Option, Result, refl, arith}
use Rattle.workload.specs.Machine.{Machine}
use Rattle.workload.specs.Ledger.{ledger}
use Rattle.workload.specs.Spacing.{spacing}
use Rattle.network.specs.Checks.{checked}
use Rattle.calls.specs.declared.call.Call.{Call}
use Rattle.calls.specs.Calls.{System, open_checks}
use Rattle.calls.specs.Cluster.{opened}
use Rattle.script.specs.Exact.{Exact, pessimistic_logging, family_based_logging}
use Rattle.format.specs.declared.command.Opening.{Opening}
use Rattle.format.specs.declared.command.LoggerChoice.{LoggerChoice}
use Rattle.format.specs.declared.command.LoggerChoice.TheVariants.{Pessimistic, FamilyBased}
use Rattle.format.specs.declared.command.WorkloadChoice.{WorkloadChoice}
use Rattle.format.specs.declared.command.WorkloadChoice.TheVariants.{Ledger, Spacing}
use Rattle.format.specs.declared.fault.ReadFault.{ReadFault}
use Rattle.format.specs.declared.fault.RunFault.{RunFault}
use Rattle.format.specs.Lines.{placed, ending}
use Rattle.format.specs.Reader.{reading, size}
use Rattle.script.specs.Run.{Left, stops, open_line, call_line, called, go_on, if_opened, turn, plays, runs, chosen, if_read, first_read, whole_within, EndsByItself}
use Rattle.script.proofs.Courses.{inside}

module _ {S M : Type 0} (rules : Exact M) where
  alike :
      (r : Result (Option Call) ReadFault) (f g : ℕ → ℕ → List ℕ → ℕ → System S M → Left) (i k : ℕ) (xs : List ℕ) (w : ℕ) (a : System S M)
      → ((c : Call) → r ≡ Ok (Some c) → (ys : List ℕ) (end : ℕ) (b : System S M) → f (i + 1 + size c) (k + 1) ys end b ≡ g (i + 1 + size c) (k + 1) ys end b)
      → turn rules r f i k xs w a ≡ turn rules r g i k xs w a
  alike (Ok None) f g i k xs w a h = refl
  alike (Err e) f g i k xs w a h = refl
  alike (Ok (Some c)) f g i k xs w a h = λ j.
      go_on (ending xs w (call_line k c (called rules a c).0))
      (λ end. h c refl (placed xs w (call_line k c (called rules a c).0)) end (called rules a c).1 j)
      (λ e. stops xs w (RunFault.Listing e) k i)

  pub same_turns :
      (m n : ℕ) (s : List ℕ) (i k : ℕ) (xs : List ℕ) (w : ℕ) (a : System S M) → length s - i < m → length s - i < n
      → plays rules m s i k xs w a ≡ plays rules n s i k xs w a
  unfolding plays
  same_turns zero n s i k xs w a p q = absurd (omega arith)
  same_turns (suc m) zero s i k xs w a p q = absurd (omega arith)
  same_turns (suc m) (suc n) s i k xs w a p q =
      alike (reading s i) (plays rules m s) (plays rules n s) i k xs w a
      (λ c e ys end b. let l = inside s i c e in same_turns m n s (i + 1 + size c) (k + 1) ys end b (omega arith) (omega arith))

  same_runs : (machine : ℕ → Machine S) (n f : ℕ) (s xs : List ℕ) (more : ℕ) → runs rules (suc (length s) + more) machine n f s xs ≡ runs rules (suc (length s)) machine n f s xs
  same_runs machine n f s xs more = λ j.
      if_opened (checked (open_checks n f)) xs
      (go_on (ending xs 0 open_line)
      (λ end. same_turns (suc (length s) + more) (suc (length s)) s 5 2 (placed xs 0 open_line) end (record { cluster = opened (machine n) n f; logger = rules.fresh n f }) (omega arith) (omega arith) j)
      (λ e. stops xs 0 (RunFault.Listing e) 1 0))

same_chosen : (l : LoggerChoice) (w : WorkloadChoice) (n f : ℕ) (s xs : List ℕ) (more : ℕ)
    → chosen l w (suc (length s) + more) n f s xs ≡ chosen l w (suc (length s)) n f s xs
same_chosen Pessimistic Ledger = same_runs pessimistic_logging ledger
same_chosen Pessimistic Spacing = same_runs pessimistic_logging spacing
same_chosen FamilyBased Ledger = same_runs family_based_logging ledger
same_chosen FamilyBased Spacing = same_runs family_based_logging spacing

pub ends_by_itself : EndsByItself
unfolding whole_within
ends_by_itself s xs more = go (first_read s xs)
  where
    go : (o : Result Opening ReadFault) → if_read o (suc (length s) + more) s xs ≡ if_read o (suc (length s)) s xs
    go (Ok o) = same_chosen o.logger o.workload o.n o.f s xs more
    go (Err e) = refl
