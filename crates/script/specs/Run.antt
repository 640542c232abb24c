-- What a run leaves, computed from the script and the listing alone.
use Rattle.std.specs.Prelude.{◌≡◌, ℕ, zero, suc, ◌+◌, ◌*◌, ◌^◌, Bool, cond, ◌&&◌, List, length, Some, None, Ok, Err, Option, Result, nat_le}
use Rattle.workload.specs.Machine.{Machine}
use Rattle.workload.specs.Ledger.{ledger}
use Rattle.workload.specs.Spacing.{spacing}
use Rattle.network.specs.declared.refusal.Refusal.{Refusal}
use Rattle.network.specs.Checks.{checked, unless_refused}
use Rattle.logger.specs.Operation.{Operation}
use Rattle.calls.specs.declared.call.Call.{Call}
use Rattle.calls.specs.Calls.{Answer, System, checks, done, made, if_accepted, open_checks}
use Rattle.calls.specs.Cluster.{Cluster, opened}
use Rattle.script.specs.Exact.{Exact, pessimistic_logging, family_based_logging, all_after}
use Rattle.format.specs.declared.command.Opening.{Opening}
use Rattle.format.specs.declared.command.LoggerChoice.{LoggerChoice}
use Rattle.format.specs.declared.command.LoggerChoice.TheVariants.{Pessimistic, FamilyBased}
use Rattle.format.specs.declared.command.WorkloadChoice.{WorkloadChoice}
use Rattle.format.specs.declared.command.WorkloadChoice.TheVariants.{Ledger, Spacing}
use Rattle.format.specs.declared.fault.ListFault.{ListFault}
use Rattle.format.specs.declared.fault.ReadFault.{ReadFault}
use Rattle.format.specs.declared.fault.ReadFault.TheVariants.{TooLong}
use Rattle.format.specs.declared.fault.RunFault.{RunFault}
use Rattle.format.specs.declared.fault.Stop.{Stop}
use Rattle.script.specs.declared.run.Ran.{Ran}
use Rattle.format.specs.Commands.{letter, open_letter}
use Rattle.format.specs.Faults.{fault_number}
use Rattle.format.specs.Lines.{answer_line, placed, ending}
use Rattle.format.specs.Reader.{opening_at, reading, size}

-- WHAT A RUN LEAVES: the listing, how many of its bytes were written, and the stop, if it did not come to the script's end
pub record Left : Type 0 where
  pub listing : List ℕ
  pub written : ℕ
  pub stop : Option Stop

abbrev pub left : List ℕ → Ran → Left
left xs r = record { listing = xs; written = r.written; stop = r.stop }

abbrev pub ends : List ℕ → ℕ → Left
ends xs w = record { listing = xs; written = w; stop = None }

abbrev pub stopping : ℕ → RunFault → ℕ → ℕ → Ran
stopping w e k i = record { written = w; stop = Some (record { fault = e; command = k; place = i }) }

abbrev pub stops : List ℕ → ℕ → RunFault → ℕ → ℕ → Left
stops xs w e k i = left xs (stopping w e k i)

-- the line of the open, and of command number k
abbrev pub first_line : Answer → List ℕ
first_line r = answer_line (record { number = 1; letter = open_letter; answer = r })

abbrev pub open_line : List ℕ
open_line = first_line (Ok 0)

abbrev pub call_line : ℕ → Call → Answer → List ℕ
call_line k c r = answer_line (record { number = k; letter = letter c; answer = r })

-- the open has four bytes after its kind byte
abbrev pub past_open : ℕ
past_open = 5

-- go on after a line that was put, or stop at one that does not fit
abbrev pub go_on : Result ℕ ListFault → (ℕ → Left) → (ListFault → Left) → Left
go_on (Ok end) more full = more end
go_on (Err e) more full = full e

-- go on after an accepted open; a refused one stops the run
abbrev pub if_opened : Result (Unit {0}) Refusal → List ℕ → Left → Left
if_opened (Ok u) xs p = p
if_opened (Err e) xs p = stops xs 0 (RunFault.Cluster e) 1 0

module _ {S M : Type 0} (rules : Exact M) where
  -- the answer of a call made at a, and the cluster after it
  abbrev pub outcome : System S M → Call → Answer × Cluster S
  outcome a c = unless_refused (checked (checks a.cluster c)) a.cluster (done (rules.found a.logger) a.cluster c)

  abbrev pub operations : System S M → Call → List Operation
  operations a c = if_accepted (checked (checks a.cluster c)) (made (rules.found a.logger) a.cluster c)

  -- A CALL: its answer, and the cluster and the logger after it
  unfoldable pub called : System S M → Call → Answer × System S M
  called a c = ((outcome a c).0, record { cluster = (outcome a c).1; logger = all_after rules (operations a c) a.logger })

  -- ONE TURN, over what was read at i: the call of command number k is made at a, and its line put at w
  abbrev pub turn : Result (Option Call) ReadFault → (ℕ → ℕ → List ℕ → ℕ → System S M → Left) → ℕ → ℕ → List ℕ → ℕ → System S M → Left
  turn (Ok None) more i k xs w a = ends xs w
  turn (Err e) more i k xs w a = stops xs w (RunFault.Reader e) k i
  turn (Ok (Some c)) more i k xs w a =
      go_on (ending xs w (call_line k c (called a c).0))
      (λ end. more (i + 1 + size c) (k + 1) (placed xs w (call_line k c (called a c).0)) end (called a c).1)
      (λ e. stops xs w (RunFault.Listing e) k i)

  -- at most this many turns, from the place i of the script s on
  unfoldable pub plays : ℕ → List ℕ → ℕ → ℕ → List ℕ → ℕ → System S M → Left
  plays zero s i k xs w a = ends xs w
  plays (suc turns) s i k xs w a = turn (reading s i) (plays turns s) i k xs w a

  -- an accepted open, its line, and what follows
  abbrev pub plays_opened : ℕ → List ℕ → List ℕ → Machine S → ℕ → ℕ → Left
  plays_opened turns s xs m n f =
      go_on (ending xs 0 open_line)
      (λ end. plays turns s past_open 2 (placed xs 0 open_line) end (record { cluster = opened m n f; logger = rules.fresh n f }))
      (λ e. stops xs 0 (RunFault.Listing e) 1 0)

  -- A RUN on its own cluster
  abbrev pub runs : ℕ → (ℕ → Machine S) → ℕ → ℕ → List ℕ → List ℕ → Left
  runs turns machine n f s xs = if_opened (checked (open_checks n f)) xs (plays_opened turns s xs (machine n) n f)

-- the logger and the workload that the open asks for
abbrev pub chosen : LoggerChoice → WorkloadChoice → ℕ → ℕ → ℕ → List ℕ → List ℕ → Left
chosen Pessimistic Ledger turns = runs pessimistic_logging turns ledger
chosen Pessimistic Spacing turns = runs pessimistic_logging turns spacing
chosen FamilyBased Ledger turns = runs family_based_logging turns ledger
chosen FamilyBased Spacing turns = runs family_based_logging turns spacing

abbrev pub if_read : Result Opening ReadFault → ℕ → List ℕ → List ℕ → Left
if_read (Ok o) turns s xs = chosen o.logger o.workload turns o.n o.f s xs
if_read (Err e) turns s xs = stops xs 0 (RunFault.Reader e) 1 0

-- no script and no listing is longer
abbrev pub in_bounds : List ℕ → List ℕ → Bool
in_bounds s xs = nat_le (length s) 65536 && nat_le (length xs) 65536

abbrev pub first_read : List ℕ → List ℕ → Result Opening ReadFault
first_read s xs = cond (in_bounds s xs) (opening_at s 0) (Err TooLong)

unfoldable pub whole_within : ℕ → List ℕ → List ℕ → Left
whole_within turns s xs = if_read (first_read s xs) turns s xs

-- THE WHOLE RUN of a script over a listing: each turn takes a byte of the script at least
abbrev pub whole : List ℕ → List ℕ → Left
whole s xs = whole_within (suc (length s)) s xs

-- More turns than that change nothing: a run ends by itself.
abbrev pub EndsByItself : Type 0
EndsByItself = (s xs : List ℕ) (more : ℕ) → whole_within (suc (length s) + more) s xs ≡ whole s xs

-- the number of the fault, or 0
abbrev pub stop_number : Option Stop → ℕ
stop_number None = 0
stop_number (Some s) = fault_number s.fault

-- the answer of a run in one number
abbrev pub packed : Left → ℕ
packed p = p.written + 2 ^ 32 * stop_number p.stop
