-- How a script is read: each command is a byte that says its kind, and a body whose size the kind gives.
use Rattle.std.specs.Prelude.{ℕ, ◌+◌, cond, ◌||◌, List, length, take, drop, Some, None, Ok, Err, Option, Result, ◌==◌, nat_le, nat_lt, slice_index}
use Rattle.std.specs.Borrow.{Bor}
use Rattle.calls.specs.declared.call.Call.{Call}
use Rattle.calls.specs.declared.call.Call.TheVariants.{Post, Deliver, Cut, Release, Crash, Recover, Show}
use Rattle.format.specs.declared.command.Command.{Command}
use Rattle.format.specs.declared.command.Opening.{Opening}
use Rattle.format.specs.declared.command.LoggerChoice.{LoggerChoice}
use Rattle.format.specs.declared.command.LoggerChoice.TheVariants.{Pessimistic, FamilyBased}
use Rattle.format.specs.declared.command.WorkloadChoice.{WorkloadChoice}
use Rattle.format.specs.declared.command.WorkloadChoice.TheVariants.{Ledger, Spacing}
use Rattle.format.specs.declared.fault.ReadFault.{ReadFault}
use Rattle.format.specs.declared.fault.ReadFault.TheVariants.{NoOpen, NoSuchKind, CutShort, NoSuchChoice}
use Rattle.format.specs.Commands.{byte, call_of, posts, delivers, cuts, releases, crashes, shows}

-- the bytes of a body: all of them, or the script is cut short
abbrev pub part : List ℕ → ℕ → ℕ → Result (List ℕ) ReadFault
part s i size = cond (nat_le (i + size) (length s)) (Ok (take size (drop i s))) (Err CutShort)

abbrev pub and_then : {A B : Type 0} → Result A ReadFault → (A → Result B ReadFault) → Result B ReadFault
and_then (Ok a) f = f a
and_then (Err e) f = Err e

-- THE OPEN: the number of hosts, how many may be down at once, the logger and the workload. Logger 0 is the default.
abbrev pub logger_numbered : ℕ → Result LoggerChoice ReadFault
logger_numbered k = cond (k == 0 || k == 1) (Ok Pessimistic) (cond (k == 2) (Ok FamilyBased) (Err NoSuchChoice))

abbrev pub workload_numbered : ℕ → Result WorkloadChoice ReadFault
workload_numbered k = cond (k == 1) (Ok Ledger) (cond (k == 2) (Ok Spacing) (Err NoSuchChoice))

abbrev pub opening_in : List ℕ → Result Opening ReadFault
opening_in b =
    and_then (logger_numbered (byte b 2)) (λ l. and_then (workload_numbered (byte b 3)) (λ w. Ok (record { n = byte b 0; f = byte b 1; logger = l; workload = w })))

-- the kind byte of an open is 0
abbrev pub opening_at : List ℕ → ℕ → Result Opening ReadFault
opening_at s i = cond (nat_lt i (length s)) (cond (slice_index s i == 0) (and_then (part s (i + 1) 4) opening_in) (Err NoOpen)) (Err NoOpen)

abbrev pub past_opening : ℕ → Result Opening ReadFault → ℕ
past_opening i (Ok o) = i + 5
past_opening i (Err e) = i

-- A LATER COMMAND of kind k whose body begins at i
abbrev pub one : (List ℕ → Call) → List ℕ → Result (Option Call) ReadFault
one f b = Ok (Some (f b))

abbrev pub of_kind : List ℕ → ℕ → ℕ → Result (Option Call) ReadFault
of_kind s i k =
    cond (k == 1) (and_then (part s i 9) (one posts))
    (cond (k == 2) (and_then (part s i 2) (one delivers))
    (cond (k == 3) (and_then (part s i 3) (one cuts))
    (cond (k == 4) (and_then (part s i 1) (one releases))
    (cond (k == 5) (and_then (part s i 1) (one crashes))
    (cond (k == 6) (Ok (Some Recover))
    (cond (k == 7) (and_then (part s i 1) (one shows)) (Err NoSuchKind)))))))

-- what stands at i: nothing past the end
abbrev pub reading : List ℕ → ℕ → Result (Option Call) ReadFault
reading s i = cond (nat_lt i (length s)) (of_kind s (i + 1) (slice_index s i)) (Ok None)

-- the size of a body
abbrev pub size : Call → ℕ
size (Post p b) = 9
size (Deliver p s) = 2
size (Cut p s k) = 3
size (Release p) = 1
size (Crash p) = 1
size Recover = 0
size (Show p) = 1

-- where the next command begins; a reader that is refused, or is at the end, stays
abbrev pub past : ℕ → Result (Option Call) ReadFault → ℕ
past i (Ok None) = i
past i (Ok (Some c)) = i + 1 + size c
past i (Err e) = i

-- WHAT A CALLER SEES of a part that is lent, and of a command
abbrev pub part_seen : Result (Bor (List ℕ)) ReadFault → Result (List ℕ) ReadFault
part_seen (Ok b) = Ok b.now
part_seen (Err e) = Err e

abbrev pub heard : Result (Option Command) ReadFault → Result (Option Call) ReadFault
heard (Ok None) = Ok None
heard (Ok (Some c)) = Ok (Some (call_of c))
heard (Err e) = Err e
