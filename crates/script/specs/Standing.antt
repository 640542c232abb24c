-- What the contracts see of a course as the code holds it: where it stands, and what a run leaves that ends there.
use Rattle.std.specs.Prelude.{◌≡◌, ℕ, ◌+◌, Bool, true, false, List, Some, None, Ok, Err, Option, Result}
use Rattle.workload.specs.Machine.{Machine}
use Rattle.logger.specs.declared.logger.Logger as logger
use Rattle.calls.specs.Calls.{System}
use Rattle.format.specs.declared.fault.RunFault.{RunFault}
use Rattle.format.specs.declared.listing.Listing.{Listing}
use Rattle.format.specs.Reader.{reading, past}
use Rattle.script.specs.declared.run.course.Course.{Course}
use Rattle.script.specs.Run.{Left, ends, stops, past_open}
use Rattle.script.specs.Course.{Finished, Runs}

-- before the first command
pub record Begins (c : Course) (l : Listing) : Type 0 where
  pub number : c.number ≡ 1
  pub place : c.place ≡ 0
  pub written : l.written ≡ 0

-- over the same script and the same buffer
pub record SameRun (c d : Course) (l m : Listing) : Type 0 where
  pub script : d.script ≡ c.script
  pub buffer : m.bytes.ghost_name ≡ l.bytes.ghost_name

-- at the same command, with the same lines
pub record Stays (c d : Course) (l m : Listing) : Type 0 where
  pub place : d.place ≡ c.place
  pub number : d.number ≡ c.number
  pub written : m.written ≡ l.written

-- at the next command, which begins at i
pub record GoesTo (i : ℕ) (c d : Course) : Type 0 where
  pub place : d.place ≡ i
  pub number : d.number ≡ c.number + 1

-- after the open, and after a turn: only a line that was put leads on
abbrev pub AfterOpen : Result (Unit {0}) RunFault → Course → Course → Listing → Listing → Type 0
AfterOpen (Ok u) c d l m = GoesTo past_open c d
AfterOpen (Err e) c d l m = Stays c d l m

abbrev pub AfterTurn : Result Bool RunFault → Course → Course → Listing → Listing → Type 0
AfterTurn (Ok true) c d l m = GoesTo (past c.place (reading c.script.now c.place)) c d
AfterTurn (Ok false) c d l m = Stays c d l m
AfterTurn (Err e) c d l m = Stays c d l m

-- the answers of both in the words of the course: where the line ends
abbrev pub first_end : Result (Unit {0}) RunFault → Listing → Result ℕ RunFault
first_end (Ok u) m = Ok m.written
first_end (Err e) m = Err e

abbrev pub turn_end : Result Bool RunFault → Listing → Result (Option ℕ) RunFault
turn_end (Ok true) m = Ok (Some m.written)
turn_end (Ok false) m = Ok None
turn_end (Err e) m = Err e

-- what a run leaves that ends so
abbrev pub leaving : Course → Listing → Result (Unit {0}) RunFault → Left
leaving c l (Ok u) = ends l.bytes.now l.written
leaving c l (Err e) = stops l.bytes.now l.written e c.number c.place

-- Where an open leads: to what the turns after it leave, if it goes on; else the run ends there.
module _ {L S : Type 0} (log : logger.Ghosts L) (machine : ℕ → Machine S) (n f : ℕ) (s before : List ℕ) (a : System S L) where
  abbrev pub Leads : Result (Unit {0}) RunFault → Course → Listing → Type 0
  Leads (Ok u) c l = (p : Left) → Finished log s a c.place c.number l.bytes.now l.written p → Runs log machine n f s before p
  Leads (Err e) c l = Runs log machine n f s before (leaving c l (Err e))
