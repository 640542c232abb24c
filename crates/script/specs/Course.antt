-- The course of a run under any logger: the calls that it makes, one after the other, and the guarantee that they carry.
use Rattle.std.specs.Prelude.{◌≡◌, ℕ, ◌+◌, ◌≤◌, List, [], ◌∷◌, ◌++◌, Some, None, Ok, Err, Option, Result}
use Rattle.workload.specs.Machine.{Machine}
use Rattle.network.specs.declared.refusal.Refusal.{Refusal}
use Rattle.network.specs.Checks.{checked}
use Rattle.logger.specs.declared.logger.Logger as logger
use Rattle.logger.specs.Operation.{Operation}
use Rattle.calls.specs.declared.call.Call.{Call}
use Rattle.calls.specs.declared.call.Made.{Made}
use Rattle.calls.specs.Calls.{Answer, System, Called, Opened, open_checks}
use Rattle.calls.specs.Cluster.{opened}
use Rattle.calls.specs.Played.{MadeAll}
use Rattle.format.specs.declared.fault.ListFault.{ListFault}
use Rattle.format.specs.declared.fault.ReadFault.{ReadFault}
use Rattle.format.specs.declared.fault.RunFault.{RunFault}
use Rattle.format.specs.Lines.{placed, ending}
use Rattle.format.specs.Reader.{reading, size}
use Rattle.script.specs.Run.{Left, ends, stops, first_line, open_line, call_line, past_open}

-- THE FIRST TURN, over the answer of the open: where its line ends, and the listing
abbrev pub first_listed : Result ℕ ListFault → Result ℕ RunFault
first_listed (Ok end) = Ok end
first_listed (Err e) = Err (RunFault.Listing e)

abbrev pub open_value : Answer → List ℕ → Result ℕ RunFault
open_value (Ok x) xs = first_listed (ending xs 0 (first_line (Ok x)))
open_value (Err e) xs = Err (RunFault.Cluster e)

abbrev pub open_listing : Answer → List ℕ → List ℕ
open_listing (Ok x) xs = placed xs 0 (first_line (Ok x))
open_listing (Err e) xs = xs

-- a line that was put ends within the listing
abbrev pub EndsWithin : Result ℕ RunFault → ℕ → Type 0
EndsWithin (Ok end) size = end ≤ size
EndsWithin (Err e) size = Unit {0}

-- what a turn answers once its line is put, or not: where the line ends
abbrev pub listed : Result ℕ ListFault → Result (Option ℕ) RunFault
listed (Ok end) = Ok (Some end)
listed (Err e) = Err (RunFault.Listing e)

module _ {L S : Type 0} (log : logger.Ghosts L) where
  pub record OpenListed (machine : ℕ → Machine S) (n f : ℕ) (xs : List ℕ) (a : System S L) (r : Result ℕ RunFault) (ys : List ℕ) (b : System S L) : Type 0 where
    pub answer : Answer
    pub call : Opened log machine a n f answer b
    pub value : r ≡ open_value answer xs
    pub listing : ys ≡ open_listing answer xs

  -- A CALL MADE AND LISTED: with its answer, the listing and the system after it
  pub record Listed (c : Call) (k : ℕ) (xs : List ℕ) (w : ℕ) (a : System S L) (r : Result (Option ℕ) RunFault) (ys : List ℕ) (b : System S L) : Type 0 where
    pub answer : Answer
    pub call : Called log a c answer b
    pub value : r ≡ listed (ending xs w (call_line k c answer))
    pub listing : ys ≡ placed xs w (call_line k c answer)

  -- ONE TURN over what was read. At the script's end, and at a fault of the reader, it leaves everything as it was.
  abbrev pub Turned : Result (Option Call) ReadFault → ℕ → List ℕ → ℕ → System S L → Result (Option ℕ) RunFault → List ℕ → System S L → Type 0
  Turned (Ok None) k xs w a r ys b = (r ≡ Ok None) × (ys ≡ xs) × (b ≡ a)
  Turned (Err e) k xs w a r ys b = (r ≡ Err (RunFault.Reader e)) × (ys ≡ xs) × (b ≡ a)
  Turned (Ok (Some c)) k xs w a r ys b = Listed c k xs w a r ys b

module _ {L S : Type 0} (log : logger.Ghosts L) (s : List ℕ) (a₀ : System S L) (i₀ k₀ : ℕ) (xs₀ : List ℕ) (w₀ : ℕ) where
  -- THE TURNS SO FAR: the calls made, the system after them, the place in the script, the number of the next command,
  -- the listing, and how much of it is written
  pub data Reached : List Made → System S L → ℕ → ℕ → List ℕ → ℕ → Type 0 where
    start : Reached [] a₀ i₀ k₀ xs₀ w₀
    then : {t : List Made} {a b : System S L} {i k w end : ℕ} {xs : List ℕ} {x : Made} → Reached t a i k xs w → reading s i ≡ Ok (Some x.call)
        → Called log a x.call x.answer b → ending xs w (call_line k x.call x.answer) ≡ Ok end
        → Reached (t ++ (x ∷ [])) b (i + 1 + size x.call) (k + 1) (placed xs w (call_line k x.call x.answer)) end

  -- HOW THEY END: at the script's end, at a fault of the reader, or at a line that does not fit, after its call was made
  pub data Ended : List Made → System S L → Left → Type 0 where
    over : {t : List Made} {a : System S L} {i k w : ℕ} {xs : List ℕ} → Reached t a i k xs w → reading s i ≡ Ok None → Ended t a (ends xs w)
    unread : {t : List Made} {a : System S L} {i k w : ℕ} {xs : List ℕ} {e : ReadFault} → Reached t a i k xs w → reading s i ≡ Err e
        → Ended t a (stops xs w (RunFault.Reader e) k i)
    unlisted : {t : List Made} {a b : System S L} {i k w : ℕ} {xs : List ℕ} {x : Made} {e : ListFault} → Reached t a i k xs w
        → reading s i ≡ Ok (Some x.call) → Called log a x.call x.answer b → ending xs w (call_line k x.call x.answer) ≡ Err e
        → Ended (t ++ (x ∷ [])) b (stops xs w (RunFault.Listing e) k i)

  -- with some calls and some system at the end
  pub record Finished (p : Left) : Type 0 where
    pub calls : List Made
    pub system : System S L
    pub ended : Ended calls system p

-- After an accepted open the run goes on if the line of that fits.
abbrev pub GoesOn : {L S : Type 0} → logger.Ghosts L → List ℕ → List ℕ → Result ℕ ListFault → System S L → List Made → System S L → Left → Type 0
GoesOn log s before (Ok end) a t b p = Ended log s a past_open 2 (placed before 0 open_line) end t b p
GoesOn log s before (Err e) a t b p = (t ≡ []) × (b ≡ a) × (p ≡ stops before 0 (RunFault.Listing e) 1 0)

module _ {L S : Type 0} (log : logger.Ghosts L) (machine : ℕ → Machine S) (n f : ℕ) (s before : List ℕ) where
  -- THE CALLS of a run whose open is accepted, with the recovery guarantee of them
  pub record RanThrough (p : Left) : Type 0 where
    pub old : L
    pub new : L
    pub start : log.acts (Operation.start n f) old new
    pub calls : List Made
    pub system : System S L
    pub course : GoesOn log s before (ending before 0 open_line) (record { cluster = opened (machine n) n f; logger = new }) calls system p
    pub guaranteed : MadeAll log machine n f calls calls system

  -- A refused open stops the run before any other call.
  abbrev pub IfOpened : Result (Unit {0}) Refusal → Left → Type 0
  IfOpened (Ok u) p = RanThrough p
  IfOpened (Err e) p = p ≡ stops before 0 (RunFault.Cluster e) 1 0

  abbrev pub Runs : Left → Type 0
  Runs p = IfOpened (checked (open_checks n f)) p
