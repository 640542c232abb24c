-- The lines of a listing, and how a line is put there.
use Rattle.std.specs.Prelude.{ℕ, ◌+◌, Bool, cond, List, [], ◌∷◌, ◌++◌, length, take, drop, Ok, Err, decimal, Result, nat_le}
use Rattle.network.specs.Checks.{number}
use Rattle.calls.specs.Calls.{Answer}
use Rattle.format.specs.declared.fault.ListFault.{ListFault}
use Rattle.format.specs.declared.fault.ListFault.TheVariants.{Full}
use Rattle.format.specs.declared.fault.Stop.{Stop}
use Rattle.format.specs.declared.line.Line.{Line}
use Rattle.format.specs.declared.listing.Entry.{Entry}
use Rattle.format.specs.Faults.{layer, fault_number}

-- what was written of a line
abbrev pub text : Line → List ℕ
text l = take l.len l.bytes

-- the number of the refusal, and what was answered: 0 where there is none
abbrev pub refusal_in : Answer → ℕ
refusal_in (Ok x) = 0
refusal_in (Err e) = number e

abbrev pub value_in : Answer → ℕ
value_in (Ok x) = x
value_in (Err e) = 0

abbrev pub space : List ℕ
space = 32 ∷ []

abbrev pub line_end : List ℕ
line_end = 10 ∷ []

-- THE LINE OF A COMMAND: its number, its letter, the refusal and the answer
abbrev pub answer_line : Entry → List ℕ
answer_line e =
    decimal e.number ++ space ++ (e.letter ∷ []) ++ space ++ decimal (refusal_in e.answer) ++ space ++ decimal (value_in e.answer) ++ line_end

-- THE LINE OF A STOP: an exclamation mark, the layer, the fault's number, the command and its place
abbrev pub stop_line : Stop → List ℕ
stop_line s =
    (33 ∷ []) ++ space ++ decimal (layer s.fault) ++ space ++ decimal (fault_number s.fault) ++ space ++ decimal s.command ++ space ++ decimal s.place ++ line_end

-- A TEXT PUT at a place of a listing, whole or not at all
abbrev pub fits : List ℕ → ℕ → List ℕ → Bool
fits xs i t = nat_le (i + length t) (length xs)

abbrev pub placed : List ℕ → ℕ → List ℕ → List ℕ
placed xs i t = cond (fits xs i t) (take i xs ++ t ++ drop (i + length t) xs) xs

-- where it ends, if it was put
abbrev pub ending : List ℕ → ℕ → List ℕ → Result ℕ ListFault
ending xs i t = cond (fits xs i t) (Ok (i + length t)) (Err Full)

-- whether it was put, and how much is written then
abbrev pub whether_put : Result ℕ ListFault → Result (Unit {0}) ListFault
whether_put (Ok end) = Ok tt
whether_put (Err e) = Err e

abbrev pub written_then : ℕ → Result ℕ ListFault → ℕ
written_then w (Ok end) = end
written_then w (Err e) = w
