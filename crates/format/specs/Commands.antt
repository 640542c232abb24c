-- What the bytes of a command's body ask for.
use Rattle.std.specs.Prelude.{ℕ, ◌+◌, ◌*◌, ◌^◌, List, slice_index}
use Rattle.calls.specs.declared.call.Call as call
use Rattle.format.specs.declared.command.Command.{Command}
use Rattle.format.specs.declared.command.Command.TheVariants.{Post, Deliver, Cut, Release, Crash, Recover, Show}

-- the byte at a place of a body
abbrev pub byte : List ℕ → ℕ → ℕ
byte b i = slice_index b i

-- the number in the eight bytes after the first, the highest first
abbrev pub message_body : List ℕ → ℕ
message_body b =
    byte b 1 * 2 ^ 56 + byte b 2 * 2 ^ 48 + byte b 3 * 2 ^ 40 + byte b 4 * 2 ^ 32 + byte b 5 * 2 ^ 24 + byte b 6 * 2 ^ 16 + byte b 7 * 2 ^ 8 + byte b 8

-- the call that each body asks for
abbrev pub posts : List ℕ → call.Call
posts b = call.Call.Post (byte b 0) (message_body b)

abbrev pub delivers : List ℕ → call.Call
delivers b = call.Call.Deliver (byte b 0) (byte b 1)

abbrev pub cuts : List ℕ → call.Call
cuts b = call.Call.Cut (byte b 0) (byte b 1) (byte b 2)

abbrev pub releases : List ℕ → call.Call
releases b = call.Call.Release (byte b 0)

abbrev pub crashes : List ℕ → call.Call
crashes b = call.Call.Crash (byte b 0)

abbrev pub shows : List ℕ → call.Call
shows b = call.Call.Show (byte b 0)

abbrev pub call_of : Command → call.Call
call_of (Post b) = posts b.now
call_of (Deliver b) = delivers b.now
call_of (Cut b) = cuts b.now
call_of (Release b) = releases b.now
call_of (Crash b) = crashes b.now
call_of Recover = call.Call.Recover
call_of (Show b) = shows b.now

-- the letter of each command: P, D, C, R, X, V, S
abbrev pub letter : call.Call → ℕ
letter (call.Call.Post p b) = 80
letter (call.Call.Deliver p s) = 68
letter (call.Call.Cut p s k) = 67
letter (call.Call.Release p) = 82
letter (call.Call.Crash p) = 88
letter call.Call.Recover = 86
letter (call.Call.Show p) = 83

-- and O of the open
abbrev pub open_letter : ℕ
open_letter = 79
