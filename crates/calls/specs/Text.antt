-- The words for a call.
use Rattle.std.specs.Prelude.{ℕ, ◌-◌, ◌^◌, false, List, [], ◌++◌, codes, decimal}
use Rattle.std.specs.Fmt.{digits, padded_integral, format_spec}
use Rattle.calls.specs.declared.call.Call.{Call}
use Rattle.calls.specs.declared.call.Call.TheVariants.{Post, Deliver, Cut, Release, Crash, Recover, Show}

-- a body: 16 hexadecimal digits, zeros in front
abbrev pub body_text : ℕ → List ℕ
body_text b = padded_integral (format_spec 32 0 4 16 (2 ^ 64 - 1)) false [] (digits 16 false b)

abbrev pub call_text : Call → List ℕ
call_text (Post p b) = codes "post " ++ (body_text b ++ (codes " to host " ++ decimal p))
call_text (Deliver p s) = codes "host " ++ (decimal p ++ (codes " takes from " ++ decimal s))
call_text (Cut p s k) = codes "host " ++ (decimal p ++ (codes " takes from " ++ (decimal s ++ (codes " and goes down at point " ++ decimal k))))
call_text (Release p) = codes "host " ++ (decimal p ++ codes " releases")
call_text (Crash p) = codes "host " ++ (decimal p ++ codes " crashes")
call_text Recover = codes "recover"
call_text (Show p) = codes "host " ++ (decimal p ++ codes " shows")
