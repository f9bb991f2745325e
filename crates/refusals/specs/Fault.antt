-- Of two checks of a strip, one after the other: what they find. Assumes nothing.
use Rattle.std.specs.Prelude.{ℕ, Result, Ok, Err}
use Rattle.refusals.specs.declared.Fault.{Fault}
use Rattle.refusals.specs.declared.Reason.{Reason}

-- a check finds nothing amiss
abbrev pub sound : Result Unit Fault
sound = Ok tt

-- a fault, by its reason and its bit place
abbrev pub fault : Reason → ℕ → Result Unit Fault
fault k p = Err (record { reason = k; place = p })

-- the fault that is met first
abbrev pub or_else : Result Unit Fault → Result Unit Fault → Result Unit Fault
or_else (Ok u) later = later
or_else (Err f) later = Err f
