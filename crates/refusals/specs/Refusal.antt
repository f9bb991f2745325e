-- The refusals of an operation, one after another: the first that applies, with its place where it has one. Assumes nothing.
use Rattle.std.specs.Prelude.{ℕ, Result, Ok, Err}
use Rattle.refusals.specs.declared.Fault.{Fault}
use Rattle.refusals.specs.declared.Reason.{Reason}
use Rattle.refusals.specs.declared.Reason.TheVariants as reason
use Rattle.refusals.specs.declared.Refusal.{Refusal}
use Rattle.refusals.specs.declared.Refusal.TheVariants.{Placed, Plain, TooManyStates}
use Rattle.refusals.specs.declared.RefusalNumbers.{RefusalNumbers}
use Rattle.refusals.specs.Reason.{number_of}

-- a strip is checked, and then come the later refusals: "beside the number, the bit place"
abbrev pub checked : Result Unit Fault → Result Unit Refusal → Result Unit Refusal
checked (Ok u) later = later
checked (Err f) later = Err (Placed f)

-- another refusal is tested, and then come the later ones: "Refusals outside these checks [..] have no place"
abbrev pub tested : Result Unit Reason → Result Unit Refusal → Result Unit Refusal
tested (Ok u) later = later
tested (Err k) later = Err (Plain k)

-- one thing where no refusal applies, another where one does
abbrev pub unless_refused : {A : Type 0} → Result Unit Refusal → A → A → A
unless_refused (Ok u) a b = a
unless_refused (Err r) a b = b

-- an operation's result: its answer where no refusal applies, and else the refusal
abbrev pub answer_unless : {A : Type 0} → Result Unit Refusal → Result A Refusal → Result A Refusal
answer_unless (Ok u) a = a
answer_unless (Err r) a = Err r

-- a refusal by its number, and the bit place that it names, or 0
abbrev pub numbered_refusal : ℕ → ℕ → RefusalNumbers
numbered_refusal k p = record { number = k; recordnumber = 0; place = p }

-- "A refusal returns its number, and the record with 14", and a strip's its place
abbrev pub refusal_numbers : Refusal → RefusalNumbers
refusal_numbers (Placed f) = numbered_refusal (number_of f.reason) f.place
refusal_numbers (Plain k) = numbered_refusal (number_of k) 0
refusal_numbers (TooManyStates r) = record { number = number_of reason.States; recordnumber = r; place = 0 }
