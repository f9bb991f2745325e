-- What the parting of a stored machine's states says, in terms of the machine. Document 02, A8. Assumes nothing.
use Rattle.std.specs.Prelude.{ℕ, List}
use Rattle.layout.specs.Shape.{labels_in}
use Rattle.table.specs.Entry.{Step}
use Rattle.joining.specs.declared.machine.Machine.{Machine}
use Rattle.joining.specs.Parting.{state_in, Respected, RespectedBy, Refines, CleanRow, CleanLabel, CleanBy, Settled}

-- the machine's step, by its table
abbrev pub step_in : Machine → Step
step_in m = state_in m.shape m.table.now

-- hs parts the classes gs, but not states that no step under label l tells apart
abbrev pub PartsAt : Machine → ℕ → List ℕ → List ℕ → Type 0
PartsAt m l gs hs = Refines (Respected (step_in m) m.shape.branches m.states l) m.states gs hs

-- the same of every label with no bit but those given
abbrev pub PartsBy : Machine → ℕ → List ℕ → List ℕ → Type 0
PartsBy m bits gs hs = Refines (RespectedBy (step_in m) m.shape.branches m.states bits (labels_in m.shape)) m.states gs hs

-- the entries for label l and the states a and b in the first slots are clean
abbrev pub RowIsClean : Machine → List ℕ → ℕ → ℕ → ℕ → Type 0
RowIsClean m gs l a b = CleanRow (step_in m) m.shape.branches m.states gs l a b

-- all entries for label l are
abbrev pub LabelIsClean : Machine → List ℕ → ℕ → Type 0
LabelIsClean m gs l = CleanLabel (step_in m) m.shape.branches m.states gs l

-- all for the labels below a number with no bit but those given are
abbrev pub LabelsAreClean : Machine → List ℕ → ℕ → ℕ → Type 0
LabelsAreClean m gs bits labels = CleanBy (step_in m) m.shape.branches m.states gs bits labels

-- the classes are settled as far as acceptance and the labels with no bit but those given
abbrev pub IsSettled : Machine → ℕ → ℕ → List ℕ → Type 0
IsSettled m bits accept hs = Settled (step_in m) m.shape.branches m.states bits (labels_in m.shape) accept hs
