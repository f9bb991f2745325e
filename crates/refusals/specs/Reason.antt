-- The numbers of the refusals: documents 01 and 02. Assumes nothing.
use Rattle.std.specs.Prelude.{ℕ}
use Rattle.refusals.specs.declared.Reason.{Reason}
use Rattle.refusals.specs.declared.Reason.TheVariants as reason

-- the number by which C is told of a reason
abbrev pub number_of : Reason → ℕ
number_of reason.RuleShort = 1
number_of reason.RuleVersion = 2
number_of reason.RuleVariables = 3
number_of reason.RuleRecords = 4
number_of reason.RuleLength = 5
number_of reason.RulePadding = 6
number_of reason.Op = 7
number_of reason.Variable = 8
number_of reason.Record = 9
number_of reason.Unused = 10
number_of reason.Ceiling = 11
number_of reason.Workspace = 12
number_of reason.Out = 13
number_of reason.States = 14
number_of reason.TreeShort = 15
number_of reason.TreeVersion = 16
number_of reason.TreeVariables = 17
number_of reason.TreeCut = 18
number_of reason.TreeBare = 19
number_of reason.TreePositions = 20
number_of reason.TreeLeftOver = 21
number_of reason.TreeOther = 22
number_of reason.TextGrammar = 23
number_of reason.TextName = 24
number_of reason.TextVariables = 25
number_of reason.TextRecords = 26
number_of reason.RuleOut = 27
number_of reason.Parts = 28
number_of reason.Satisfiable = 29
number_of reason.JoinedRecords = 30
