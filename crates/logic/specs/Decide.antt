-- The answers of decide and judge, as functions of the records, the ceilings and the tree.
-- Assumes nothing.
use Rattle.std.specs.Prelude.{ℕ, ◌^◌, Bool, true, false, List, [], length, get_or}
use Rattle.logic.specs.Tree.{Tree, positions}
use Rattle.logic.specs.Rule.{Record, last_of}
use Rattle.logic.specs.ReachedRecords.{names_in, is_reached}
use Rattle.logic.specs.Meaning.{root}
use Rattle.logic.specs.Machine.{run}
use Rattle.logic.specs.Table.{Table, Built, over, built, build_all}
use Rattle.logic.specs.Joined.{join, joined_table}
use Rattle.logic.specs.Search.{Sought, tree, large, absent, search}
use Rattle.logic.specs.Claims.{Outcome, refused14, shown, none, larger, Judgement, unbuilt, yes, no}

unfoldable pub report : {k : ℕ} → ℕ → Sought k → Outcome k
report q (tree t) = shown (positions t) q t
report q large = larger q
report q absent = none q

abbrev pub last_table : {k : ℕ} → ℕ → List Record → List (Table k) → Table k
last_table n rs ts = get_or ts (last_of rs) (joined_table n (root 0))

unfoldable pub conclude : {k : ℕ} → ℕ → List Record → ℕ → Built k → Outcome k
conclude n rs P (over r) = refused14 r
conclude n rs P (built ts) = let a = last_table n rs ts in report a.count (search (2 ^ n) a P)

-- all records of a rule, each joined after it is built; refusal 14 looks at those reached from the last one
abbrev pub build_rule : {k : ℕ} → ℕ → ℕ → List Record → Built k
build_rule n c rs = build_all (join n) n c (is_reached (names_in rs) (length rs)) rs []

unfoldable pub decide_of : (k n : ℕ) → List Record → ℕ → ℕ → Outcome k
decide_of k n rs c P = conclude n rs P (build_rule n c rs)

unfoldable pub say : Bool → Judgement
say true = yes
say false = no

unfoldable pub ruling : {k : ℕ} → ℕ → List Record → Tree k → Built k → Judgement
ruling n rs t (over r) = unbuilt r
ruling n rs t (built ts) = let a = last_table n rs ts in say (a.machine.accepting (run a.machine t))

unfoldable pub judge_of : {k : ℕ} → ℕ → List Record → ℕ → Tree k → Judgement
judge_of n rs c t = ruling n rs t (build_rule n c rs)
