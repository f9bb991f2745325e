-- `check_body` meets its contract: the padding's fault, else the records'.
use mathlib.Core.List.{List}
use Prim.Native.Nat.{ℕ, ◌*◌, ◌+◌, ◌≤◌}
use native.Mathlib.Omega.{arith}
use lib.ListN.{length}
use Rattle.std.proofs.lemmas.Result.{err_from_is_err_and}
use Rattle.rule_strip.specs.RuleAnswers.{GoodHead}
use Rattle.rule_strip.proofs.RuleChecks.{head_facts, check_padding, check_records, check_accepted}
use Rattle.rule_strip.proofs.check_body.Goals as goal

-- the strip is short, and as long as its records and padding take
sizes : (s : List ℕ) (n m : ℕ) → GoodHead s n m → (length s ≤ 4096) × (1 ≤ m) × (16 + 18 * m ≤ 8 * length s) × (m ≤ 128)
sizes s n m p =
    let h = head_facts s p.good in
    (omega arith, omega arith, omega arith, omega arith)

pub overflow_mul-end : goal.overflow_mul-end
overflow_mul-end c = let h = sizes _ _ _ c.requires in omega arith

pub overflow_mul-m : goal.overflow_mul-m
overflow_mul-m c = let h = sizes _ _ _ c.requires in omega arith

pub overflow_add-m : goal.overflow_add-m
overflow_add-m c = let h = sizes _ _ _ c.requires in omega arith

pub first_set-set-requires : goal.first_set-set-requires
first_set-set-requires c = let h = sizes _ _ _ c.requires in (omega arith, omega arith)

pub returns-then-set-end : goal.returns-then-set-end
returns-then-set-end c = check_padding _ c.requires _ c.first_set-set.ensures c.if-set-end.true

pub read_records-requires : goal.read_records-requires
read_records-requires c =
    let h = sizes _ _ _ c.requires in
    record { short = omega arith; some_record = omega arith; room = omega arith }

pub returns-in_err-read_records : goal.returns-in_err-read_records
returns-in_err-read_records c =
    let p = err_from_is_err_and c.from_residual.result c.from_residual.ensures.1 in
    rw (p.1, p.2) (check_records _ c.requires _ c.first_set-set.ensures c.if-set-end.false _ c.read_records.ensures c.in_err-read_records.was)

pub returns : goal.returns
returns c = check_accepted _ c.requires _ c.first_set-set.ensures c.if-set-end.false _ c.read_records.ensures c.in_ok-read_records.was
