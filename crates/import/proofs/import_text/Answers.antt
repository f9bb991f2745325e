-- `import::import_text` meets its contract.
use Rattle.std.proofs.Common.{refl}
use Rattle.import.proofs.Outcomes.{outcome-small, outcome-many, outcome-written, outcome-refused}
use Rattle.import.proofs.import_text.Goals as goal

pub returns-then-out-lt290 : goal.returns-then-out-lt290
returns-then-out-lt290 c =
    let whole = outcome-small _ _ c.if-out-lt290.true in
    record { result_value = whole.0; out_after = whole.1.0; claimed = whole.1.1 }

pub returns-in-Err : goal.returns-in-Err
returns-in-Err c =
    let told = rw c.new-reader.ensures.text_value at c.in-Err.ensures in
    let whole = outcome-refused _ c.args.out.now c.if-out-lt290.false told in
    record { result_value = whole.0; out_after = whole.1.0; claimed = whole.1.1 }

pub returns-then-records-gt128 : goal.returns-then-records-gt128
returns-then-records-gt128 c =
    let told = rw c.new-reader.ensures.text_value at c.in_default.ensures in
    let whole = outcome-many _ c.args.out.now c.if-out-lt290.false told c.if-records-gt128.true in
    record { result_value = whole.0; out_after = whole.1.0; claimed = whole.1.1 }

pub returns : goal.returns
returns c =
    let told = rw c.new-reader.ensures.text_value at c.in_default.ensures in
    let whole = outcome-written _ c.args.out.now c.if-out-lt290.false told c.if-records-gt128.false refl c.write_rule.ensures.strip
    c.write_rule.ensures.written in
    record { result_value = whole.0; out_after = whole.1.0; claimed = whole.1.1 }
