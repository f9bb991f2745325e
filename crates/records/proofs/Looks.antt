-- The bits that a record looks at are a byte's. Assumes nothing.
use Rattle.words.proofs.Vocabulary.{ℕ, ◌≤◌, ◌<◌, ◌^◌, bit_or, or_lt, arith}
use Rattle.table.specs.Succ.{looks_of}
use Rattle.ops.specs.declared.Op.{Op}
use Rattle.ops.specs.declared.Op.TheVariants.{Subset, Single, Child1, Child2, Root, Not, Or, And, Exists}
use Rattle.table.proofs.Labels.{off_le}

or_byte : (a b : ℕ) → a ≤ 255 → b ≤ 255 → bit_or a b ≤ 255
or_byte a b ha hb = let h : bit_or a b < 2 ^ 8 = or_lt 8 a b (omega arith) (omega arith) in omega arith

pub looks-byte : (k : Op) (wx wy f g : ℕ) → 0 < wx → wx ≤ 128 → wy ≤ 128 → f ≤ 255 → g ≤ 255 → looks_of k wx wy f g ≤ 255
looks-byte Subset wx wy f g p hx hy hf hg = or_byte wx wy (omega arith) (omega arith)
looks-byte Single wx wy f g p hx hy hf hg = omega arith
looks-byte Child1 wx wy f g p hx hy hf hg = or_byte wx wy (omega arith) (omega arith)
looks-byte Child2 wx wy f g p hx hy hf hg = or_byte wx wy (omega arith) (omega arith)
looks-byte Root wx wy f g p hx hy hf hg = omega arith
looks-byte Not wx wy f g p hx hy hf hg = hf
looks-byte Or wx wy f g p hx hy hf hg = or_byte f g hf hg
looks-byte And wx wy f g p hx hy hf hg = or_byte f g hf hg
looks-byte Exists wx wy f g p hx hy hf hg = omega (arith, off_le wx f p)
