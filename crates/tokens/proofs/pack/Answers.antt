-- `pack` meets its contract. Assumes nothing.
use Prim.Native.Nat.{ℕ, ◌-◌, ◌+◌, ◌<◌, ◌≤◌}
use mathlib.Core.Path.{◌≡◌, ◌∙◌, ap}
use mathlib.Core.List.{List}
use native.Mathlib.Omega.{arith}
use lib.ListN.{length, get_or}
use Rattle.tokens.specs.Spans.{part}
use Rattle.tokens.specs.Tokens.{packed}
use Rattle.tokens.proofs.Parts.{bytes-part, part_length}
use Rattle.tokens.proofs.Spelled.{packed-small, packed_more, packed_none}
use Rattle.tokens.proofs.pack.Goals as goal

-- what is packed leaves room for one byte
small : (s : List ℕ) (i stop v : ℕ) → ((k : ℕ) → get_or s k 0 < 256) → v ≡ packed (part s i stop) → i ≤ stop → stop ≤ length s → stop < i + 4
    → v < 33554432
small s i stop v bytes e le inside near =
    let l = part_length s i stop le inside in
    rw e (packed-small (part s i stop) (bytes-part s i stop bytes) (omega arith))

pub overflow_mul-v : goal.overflow_mul-v
overflow_mul-v c =
    let h = small c.args.text.now c.loop-i.i c.args.stop c.loop-i.v (λ k. omega (arith, c.type_inv.text k)) c.loop-i.invariant.1 (omega arith) (omega arith) (omega arith) in omega arith

pub overflow_add-v : goal.overflow_add-v
overflow_add-v c =
    let h = small c.args.text.now c.loop-i.i c.args.stop c.loop-i.v (λ k. omega (arith, c.type_inv.text k)) c.loop-i.invariant.1 (omega arith) (omega arith) (omega arith) in
    omega (arith, c.from.ensures, c.type_inv.text (c.loop-i.i - 1))

pub loop-i-preserved : goal.loop-i-preserved
loop-i-preserved c =
    let a = c.args in
    (omega arith, rw c.from.ensures (packed_more a.text.now (c.loop-i.i - 1) c.loop-i.i a.stop _ (omega arith) (omega arith) (omega arith) c.loop-i.invariant.1))

pub returns : goal.returns
returns c =
    let a = c.args in
    let e : c.loop-i.i ≡ a.start = omega arith in
    c.loop-i.invariant.1 ∙ ap (λ (k : ℕ). packed (part a.text.now k a.stop)) e

pub loop-i-init : goal.loop-i-init
loop-i-init c =
    (omega arith, packed_none c.args.text.now c.args.stop)
