-- `field_at` meets its contract.
use borrow.Author.Rules.{rules}
use mathlib.Core.Path.{◌≡◌, sym, ap, ◌∙◌}
use mathlib.Core.List.{List}
use Prim.Native.Nat.{ℕ, ◌+◌, ◌-◌, ◌*◌, ◌/◌, ◌%◌, ◌^◌, ◌≤◌, ◌<◌}
use native.Mathlib.Nat.{one-mul}
use native.Mathlib.Omega.{arith}
use lib.Dec.{lit<}
use lib.Pow.{shl_exact}
use lib.ListN.{length, get_or}
use Rattle.bits.specs.Bits.{field}
use Rattle.bits.proofs.Fields.{window}
use Rattle.bits.proofs.field_at.Goals as goal

pow-is : (b : ℕ) → b ≤ 8 → (1 * 2 ^ b) % 18446744073709551616 ≡ 2 ^ b
pow-is b h = shl_exact {a = 1} 1 b 64 (lit< tt) (omega arith) ∙ one-mul (2 ^ b)

-- both bytes; past the end stands 0
read : (s : List ℕ) (at b hi lo : ℕ) → hi ≡ get_or s (at / 8) 0 → lo ≡ get_or s (at / 8 + 1) 0 → b ≤ 8 → at + b ≤ 8 * length s → at < 8 * length s
    → ((k : ℕ) → get_or s k 0 < 256)
    → (hi * 256 + lo) / 2 ^ (16 - at % 8 - b) % ((1 * 2 ^ b) % 18446744073709551616) ≡ field s at b
read s at b hi lo p q m r l g =
    let e : 8 * (at / 8) + at % 8 ≡ at = omega arith in
    rw (pow-is b m, p, q) (sym (window s (at / 8) (at % 8) b (omega arith) (omega arith) m (omega arith) g) ∙ ap (λ (k : ℕ). field s k b) e)

pub returns : goal.returns
returns c =
    let lo : c.from-2.result ≡ get_or c.args.s.now (c.args.at / 8 + 1) 0 = search rules in
    read _ _ _ _ _ c.from.ensures lo c.requires.b_bound c.requires.b_bound_2 c.requires.at_bound (λ k. omega (arith, c.type_inv.s k))
