-- `split` meets its contract. The invariant: the states below x are split.
use Rattle.words.proofs.Vocabulary.{ℕ, ◌<◌, ◌+◌, ◌*◌, ◌%◌, ◌≡◌, ◌∙◌, refl, sym, ap, inl, inr, ◌⊎◌, List, get_or, set, mod-lt, arith, replicate}
use lib.ListN.{get_or-replicate}
use Rattle.joining.specs.Classes.{class_in}
use Rattle.joining.specs.Parting.{class_at, Whole}
use Rattle.joining.proofs.Parts.{Splitting, split_pass, split_step, split-start, split-whole}
use Rattle.joining.proofs.parting.split.Goals as goal
use Rattle.joining.proofs.parting.split.Goals.{then-leader-g, else-leader-g, then-seen-key-eq64, else-seen-key-eq64}

-- a state x of the class g, whose entry is the byte q
module _ (G T H S S' : List ℕ) (g base stride x k q v : ℕ) where
  step : Whole G → Splitting (λ p. class_at G T (base + p * stride)) g G H S x → x < 64 → v ≡ class_in G x → v ≡ g → q ≡ get_or T (base + x * stride) 0 → k ≡ class_in G (q % 64)
      → ((get_or S k 0 ≡ 64) × (S' ≡ set S k x)) ⊎ ((get_or S k 0 ≡ 64 → ⊥) × (S' ≡ S))
      → Splitting (λ p. class_at G T (base + p * stride)) g G (set H x (get_or S' k 0)) S' (x + 1)
  step W P few ev eg eq ek o =
      let b : ℕ = get_or T (base + x * stride) 0 in
      let z : b % 64 < 64 = mod-lt b (omega arith) in
      split_step (λ p. class_at G T (base + p * stride)) g G H S x P k S' (ek ∙ ap (λ (r : ℕ). class_in G (r % 64)) eq) few (omega (arith, W.low (b % 64))) (sym ev ∙ eg) o

pub loop-x-init : goal.loop-x-init
loop-x-init c =
    let a = c.args in
    let G = a.classes.now.of in
    split-start (λ p. class_at G a.table.now (a.base + p * a.stride)) a.g G (replicate 64 64) a.classes.now.whole.long refl (λ v h. get_or-replicate 64 v 64 0 h)

pub invariant_of-classes : goal.invariant_of-classes
invariant_of-classes c =
    let a = c.args in
    let h = c.loop-x in
    let G = a.classes.now.of in
    let W = a.classes.now.whole in
    let S = c.if-seen-key-eq64.seen in
    let s = step G a.table.now h.classes.of h.seen S a.g a.base a.stride h.x c.leader-key.result c.from.result c.leader.result W h.invariant (omega arith)
    c.leader.ensures c.if-leader-g.true c.from.ensures c.leader-key.ensures
    (elim c.if-seen-key-eq64.branch [ then-seen-key-eq64 w ↦ inl (w.if-seen-key-eq64.true, w.seen-is) | else-seen-key-eq64 w ↦ inr (w.if-seen-key-eq64.false, w.seen-is) ]) in
    record { whole = split-whole (λ p. class_at G a.table.now (a.base + p * a.stride)) (h.x + 1) a.g G (set h.classes.of h.x (get_or S c.leader-key.result 0)) W s.done }

pub loop-x-preserved : goal.loop-x-preserved
loop-x-preserved c =
    let h = c.loop-x in
    let a = c.args in
    let G = a.classes.now.of in
    let T = a.table.now in
    elim c.if-leader-g.branch [
      | then-leader-g w ↦ rw (w.classes-is, w.seen-is)
          (step G T h.classes.of h.seen w.if-seen-key-eq64.seen a.g a.base a.stride h.x w.leader-key.result w.from.result c.leader.result a.classes.now.whole h.invariant (omega arith)
          c.leader.ensures w.if-leader-g.true w.from.ensures w.leader-key.ensures
          (elim w.if-seen-key-eq64.branch [ then-seen-key-eq64 u ↦ inl (u.if-seen-key-eq64.true, u.seen-is) | else-seen-key-eq64 u ↦ inr (u.if-seen-key-eq64.false, u.seen-is) ]))
      | else-leader-g w ↦ rw (w.classes-is, w.seen-is)
          (split_pass (λ p. class_at G T (a.base + p * a.stride)) a.g G h.classes.of h.seen h.x h.invariant (λ e. w.if-leader-g.false (c.leader.ensures ∙ e)))
    ]
