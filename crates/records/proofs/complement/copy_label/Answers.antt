-- `copy_label` meets its contract. The invariant: the rows of the states below i are copied.
use Rattle.words.proofs.Vocabulary.{ℕ, ◌≤◌, ◌<◌, ◌+◌, ◌-◌, ◌≡◌, [], ◌∷◌, length, arith}
use Rattle.layout.specs.Shape.{Shaped, labels_in, share_of, place_in}
use Rattle.layout.specs.declared.Shape.{Shape}
use Rattle.layout.proofs.Places.{pair_in, place-in, place-two}
use Rattle.records.proofs.Copies.{copied_within, row_next}
use Rattle.records.proofs.complement.copy_label.Goals as goal
use Rattle.records.proofs.complement.copy_label.Goals.{After-place-k}

-- a row lies within the share
row_in : (s : Shape) → Shaped s → (l n i k : ℕ) → l < labels_in s → n ≤ s.ceiling → i < n → k ≡ place_in s l (i ∷ 0 ∷ []) → k + n ≤ share_of s
row_in s h l n i k hl hn hi e =
    omega (arith, e, place-two s l i 0, place-two s l i (n - 1), place-in s l (i ∷ (n - 1) ∷ []) hl (pair_in s h (omega arith) (omega arith)))

-- where the rows of the two tables are
rows : (c : After-place-k) → (c.args.from + c.place-k.result + c.args.n ≤ c.args.to) × (c.args.to + c.place-k.result + c.args.n ≤ length c.loop-i.ws)
rows c =
    let a = c.args in
    let h = c.loop-i in
    let near = row_in a.s c.requires.shaped a.l a.n h.i c.place-k.result c.requires.l_bound.0 c.requires.l_bound.1 c.loop-i-test.true c.place-k.ensures.0 in
    (omega (arith, c.requires.l_bound.2), omega (arith, c.requires.l_bound.3, h.invariant.long))

pub copy_within-requires-clause-in_bounds : goal.copy_within-requires-clause-in_bounds
copy_within-requires-clause-in_bounds c =
    omega (arith, rows (goal.at.copy_within-requires-clause-in_bounds c).After-place-k)

pub copy_within-requires-clause-dest_in_bounds : goal.copy_within-requires-clause-dest_in_bounds
copy_within-requires-clause-dest_in_bounds c =
    omega (arith, rows (goal.at.copy_within-requires-clause-dest_in_bounds c).After-place-k)

pub loop-i-preserved : goal.loop-i-preserved
loop-i-preserved c =
    let a = c.args in
    let h = c.loop-i in
    let k = c.place-k in
    let v = c.copy_within.ensures in
    row_next a.s c.requires.shaped c.requires.l_bound.2 a.l a.n h.i k.result c.requires.l_bound.0 c.requires.l_bound.1 c.loop-i-test.true k.ensures.0 h.invariant
    (copied_within a.n (a.from + k.result) (a.to + k.result) h.ws c.copy_within.new.self v.len v.by_index)

pub returns : goal.returns
returns c =
    let h = c.loop-i in
    let e : h.i ≡ c.args.n = omega arith in
    rw e at h.invariant
