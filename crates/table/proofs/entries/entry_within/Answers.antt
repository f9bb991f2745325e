-- `entry_within` meets its contract.
use Rattle.words.proofs.Vocabulary.{ℕ, ◌+◌, ◌*◌, ◌≡◌, ◌∙◌, ap, [], ◌∷◌, get_or, add-mul, arith}
use Rattle.layout.specs.Shape.{place_in}
use Rattle.layout.specs.declared.Shape.{Shape}
use Rattle.layout.proofs.Places.{few-labels, pair_in, place-in, place-two}
use Rattle.table.specs.Entry.{entry}
use Rattle.table.proofs.entries.entry_within.Goals as goal

-- an entry's place, from the label's first and the states'
split : (s : Shape) (l i j : ℕ) → place_in s l (0 ∷ 0 ∷ []) + place_in s 0 (i ∷ j ∷ []) ≡ place_in s l (i ∷ j ∷ [])
split s l i j =
    let c = s.ceiling in
    let a : (l * c + 0) * c ≡ l * c * c = ap (λ (n : ℕ). n * c) (omega arith) in
    let b : (0 * c + i) * c ≡ i * c = ap (λ (n : ℕ). n * c) (omega arith) in
    omega (arith, place-two s l 0 0, place-two s 0 i j, place-two s l i j, add-mul (l * c) i c)

pub bounds-low-first : goal.bounds-low-first
bounds-low-first c =
    let a = c.args in
    omega (
      arith,
      c.place.ensures.0,
      c.place-2.ensures.0,
      split a.sh a.l a.i a.j,
      place-in a.sh a.l (a.i ∷ a.j ∷ []) c.requires.l_bound.0 (pair_in a.sh c.requires.within.shape c.requires.l_bound.1 c.requires.l_bound.2),
      c.requires.within.share,
    )

pub returns : goal.returns
unfolding entry
returns c =
    let a = c.args in
    c.from.ensures ∙ ap (λ (n : ℕ). get_or a.low.now n 0)
    (omega (arith, c.place.ensures.0, c.place-2.ensures.0, split a.sh a.l a.i a.j))

pub place-requires : goal.place-requires
place-requires c =
    let a = c.args in let p = c.requires in let f = few-labels a.sh p.within.shape in record { shaped = p.within.shape; l_bound = omega arith }
