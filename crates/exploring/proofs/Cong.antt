-- Two successor functions that agree on the codes that can be found have the same exploration. Assumes nothing.
use Rattle.words.proofs.Vocabulary.{ℕ, ◌<◌, ◌≡◌, List, [], ◌∷◌, some, length}
use Rattle.layout.specs.Shape.{Each}
use Rattle.exploring.specs.Explore.{rings, explore}
use Rattle.exploring.proofs.Found.{one_code, visits-good, rings-proper}
use Rattle.table.specs.Entry.{Step}

pub explore_cong : (s t : Step) (c labels start : ℕ) (Valid : ℕ → Type 0) → Valid start
    → ((l : ℕ) (xs : List ℕ) → l < labels → length xs ≡ 2 → Each Valid xs → (s l xs ≡ t l xs) × Valid (s l xs))
    → 0 < c → explore s c labels start ≡ explore t c labels start
unfolding explore
explore_cong s t c labels start Valid valid-start valid-step h =
    (visits-good s t c labels Valid valid-step (rings labels c) (some (start ∷ [])) (rings-proper labels c) (one_code Valid start valid-start, h)).1
