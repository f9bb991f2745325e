-- What a step of the builder does to the list that it stands for. Assumes nothing.
use Rattle.words.proofs.Vocabulary.{ℕ, ◌≤◌, ◌<◌, ◌+◌, ◌≡◌, ap, List, some, le-leb, le-ltb, lt-leb, lt-ltb, length, take, set, length-take-le, take-suc-set}
use Rattle.words.proofs.Vocabulary.{add-one, arith}
use Rattle.exploring.specs.Explore.{insert}
use Rattle.exploring.specs.Filling.{listed}
use Rattle.exploring.specs.declared.Builder.{Builder}
use Rattle.logic.specs.Reach.{position}

module _ (c x n : ℕ) (codes : List ℕ) (full : length codes ≡ 64) (top : c ≤ 64) (fits : n ≤ c) where
  long : length (take n codes) ≡ n
  long = length-take-le n codes (omega arith)

  -- x is there
  pub put-old : position x (take n codes) < n → listed c (record { codes = codes; count = n }) ≡ insert c x (take n codes)
  unfolding insert
  put-old h = rw (le-leb n c fits, long, lt-ltb _ _ h)

  -- x is new, and there is room
  pub put-new : n ≤ position x (take n codes) → n < c → listed c (record { codes = set codes n x; count = n + 1 }) ≡ insert c x (take n codes)
  unfolding insert
  put-new h l = rw (le-leb (n + 1) c (omega arith), long, le-ltb _ _ h, lt-ltb _ _ l) (ap some (rw add-one (take-suc-set codes n x (omega arith))))

  -- x is new, and there is none
  pub put_full : (any : List ℕ) → n ≤ position x (take n codes) → c ≤ n → listed c (record { codes = any; count = n + 1 }) ≡ insert c x (take n codes)
  unfolding insert
  put_full any h l = rw (lt-leb (n + 1) c (omega arith), long, le-ltb _ _ h, le-ltb _ _ l)

-- a builder with a whole array that has no more codes than it may have
pub record Sized (c : ℕ) (b : Builder) : Type 0 where
  pub full : length b.codes ≡ 64
  pub top : c ≤ 64
  pub few : b.count ≤ c

module _ {c : ℕ} {b : Builder} (s : Sized c b) where
  pub is_list : listed c b ≡ some (take b.count b.codes)
  is_list = rw (le-leb b.count c s.few)

  pub list-long : length (take b.count b.codes) ≡ b.count
  list-long = length-take-le b.count b.codes (omega arith)
