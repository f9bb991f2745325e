-- A record's machine from tables is its machine from the steps that the tables hold. Assumes nothing.
use Rattle.words.proofs.Vocabulary.{ℕ, ◌≤◌, ◌<◌, ◌+◌, ◌*◌, ◌≡◌, ◌∙◌, refl, sym, ap, subst, ap₂, List, map, some, length, get_or, length-map, arith}
use Rattle.words.specs.Word.{Below}
use Rattle.layout.specs.Shape.{Shaped, labels_in, Each, Tuple}
use Rattle.layout.specs.declared.Shape.{Shape}
use Rattle.layout.proofs.Places.{each_map}
use Rattle.table.specs.Entry.{Step, Bit}
use Rattle.table.specs.Succ.{first_part, second_part, pair_code, exists_start, kind_code, start_code}
use Rattle.ops.specs.declared.Op.{Op}
use Rattle.ops.specs.declared.Op.TheVariants.{Subset, Single, Child1, Child2, Root, Not, Or, And, Exists}
use Rattle.table.proofs.Sets.{closing_same, exists_cong, exists_below}
use Rattle.exploring.specs.Explore.{codes_at, explore}
use Rattle.exploring.proofs.Found.{explore-found}
use Rattle.exploring.proofs.Cong.{explore_cong}
use Rattle.records.specs.Machine.{codes_of, step_of}
use Rattle.records.specs.Rule.{OfParts}
use Rattle.logic.specs.Reach.{position}

-- ---- codes that stand for states of the parts
abbrev Valid : Op → ℕ → ℕ → ℕ → Type 0
Valid Subset n m x = Unit {0}
Valid Single n m x = Unit {0}
Valid Child1 n m x = Unit {0}
Valid Child2 n m x = Unit {0}
Valid Root n m x = Unit {0}
Valid Not n m x = Unit {0}
Valid Or n m x = (first_part x < n) × (second_part x < m)
Valid And n m x = (first_part x < n) × (second_part x < m)
Valid Exists n m x = Below n x

-- ---- a record's part: the table e holds the step f of a machine of n states
pub record Part (s : Shape) (e f : Step) (n : ℕ) : Type 0 where
  pub zero_in : 0 < n
  pub few : n ≤ 64
  pub same : (l : ℕ) (is : List ℕ) → l < labels_in s → Tuple s.branches n is → (e l is ≡ f l is) × (f l is < n)

-- what is the same of a record from tables and from steps
pub record Same (k : Op) (s : Shape) (wx wy : ℕ) (e f d g : Step) : Type 0 where
  pub codes : codes_of k s e d wx wy ≡ codes_of k s f g wx wy
  pub steps : (cs : List ℕ) → codes_of k s e d wx wy ≡ some cs → (l : ℕ) (is : List ℕ) → l < labels_in s → Tuple s.branches (length cs) is
      → step_of (kind_code k e d wx wy) cs l is ≡ step_of (kind_code k f g wx wy) cs l is

module _ (s : Shape) (shape : Shaped s) (wx wy : ℕ) (bit : Bit wx (labels_in s)) where
  module _ (n m : ℕ) (e f d g : Step) (p : Part s e f n) (q : Part s d g m) where
    pair_step : (l : ℕ) (xs : List ℕ) → l < labels_in s → length xs ≡ s.branches → Each (λ (x : ℕ). (first_part x < n) × (second_part x < m)) xs
        → (pair_code e d l xs ≡ pair_code f g l xs) × ((first_part (pair_code e d l xs) < n) × (second_part (pair_code e d l xs) < m))
    unfolding pair_code
    pair_step l xs hl long h =
        let a = p.same l (map first_part xs) hl
        (record { long = length-map xs first_part ∙ long; below = each_map (λ (i : ℕ). i < n) first_part (λ x v. v.0) h }) in
        let b = q.same l (map second_part xs) hl
        (record { long = length-map xs second_part ∙ long; below = each_map (λ (i : ℕ). i < m) second_part (λ x v. v.1) h }) in
        let a₁ : e l (map first_part xs) < n = omega (arith, a.0, a.1) in
        let b₁ : d l (map second_part xs) < m = omega (arith, b.0, b.1) in
        (ap₂ (λ (i j : ℕ). i * 64 + j) a.0 b.0, (omega (arith, p.few, q.few), omega (arith, p.few, q.few)))

    -- the successor codes agree, and stay valid
    kind-step : (k : Op) (l : ℕ) (xs : List ℕ) → l < labels_in s → length xs ≡ 2 → Each (Valid k n m) xs
        → (kind_code k e d wx wy l xs ≡ kind_code k f g wx wy l xs) × Valid k n m (kind_code k e d wx wy l xs)
    unfolding kind_code
    kind-step Subset l xs hl two h = (refl, tt)
    kind-step Single l xs hl two h = (refl, tt)
    kind-step Child1 l xs hl two h = (refl, tt)
    kind-step Child2 l xs hl two h = (refl, tt)
    kind-step Root l xs hl two h = (refl, tt)
    kind-step Not l xs hl two h = (refl, tt)
    kind-step Or l xs hl two h = pair_step l xs hl (two ∙ sym shape.branches) h
    kind-step And l xs hl two h = pair_step l xs hl (two ∙ sym shape.branches) h
    kind-step Exists l xs hl two h =
        let long = two ∙ sym shape.branches in
        let z = exists_cong (labels_in s) n s.branches e f p.few p.same wx bit l xs hl long h in
        (z, subst (Below n) (sym z) (exists_below (labels_in s) n s.branches e f p.few p.same wx bit l xs hl long h))

    start-same : (k : Op) → (start_code k s.branches e wx ≡ start_code k s.branches f wx) × Valid k n m (start_code k s.branches e wx)
    unfolding start_code exists_start
    start-same Subset = (refl, tt)
    start-same Single = (refl, tt)
    start-same Child1 = (refl, tt)
    start-same Child2 = (refl, tt)
    start-same Root = (refl, tt)
    start-same Not = (refl, tt)
    start-same Or = (refl, (p.zero_in, q.zero_in))
    start-same And = (refl, (p.zero_in, q.zero_in))
    start-same Exists =
        let z = closing_same (labels_in s) n s.branches e f p.few p.same wx bit p.zero_in 64 in
        (z.0, subst (Below n) (sym z.0) z.1)

    -- the codes from the tables are the codes from the steps that they hold, and so are the steps
    parts_same : (k : Op) → Same k s wx wy e f d g
    unfolding codes_of step_of
    parts_same k =
        let c = s.ceiling in
        let start = start_code k s.branches e wx in
        record {
          codes =
              explore_cong (kind_code k e d wx wy) (kind_code k f g wx wy) c (labels_in s) start (Valid k n m) (start-same k).1 (kind-step k) shape.some-state
              ∙ ap (explore (kind_code k f g wx wy) c (labels_in s)) (start-same k).0;
          steps = λ cs h l is hl t.
              let valid = (explore-found (kind_code k e d wx wy) c (labels_in s) start shape.some-state (Valid k n m) (start-same k).1
              (λ l xs hl two v. (kind-step k l xs hl two v).1) cs h).codes.all in
              ap (λ (x : ℕ). position x cs) (kind-step k l (codes_at cs is) hl (length-map is (λ (i : ℕ). get_or cs i 0) ∙ t.long ∙ shape.branches)
              (each_map (Valid k n m) (λ (i : ℕ). get_or cs i 0) valid t.below)).0;
        }

  pub record_same : (n m : ℕ) (e f d g : Step) (k : Op) → OfParts k (Part s e f n) (Part s d g m) → Same k s wx wy e f d g
  unfolding codes_of step_of kind_code start_code
  record_same n m e f d g Subset p = record { codes = refl; steps = λ cs h l is hl t. refl }
  record_same n m e f d g Single p = record { codes = refl; steps = λ cs h l is hl t. refl }
  record_same n m e f d g Child1 p = record { codes = refl; steps = λ cs h l is hl t. refl }
  record_same n m e f d g Child2 p = record { codes = refl; steps = λ cs h l is hl t. refl }
  record_same n m e f d g Root p = record { codes = refl; steps = λ cs h l is hl t. refl }
  record_same n m e f d g Not p = record { codes = refl; steps = λ cs h l is hl t. refl }
  record_same n m e f d g Or p = parts_same n m e f d g p.0 p.1 Or
  record_same n m e f d g And p = parts_same n m e f d g p.0 p.1 And
  record_same n m e f d g Exists p = let z = parts_same n n e f e f p p Exists in record { codes = z.codes; steps = z.steps }
