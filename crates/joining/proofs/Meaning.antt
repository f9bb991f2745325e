-- The joined machine of a stored one is the logic's: it does as `join` does at each state, and state 0 stays the empty tree's. Assumes nothing.
use Rattle.words.proofs.Vocabulary.{ℕ, ◌≤◌, suc, zero, Bool, true, false, not, ◌&&◌, ◌≡◌, ◌∙◌, refl, sym, ap, subst, List, [], ◌∷◌}
use Rattle.words.proofs.Vocabulary.{length, get_or, T, eqb, ltb, lt-ltb, eqb-true, eqb-false, arith, not-suc-le-zero}
use Rattle.words.specs.Word.{mem}
use Rattle.words.proofs.WordLaws.{word-mem}
use Rattle.layout.specs.Shape.{Shaped}
use Rattle.layout.specs.declared.Shape.{Shape}
use Rattle.layout.proofs.Places.{pair_in}
use Rattle.logic.specs.Two.{one, two}
use Rattle.logic.specs.Machine.{Bounded}
use Rattle.logic.specs.Alike.{Agrees}
use Rattle.logic.specs.Table.{Table}
use Rattle.logic.specs.Reach.{elem, select, position, numbered}
use Rattle.logic.proofs.Places.{true→T}
use Rattle.records.specs.Rule.{Mach, mach_of, Stored}
use Rattle.records.specs.declared.Summary.{Summary}
use Rattle.logic.specs.Joined.{numbers, class_of, classes, merged, is_apart, join_by, join}
use Rattle.logic.proofs.Apart.{apart-≢}
use Rattle.logic.proofs.ApartPairs.{apart-tells}
use Rattle.joining.specs.Numbering.{accept_in}
use Rattle.joining.specs.Joining.{first_like, first_members, joined_of}
use Rattle.joining.proofs.Alike.{first-numbers}
use Rattle.joining.proofs.Leads.{leader-more, leader-same, leader_iff, leaders_rise, position-keeps, position-new}

pub stored-bounded : (s : Shape) → Shaped s → (base : ℕ) (m : Mach) (k : Summary) (ws : List ℕ) → Stored s base m k ws → Bounded s.variables m.count (mach_of m)
stored-bounded s shape base m k ws w = (w.some-state, λ l h x u. (w.holds l (x one ∷ x two ∷ []) h (pair_in s shape (u one) (u two))).1)

-- a class that begins with state 0 has number 0
zero-first : (g : ℕ → ℕ) (n : ℕ) → g 0 ≡ 0 → position 0 (classes (suc n) g) ≡ 0
unfolding classes numbers select position elem
zero-first g zero e = ap (position 0) (leader-more g 0 e) ∙ position-new 0 [] (λ t. t)
zero-first g (suc n) e = go (eqb (g (suc n)) (suc n)) refl (zero-first g n e)
  where
    in_before : T (elem 0 (classes (suc n) g))
    in_before = (leader_iff g (suc n) 0).1 (omega arith, e)

    go : (v : Bool) → eqb (g (suc n)) (suc n) ≡ v → position 0 (classes (suc n) g) ≡ 0 → position 0 (classes (suc (suc n)) g) ≡ 0
    go true x ih = ap (position 0) (leader-more g (suc n) (eqb-true (g (suc n)) (suc n) x)) ∙ position-keeps 0 (classes (suc n) g) (suc n ∷ []) in_before ∙ ih
    go false x ih = ap (position 0) (leader-same g (suc n) (eqb-false (g (suc n)) (suc n) x)) ∙ ih

module _ (s : Shape) (m : Mach) (B : Bounded s.variables m.count (mach_of m)) (few : m.count ≤ 64) where
  abbrev n : ℕ
  n = m.count

  -- the machine as the logic's table
  abbrev pub table_of : Table 2
  table_of = record { count = m.count; machine = mach_of m }

  first-zero : first_like s m 0 ≡ 0
  unfolding first_like class_of
  first-zero =
      first-numbers (λ r. not (is_apart s.variables n (mach_of m) r 0)) n 0 B.0
      (ap not (go (is_apart s.variables n (mach_of m) 0 0) refl)) (λ r h. absurd (not-suc-le-zero h))
    where
      go : (v : Bool) → is_apart s.variables n (mach_of m) 0 0 ≡ v → is_apart s.variables n (mach_of m) 0 0 ≡ false
      go true e = absurd (apart-≢ s.variables n (mach_of m) B ((apart-tells s.variables n (mach_of m) B 0 0 B.0 B.0).0 (true→T e)) refl)
      go false e = e

  start-zero : position 0 (first_members s m) ≡ 0
  unfolding first_members
  start-zero = go n refl
    where
      go : (c : ℕ) → c ≡ n → position 0 (classes n (first_like s m)) ≡ 0
      go zero e = absurd (let h = B.0 in omega arith)
      go (suc c) e = subst (λ (d : ℕ). position 0 (classes d (first_like s m)) ≡ 0) e (zero-first (first_like s m) c first-zero)

  -- it has as many states as `join` gives
  pub join-count : (join s.variables (record { count = m.count; machine = mach_of m })).count ≡ length (first_members s m)
  unfolding join join_by is_apart first_members first_like
  join-count = refl

  -- and does the same
  pub join-agrees : Agrees s.variables (length (first_members s m)) (join s.variables (record { count = m.count; machine = mach_of m })).machine (mach_of (joined_of s m))
  unfolding join join_by is_apart first_members first_like numbered merged accept_in
  join-agrees = record {
    starts = ap (λ (q : ℕ). position q (first_members s m)) first-zero ∙ start-zero;
    steps = λ l h x u. refl;
    accepts = λ q h.
        let b = (leaders_rise (first_like s m) n).0 in
        sym (word-mem 64 q (λ i. ltb i (length (first_members s m)) && mem (get_or (first_members s m) i 0) m.accept) (omega arith)
        ∙ ap (λ (v : Bool). v && mem (get_or (first_members s m) q 0) m.accept) (lt-ltb q (length (first_members s m)) h));
  }
