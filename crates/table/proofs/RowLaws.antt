-- The rows of "exists": their filling, and the successors that their unions are. Assumes nothing.
use Rattle.words.proofs.Vocabulary.{ℕ, ◌≤◌, ◌<◌, ◌+◌, Bool, true, false, ◌||◌, ◌&&◌, ◌≡◌, ◌∙◌, sym, ap, List, [], ◌∷◌, below_more, ne_eqb, bit_and, length}
use Rattle.words.proofs.Vocabulary.{get_or, set, length-set, get_or-set_other, get_or-set_same, ℕ_discrete, arith}
use Rattle.words.specs.Word.{Below, mem, any, Without}
use Rattle.table.specs.Rows.{hit_column, union_of, Follows, Serves, UnionsUpTo}
use Rattle.table.specs.Entry.{Step, through, off, on, seen}
use Rattle.table.specs.Succ.{hit, hit_row, hit_set, choice, exists_code}
use Rattle.words.proofs.Any.{and_cong, any_cong, any_in, any_swap, any-true}
use Rattle.words.proofs.WordLaws.{mem-zero, word_cong}

-- both arrays have a word for each state
pub record FullRows (left right : List ℕ) : Type 0 where
  pub left-long : length left ≡ 64
  pub right-long : length right ≡ 64

-- and they stay long
full-set : {left right : List ℕ} (t x y : ℕ) → FullRows left right → FullRows (set left t x) (set right t y)
full-set t x y h = record { left-long = simp length-set h.left-long; right-long = simp length-set h.right-long }

-- the rows are right at the states of `seen` that are not in `rest`
pub record Filling (f : Step) (l m s seen rest : ℕ) (left right : List ℕ) : Type 0 where
  pub full : FullRows left right
  pub done : (t : ℕ) → mem t seen ≡ true → mem t rest ≡ false → Follows f l m s t left right

pub filling_first : {f : Step} {l m s seen rest : ℕ} {left right : List ℕ} → rest ≡ seen → FullRows left right → Filling f l m s seen rest left right
filling_first e h =
    record { full = h; done = λ t a b. let same = rw e at b in let z : ◌≡◌ {A = ℕ} 0 1 = cc in absurd (omega arith) }

pub filling_next : {f : Step} {l m s seen rest : ℕ} {left right : List ℕ} {t rest' : ℕ} (x y : ℕ) → t < 64
    → Filling f l m s seen rest left right → Without rest t rest'
    → ((q : ℕ) → mem q x ≡ any (hit_column f l m s q t) 64) → ((q : ℕ) → mem q y ≡ any (hit_row f l m s q t) 64)
    → Filling f l m s seen rest' (set left t x) (set right t y)
filling_next {f} {l} {m} {s} {seen} {rest} {left} {right} {t} {rest'} x y top w o ex ey =
    record { full = full-set t x y w.full; done = λ u a b. go u a b (ℕ_discrete u t) }
  where
    go : (u : ℕ) → mem u seen ≡ true → mem u rest' ≡ false → Dec (u ≡ t) → Follows f l m s u (set left t x) (set right t y)
    go u a b (yes e) = record {
      after = λ q. rw (e, get_or-set_same left t x 0 (omega (arith, top))) (ex q);
      before = λ q. rw (e, get_or-set_same right t y 0 (omega (arith, top))) (ey q);
    }
    go u a b (no n) =
        let old = w.done u a (o.same u ∙ ap (λ (v : Bool). v || mem u rest') (ne_eqb t u (λ e. n (sym e))) ∙ b) in
        record {
          after = λ q. rw (get_or-set_other left t u x 0 n) (old.after q);
          before = λ q. rw (get_or-set_other right t u y 0 n) (old.before q);
        }

pub filling_last : {f : Step} {l m s seen rest : ℕ} {left right : List ℕ} → rest ≡ 0 → Filling f l m s seen rest left right → (t : ℕ)
    → mem t seen ≡ true → Follows f l m s t left right
filling_last e w t a = w.done t a (rw (e, mem-zero t))

-- the union of the rows at the members of a set that was seen is the successor
module _ (f : Step) (w l s seen : ℕ) (left right : List ℕ) (rows : (t : ℕ) → mem t seen ≡ true → Follows f (off w l) (on w l) s t left right) (x : ℕ)
    (within : (t : ℕ) → mem t x ≡ true → mem t seen ≡ true) where
  right_is : union_of right x ≡ exists_code f w l (x ∷ s ∷ [])
  unfolding union_of exists_code choice
  right_is =
      word_cong (λ (q : ℕ). any (λ (t : ℕ). mem t x && mem q (get_or right t 0)) 64) (λ (q : ℕ). any (hit_set f (off w l) (on w l) x s q) 64) 64 λ q.
      any_cong (λ (t : ℕ). mem t x && mem q (get_or right t 0)) (hit_set f (off w l) (on w l) x s q) 64 λ t h.
      and_cong (mem t x) (mem q (get_or right t 0)) (any (hit_row f (off w l) (on w l) s q t) 64) λ m.
      (rows t (within t m)).before q

  left_is : union_of left x ≡ exists_code f w l (s ∷ x ∷ [])
  unfolding union_of exists_code choice
  left_is =
      word_cong (λ (q : ℕ). any (λ (t : ℕ). mem t x && mem q (get_or left t 0)) 64) (λ (q : ℕ). any (hit_set f (off w l) (on w l) s x q) 64) 64 λ q.
      any_cong (λ (t : ℕ). mem t x && mem q (get_or left t 0)) (λ (t : ℕ). mem t x && any (hit_column f (off w l) (on w l) s q t) 64) 64
      (λ t h. and_cong (mem t x) (mem q (get_or left t 0)) (any (hit_column f (off w l) (on w l) s q t) 64) (λ m. (rows t (within t m)).after q))
      ∙ any_swap 64 64 (λ (t : ℕ). mem t x) (λ (i : ℕ). mem i s) (λ t i. hit f (off w l) (on w l) q (i ∷ t ∷ []))

-- the unions of the rows of set k, at the labels as a part sees them, are the successors of set k and each set up to it
pub serves : {e : Step} (f w l : ℕ) (sets : List ℕ) (k seen : ℕ) {n : ℕ} {lefts rights : List ℕ} (left right : List ℕ) → n ≡ off w l
    → ((q : ℕ) → mem q seen ≡ any (λ (i : ℕ). mem q (get_or sets i 0)) (k + 1))
    → ((t : ℕ) → mem t seen ≡ true → Follows e (bit_and n f) (bit_and (n + w) f) (get_or sets k 0) t lefts rights)
    → UnionsUpTo k lefts rights sets left right → Serves (exists_code (through f e) w) l sets k left right
unfolding through hit on seen
serves {e} f w l sets k seen {n} {lefts} {rights} left right is all rows u i h =
    let to : (t : ℕ) → mem t seen ≡ true → Follows (through f e) (off w l) (on w l) (get_or sets k 0) t lefts rights =
    λ t h. let r = rw is at (rows t h) in record { after = r.after; before = r.before } in
    let within : (t : ℕ) → mem t (get_or sets i 0) ≡ true → mem t seen ≡ true =
    λ t m. all t ∙ any_in (λ (j : ℕ). mem t (get_or sets j 0)) (k + 1) i (omega arith) m in (
      (u i h).0 ∙ right_is (through f e) w l (get_or sets k 0) seen lefts rights to (get_or sets i 0) within,
      (u i h).1 ∙ left_is (through f e) w l (get_or sets k 0) seen lefts rights to (get_or sets i 0) within,
    )

-- no member of the sets up to k is missed
pub joined-below : (n : ℕ) (sets : List ℕ) (k seen : ℕ) → ((q : ℕ) → mem q seen ≡ any (λ (i : ℕ). mem q (get_or sets i 0)) (k + 1))
    → ((i : ℕ) → i ≤ k → Below n (get_or sets i 0)) → Below n seen
joined-below n sets k seen all below q h m =
    let i = any-true (λ (i : ℕ). mem q (get_or sets i 0)) (k + 1) (sym (all q) ∙ m) in
    below i.0 (omega arith) q h i.2

-- two arrays, of whose first n words F and G hold
pub record Written (F G : ℕ → ℕ → Type 0) (n : ℕ) (left right : List ℕ) : Type 0 where
  pub full : FullRows left right
  pub done : (i : ℕ) → i < n → F i (get_or right i 0) × G i (get_or left i 0)

pub written-first : {F G : ℕ → ℕ → Type 0} {left right : List ℕ} → FullRows left right → Written F G 0 left right
written-first h = record { full = h; done = λ i h. absurd (omega arith) }

pub written_next : {F G : ℕ → ℕ → Type 0} {n : ℕ} {left right : List ℕ} {x y : ℕ} → n < 64 → Written F G n left right → F n x → G n y
    → Written F G (n + 1) (set left n y) (set right n x)
written_next {F} {G} {n} {left} {right} {x} {y} h w ex ey = record {
  full = full-set n y x w.full;
  done = below_more (λ (i : ℕ). F i (get_or (set right n x) i 0) × G i (get_or (set left n y) i 0)) n
      (λ i hi.
      let far : i ≡ n → ⊥ = λ e. omega arith in
      rw (get_or-set_other right n i x 0 far, get_or-set_other left n i y 0 far) (w.done i hi))
      (rw (get_or-set_same right n x 0 (omega arith), get_or-set_same left n y 0 (omega arith)) (ex, ey));
}

pub written_last : {F G : ℕ → ℕ → Type 0} {n k : ℕ} {left right : List ℕ} → k < n → Written F G n left right
    → (i : ℕ) → i ≤ k → F i (get_or right i 0) × G i (get_or left i 0)
written_last h w i l = w.done i (omega arith)
