-- What exploration finds: distinct codes, the start first, closed under the successor; and more than c of them where it gives up.
-- Assumes nothing.
use Rattle.words.proofs.Vocabulary.{ℕ, ◌≤◌, ◌<◌, suc, zero-le, Bool, true, false, cond, ◌≡◌, ◌∙◌, refl, sym, ap, subst, ⊎_elim, List, [], ◌∷◌, ◌++◌, some}
use Rattle.words.proofs.Vocabulary.{Option, none, length, get_or, List·getD-append, length-append, get_or-append_seam, length-map, not-suc-le-zero, eq-or-lt_of_le}
use Rattle.words.proofs.Vocabulary.{arith}
use Rattle.layout.specs.Shape.{Each, nil, cons, Tuple}
use Rattle.layout.proofs.Places.{each_head, each_tail, each_map, pair-of}
use Rattle.exploring.specs.Explore.{Visit, codes_at, are_below, DistinctCodes, insert, visit, visits, over, rings, explore}
use Rattle.exploring.proofs.Place.{extends_last, place-last, place_extends, place-own}
use Rattle.exploring.proofs.Grow.{Grows, grows_some, Inserted, is-old, is_new, no_room, inserted, each_below, visits-grows, rings-all, rings-has}
use Rattle.table.specs.Entry.{Step}
use Rattle.logic.specs.Reach.{position}

-- what holds of the codes and their places, and of a new one put last
last-all : (Q : ℕ → ℕ → Type 0) (x : ℕ) (cs : List ℕ) → ((i : ℕ) → i < length cs → Q i (get_or cs i 0)) → Q (length cs) x
    → (i : ℕ) → i < length (cs ++ (x ∷ [])) → Q i (get_or (cs ++ (x ∷ [])) i 0)
last-all Q x cs before here i h =
    ⊎_elim (λ (e : i ≡ length cs). rw (e, get_or-append_seam cs x [] 0) here) (λ (l : i < length cs). rw (List·getD-append cs (x ∷ []) 0 i l) (before i l))
    (eq-or-lt_of_le (omega (arith, length-append cs (x ∷ []))))

-- distinct codes, of each of which P holds
pub record Codes (P : ℕ → Type 0) (cs : List ℕ) : Type 0 where
  pub distinct : DistinctCodes cs
  pub all : (i : ℕ) → i < length cs → P (get_or cs i 0)

-- a new code put last
codes-last : (P : ℕ → Type 0) (x : ℕ) (cs : List ℕ) → Codes P cs → P x → length cs ≤ position x cs → Codes P (cs ++ (x ∷ []))
codes-last P x cs ok p h = record {
  distinct = λ i j hi hj e. sym (own i hi) ∙ ap (λ (y : ℕ). position y (cs ++ (x ∷ []))) e ∙ own j hj;
  all = last-all (λ i y. P y) x cs ok.all p;
}
  where
    own : (i : ℕ) → i < length (cs ++ (x ∷ [])) → position (get_or (cs ++ (x ∷ [])) i 0) (cs ++ (x ∷ [])) ≡ i
    own = last-all (λ i y. position y (cs ++ (x ∷ [])) ≡ i) x cs (λ i l.
        let e = place-own (get_or cs i 0) cs i ok.distinct l refl in
        place_extends (get_or cs i 0) (extends_last x cs) (omega arith) ∙ e) (place-last x cs h)

-- a list of one code
pub one_code : (P : ℕ → Type 0) (x : ℕ) → P x → Codes P (x ∷ [])
one_code P x p = codes-last P x [] (record { distinct = λ i j h. absurd (not-suc-le-zero h); all = λ i h. absurd (not-suc-le-zero h) }) p zero-le

-- the list so far is good, or there is a list of c + 1 such codes
abbrev pub Good : (ℕ → Type 0) → ℕ → Option (List ℕ) → Type 0
Good P c none = (cs : List ℕ) × Codes P cs × (length cs ≡ suc c)
Good P c (some cs) = Codes P cs × (length cs ≤ c)

-- a label below the given number over two states
pub record Proper (labels : ℕ) (v : Visit) : Type 0 where
  pub label : v.label < labels
  pub two : length v.states ≡ 2

pub proper : {labels l i j : ℕ} → l < labels → Proper labels (over l i j)
proper h = record { label = h; two = refl }

pub rings-proper : (labels k : ℕ) → Each (Proper labels) (rings labels k)
rings-proper labels k = rings-all labels k (λ l i j hl. proper hl)

-- two successor functions that agree on the codes of which P holds, and whose successors P holds of too, find the same good list
module _ (s t : Step) (c labels : ℕ) (P : ℕ → Type 0)
    (agree : (l : ℕ) (xs : List ℕ) → l < labels → length xs ≡ 2 → Each P xs → (s l xs ≡ t l xs) × P (s l xs)) where
  insert-good : {x : ℕ} {cs : List ℕ} {o : Option (List ℕ)} → Inserted c x cs o → Good P c (some cs) → P x → Good P c o
  insert-good (is-old h) ok r = ok
  insert-good {x = x} {cs = cs} (is_new h m) ok r = (codes-last P x cs ok.0 r h, omega (arith, length-append cs (x ∷ [])))
  insert-good {x = x} {cs = cs} (no_room h m) ok r =
      (cs ++ (x ∷ []), codes-last P x cs ok.0 r h, omega (arith, length-append cs (x ∷ []), ok.1))

  visit-good : (v : Visit) (o : Option (List ℕ)) → Proper labels v → Good P c o → Good P c (visit s c v o) × (visit s c v o ≡ visit t c v o)
  unfolding visit
  visit-good v none h ok = (ok, refl)
  visit-good v (some cs) h ok = go (are_below (length cs) v.states) refl
    where
      xs : List ℕ
      xs = codes_at cs v.states

      go : (b : Bool) → are_below (length cs) v.states ≡ b → Good P c (cond b (insert c (s v.label xs) cs) (some cs))
          × (cond b (insert c (s v.label xs) cs) (some cs) ≡ cond b (insert c (t v.label xs) cs) (some cs))
      go false e = (ok, refl)
      go true e =
          let all = each_map P (λ (i : ℕ). get_or cs i 0) ok.0.all (each_below (length cs) v.states e) in
          let z = agree v.label xs h.label (length-map v.states (λ (i : ℕ). get_or cs i 0) ∙ h.two) all in
          (insert-good (inserted c (s v.label xs) cs) ok z.1, ap (λ (x : ℕ). insert c x cs) z.0)

  pub visits-good : (vs : List Visit) (o : Option (List ℕ)) → Each (Proper labels) vs → Good P c o
      → Good P c (visits s c vs o) × (visits s c vs o ≡ visits t c vs o)
  unfolding visits
  visits-good [] o e ok = (ok, refl)
  visits-good (v ∷ vs) o e ok =
      let z = visit-good v o (each_head e) ok in
      let r = visits-good vs (visit s c v o) (each_tail e) z.0 in
      (r.0, r.1 ∙ ap (visits t c vs) z.1)

-- ---- what exploration gives, where P holds of the start and of what follows codes of which it holds
module _ (succ : Step) (c labels start : ℕ) (pos : 0 < c) where
  -- distinct codes with the start first, at most c of them
  pub record Found (P : ℕ → Type 0) (cs : List ℕ) : Type 0 where
    pub codes : Codes P cs
    pub few : length cs ≤ c
    pub some-code : 0 < length cs
    pub first : get_or cs 0 0 ≡ start

  module _ (P : ℕ → Type 0) (at_start : P start) (closed : (l : ℕ) (xs : List ℕ) → l < labels → length xs ≡ 2 → Each P xs → P (succ l xs)) where
    all-good : Good P c (explore succ c labels start)
    unfolding explore
    all-good = (visits-good succ succ c labels P (λ l xs hl n e. (refl, closed l xs hl n e)) (rings labels c) (some (start ∷ [])) (rings-proper labels c)
        (one_code P start at_start, pos)).0

    pub explore-found : (cs : List ℕ) → explore succ c labels start ≡ some cs → Found P cs
    unfolding explore
    explore-found cs e =
        let ok : Good P c (some cs) = subst (Good P c) e all-good in
        let g = grows_some (subst (Grows (some (start ∷ []))) e (visits-grows succ c (rings labels c) (some (start ∷ [])))) in
        record { codes = ok.0; few = ok.1; some-code = omega (arith, g.long); first = g.same 0 (omega arith) }

    -- or c + 1 of them
    pub explore-many : explore succ c labels start ≡ none → (cs : List ℕ) × Codes P cs × (length cs ≡ suc c)
    explore-many e = subst (Good P c) e all-good

  -- of any code this asks nothing
  pub explore-some : (cs : List ℕ) → explore succ c labels start ≡ some cs → Found (λ (x : ℕ). Unit {0}) cs
  explore-some = explore-found (λ (x : ℕ). Unit {0}) tt (λ l xs h n e. tt)

  -- every successor of codes that were found was found
  pub explore-closed : (cs : List ℕ) → explore succ c labels start ≡ some cs → (l : ℕ) → l < labels → (is : List ℕ) → Tuple 2 (length cs) is
      → position (succ l (codes_at cs is)) cs < length cs
  unfolding explore
  explore-closed cs e l hl = pair-of (λ (is : List ℕ). position (succ l (codes_at cs is)) cs < length cs) λ i j hi hj.
      let few = (explore-some cs e).few in
      (rw e at (rings-has succ c labels c (some (start ∷ [])) l i j hl (omega arith) (omega arith) (rw e (cons hi nil)) (rw e (cons hj nil)))).1
