-- The order of trees is an order, and earlier branches make an earlier tree.
-- Assumes nothing.
use Prim.Native.Nat.{ℕ, zero, suc, ◌≤◌, ◌<◌}
use mathlib.Core.Path.{◌≡◌, refl, sym, ap, ap₂, subst, ◌∙◌, fun_ext}
use mathlib.Core.Logic.{◌⊎◌, inl, inr, ⊎_elim}
use mathlib.Core.List.{List, [], ◌∷◌}
use native.Mathlib.Nat.{le_of_lt, le_refl, not-suc-le-zero}
use native.Mathlib.Decide.{dec_lt}
use native.Mathlib.Omega.{arith}
use Rattle.logic.specs.Meaning.{Branch}
use Rattle.logic.specs.Tree.{branches, down_from, sum_of, Tree, empty, node, positions}
use Rattle.logic.specs.Order.{Lex, ◌≺◌, ◌⪯◌}
use Rattle.logic.proofs.Branches.{last, is_last, branch_same}

lex_trans : {L₁ L₂ L₃ R₁ R₂ R₃ : Type 0} {A : Type 0} {x y z : A}
    → (L₁ → L₂ → L₃) → (L₁ → y ≡ z → L₃) → (x ≡ y → L₂ → L₃) → (R₁ → R₂ → R₃)
    → Lex L₁ (x ≡ y) R₁ → Lex L₂ (y ≡ z) R₂ → Lex L₃ (x ≡ z) R₃
lex_trans t r s k (inl p) (inl q) = inl (t p q)
lex_trans t r s k (inl p) (inr q) = inl (r p q.0)
lex_trans t r s k (inr p) (inl q) = inl (s p.0 q)
lex_trans t r s k (inr p) (inr q) = inr (p.0 ∙ q.0, k p.1 q.1)

pub data Tri (P Q R : Type 0) : Type 0 where
  less : P → Tri P Q R
  same : Q → Tri P Q R
  more : R → Tri P Q R

lex_tri : {L M R S Q E : Type 0} {A : Type 0} {x y : A} → (x ≡ y → Q → E) → Tri L (x ≡ y) M → Tri R Q S → Tri (Lex L (x ≡ y) R) E (Lex M (y ≡ x) S)
lex_tri f (less p) r = less (inl p)
lex_tri f (more p) r = more (inl p)
lex_tri f (same e) (less p) = less (inr (e, p))
lex_tri f (same e) (same q) = same (f e q)
lex_tri f (same e) (more p) = more (inr (sym e, p))

pub ℕ-tri : (m n : ℕ) → Tri (m < n) (m ≡ n) (n < m)
ℕ-tri m n = elim (dec_lt m n) [ yes p ↦ less p | no p ↦ elim (dec_lt n m) [ yes q ↦ more q | no q ↦ same (omega arith) ] ]

module _ {k : ℕ} where
  -- P at the first branch where Q fails
  abbrev pub First : (Branch k → Type 0) → (Branch k → Type 0) → Type 0
  First P Q = (b : Branch k) × ((c : Branch k) → c.number < b.number → Q c) × P b

  first_to : (P Q : Branch k → Type 0) → ((b : Branch k) → P b ⊎ Q b) → (m : ℕ) → m ≤ k → First P Q ⊎ ((b : Branch k) → b.number < m → Q b)
  unfolding last
  first_to P Q d zero h = inr (λ b l. absurd (not-suc-le-zero l))
  first_to P Q d (suc m) h = go (first_to P Q d m (le_of_lt h)) (d (last m h))
    where
      go : First P Q ⊎ ((b : Branch k) → b.number < m → Q b) → P (last m h) ⊎ Q (last m h) → First P Q ⊎ ((b : Branch k) → b.number < suc m → Q b)
      go (inl w) r = inl w
      go (inr q) (inl p) = inl (last m h, q, p)
      go (inr q) (inr p) = inr (λ b l. ⊎_elim (λ e. subst Q (sym e) p) (q b) (is_last m h b l))

  -- either P holds at a first branch, or Q at all
  pub first : (P Q : Branch k → Type 0) → ((b : Branch k) → P b ⊎ Q b) → First P Q ⊎ ((b : Branch k) → Q b)
  first P Q d = ⊎_elim inl (λ q. inr (λ b. q b b.below)) (first_to P Q d k (le_refl k))

  abbrev Before : (Branch k → Tree k) → (Branch k → Tree k) → Type 0
  Before f g = First (λ b. f b ≺ g b) (λ b. f b ≡ g b)

  before_trans : (f g h : Branch k → Tree k) → ((b : Branch k) → f b ≺ g b → g b ≺ h b → f b ≺ h b) → Before f g → Before g h → Before f h
  before_trans f g h t (b, e, p) (c, d, q) = elim (ℕ-tri b.number c.number) [
    | less l ↦ (b, (λ a m. e a m ∙ d a (omega arith)), subst (λ (x : Tree k). f b ≺ x) (d b l) p)
    | same l ↦ (b, (λ a m. e a m ∙ d a (omega arith)), t b p (subst (λ (x : Branch k). g x ≺ h x) (sym (branch_same b c l)) q))
    | more l ↦ (c, (λ a m. e a (omega arith) ∙ d a m), subst (λ (x : Tree k). x ≺ h c) (sym (e c l)) q)
  ]

  pub ≺-trans : (t u v : Tree k) → t ≺ u → u ≺ v → t ≺ v
  unfolding ◌≺◌
  ≺-trans empty empty v p q = absurd p
  ≺-trans empty (node m g) empty p q = absurd q
  ≺-trans empty (node m g) (node n h) p q = tt
  ≺-trans (node l f) empty v p q = absurd p
  ≺-trans (node l f) (node m g) empty p q = absurd q
  ≺-trans (node l f) (node m g) (node n h) p q =
      lex_trans (λ p q. omega arith) (λ p q. omega arith) (λ p q. omega arith)
      (lex_trans (λ p q. omega arith) (λ p q. omega arith) (λ p q. omega arith) (before_trans f g h (λ b. ≺-trans (f b) (g b) (h b))))
      p q

  pub ≺-irrefl : (t : Tree k) → t ≺ t → ⊥
  unfolding ◌≺◌
  ≺-irrefl empty p = p
  ≺-irrefl (node l f) (inl p) = omega arith
  ≺-irrefl (node l f) (inr (e, inl p)) = omega arith
  ≺-irrefl (node l f) (inr (e, inr (e', (b, q, p)))) = ≺-irrefl (f b) p

  before_tri : (f g : Branch k → Tree k) → ((b : Branch k) → Tri (f b ≺ g b) (f b ≡ g b) (g b ≺ f b)) → Tri (Before f g) (f ≡ g) (Before g f)
  before_tri f g t = ⊎_elim differ (λ e. same (fun_ext e))
      (first (λ b. (f b ≺ g b) ⊎ (g b ≺ f b)) (λ b. f b ≡ g b) (λ b. elim (t b) [ less p ↦ inl (inl p) | same e ↦ inr e | more p ↦ inl (inr p) ]))
    where
      differ : First (λ b. (f b ≺ g b) ⊎ (g b ≺ f b)) (λ b. f b ≡ g b) → Tri (Before f g) (f ≡ g) (Before g f)
      differ (b, e, inl p) = less (b, e, p)
      differ (b, e, inr p) = more (b, (λ c l. sym (e c l)), p)

  pub ≺-tri : (t u : Tree k) → Tri (t ≺ u) (t ≡ u) (u ≺ t)
  unfolding ◌≺◌
  ≺-tri empty empty = same refl
  ≺-tri empty (node m g) = less tt
  ≺-tri (node l f) empty = more tt
  ≺-tri (node l f) (node m g) =
      lex_tri (λ e q. q) (ℕ-tri (positions (node l f)) (positions (node m g)))
      (lex_tri (λ e q. ap₂ {C = Tree k} node e q) (ℕ-tri l m) (before_tri f g (λ b. ≺-tri (f b) (g b))))

  pub ⪯-trans : (t u v : Tree k) → t ⪯ u → u ⪯ v → t ⪯ v
  ⪯-trans t u v (inl p) (inl q) = inl (≺-trans t u v p q)
  ⪯-trans t u v (inl p) (inr e) = inl (subst (λ (x : Tree k). t ≺ x) e p)
  ⪯-trans t u v (inr e) q = rw e q

  pub ⪯-≺-trans : (t u v : Tree k) → t ⪯ u → u ≺ v → t ≺ v
  ⪯-≺-trans t u v (inl p) q = ≺-trans t u v p q
  ⪯-≺-trans t u v (inr e) q = rw e q

  pub not_later : (t u : Tree k) → t ⪯ u → u ≺ t → ⊥
  not_later t u (inl p) q = ≺-irrefl t (≺-trans t u t p q)
  not_later t u (inr e) q = ≺-irrefl u (rw e at q)

  pub ⪯-antisym : (t u : Tree k) → t ⪯ u → u ⪯ t → t ≡ u
  ⪯-antisym t u p (inl q) = absurd (not_later t u p q)
  ⪯-antisym t u p (inr e) = sym e

  -- of earlier trees none has more positions
  pub ≺-positions : (t u : Tree k) → t ≺ u → positions t ≤ positions u
  unfolding ◌≺◌ positions
  ≺-positions empty u p = omega arith
  ≺-positions (node l f) empty p = absurd p
  ≺-positions (node l f) (node m g) (inl p) = omega arith
  ≺-positions (node l f) (node m g) (inr p) = omega arith

  pub ⪯-positions : (t u : Tree k) → t ⪯ u → positions t ≤ positions u
  ⪯-positions t u (inl p) = ≺-positions t u p
  ⪯-positions t u (inr e) = rw e (le_refl (positions u))

  -- a tree with fewer positions is the earlier
  pub ≺-of-fewer : (t u : Tree k) → positions t < positions u → t ≺ u
  unfolding ◌≺◌ positions
  ≺-of-fewer empty empty p = absurd (not-suc-le-zero p)
  ≺-of-fewer empty (node m g) p = tt
  ≺-of-fewer (node l f) empty p = absurd (not-suc-le-zero p)
  ≺-of-fewer (node l f) (node m g) p = inl p

  pub empty-⪯ : (u : Tree k) → empty ⪯ u
  unfolding ◌≺◌
  empty-⪯ empty = inr refl
  empty-⪯ (node l f) = inl tt

  sum_mono : (s r : Branch k → ℕ) → ((b : Branch k) → s b ≤ r b) → (bs : List (Branch k)) → sum_of s bs ≤ sum_of r bs
  unfolding sum_of
  sum_mono s r h [] = omega arith
  sum_mono s r h (b ∷ bs) = let a = sum_mono s r h bs in let c = h b in omega arith

  sum_part : (s : Branch k → ℕ) (m : ℕ) (h : m ≤ k) (b : Branch k) → b.number < m → s b ≤ sum_of s (down_from m h)
  unfolding sum_of down_from last
  sum_part s zero h b l = absurd (not-suc-le-zero l)
  sum_part s (suc m) h b l = ⊎_elim (λ e. let a = ap s e in omega arith) (λ l'. let a = sum_part s m (le_of_lt h) b l' in omega arith) (is_last m h b l)

  -- a branch has fewer positions than the tree
  pub branch-fewer : (l : ℕ) (f : Branch k → Tree k) (b : Branch k) → positions (f b) < positions (node l f)
  unfolding positions
  branch-fewer l f b = let a = sum_part (λ c. positions (f c)) k (le_refl k) b b.below in omega arith

  -- earlier branches make an earlier tree
  pub node-⪯ : (l : ℕ) (f g : Branch k → Tree k) → ((b : Branch k) → f b ⪯ g b) → node l f ⪯ node l g
  unfolding ◌≺◌ positions
  node-⪯ l f g h = elim (ℕ-tri (positions (node l f)) (positions (node l g))) [
    | less p ↦ inl (inl p)
    | more p ↦ absurd (let a = sum_mono (λ b. positions (f b)) (λ b. positions (g b)) (λ b. ⪯-positions (f b) (g b) (h b)) (branches k) in omega arith)
    | same p ↦ ⊎_elim (λ q. inl (inr (p, inr (refl, q)))) (λ q. inr (ap (node l) (fun_ext q))) (first (λ b. f b ≺ g b) (λ b. f b ≡ g b) h)
  ]

-- a strict total order
pub record StrictTotal {A : Type 0} (R : A → A → Type 0) : Type 0 where
  pub irreflexive : (x : A) → R x x → ⊥
  pub transitive : (x y z : A) → R x y → R y z → R x z
  pub total : (x y : A) → Tri (R x y) (x ≡ y) (R y x)

pub order-strict-total : (k : ℕ) → StrictTotal {A = Tree k} ◌≺◌
order-strict-total k = record { irreflexive = ≺-irrefl; transitive = ≺-trans; total = ≺-tri }
