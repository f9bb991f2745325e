-- For a builder: its machine of each record, with the states in whatever order it found them, has the construction's count; joined, it is the
-- record's joined machine, and gives the same answers.
-- Assumes nothing.
use Prim.Native.Nat.{ℕ, ◌*◌, ◌^◌, ◌≤◌, ◌<◌}
use mathlib.Core.Path.{◌≡◌, refl, sym, ap, ap₂, subst, ◌∙◌}
use mathlib.Core.Logic.{◌↔◌}
use mathlib.Core.Bool.{Bool, true, false, ◌&&◌, ◌||◌}
use mathlib.Core.List.{List}
use native.Mathlib.Nat.{le_antisymm}
use native.Mathlib.Omega.{arith}
use native.Mathlib.Decide.{dec_lt}
use lib.Dec.{T}
use Rattle.logic.specs.Meaning.{Branch, Assignment, Formula, subset, singleton, successor, root, negation, disjunction, conjunction, exists, Holds, Valid}
use Rattle.logic.specs.Tree.{Tree, Proper, TreeOf}
use Rattle.logic.specs.Rule.{Record, formula_at, last_of, Accepted}
use Rattle.logic.specs.Machine.{Machine, run, Decides, complement, product, Simulates, Projects, Bounded}
use Rattle.logic.specs.Atom.{subset_machine, singleton_machine, successor_machine, root_machine}
use Rattle.logic.specs.Reach.{below, Reached, numbered, projection}
use Rattle.logic.specs.Table.{Table, coded_product, build, product_table, projection_table, complement_table, table_by}
use Rattle.logic.specs.Joined.{join, constructed, joined_table}
use Rattle.logic.specs.Search.{search}
use Rattle.logic.specs.Alike.{Full, Lists, Alike, Agrees, MachineOf, ConstructedOf, JoinedOf}
use Rattle.logic.specs.Claims.{Roomy, Judges}
use Rattle.logic.specs.Decide.{report, decide_of, say, judge_of}
use Rattle.logic.proofs.Connectives.{run-product, run_simulates, decides_simulated, decides-negation, decides-disjunction, decides-conjunction}
use Rattle.logic.proofs.Atoms.{decides-subset, decides-singleton, decides-successor, decides-root}
use Rattle.logic.proofs.Exists.{decides-exists}
use Rattle.logic.proofs.Numbered.{numbered-decides}
use Rattle.logic.proofs.Projection.{projection-bounded}
use Rattle.logic.proofs.Satisfiable.{reached-tree, tree-reached}
use Rattle.logic.proofs.Pigeon.{pigeon}
use Rattle.logic.proofs.Tables.{Right, subset-bounded, singleton-bounded, successor-bounded, root-bounded, product-bounded}
use Rattle.logic.proofs.Settle.{run-below}
use Rattle.logic.proofs.Joining.{joined-full, joined-alike, joined-accepts}
use Rattle.logic.proofs.Joined.{deciders_agree, agree_decides, constructed-right, joined-right}
use Rattle.logic.proofs.Shown.{search-same}
use Rattle.logic.proofs.Answers.{last-valid, decide-roomy, judge_judges}
use Rattle.logic.proofs.Alike.{alike-sym, alike_trans, complement-alike, numbered-alike, build-alike, product-kernel, projection-kernel, sets-kernel}
use Rattle.logic.proofs.Alike.{comes_alike}
use Rattle.logic.proofs.Agreement.{run-agrees}

module _ {k : ℕ} (n : ℕ) where
  -- the machines of the atoms
  of_built : (f : Formula k) (d : ℕ) (M : Machine k ℕ) → Bounded n d M → Decides n M f → constructed n f ≡ build n d M → ConstructedOf n f M
  of_built f d M B D e =
      record { decides = D; alike = subst (λ (a : Table k). Alike n M a.machine) (sym e) (alike-sym n (build n d M).machine M (build-alike n d M B)) }

  pub of_subset : (x y : ℕ) → x < n → y < n → ConstructedOf {k = k} n (subset x y) (subset_machine n x y)
  unfolding constructed table_by
  of_subset x y hx hy = of_built (subset x y) 2 (subset_machine n x y) (subset-bounded n x y) (decides-subset n x y hx hy) refl

  pub of_singleton : (x : ℕ) → x < n → ConstructedOf {k = k} n (singleton x) (singleton_machine n x)
  unfolding constructed table_by
  of_singleton x hx = of_built (singleton x) 3 (singleton_machine n x) (singleton-bounded n x) (decides-singleton n x hx) refl

  pub of_successor : (b : Branch k) (x y : ℕ) → x < n → y < n → ConstructedOf n (successor b x y) (successor_machine n b x y)
  unfolding constructed table_by
  of_successor b x y hx hy = of_built (successor b x y) 4 (successor_machine n b x y) (successor-bounded n b x y) (decides-successor n x y b hx hy) refl

  pub of_root : (x : ℕ) → x < n → ConstructedOf {k = k} n (root x) (root_machine n x)
  unfolding constructed table_by
  of_root x hx = of_built (root x) 3 (root_machine n x) (root-bounded n x) (decides-root n x hx) refl

  -- not
  pub of_negation : (f : Formula k) (M : Machine k ℕ) → JoinedOf n f M → ConstructedOf n (negation f) (complement M)
  unfolding constructed joined_table table_by complement_table
  of_negation f M m =
      let J : Machine k ℕ = (join n (constructed n f)).machine in
      record {
        decides = decides-negation n M f m.decides;
        alike = alike_trans n (complement M) M (complement J) (complement-alike n M)
            (alike_trans n M J (complement J) m.alike (alike-sym n (complement J) J (complement-alike n J)));
      }

  -- a machine that behaves as another does, where R relates one state to one state
  module _ {S : Type 0} (M : Machine k ℕ) (N : Machine k S) (R : ℕ → S → Type 0) (sim : Simulates n M N R)
      (one : (q q' : ℕ) (s s' : S) → R q s → R q' s' → (q ≡ q') ↔ (s ≡ s')) where
    same-states : (t u : Tree k) → Proper n t → Proper n u → (run M t ≡ run M u) ↔ (run N t ≡ run N u)
    same-states t u o o' = one (run M t) (run M u) (run N t) (run N u) (run_simulates n M N R sim t o) (run_simulates n M N R sim u o')

  pub of_simulated : (f : Formula k) {a : Table k} (M N : Machine k ℕ) → MachineOf n f a N → (R : ℕ → ℕ → Type 0) → Simulates n M N R
      → ((q q' s s' : ℕ) → R q s → R q' s' → (q ≡ q') ↔ (s ≡ s')) → MachineOf n f a M
  of_simulated f {a} M N m R sim one = record {
    decides = decides_simulated n M N R sim f m.decides;
    alike = alike_trans n M N a.machine (same-states M N R sim one) m.alike;
  }

  -- or, and: P runs the pairs of states of M and N, in whatever form it keeps them
  module _ (f g : Formula k) (vf : Valid n f) (vg : Valid n g) (M N : Machine k ℕ) (m : JoinedOf n f M) (m' : JoinedOf n g N) (P : Machine k ℕ)
      (R : ℕ → ℕ × ℕ → Type 0) (one : (q q' : ℕ) (s s' : ℕ × ℕ) → R q s → R q' s' → (q ≡ q') ↔ (s ≡ s')) where
    pairs-alike : (op : Bool → Bool → Bool) → Simulates n P (product op M N) R → Alike n P (product_table n op (joined_table n f) (joined_table n g)).machine
    unfolding product_table
    pairs-alike op sim t u o o' =
        let F : Table k = joined_table n f in
        let G : Table k = joined_table n g in
        let BF : Bounded n F.count F.machine = (joined-right n f vf).0 in
        let BG : Bounded n G.count G.machine = (joined-right n g vg).0 in
        let C : Machine k ℕ = coded_product op G.count F.machine G.machine in
        let b = build-alike n (F.count * G.count) C (product-bounded n op F.count G.count F.machine G.machine BF BG) t u o o' in
        let i = product-kernel n op F.count G.count F.machine G.machine BF BG t u o o' in
        let j = same-states P (product op M N) R sim one t u o o' in
        let rt = run-product op M N t in
        let ru = run-product op M N u in
        let p = m.alike t u o o' in
        let q = m'.alike t u o o' in (
          (λ e. let z = sym rt ∙ j.0 e ∙ ru in
              b.1 (i.1 (p.0 (ap (λ (s : ℕ × ℕ). s.0) z), q.0 (ap (λ (s : ℕ × ℕ). s.1) z)))),
          λ e. let w = i.0 (b.0 e) in j.1 (rt ∙ ap₂ (λ (x y : ℕ). (x, y)) (p.1 w.0) (q.1 w.1) ∙ sym ru),
        )

    pub of_disjunction : Simulates n P (product ◌||◌ M N) R → ConstructedOf n (disjunction f g) P
    unfolding constructed table_by joined_table
    of_disjunction sim = record {
      decides = decides_simulated n P (product ◌||◌ M N) R sim (disjunction f g) (decides-disjunction n M f m.decides N g m'.decides);
      alike = pairs-alike ◌||◌ sim;
    }

    pub of_conjunction : Simulates n P (product ◌&&◌ M N) R → ConstructedOf n (conjunction f g) P
    unfolding constructed table_by joined_table
    of_conjunction sim = record {
      decides = decides_simulated n P (product ◌&&◌ M N) R sim (conjunction f g) (decides-conjunction n M f m.decides N g m'.decides);
      alike = pairs-alike ◌&&◌ sim;
    }

  -- exists: E runs the sets of M's states, in whatever form it keeps them
  pub of_exists : (x : ℕ) → x < n → (f : Formula k) → Valid n f → (M E : Machine k ℕ) → JoinedOf n f M → (Ok : ℕ → Type 0) (Has : ℕ → ℕ → Type 0)
      → Projects n x M E Ok Has → ((s s' : ℕ) → Ok s → Ok s' → ((q : ℕ) → Has s q ↔ Has s' q) → s ≡ s') → ConstructedOf n (exists x f) E
  unfolding constructed table_by joined_table projection_table
  of_exists x hx f vf M E m Ok Has Pr ext = record {
    decides = decides-exists n x hx M E Ok Has Pr f m.decides;
    alike = λ t u o o'.
        let F : Table k = joined_table n f in
        let N : Machine k ℕ = F.machine in
        let B : Bounded n F.count N = (joined-right n f vf).0 in
        let b = build-alike n (2 ^ F.count) (projection n x F.count N) (projection-bounded n x F.count hx N B) t u o o' in
        let i = projection-kernel n x F.count hx N B t u o o' in
        let j = sets-kernel n x hx M E Ok Has Pr ext t u o o' in
        let a = m.alike in
        let a' = alike-sym n M N a in (
          (λ e. b.1 (i.1 (λ q. (comes_alike n x M N a t u (λ r. (j.0 e r).0) q, comes_alike n x M N a u t (λ r. (j.0 e r).1) q)))),
          λ e. j.1 (λ q. (comes_alike n x N M a' t u (λ r. (i.0 (b.0 e) r).0) q, comes_alike n x N M a' u t (λ r. (i.0 (b.0 e) r).1) q)),
        );
  }

  -- the states found, numbered in the order found
  module _ (M : Machine k ℕ) (L : List ℕ) (v : Lists n M L) where
    pub of_numbered : (f : Formula k) {a : Table k} → MachineOf n f a M → MachineOf n f a (numbered M L)
    of_numbered f {a} m = record {
      decides = numbered-decides n M L v.begins v.closed f m.decides;
      alike = alike_trans n (numbered M L) M a.machine (numbered-alike n M L v.begins v.closed) m.alike;
    }

  -- a table that does the same at its own states will do
  module _ (c : ℕ) (M N : Machine k ℕ) (B : Bounded n c M) (a : Agrees n c M N) where
    pub of_agrees : (f : Formula k) {b : Table k} → MachineOf n f b M → MachineOf n f b N
    of_agrees f m = record {
      decides = λ t o A r. let w = run-agrees n c M N B a t o in
          subst (λ (x : Bool). T x ↔ Holds f A) (a.accepts (run M t) w.1 ∙ ap N.accepting w.0) (m.decides t o A r);
      alike = λ t u o o'. let w = run-agrees n c M N B a t o in let z = run-agrees n c M N B a u o' in let i = m.alike t u o o' in
          ((λ e. i.0 (w.0 ∙ e ∙ sym z.0)), λ e. sym w.0 ∙ i.1 e ∙ z.0);
    }

    pub full-agrees : ((q : ℕ) → q < c → Reached M (below (2 ^ n)) q) → Full n c N
    full-agrees r = (
      (subst (λ (z : ℕ). z < c) a.starts B.0, λ l h s u. subst (λ (z : ℕ). z < c) (a.steps l h s u) (B.1 l h s u)),
      λ q h. let w = reached-tree n M q (r q h) in
          subst (λ (z : ℕ). Reached N (below (2 ^ n)) z) (sym (run-agrees n c M N B a w.0 w.1).0 ∙ w.2) (tree-reached n N w.0 w.1),
    )

-- a number for each i below c
choose : (c : ℕ) (R : ℕ → ℕ → Type 0) → ((i : ℕ) → i < c → (q : ℕ) × R i q) → (f : ℕ → ℕ) × ((i : ℕ) → i < c → R i (f i))
choose c R h = ((λ i. (at i).0), λ i p. (at i).1 p)
  where
    at : (i : ℕ) → (q : ℕ) × (i < c → R i q)
    at i = elim (dec_lt i c) [ yes p ↦ (let w = h i p in (w.0, λ _. w.1)) | no p ↦ (0, λ l. absurd (p l)) ]

module _ {k : ℕ} (n d : ℕ) (M N : Machine k ℕ) (a : Alike n M N) (F : Full n d N) where
  -- c different states of M: N has at least c states
  spread : (c : ℕ) (g : ℕ → ℕ) → ((i : ℕ) → i < c → Reached M (below (2 ^ n)) (g i)) → ((i j : ℕ) → i < j → j < c → g i ≡ g j → ⊥) → c ≤ d
  spread c g r apart =
      let w = choose c (λ i q. (u : Tree k) × Proper n u × (run M u ≡ g i) × (run N u ≡ q))
      (λ i h. let t = reached-tree n M (g i) (r i h) in (run N t.0, (t.0, t.1, t.2, refl))) in
      pigeon d c w.0
      (λ i h. let t = w.1 i h in subst (λ (z : ℕ). z < d) t.3 (run-below n d N F t.0 t.1))
      (λ i j h l e. let t = w.1 i (omega arith) in let u = w.1 j l in
      apart i j h l (sym t.2 ∙ (a t.0 u.0 t.1 u.1).1 (t.3 ∙ e ∙ sym u.3) ∙ u.2))

pub same_count : {k : ℕ} (n c d : ℕ) (M N : Machine k ℕ) → Alike n M N → Full n c M → Full n d N → c ≡ d
same_count n c d M N a F G = le_antisymm
    (spread n d M N a G c (λ i. i) F.1 (λ i j h l e. omega arith))
    (spread n c N M (alike-sym n M N a) F d (λ i. i) G.1 (λ i j h l e. omega arith))

module _ {k : ℕ} (n : ℕ) (f : Formula k) (v : Valid n f) (M : Machine k ℕ) (m : ConstructedOf n f M) where
  abbrev right : Right {k = k} n f (constructed n f)
  right = constructed-right n f v

  -- a construction of f whose states are all reached has the count of states
  pub states-any : (c : ℕ) → Full n c M → c ≡ (constructed n f).count
  states-any c F = same_count n c (constructed n f).count M (constructed n f).machine m.alike F (right.0, right.2)

  -- more than c different states found: it has more than c
  pub over_index : (c many : ℕ) (g : ℕ → ℕ) → ((i : ℕ) → i < many → Reached M (below (2 ^ n)) (g i)) → ((i j : ℕ) → i < j → j < many → g i ≡ g j → ⊥)
      → c < many → c < (constructed n f).count
  over_index c many g u apart l =
      let a = spread n (constructed n f).count M (constructed n f).machine m.alike (right.0, right.2) many g u apart in omega arith

  -- JOINED, it is the joined machine
  pub of_join : (c : ℕ) → Full n c M → JoinedOf n f (join n (record { count = c; machine = M })).machine
  unfolding joined_table
  of_join c F =
      let a : Table k = record { count = c; machine = M } in
      record {
        decides = agree_decides n f (join n a).machine M (joined-accepts n a F) m.decides;
        alike = joined-alike n a (constructed n f) F (right.0, right.2) (deciders_agree n f M (constructed n f).machine m.decides right.1);
      }

  pub full-join : (c : ℕ) → Full n c M → let b = join n (record { count = c; machine = M }) in Full n b.count b.machine
  full-join c F = joined-full n (record { count = c; machine = M }) F

module _ (k n : ℕ) (rs : List Record) (ok : Accepted k n rs) where
  -- and the search over it gives decide's answer
  pub decide-any : (c P : ℕ) → Roomy k n rs c → (M : Machine k ℕ) → JoinedOf n (formula_at rs (last_of rs)) M → (q : ℕ) → Full n q M
      → report q (search (2 ^ n) (record { count = q; machine = M }) P) ≡ decide_of k n rs c P
  decide-any c P R M m q F =
      let f : Formula k = formula_at rs (last_of rs) in
      let j = joined-right n f (last-valid k n rs c P ok) in
      let e : q ≡ (joined_table n f).count =
      same_count n q (joined_table n f).count M (joined_table n f).machine m.alike F (j.0, j.2) in
      ap (λ (z : ℕ). report z (search (2 ^ n) (record { count = q; machine = M }) P)) e
      ∙ ap (report (joined_table n f).count) (search-same n P (record { count = q; machine = M }) (joined_table n f) F (j.0, j.2)
      (deciders_agree n f M (joined_table n f).machine m.decides j.1))
      ∙ sym (decide-roomy k n rs c P ok R)

  pub judge_any : (c : ℕ) → Roomy k n rs c → (M : Machine k ℕ) → JoinedOf n (formula_at rs (last_of rs)) M → (t : Tree k) (A : Assignment k) → TreeOf n A t
      → say (M.accepting (run M t)) ≡ judge_of n rs c t
  unfolding say
  judge_any c R M m t A o = go (M.accepting (run M t)) (m.decides t o.proper A o.bits) (judge_judges k n rs c 0 ok t)
    where
      go : (v : Bool) → T v ↔ Holds (formula_at rs (last_of rs)) A → Judges n rs c t (judge_of n rs c t) → say v ≡ judge_of n rs c t
      go true i j = sym ((j.yes_is R A o).1 (i.0 tt))
      go false i j = sym ((j.no_is R A o).1 i.1)
