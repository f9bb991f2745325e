-- Parts joined one after the other, each in a share of its own behind the records': what is joined stays where it is, and is what the
-- definition of the trials joins. Assumes nothing.
use Rattle.words.proofs.Vocabulary.{ℕ, ◌≤◌, ◌<◌, ◌+◌, ◌-◌, ◌≡◌, refl, sym, ap, subst, ◌∙◌, List, [], ◌∷◌, length, get_or, drop, arith}
use Rattle.words.proofs.Vocabulary.{lt-ltb, le-ltb, get_or-take, add-one, eq-or-lt_of_le, ⊎_elim}
use lib.ListN.{drop_of_length-le}
use lib.Seq.{drop-cons}
use Rattle.layout.specs.Shape.{share_at, share_of}
use Rattle.layout.proofs.Places.{share-next}
use Rattle.logic.specs.Meaning.{Formula, conjunction, Valid}
use Rattle.logic.specs.Rule.{formula_at}
use Rattle.logic.specs.ReachedRecords.{ReachedRecord}
use Rattle.logic.specs.Table.{table_by}
use Rattle.logic.specs.Joined.{constructed, joined_table}
use Rattle.logic.proofs.Numbered.{get_or-elem}
use Rattle.logic.proofs.Rules.{record_valid, reached-within}
use Rattle.parts.specs.Parts.{parts_of}
use Rattle.parts.specs.Listed.{Listed}
use Rattle.parts.proofs.PartLaws.{part-reached}
use Rattle.rule_strip.specs.RuleStrip.{variables_of, count_of, records_of}
use Rattle.rule_strip.proofs.RuleLaws.{rule-accepted}
use Rattle.records.specs.Rule.{Spared}
use Rattle.records.specs.declared.Summary.{Summary}
use Rattle.records.proofs.Shares.{drop-later}
use Rattle.building.proofs.OneRecord.{stored_same}
use Rattle.rules.specs.Building.{rule_shape, MachineFor, ReachedBuilt}
use Rattle.rules.proofs.Rules.{rule-sizes}
use Rattle.std.specs.Prelude.{Option, None, Some, Result, Ok, Err}
use Rattle.refusals.specs.declared.OverCeiling.{OverCeiling}
use Rattle.trials.specs.Joins.{Joint as Conjunct, joint_over, join_one, join_from}
use Rattle.trying.specs.Trying.{Triable, SomePair, Conjoins, joiner_of, JointMade, JointOf, SomeJoint, JoinsPart, JoinsRest, Confined}
use Rattle.trying.specs.declared.joint.Made.{Made}

-- ---- what stays
pub share_le : (rule : List ℕ) (c a b : ℕ) → a ≤ b → share_at (rule_shape rule c) a ≤ share_at (rule_shape rule c) b
share_le rule c a b h = ⊎_elim (λ e. rw e (omega arith)) (λ l. omega (arith, share-next (rule_shape rule c) a b l)) (eq-or-lt_of_le h)

pub confined-none : {rule : List ℕ} {c r : ℕ} {ws : List ℕ} → Confined rule c r ws ws
confined-none = record { records = λ q h. refl; earlier = λ q h. refl; beyond = refl }

pub confined-more : {rule : List ℕ} {c r s : ℕ} {ws ws' ws'' : List ℕ} → r ≤ s → Confined rule c r ws ws' → Confined rule c s ws' ws'' → Confined rule c r ws ws''
confined-more {rule} {c} {r} {s} h a b = record {
  records = λ q l. b.records q l ∙ a.records q l;
  earlier = λ q l. b.earlier q (omega (arith, share_le rule c r s h)) ∙ a.earlier q l;
  beyond = b.beyond ∙ a.beyond;
}

-- fewer shares are changed
pub confined-from : {rule : List ℕ} {c : ℕ} (r s : ℕ) {ws ws' : List ℕ} → r ≤ s → Confined rule c s ws ws' → Confined rule c r ws ws'
confined-from r s h b = confined-more h confined-none b

-- one share behind the records' own
pub confined-share : {rule : List ℕ} {c r : ℕ} {ws ws' : List ℕ} → count_of rule ≤ r → r < count_of rule + 15 → Spared (rule_shape rule c) r ws ws'
    → Confined rule c r ws ws'
confined-share {rule} {c} {r} {ws} {ws'} from to sp =
    let s = rule_shape rule c in
    record {
      records = λ q h. sp.low q (omega (arith, share_le rule c (count_of rule) r from));
      earlier = sp.low;
      beyond = drop-later (share_at s r + share_of s) (share_at s (count_of rule + 15)) ws' ws (share-next s r (count_of rule + 15) to) sp.high;
    }

module _ {rule : List ℕ} {c r : ℕ} {ws ws' : List ℕ} (same : length ws' ≡ length ws) (k : Confined rule c r ws ws') where
  machine-stays : {a : ℕ} {f : Summary} {F : Formula 2}
      → ((q : ℕ) → q < share_at (rule_shape rule c) a + share_of (rule_shape rule c) → get_or ws' q 0 ≡ get_or ws q 0)
      → MachineFor rule c ws a f F → MachineFor rule c ws' a f F
  machine-stays {a} h u =
      let v = u.readable in
      record {
        readable = record {
          shape = v.shape;
          number = v.number;
          share = omega (arith, same, v.share);
          machine = v.machine;
          stored = stored_same a (λ q from to. h q to) v.stored;
        };
        decides = u.decides;
        full = u.full;
      }

  -- a machine that stands before what is changed
  pub earlier-stays : (a : ℕ) → a < r → {f : Summary} {F : Formula 2} → MachineFor rule c ws a f F → MachineFor rule c ws' a f F
  earlier-stays a h = machine-stays (λ q l. k.earlier q (omega (arith, share-next (rule_shape rule c) a r h)))

  -- the machines of the records
  pub reached_stay : {es : ℕ → Summary} → ((i : ℕ) → ReachedRecord (records_of rule) i → i < count_of rule)
      → ReachedBuilt rule c es ws → ReachedBuilt rule c es ws'
  reached_stay within b i u =
      machine-stays (λ q l. k.records q (omega (arith, share-next (rule_shape rule c) i (count_of rule) (within i u)))) (b i u)

  -- what is joined before it
  pub joint-stays : (end later : ℕ) → end ≤ r → end ≤ later → (j : Option Made) (x : Conjunct 2) → JointOf rule c ws end j x → JointOf rule c ws' later j x
  joint-stays end later h l None x e = e
  joint-stays end later h l (Some m) x e = record {
    formula = e.formula;
    valid = e.valid;
    joined = e.joined;
    before = omega (arith, e.before);
    behind = omega (arith, e.behind);
    machine = earlier-stays m.number (omega (arith, e.before)) e.machine;
  }

-- ---- one part
module _ {rule : List ℕ} {c room : ℕ} (t : Triable rule c room) where
  pub reached-below : (i : ℕ) → ReachedRecord (records_of rule) i → (i < count_of rule) × (i < 128)
  reached-below i u =
      let a = rule-accepted rule t.work.sound in
      let h = reached-within 2 (variables_of rule) (records_of rule) a.records-accepted i u in
      (omega (arith, a.records-count), omega (arith, a.records-count, a.few-records))

  valid_record : (i : ℕ) → ReachedRecord (records_of rule) i → Valid {k = 2} (variables_of rule) (formula_at (records_of rule) i)
  valid_record i u =
      let a = rule-accepted rule t.work.sound in
      record_valid 2 (variables_of rule) (records_of rule) a.records-accepted.1 i
      (reached-within 2 (variables_of rule) (records_of rule) a.records-accepted i u)

  module _ {ws : List ℕ} {es : ℕ → Summary} (b : ReachedBuilt rule c es ws) {q : ℕ} (u : ReachedRecord (records_of rule) q) (r : ℕ)
      (h : count_of rule ≤ r + 1) where
    -- the part, with what is kept of its machine
    abbrev part : Made
    part = record { number = q; machine = es q }

    -- two machines to be joined
    pub joins_pair : {m : Made} {x : Conjunct 2} → JointMade rule c ws r m x → SomePair rule c ws m part
    joins_pair m = (m.formula, formula_at (records_of rule) q, m.machine, b q u)

    pub joins-first : {j : Result (Option Made) OverCeiling} → j ≡ Ok None → JoinsPart rule c ws r j q ws (Ok part)
    unfolding join_one
    joins-first e x z = record {
      formula = formula_at (records_of rule) q;
      valid = valid_record q u;
      joined = rw (rw e at z) refl;
      before = omega (arith, reached-below q u);
      behind = omega arith;
      machine = b q u;
    }

    pub joins-made : (ws' : List ℕ) {m : Made} (k : Result Made OverCeiling) → Conjoins rule c ws m part ws' r k → {j : Result (Option Made) OverCeiling}
        → j ≡ Ok (Some m) → JoinsPart rule c ws r j q ws' k
    unfolding join_one joined_table constructed table_by Valid
    joins-made ws' {m} k z e = subst (λ (j : Result (Option Made) OverCeiling). JoinsPart rule c ws r j q ws' k) (sym e) (made k z)
      where
        made : (k : Result Made OverCeiling) → Conjoins rule c ws m part ws' r k → JoinsPart rule c ws r (Ok (Some m)) q ws' k
        made (Ok k) z x e =
            let G = formula_at (records_of rule) q in
            let w = z e.formula G e.valid (valid_record q u) e.machine (b q u) in
            record {
              formula = conjunction e.formula G;
              valid = (e.valid, valid_record q u);
              joined = rw (e.joined, le-ltb c (constructed (variables_of rule) (conjunction e.formula G)).count w.1) refl;
              before = omega (arith, w.0);
              behind = omega arith;
              machine = w.2;
            }
        made (Err o) z x e =
            let G = formula_at (records_of rule) q in
            let w = z e.formula G e.valid (valid_record q u) e.machine (b q u) in
            rw (e.joined, lt-ltb c (constructed (variables_of rule) (conjunction e.formula G)).count w.1, w.0) refl

-- ---- the parts, left to right
-- the entries of the array are the parts
module _ {rule : List ℕ} {c room : ℕ} (t : Triable rule c room) {count : ℕ} {xs : List ℕ} (l : Listed (parts_of (records_of rule)) count xs) where
  abbrev ps : List ℕ
  ps = parts_of (records_of rule)

  pub part_at : (p : ℕ) → p < count → get_or xs p 0 ≡ get_or ps p 0
  part_at p h = sym (get_or-take count xs p 0 h) ∙ ap (λ (v : List ℕ). get_or v p 0) l.front

  pub part_is : (p : ℕ) → p < count → ReachedRecord (records_of rule) (get_or xs p 0)
  part_is p h =
      let a = rule-accepted rule t.work.sound in
      subst (ReachedRecord (records_of rule)) (sym (part_at p h))
      (part-reached 2 (variables_of rule) (records_of rule) a.records-accepted (get_or ps p 0) (get_or-elem ps p (omega (arith, l.counted))))

  pub parts_from : (p : ℕ) → p < count → drop p ps ≡ get_or xs p 0 ∷ drop (p + 1) ps
  parts_from p h = rw (add-one p) (drop-cons ps p 0 (omega (arith, l.counted))) ∙ ap (λ (q : ℕ). q ∷ drop (p + 1) ps) (sym (part_at p h))

-- the numbers of a part's share
pub numbers : {rule : List ℕ} {c room : ℕ} → Triable rule c room → {m : ℕ} → m ≡ count_of rule → {p count : ℕ} → p < count → count ≤ 16
    → (p < 16) × (1 ≤ m) × (m ≤ 128) × (count_of rule ≡ m)
numbers t e h k = let z = rule-sizes t.work in (omega arith, omega (arith, e, z), omega (arith, e, z), sym e)

-- where a join goes over, no part behind it changes that
pub over-stays : (rule : List ℕ) (c : ℕ) (L : List ℕ) (q : ℕ) → join_from (joiner_of rule) c (joint_over q) L ≡ joint_over q
unfolding join_from join_one
over-stays rule c [] q = refl
over-stays rule c (p ∷ L) q = over-stays rule c L q

-- and so it is told on
module _ (rule : List ℕ) (c : ℕ) (ws : List ℕ) (o : OverCeiling) where
  pub joins-over : (r q : ℕ) {j : Result (Option Made) OverCeiling} → j ≡ Err o → JoinsPart rule c ws r j q ws (Err o)
  unfolding join_one
  joins-over r q h x e = rw (rw h at e) refl

  pub rest-over : (i : ℕ) {j : Result (Option Made) OverCeiling} → j ≡ Err o → JoinsRest rule c ws i j ws (Err o)
  rest-over i h x e = rw (rw h at e) (over-stays rule c (drop i (parts_of (records_of rule))) o.at)

-- in the loop that joins the parts from number i on: those up to number p are joined
pub record Joining (rule : List ℕ) (c : ℕ) (ws₀ : List ℕ) (i : ℕ) (j : Option Made) (ws : List ℕ) (p : ℕ) (k : Option Made) : Type 0 where
  pub begun : i ≤ p
  pub long : length ws ≡ length ws₀
  pub confined : Confined rule c (count_of rule + i - 1) ws₀ ws
  pub joined : (x : Conjunct 2) → JointOf rule c ws₀ (count_of rule + i - 1) j x
      → (y : Conjunct 2) × JointOf rule c ws (count_of rule + p - 1) k y
      × (join_from (joiner_of rule) c y (drop p (parts_of (records_of rule))) ≡ join_from (joiner_of rule) c x (drop i (parts_of (records_of rule))))

pub joining_first : {rule : List ℕ} {c : ℕ} {ws : List ℕ} {i : ℕ} {j : Option Made} → Joining rule c ws i j ws i j
joining_first = record { begun = omega arith; long = refl; confined = confined-none; joined = λ x h. (x, h, refl) }

module _ {rule : List ℕ} {c room : ℕ} (t : Triable rule c room) {count : ℕ} {xs : List ℕ} (l : Listed (parts_of (records_of rule)) count xs)
    {ws₀ : List ℕ} {i : ℕ} {j : Option Made} {ws : List ℕ} {p : ℕ} {k : Option Made} (s : Joining rule c ws₀ i j ws p k) where
  -- what a turn asks
  pub joining_asks : length ws₀ ≡ room → {es : ℕ → Summary} → ReachedBuilt rule c es ws₀ → SomeJoint rule c ws₀ (count_of rule + i - 1) (Ok j)
      → Triable rule c (length ws) × (ReachedBuilt rule c es ws × SomeJoint rule c ws (count_of rule + p - 1) (Ok k))
  joining_asks e b h =
      let y = s.joined h.0 h.1 in (
        subst (Triable rule c) (sym (s.long ∙ e)) t,
        (reached_stay s.long s.confined (λ r u. (reached-below t r u).0) b, (y.0, y.1)),
      )

  module _ (h : p < count) {ws' : List ℕ} (f : Confined rule c (count_of rule + p - 1) ws ws') where
    pub joining_confined : Confined rule c (count_of rule + i - 1) ws₀ ws'
    joining_confined = confined-more (omega (arith, s.begun)) s.confined f

    pub joining_next : length ws' ≡ length ws → (k' : Made) → JoinsPart rule c ws (count_of rule + p - 1) (Ok k) (get_or xs p 0) ws' (Ok k')
        → Joining rule c ws₀ i j ws' (p + 1) (Some k')
    unfolding join_from
    joining_next same k' z = record {
      begun = omega (arith, s.begun);
      long = same ∙ s.long;
      confined = joining_confined;
      joined = λ x u.
          let y = s.joined x u in
          let one : count_of rule + p - 1 + 1 ≡ count_of rule + (p + 1) - 1 = omega (arith, (rule-accepted rule t.work.sound).some_record) in (
            join_one (joiner_of rule) c y.0 (get_or xs p 0),
            subst (λ (end : ℕ). JointOf rule c ws' end (Some k') (join_one (joiner_of rule) c y.0 (get_or xs p 0))) one (z y.0 y.1),
            (rw (parts_from t l p h) at y.2),
          );
    }

    pub joining_over : (o : OverCeiling) → JoinsPart rule c ws (count_of rule + p - 1) (Ok k) (get_or xs p 0) ws' (Err o) → JoinsRest rule c ws₀ i (Ok j) ws' (Err o)
    unfolding join_from
    joining_over o z x u =
        let y = s.joined x u in
        sym (rw (parts_from t l p h) at y.2)
        ∙ ap (λ (v : Conjunct 2). join_from (joiner_of rule) c v (drop (p + 1) (parts_of (records_of rule)))) (z y.0 y.1)
        ∙ over-stays rule c (drop (p + 1) (parts_of (records_of rule))) o.at

  pub joining_last : count ≤ p → p ≤ count → JoinsRest rule c ws₀ i (Ok j) ws (Ok k)
  unfolding join_from
  joining_last from to x u =
      let ps = parts_of (records_of rule) in
      let e : p ≡ length ps = omega (arith, l.counted) in
      let y = s.joined x u in
      let none : drop p ps ≡ [] = drop_of_length-le ps {i = p} (omega (arith, e)) in
      let told : y.0 ≡ join_from (joiner_of rule) c x (drop i ps) = rw none at y.2 in
      subst (λ (z : Conjunct 2). JointOf rule c ws (count_of rule + length ps - 1) k z) told
      (subst (λ (q : ℕ). JointOf rule c ws (count_of rule + q - 1) k y.0) e y.1)
