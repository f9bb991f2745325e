-- One record built, over the machines of any records: the others stay stored, whether they come before it or after it. Assumes nothing.
use Rattle.words.proofs.Vocabulary.{ℕ, ◌≤◌, ◌<◌, ◌+◌, ◌-◌, ◌≡◌, ◌∙◌, refl, sym, ap, List, Bool, true, false, T, get_or, length}
use Rattle.words.proofs.Vocabulary.{get_or-set_other, get_or-set_same, get_or-drop, drop, ℕ_discrete, eq-eqb, ne_eqb, arith}
use Rattle.layout.specs.Shape.{share_of, share_at, place_in}
use Rattle.layout.specs.declared.Shape.{Shape}
use Rattle.layout.proofs.Places.{tuple_up, place-in, share-next}
use Rattle.table.specs.Entry.{entry, through, seen}
use Rattle.table.proofs.Masks.{seen_le}
use Rattle.records.specs.Rule.{Mach, Stored, PartsStored, Spared}
use Rattle.joining.specs.Joining.{joined_of}
use Rattle.joining.specs.Record.{AddsJoined}
use Rattle.records.specs.declared.Decoded.{Decoded}
use Rattle.records.specs.declared.Summary.{Summary}
use Rattle.logic.proofs.Orders.{less, same as equal, more, ℕ-tri}
use Rattle.building.specs.Named.{NamesUsed}
use Rattle.building.specs.OneRecord.{AllStored, changed, Builds}
use Rattle.building.specs.Build.{entry_of, entered}
use Rattle.building.specs.declared.Machines.{Machines}
use Rattle.refusals.specs.declared.OverCeiling.{OverCeiling}
use Rattle.std.specs.Prelude.{Result, IsOk, IsErr, IfErr}
use Rattle.building.proofs.Marks.{all_named}

-- ---- one value changed
changed-here : {A : Type 0} (f : ℕ → A) (r : ℕ) (v : A) → changed f r v r ≡ v
unfolding changed
changed-here f r v = rw (eq-eqb r r refl)

pub changed-other : {A : Type 0} (f : ℕ → A) (r : ℕ) (v : A) (a : ℕ) → (a ≡ r → ⊥) → changed f r v a ≡ f a
unfolding changed
changed-other f r v a d = rw (ne_eqb a r d)

-- ---- the shares of the others
pub spared_at : {s : Shape} {r : ℕ} {ws ws' : List ℕ} → Spared s r ws ws' → (a q : ℕ) → (a ≡ r → ⊥) → share_at s a ≤ q → q < share_at s a + share_of s
    → get_or ws' q 0 ≡ get_or ws q 0
spared_at {s} {r} {ws} {ws'} sp a q d from to = elim (ℕ-tri a r) [
  | less l ↦ sp.low q (omega (arith, share-next s a r l))
  | equal e ↦ absurd (d e)
  | more l ↦
      let end = share_at s r + share_of s in
      let e : end + (q - end) ≡ q = omega (arith, share-next s r a l) in
      let at : (v : List ℕ) → get_or (drop end v) (q - end) 0 ≡ get_or v q 0 =
      λ v. get_or-drop end v (q - end) 0 ∙ ap (λ (i : ℕ). get_or v i 0) e in
      sym (at ws') ∙ ap (λ (v : List ℕ). get_or v (q - end) 0) sp.high ∙ at ws
]

-- a machine stays stored where its share stays
pub stored_same : {s : Shape} (a : ℕ) {m : Mach} {k : Summary} {ws ws' : List ℕ}
    → ((q : ℕ) → share_at s a ≤ q → q < share_at s a + share_of s → get_or ws' q 0 ≡ get_or ws q 0)
    → Stored s (share_at s a) m k ws → Stored s (share_at s a) m k ws'
unfolding entry through
stored_same {s} a {m} {k} {ws} {ws'} same st = record {
  count = st.count;
  accept = st.accept;
  holds = λ l is hl t.
      let b = seen k.looks l in
      let near = place-in s b is (omega (arith, seen_le k.looks l)) (tuple_up st.few t) in
      (same (share_at s a + place_in s b is) (omega arith) (omega arith) ∙ (st.holds l is hl t).0, (st.holds l is hl t).1);
  some-state = st.some-state;
  few = st.few;
}

-- ---- what is kept
module _ (t : Machines) (r : ℕ) (k : Summary) where
  pub entered-other : (a : ℕ) → (a ≡ r → ⊥) → entry_of (entered t r k) a ≡ entry_of t a
  entered-other a d =
      rw (get_or-set_other t.counts r a k.count 0 d, get_or-set_other t.accepts r a k.accept 0 d, get_or-set_other t.looks r a k.looks 0 d)

  pub entered_here : r < length t.counts → r < length t.accepts → r < length t.looks → entry_of (entered t r k) r ≡ k
  entered_here c a l =
      rw (get_or-set_same t.counts r k.count 0 c, get_or-set_same t.accepts r k.accept 0 a, get_or-set_same t.looks r k.looks 0 l)

-- ---- one record
-- what a record names is stored, if it is used
pub parts-stored : (x : Decoded) {s : Shape} {es : ℕ → Summary} {ws : List ℕ} (used : ℕ → Bool) (ms : ℕ → Mach) → AllStored used ms s es ws
    → NamesUsed used x → PartsStored x s (es x.first) (es x.second) ws (ms x.first) (ms x.second)
parts-stored x {s} {es} {ws} used ms all names =
    all_named x.kind x.first x.second (λ (i : ℕ). Stored s (share_at s i) (ms i) (es i) ws) (λ i e. all i (names i e))

-- ONE RECORD: by what `build_joined` says of k, and what is kept then
pub builds : {x : Decoded} {s : Shape} {r : ℕ} {es es' : ℕ → Summary} {k : Summary} {ws ws' : List ℕ} {end : Result Unit OverCeiling}
    → AddsJoined x s r (es x.first) (es x.second) k ws ws' → Spared s r ws ws' → ((a : ℕ) → (a ≡ r → IsErr end) → es' a ≡ es a)
    → IfErr end (λ o. o.at ≡ r) → (IsErr end → s.ceiling < k.count) → (IsOk end → (k.count ≤ s.ceiling) × (es' r ≡ k))
    → Builds x s r es es' ws ws' end
builds {x} {s} {r} {es} {es'} {k} {ws} {ws'} {end} adds sp same is_named many few = record {
  tried = λ used ms all names.
      let added = adds (ms x.first) (ms x.second) (parts-stored x used ms all names) in
      let others : (a : ℕ) → (a ≡ r → ⊥) → T (used a) → Stored s (share_at s a) (ms a) (es' a) ws' =
      λ a d u. rw (same a (λ e. absurd (d e))) (stored_same a (λ q. spared_at sp a q d) (all a u)) in
      record {
        others = λ a u. elim (ℕ_discrete a r) [
          | yes e ↦ absurd (rw (e, changed-here used r false) at u)
          | no d ↦ others a d (rw (changed-other used r false a d) at u)
        ];
        many = λ o. added.many (many o);
        few = λ o.
            let made = added.few (few o).0 in (
              made.0,
              made.1,
              rw (few o).1 made.2,
              λ a u. elim (ℕ_discrete a r) [
                | yes e ↦ rw (e, changed-here ms r (joined_of s made.0), (few o).1) made.2.stored
                | no d ↦ rw (changed-other ms r (joined_of s made.0) a d) (others a d (rw (changed-other used r true a d) at u))
              ],
            );
        looks = λ o. rw (few o).1 (added.looks (few o).0);
      };
  same = same;
  named = is_named;
  spared = sp;
}
