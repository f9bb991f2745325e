-- A table that is copied, row by row and label by label; and the machine of "not", which has its part's table and the other states
-- accepting. Assumes nothing.
use Rattle.words.proofs.Vocabulary.{ℕ, ◌≤◌, ◌<◌, ◌+◌, ◌-◌, ◌≡◌, ◌∙◌, refl, sym, ap, subst, ap₂, ⊎_elim, inl, inr, ◌⊎◌, List, [], ◌∷◌, length, get_or}
use Rattle.words.proofs.Vocabulary.{drop, length-drop, get_or-drop, ext_get_or, eq-or-lt_of_le, dec_lt, arith}
use Rattle.std.specs.List.{CopiedTo, SameBelow, SameFrom}
use Rattle.layout.specs.Shape.{Shaped, labels_in, share_of, share_at, place_in, Tuple}
use Rattle.layout.specs.declared.Shape.{Shape}
use Rattle.layout.proofs.Places.{tuple_up, pair_in, pairs_of, place-in, place-one, place-two}
use Rattle.table.specs.Entry.{seen, entry, through}
use Rattle.ops.specs.declared.Op.{Op}
use Rattle.ops.specs.declared.Op.TheVariants.{Not}
use Rattle.table.proofs.Masks.{seen_le, seen-seen}
use Rattle.records.specs.Complement.{Copied, Bytes, Rows, Entries}
use Rattle.records.specs.Machine.{others_of, TableHolds}
use Rattle.records.specs.Rule.{Mach, complement_of, machine_of, OfParts, Stored, PartsStored, Added, Spared}
use Rattle.records.specs.declared.Decoded.{Decoded}
use Rattle.records.specs.declared.Summary.{Summary}
use Rattle.records.proofs.Shares.{placed}

below_next : (m l : ℕ) → m < l + 1 → (m ≡ l) ⊎ (m < l)
below_next m l h = eq-or-lt_of_le (omega arith)

-- the entries for label l, state i and a second state below n
abbrev Row : Shape → ℕ → ℕ → ℕ → ℕ → Type 0
Row s l n i k = (j : ℕ) × (j < n) × (k ≡ place_in s l (i ∷ j ∷ []))

-- ---- n bytes, as the library's copy within a slice copies them
pub copied_within : (n from to : ℕ) (ws ws' : List ℕ) → length ws' ≡ length ws
    → CopiedTo ws ws' from to (from + n - from) × SameBelow ws ws' to × SameFrom ws ws' (to + (from + n - from)) → Copied (Bytes n) from to ws ws'
copied_within n from to ws ws' long v = record {
  long = long;
  there = λ k h. v.0 (to + k) 0 (omega arith) (omega arith) ∙ ap (λ (z : ℕ). get_or ws z 0) (omega arith);
  rest = λ q h. elim (dec_lt q to) [
    | yes l ↦ v.1 q 0 l
    | no l ↦ elim (dec_lt q (to + n)) [ yes k ↦ absurd (h (q - to) (omega arith) (omega arith)) | no k ↦ v.2 q 0 (omega arith) ]
  ];
}

module _ {from to : ℕ} where
  copied_as : {at all : ℕ → Type 0} {ws ws' : List ℕ} → ((k : ℕ) → all k → at k) → ((k : ℕ) → at k → all k) → Copied at from to ws ws'
      → Copied all from to ws ws'
  copied_as f g w = record { long = w.long; there = λ k h. w.there k (f k h); rest = λ q h. w.rest q (λ k a. h k (g k a)) }

  -- further offsets: what is copied from lies before what is copied to
  copied_next : {at more all : ℕ → Type 0} {ws₀ ws ws' : List ℕ} → Copied at from to ws₀ ws → Copied more from to ws ws'
      → ((k : ℕ) → all k → at k ⊎ more k) → ((k : ℕ) → at k ⊎ more k → all k) → ((k : ℕ) → at k → more k → ⊥) → ((k : ℕ) → more k → from + k < to)
      → Copied all from to ws₀ ws'
  copied_next {at} {more} f g split join apart before = record {
    long = g.long ∙ f.long;
    there = λ k h. ⊎_elim
        (λ (a : at k). g.rest (to + k) (λ j m e. apart k a (subst more (omega arith) m)) ∙ f.there k a)
        (λ (m : more k). g.there k m ∙ f.rest (from + k) (λ j a e. omega (arith, before k m)))
        (split k h);
    rest = λ q h. g.rest q (λ k m. h k (join k (inr m))) ∙ f.rest q (λ k a. h k (join k (inl a)));
  }

  module _ (s : Shape) (shape : Shaped s) (apart : from + share_of s ≤ to) where
    -- ---- one row more
    pub row_next : {ws₀ ws ws' : List ℕ} (l n i k : ℕ) → l < labels_in s → n ≤ s.ceiling → i < n → k ≡ place_in s l (i ∷ 0 ∷ [])
        → Copied (Rows s l n i) from to ws₀ ws → Copied (Bytes n) (from + k) (to + k) ws ws' → Copied (Rows s l n (i + 1)) from to ws₀ ws'
    row_next {ws₀} {ws} {ws'} l n i k hl hn hi ek f g =
        copied_next f row
        (λ q w. ⊎_elim (λ (e : w.0 ≡ i). inr (w.1, w.3, w.4 ∙ ap (λ (z : ℕ). place_in s l (z ∷ w.1 ∷ [])) e))
        (λ (h : w.0 < i). inl (w.0, w.1, h, w.3, w.4)) (below_next w.0 i w.2))
        (λ q. ⊎_elim (λ (w : Rows s l n i q). (w.0, w.1, omega (arith, w.2), w.3, w.4)) (λ (w : Row s l n i q). (i, w.0, omega arith, w.1, w.2)))
        (λ q w z. differ w.0 w.1 z.0 w.2 w.3 z.1 (sym w.4 ∙ z.2))
        (λ q w. omega (arith, w.2, place-in s l (i ∷ w.0 ∷ []) hl (pair_in s shape (omega arith) (omega (arith, w.1)))))
      where
        offset : (j : ℕ) → place_in s l (i ∷ j ∷ []) ≡ k + j
        offset j = omega (arith, place-two s l i j, place-two s l i 0)

        differ : (a j b : ℕ) → a < i → j < n → b < n → place_in s l (a ∷ j ∷ []) ≡ place_in s l (i ∷ b ∷ []) → ⊥
        differ a j b ha hj hb e =
            let z = (place-one s l l (a ∷ j ∷ []) (i ∷ b ∷ []) (pair_in s shape (omega arith) (omega arith))
            (pair_in s shape (omega arith) (omega arith)) e).1 in
            let y : a ≡ i = cc in
            omega arith

        row : Copied (Row s l n i) from to ws ws'
        row = record {
          long = g.long;
          there = λ q w.
              let a : to + q ≡ to + k + w.0 = omega (arith, w.2, offset w.0) in
              let b : from + k + w.0 ≡ from + q = omega (arith, w.2, offset w.0) in
              ap (λ (z : ℕ). get_or ws' z 0) a ∙ g.there w.0 w.1 ∙ ap (λ (z : ℕ). get_or ws z 0) b;
          rest = λ q h. g.rest q (λ j hj e. h (k + j) (j, hj, sym (offset j)) (omega arith));
        }

    -- ---- one label more: passed where the table has no entries at it
    pub label-passed : {ws₀ ws : List ℕ} (bits n l : ℕ) → seen bits l < l → Copied (Entries s bits n l) from to ws₀ ws
        → Copied (Entries s bits n (l + 1)) from to ws₀ ws
    label-passed bits n l h =
        copied_as (λ q w. ⊎_elim (λ (e : w.0 ≡ l). absurd (let z = subst (λ (m : ℕ). m ≤ seen bits m) e w.3 in omega arith))
        (λ (i : w.0 < l). (w.0, w.1, i, w.3, w.4, w.5)) (below_next w.0 l w.2))
        (λ q w. (w.0, w.1, omega (arith, w.2), w.3, w.4, w.5))

    pub label-next : {ws₀ ws ws' : List ℕ} (bits n l : ℕ) → l < labels_in s → n ≤ s.ceiling → l ≤ seen bits l → Copied (Entries s bits n l) from to ws₀ ws
        → Copied (Rows s l n n) from to ws ws' → Copied (Entries s bits n (l + 1)) from to ws₀ ws'
    label-next bits n l hl hn own f g =
        copied_next f g
        (λ q w. ⊎_elim (λ (e : w.0 ≡ l). inr (pairs_of s shape (λ (is : List ℕ). place_in s l is ≡ q → Rows s l n n q)
        (λ i j hi hj e. (i, j, hi, hj, sym e)) w.1 w.4 (ap (λ (m : ℕ). place_in s m w.1) (sym e) ∙ sym w.5)))
        (λ (h : w.0 < l). inl (w.0, w.1, h, w.3, w.4, w.5)) (below_next w.0 l w.2))
        (λ q. ⊎_elim (λ (w : Entries s bits n l q). (w.0, w.1, omega (arith, w.2), w.3, w.4, w.5))
        (λ (w : Rows s l n n q). (l, w.0 ∷ w.1 ∷ [], omega arith, own, pair_in s shape w.2 w.3, w.4)))
        (λ q w z.
        let e = (place-one s w.0 l w.1 (z.0 ∷ z.1 ∷ []) (tuple_up hn w.4) (tuple_up hn (pair_in s shape z.2 z.3)) (sym w.5 ∙ z.4)).0 in
        omega (arith, w.2))
        (λ q w. omega (arith, w.4, place-in s l (w.0 ∷ w.1 ∷ []) hl (tuple_up hn (pair_in s shape w.2 w.3))))

-- ---- the machine of "not" is its part's, with the other states accepting
module _ (x : Decoded) (r : ℕ) (s : Shape) (kf kg : Summary) (ws : List ℕ) (f g : Mach) (is_not : x.kind ≡ Not)
    (stored : PartsStored x s kf kg ws f g) where
  part : Stored s (share_at s x.first) f kf ws
  part = subst (λ (k : Op). OfParts k (Stored s (share_at s x.first) f kf ws) (Stored s (share_at s x.second) g kg ws)) is_not stored

  pub few-part : kf.count ≤ s.ceiling
  few-part = omega (arith, part.count, part.few)

  module _ (ws' : List ℕ) (k : Summary) (copied : Copied (Entries s kf.looks kf.count (labels_in s)) (share_at s x.first) (share_at s r) ws ws') where
    as_counted : {is : List ℕ} → Tuple s.branches f.count is → Tuple s.branches kf.count is
    as_counted t = tuple_up (omega (arith, part.count)) t

    holds : TableHolds s ws' (share_at s r) kf.looks f.count f.step
    unfolding entry through
    holds l is hl t =
        let b = kf.looks in
        let old = part.holds l is hl t in
        (copied.there (place_in s (seen b l) is) (seen b l, is, omega (arith, seen_le b l), omega (arith, seen-seen b l), as_counted t, refl) ∙ old.0, old.1)

    pub added_not : k.count ≡ kf.count → k.accept ≡ others_of kf.accept kf.count → k.looks ≡ kf.looks → Added x s r kf kg f g k ws ws'
    unfolding machine_of
    added_not ec ea el = record {
      many = λ h. absurd (omega (arith, few-part));
      looks = λ _. el ∙ (rw is_not refl);
      few = λ _. (
        complement_of f,
        (rw is_not refl),
        placed s r (complement_of f) k ws ws' (record {
          count = ec ∙ part.count;
          accept = ea ∙ ap₂ others_of part.accept part.count;
          holds = subst (λ (l : ℕ). TableHolds s ws' (share_at s r) l f.count f.step) (sym el) holds;
          some-state = part.some-state;
          few = part.few;
        }) (λ q off. copied.rest q (λ i w e. off w.0 w.1 (subst (λ (b : ℕ). w.0 ≤ seen b w.0) (sym el) w.3)
            (tuple_up (omega (arith, part.count)) w.4) (e ∙ ap (λ (z : ℕ). share_at s r + z) w.5))),
      );
    }

-- what copying leaves as it was
pub copied_spared : (s : Shape) (r : ℕ) {from : ℕ} (bits n : ℕ) {ws ws' : List ℕ} → n ≤ s.ceiling
    → Copied (Entries s bits n (labels_in s)) from (share_at s r) ws ws' → Spared s r ws ws'
copied_spared s r bits n {ws} {ws'} hn w = record {
  low = λ q h. w.rest q (λ k a e. omega arith);
  high = ext_get_or 0 (drop end ws') (drop end ws) (length-drop end ws' ∙ ap (λ (z : ℕ). z - end) w.long ∙ sym (length-drop end ws)) (λ i h.
      get_or-drop end ws' i 0
      ∙ w.rest (end + i) (λ k a e. omega (arith, a.5, place-in s a.0 a.1 a.2 (tuple_up hn a.4))) ∙ sym (get_or-drop end ws i 0));
}
  where
    end : ℕ
    end = share_at s r + share_of s
