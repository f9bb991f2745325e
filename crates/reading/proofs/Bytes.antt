-- The machine that a table in bytes stands for does what the machine does that is stored there. Assumes nothing.
use Rattle.words.proofs.Vocabulary.{ℕ, ◌≤◌, ◌<◌, ◌+◌, ◌-◌, ◌≡◌, ◌∙◌, refl, sym, ap, List, [], ◌∷◌, length, zero-add}
use Rattle.words.proofs.Vocabulary.{take, drop, length-drop, get_or-drop, arith}
use lib.Seq.{take_all}
use Rattle.layout.specs.Shape.{Shaped, labels_in, share_of, place_in, Tuple}
use Rattle.layout.specs.declared.Shape.{Shape}
use Rattle.layout.proofs.Places.{tuple_up, pair_in}
use Rattle.words.specs.Word.{mem}
use Rattle.logic.specs.Alike.{Agrees}
use Rattle.logic.specs.Machine.{run, Bounded}
use Rattle.logic.specs.Search.{search}
use Rattle.logic.specs.Tree.{Tree, Proper}
use Rattle.logic.specs.Two.{one, two}
use Rattle.logic.proofs.Agreement.{run-agrees, search-agrees}
use Rattle.table.specs.Entry.{step_in, entry, through, seen}
use Rattle.records.specs.Rule.{Mach, mach_of, Stored}
use Rattle.records.specs.declared.Summary.{Summary}
use Rattle.table.specs.Whole.{machine_in, table_in, Whole}
use Rattle.reading.specs.Reading.{mach_table}

-- the part of a workspace from a share on, to its end
pub part-all : {n m : ℕ} (ws : List ℕ) → n ≡ m → take (length ws - n) (drop n ws) ≡ drop m ws
part-all {n} ws e = take_all (length ws - n) (drop n ws) (let l = length-drop n ws in omega arith) ∙ ap (λ (i : ℕ). drop i ws) e

module _ (s : Shape) (shape : Shaped s) (base : ℕ) (m : Mach) (k : Summary) (ws table : List ℕ) (st : Stored s base m k ws) (et : table ≡ drop base ws) where
  step_is : (l : ℕ) (is : List ℕ) → l < labels_in s → Tuple s.branches m.count is
      → (m.step l is ≡ step_in s table 0 k.looks l is) × (m.step l is < m.count)
  unfolding entry through
  step_is l is hl t =
      let h = st.holds l is hl t in
      let at = place_in s (seen k.looks l) is in
      (sym h.0 ∙ sym (get_or-drop base ws at 0) ∙ rw (et, zero-add at), h.1)

  bounded : Bounded s.variables m.count (mach_of m)
  bounded = (st.some-state, λ l hl q b. (step_is l (q one ∷ q two ∷ []) hl (pair_in s shape (b one) (b two))).1)

  agrees : Agrees s.variables m.count (mach_of m) (machine_in s k.looks table k.accept)
  agrees = record {
    starts = refl;
    steps = λ l hl q b. (step_is l (q one ∷ q two ∷ []) hl (pair_in s shape (b one) (b two))).0;
    accepts = λ q h. ap (mem q) (sym st.accept);
  }

  -- the table may be searched and run
  pub whole_of : base + share_of s ≤ length ws → Whole s k.looks table k.count
  whole_of h = record {
    inside = record { shape = shape; small = omega arith; share = omega (arith, ap length et, length-drop base ws) };
    steps = λ l is hl t. let w = step_is l is hl (tuple_up (omega (arith, st.count)) t) in omega (arith, w.0, w.1, st.count);
    some-state = omega (arith, st.count, st.some-state);
    within = omega (arith, st.count, st.few);
  }

  pub searched_alike : (P : ℕ) → search (labels_in s) (table_in s k.looks table k.accept k.count) P ≡ search (labels_in s) (mach_table m) P
  searched_alike P =
      ap (λ (c : ℕ). search (labels_in s) (table_in s k.looks table k.accept c) P) st.count
      ∙ sym (search-agrees s.variables m.count (mach_of m) (machine_in s k.looks table k.accept) bounded agrees P)

  pub run-alike : (t : Tree 2) → Proper s.variables t → run (machine_in s k.looks table k.accept) t ≡ run (mach_of m) t
  run-alike t o = sym (run-agrees s.variables m.count (mach_of m) (machine_in s k.looks table k.accept) bounded agrees t o).0
