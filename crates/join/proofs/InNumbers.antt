-- What join claims, in numbers. Assumes nothing.
use Prim.Native.Nat.{ℕ, ◌+◌}
use mathlib.Core.Path.{◌≡◌, refl, sym, ap, ◌∙◌}
use mathlib.Core.List.{List}
use native.Mathlib.Omega.{arith}
use mathlib.Core.Bool.{Bool, true, false, cond}
use lib.Dec.{ltb}
use Rattle.std.specs.Prelude.{Result, Ok, Err}
use Rattle.rule_strip.specs.RuleStrip.{count_of, first_use, second_use, rule_fault}
use Rattle.rule_strip.specs.RuleAnswers.{use_refusal}
use Rattle.rule_strip.specs.RulePlaces.{RuleOffends, Breaks, op_of, in_op, in_first, in_second}
use Rattle.rule_strip.specs.RulePlaces.{too_short, other_length, other_version, bad_variables, bad_count, bit-set, bad_record}
use Rattle.rule_strip.specs.declared.Use.{Use}
use Rattle.rule_strip.specs.declared.Use.TheVariants.{Variable, Earlier, Unused}
use Rattle.rule_strip.specs.declared.write.Written.{Written}
use Rattle.refusals.specs.Reason.{number_of}
use Rattle.refusals.specs.Refusal.{checked, tested}
use Rattle.refusals.specs.declared.Fault.{Fault}
use Rattle.refusals.specs.declared.Reason.{Reason}
use Rattle.refusals.specs.declared.Reason.TheVariants as reason
use Rattle.refusals.specs.declared.Refusal.{Refusal}
use Rattle.refusals.specs.declared.Refusal.TheVariants.{Placed, Plain, TooManyStates}
use Rattle.refusals.proofs.Refusals.{free}
use Rattle.join.specs.Joining.{records_refusal, rule_out_refusal, size_refusal, join_refusal, faulty_strip, or_fault, written_of, join_of}
use Rattle.join.specs.Joining.{FaultTold, of_first, of_second, JoinClaim}
use Rattle.join.specs.Numbers.{join_numbers, JoinedInNumbers}
use Rattle.join.specs.declared.JoinFault.{JoinFault}

-- no refusal has the number 0: neither a strip's
use_some : (u : Use) → use_refusal u ≡ 0 → ⊥
use_some Variable z = omega arith
use_some Earlier z = omega arith
use_some Unused z = omega arith

breaks_some : {s : List ℕ} {n i k p : ℕ} → Breaks s n i k p → k ≡ 0 → ⊥
breaks_some (in_op h) z = omega arith
breaks_some {s} {n} {i} (in_first h l) z = use_some (first_use (op_of s i)) z
breaks_some {s} {n} {i} (in_second h l m) z = use_some (second_use (op_of s i)) z

offends_some : {s : List ℕ} {k p : ℕ} → RuleOffends s k p → k ≡ 0 → ⊥
offends_some (too_short h) z = omega arith
offends_some (other_length h) z = omega arith
offends_some (other_version h) z = omega arith
offends_some (bad_variables h) z = omega arith
offends_some (bad_count h) z = omega arith
offends_some (bit-set p a b c d) z = omega arith
offends_some (bad_record i k p h l b) z = breaks_some b z

told-some : {a b : List ℕ} {s k p : ℕ} → FaultTold a b s k p → k ≡ 0 → ⊥
told-some (of_first k p o) = offends_some o
told-some (of_second k p e o) = offends_some o

-- nor 30 or 27
size-some : (m p room : ℕ) (k : Reason) → size_refusal m p room ≡ Err (Plain k) → number_of k ≡ 0 → ⊥
unfolding records_refusal rule_out_refusal
size-some m p room k = go (ltb 128 (m + p + 1)) (ltb room 290)
  where
    go : (v w : Bool) → tested (cond v (Err reason.JoinedRecords) (Ok tt)) (tested (cond w (Err reason.RuleOut) (Ok tt)) free) ≡ Err (Plain k) → number_of k ≡ 0 → ⊥
    go true w e z = let q : reason.JoinedRecords ≡ k = cc in let x : ◌≡◌ {A = ℕ} 30 0 = ap number_of q ∙ z in omega arith
    go false true e z = let q : reason.RuleOut ≡ k = cc in let x : ◌≡◌ {A = ℕ} 27 0 = ap number_of q ∙ z in omega arith
    go false false e z = absurd cc

-- what refuses without a place is no strip's fault
later-plain : (f g : Result Unit Fault) (later : Result Unit Refusal) (k : Reason) → checked f (checked g later) ≡ Err (Plain k)
    → (later ≡ Err (Plain k)) × (faulty_strip f g ≡ 0)
later-plain (Err f) g later k e = absurd cc
later-plain (Ok u) (Err g) later k e = absurd cc
later-plain (Ok u) (Ok v) later k e = (e, refl)

later-states : (f g : Result Unit Fault) (later : Result Unit Refusal) (q : ℕ) → checked f (checked g later) ≡ Err (TooManyStates q) → faulty_strip f g ≡ 0
later-states (Err f) g later q e = absurd cc
later-states (Ok u) (Err g) later q e = absurd cc
later-states (Ok u) (Ok v) later q e = refl

module _ (a b : List ℕ) (room : ℕ) (out : List ℕ) where
  -- of each refusal
  in_refused : (q : Refusal) (t : ℕ) → join_refusal a b room ≡ Err q → t ≡ faulty_strip (rule_fault a) (rule_fault b)
      → JoinClaim a b (Err (record { refusal = q; strip = t })) out → JoinedInNumbers a b (join_numbers (Err (record { refusal = q; strip = t }))) out
  unfolding join_refusal
  in_refused (Placed f) t e s c = let w = c.names f t refl in record { written = λ z. absurd (told-some w z); names = λ _. w }
  in_refused (Plain k) t e s c =
      let w = later-plain (rule_fault a) (rule_fault b) _ k e in
      record { written = λ z. absurd (size-some (count_of a) (count_of b) room k w.0 z); names = λ n. absurd (n (s ∙ w.1)) }
  in_refused (TooManyStates k) t e s c =
      let w = later-states (rule_fault a) (rule_fault b) _ k e in
      record { written = λ z. absurd (let y : ◌≡◌ {A = ℕ} 14 0 = z in omega arith); names = λ n. absurd (n (s ∙ w)) }

  pub join-claimed : (r : Result Written JoinFault) → r ≡ join_of a b room → JoinClaim a b r out → JoinedInNumbers a b (join_numbers r) out
  unfolding join_of
  join-claimed (Ok w) e c = record { written = λ _. c.written w refl; names = λ n. absurd (n refl) }
  join-claimed (Err f) e c = go (join_refusal a b room) refl e
    where
      told : ℕ
      told = faulty_strip (rule_fault a) (rule_fault b)

      go : (r : Result Unit Refusal) → join_refusal a b room ≡ r → Err f ≡ or_fault r told (written_of a b) → JoinedInNumbers a b (join_numbers (Err f)) out
      go (Ok u) q z = absurd cc
      go (Err r) q z =
          let x : f ≡ record { refusal = r; strip = told } = cc in
          in_refused f.refusal f.strip (q ∙ ap (λ (g : JoinFault). Err g.refusal) (sym x)) (ap (λ (g : JoinFault). g.strip) x) c
