-- `all_single` meets its contract: what the chain's `all` says of each state and its class.
use Rattle.std.proofs.Common.{ℕ, ◌+◌, ◌≤◌, ◌<◌, ◌≡◌, ◌∙◌, sym, Bool, true, false, List, length, get_or, take, MatchBool, arith, rules, tests}
use Rattle.std.specs.List.{AllWithin, enumerate_from}
use Rattle.std.proofs.lemmas.Bool.{false≢true}
use Rattle.std.proofs.lemmas.Iterator.{cases_from_all, YieldsList-from_slice}
use Rattle.std.proofs.lemmas.Iterator.Consumers.{YieldsList-from_enumerate}
use Rattle.std.proofs.lemmas.List.FromFn.{length-enumerate_from, get_or-enumerate_from}
use Rattle.words.proofs.Vocabulary.{length-take-le, get_or-take}
use Rattle.joining.proofs.classes.Classes.all_single.Goals as goal

alone : (n : ℕ) (gs : List ℕ) (r : Bool) (N : Type 0) → n ≤ length gs
    → MatchBool r (AllWithin (λ (p : ℕ × ℕ). p.1 ≡ p.0) (enumerate_from 0 (take n gs)) 0 (length (enumerate_from 0 (take n gs)))) N → r ≡ true → (q : ℕ) → q < n → get_or gs q 0 ≡ q
alone n gs true N h m e q l =
    let k = length-take-le n gs h in
    let y = get_or-enumerate_from 0 (take n gs) q (0, 0) (omega arith) in
    let z = m q (0, 0) (omega arith) (omega (arith, length-enumerate_from 0 (take n gs))) in
    let x : 0 + q ≡ q = omega arith in
    sym (get_or-take n gs q 0 l) ∙ (rw y at z) ∙ x
alone n gs false N h m e q l = absurd (false≢true e)

pub returns : goal.returns
returns c =
    let xs = take c.args.n c.args.self.now.of in
    alone c.args.n c.args.self.now.of c.all.result _ (omega (arith, c.args.self.now.whole.long))
    (cases_from_all _ _ _ (λ (p : ℕ × ℕ). p.1 ≡ p.0) (λ (p : ℕ × ℕ). p.1 ≡ p.0 → ⊥) c.all.ensures.ran (YieldsList-from_enumerate (YieldsList-from_slice xs cc) cc)
    (λ x q k. search (rules, tests)) (λ x q k. search (rules, tests)))
