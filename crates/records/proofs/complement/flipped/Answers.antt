-- `flipped` meets its contract. The invariant: the word holds the states below i that are not in a.
use Rattle.words.proofs.Vocabulary.{ℕ, ◌&&◌, not, ◌≡◌, le-ltb, ltb, arith}
use Rattle.words.specs.Word.{mem}
use Rattle.words.proofs.WordLaws.{mem-zero, word_ext}
use Rattle.records.specs.Machine.{others_of}
use Rattle.records.proofs.complement.flipped.Goals as goal

pub loop-i-init : goal.loop-i-init
loop-i-init c = (omega arith, λ q. rw (le-ltb q 0 (omega arith)) (mem-zero q))

pub returns : goal.returns
unfolding others_of
returns c =
    let a = c.args in
    let h = c.loop-i in
    let e : h.i ≡ a.n = omega arith in
    word_ext 64 h.r (λ (q : ℕ). ltb q a.n && not (mem q a.a)) h.invariant.0 (λ q l. (rw e at h.invariant.1) q)
