-- `accept_word` meets its contract. The invariant: the word holds the accepting states below i.
use Rattle.words.proofs.Vocabulary.{ℕ, ◌&&◌, ◌≡◌, le-ltb, ltb, length, get_or, take, length-take-le, arith}
use Rattle.words.proofs.WordLaws.{mem-zero, word_ext}
use Rattle.records.specs.Machine.{accept_by, accept_of}
use Rattle.records.proofs.accept_word.Goals as goal

pub loop-i-init : goal.loop-i-init
loop-i-init c = (omega arith, λ q. rw (le-ltb q 0 (omega arith)) (mem-zero q))

pub returns : goal.returns
unfolding accept_of
returns c =
    let a = c.args in
    let h = c.loop-i in
    let cs = take a.count a.codes.now in
    let n : length cs ≡ a.count = length-take-le a.count a.codes.now (omega arith) in
    let e : h.i ≡ length cs = omega arith in
    word_ext 64 h.r (λ (q : ℕ). ltb q (length cs) && accept_by a.kind a.a a.b (get_or cs q 0)) h.invariant.0 (λ q l. (rw e at h.invariant.1) q)
