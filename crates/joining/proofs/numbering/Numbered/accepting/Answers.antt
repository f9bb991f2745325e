-- `accepting` meets its contract. The invariant: the word holds the accepting classes below i.
use Rattle.words.proofs.Vocabulary.{ℕ, ◌&&◌, ◌≡◌, le-ltb, ltb, get_or, arith}
use Rattle.words.specs.Word.{mem}
use Rattle.words.proofs.WordLaws.{mem-zero, word_ext}
use Rattle.joining.specs.Numbering.{accept_in}
use Rattle.joining.proofs.numbering.Numbered.accepting.Goals as goal

pub loop-i-init : goal.loop-i-init
loop-i-init c =
    (omega arith, λ q. rw (le-ltb q 0 (omega arith)) (mem-zero q))

pub returns : goal.returns
unfolding accept_in
returns c =
    let a = c.args in
    let h = c.loop-i in
    let m = a.self.now.count in
    let e : h.i ≡ m = omega arith in
    word_ext 64 h.r (λ (q : ℕ). ltb q m && mem (get_or a.self.now.first q 0) a.a) h.invariant.0 (λ q l. (rw e at h.invariant.1) q)
