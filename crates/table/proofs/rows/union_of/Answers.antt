-- `union_of` meets its contract. The invariant: what is left of the set is still to be walked.
use Rattle.words.proofs.Vocabulary.{ℕ, ◌&&◌, ◌≡◌, get_or, arith}
use Rattle.table.specs.Rows.{union_of}
use Rattle.words.specs.Word.{mem, any}
use Rattle.words.proofs.Members.{walk_first, walk-next, walk-last}
use Rattle.words.proofs.WordLaws.{word_ext}
use Rattle.table.proofs.rows.union_of.Goals as goal

pub loop-t-init : goal.loop-t-init
loop-t-init c =
    let e : c.into_iter-t-iterator.result.rest ≡ c.args.s = cc in (omega arith, walk_first e)

pub loop-t-preserved : goal.loop-t-preserved
loop-t-preserved c =
    (omega arith, let o = c.in-Some.ensures.steps in walk-next c.loop-t.invariant.1 o.0.top o.1 c.union-r.ensures)

pub returns : goal.returns
unfolding union_of
returns c =
    let a = c.args in
    let h = c.loop-t in
    word_ext 64 h.r (λ (q : ℕ). any (λ (t : ℕ). mem t a.s && mem q (get_or a.row.now t 0)) 64) h.invariant.0
    (λ q l. walk-last c.in-None.ensures.steps h.invariant.1 q)
