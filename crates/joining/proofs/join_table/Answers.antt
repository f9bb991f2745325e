-- `join_table` meets its contract: each step asks for what the one before it ensures.
use Rattle.words.proofs.Vocabulary.{refl, subst, ℕ, arith}
use Rattle.layout.specs.Shape.{share_of}
use Rattle.joining.specs.Rewriting.{joined_byte, Rewritten}
use Rattle.joining.proofs.Leads.{few_lead}
use Rattle.joining.proofs.join_table.Goals as goal
use Rattle.joining.proofs.join_table.Goals.{then-names-n, else-names-n}

pub returns : goal.returns
returns c =
    let a = c.args in
    let v = c.of-names in
    let r = v.result in
    record {
      parts = c.settled-classes.result.of;
      settled = c.settled-classes.ensures;
      names = r;
      named = v.ensures;
      bytes = λ h. elim c.if-names-n.branch [
        | then-names-n w ↦
            rw w.table-is
            (subst (λ (n : ℕ). Rewritten (joined_byte a.s a.k.looks n r.count r.first r.number a.table.now) (share_of a.s) a.table.now w.join_entries.new.table) v.ensures.states
            w.join_entries.ensures)
        | else-names-n w ↦ absurd (omega (arith, w.if-names-n.false))
      ];
      kept = λ h. elim c.if-names-n.branch [ then-names-n w ↦ absurd (omega (arith, w.if-names-n.true)) | else-names-n w ↦ w.table-is ];
      count = refl;
      accept = c.accepting-accept.ensures;
      looks = refl;
    }

pub overflow_cast-result : goal.overflow_cast-result
overflow_cast-result c =
    let r = c.of-names.result in
    omega (arith, few_lead r.leaders, r.few)
