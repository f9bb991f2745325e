-- `new_refusal` meets its contract, from that of `look_up`. Assumes nothing.
use mathlib.Core.Path.{sym}
use Rattle.tokens.proofs.Scopes.{scope-length}
use Rattle.text.proofs.KindNumbers.{ne_false}
use Rattle.phrases.proofs.Looking.{not-looked, new-good, new-full}
use Rattle.phrases.proofs.new_refusal.Goals as goal

pub returns-then-names-lt8-clause-value : goal.returns-then-names-lt8-clause-value
returns-then-names-lt8-clause-value c =
    let a = c.args in
    new-good a.names.now.text.now _ a.t (ne_false _ _ c.if-ne.ensures) (not-looked _ _ _ c.look_up.ensures (sym c.if-is_some.ensures)) (rw scope-length c.if-names-lt8.true)

pub returns-clause-value : goal.returns-clause-value
returns-clause-value c =
    let a = c.args in
    rw c.refused-2.ensures (new-full a.names.now.text.now _ a.t (ne_false _ _ c.if-ne.ensures) (not-looked _ _ _ c.look_up.ensures (sym c.if-is_some.ensures)) (rw scope-length c.if-names-lt8.false))
