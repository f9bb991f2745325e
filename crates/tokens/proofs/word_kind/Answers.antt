-- `word_kind` meets its contract. Assumes nothing.
use mathlib.Core.Path.{sym, ◌∙◌, ap}
use native.Mathlib.Omega.{arith}
use Rattle.text.specs.Token.{words}
use Rattle.tokens.specs.Spans.{part}
use Rattle.tokens.specs.Tokens.{packed_kind}
use Rattle.tokens.proofs.Parts.{bytes-part}
use Rattle.tokens.proofs.Spelled.{word-packed, word-long}
use Rattle.tokens.proofs.word_kind.Goals as goal

pub returns-then-stop-start-gt4 : goal.returns-then-stop-start-gt4
returns-then-stop-start-gt4 c =
    word-long _ _ _ c.requires.ordered c.requires.inside c.if-stop-start-gt4.true

pub returns : goal.returns
returns c =
    let a = c.args in
    let s = a.text.now in
    c.packed_kind.ensures
    ∙ ap (packed_kind 0 words) c.pack.ensures
    ∙ sym (word-packed (part s a.start a.stop) (bytes-part s a.start a.stop (λ i. omega (arith, c.type_inv.text i))))
