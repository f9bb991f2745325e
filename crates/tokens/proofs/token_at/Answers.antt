-- `token_at` meets its contract: the end, a run of letters and digits, or a mark. Assumes nothing.
use mathlib.Core.Path.{sym, ◌∙◌}
use native.Mathlib.Omega.{arith}
use Rattle.std.proofs.Common.{rules}
use Rattle.text.specs.Token.{is_blank, is_alnum}
use Rattle.tokens.proofs.Reading.{stands-end, word-span, stands_word, mark-fits, stands-mark}
use Rattle.tokens.proofs.token_at.Goals as goal

pub word_kind-requires : goal.word_kind-requires
word_kind-requires c =
    word-span _ _ _ (c.run_end-start.ensures is_blank (λ b r e. search rules)) c.if-text-start.false _ (c.run_end-stop.ensures is_alnum (λ b r e. search rules))

pub returns-then-is_letter : goal.returns-then-is_letter
returns-then-is_letter c =
    stands_word _ _ _ (c.run_end-start.ensures is_blank (λ b r e. search rules)) c.if-text-start.false _ (c.run_end-stop.ensures is_alnum (λ b r e. search rules)) _ (sym c.is_letter.ensures ∙ c.if-is_letter.true)
    c.word_kind.ensures

pub overflow_add-result : goal.overflow_add-result
overflow_add-result c =
    let h = mark-fits _ _ _ (c.run_end-start.ensures is_blank (λ b r e. search rules)) c.if-text-start.false _ c.mark_kind-kind.ensures in
    rw c.mark_size.ensures (omega arith)

pub returns : goal.returns
returns c =
    rw c.mark_size.ensures (stands-mark _ _ _ (c.run_end-start.ensures is_blank (λ b r e. search rules)) c.if-text-start.false _ c.mark_kind-kind.ensures
    (sym c.is_letter.ensures ∙ c.if-is_letter.false))

pub returns-then-text-start : goal.returns-then-text-start
returns-then-text-start c =
    stands-end _ _ _ (c.run_end-start.ensures is_blank (λ b r e. search rules)) c.if-text-start.true
