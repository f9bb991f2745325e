-- The tokens that are left at a place of a text, and what the code that reads them answers: document 01, "How trainers type a rule".
-- Assumes nothing.
use Rattle.std.specs.Prelude.{ℕ, suc, ◌+◌, ◌*◌, ◌<◌, ◌≤◌, ◌≡◌, Bool, true, false, cond, List, [], ◌∷◌, eqb, length, drop}
use Prim.Native.String.{String}
use Rattle.text.specs.Token.{Token as TextToken, semicolon_kind, comma_kind, colon_kind, opening_kind, closing_kind, not_kind, and_kind, or_kind}
use Rattle.text.specs.Token.{implies_kind, alike_kind, branch1_kind, branch2_kind, a_name, a_stray, spell, tokens}
use Rattle.text.specs.Grammar.{peek, rest}
use Rattle.text.specs.Kinds.{kind_number}
use Rattle.text.specs.declared.kinds.Kind.TheVariants.{End}
use Rattle.refusals.specs.declared.Reason.{Reason}
use Rattle.tokens.specs.declared.Token.{Token}
use Rattle.tokens.specs.declared.TokenFault.{TokenFault}
use Rattle.tokens.specs.Spans.{part}

-- the tokens left at byte place `at` of the text s
unfoldable pub tokens_at : List ℕ → ℕ → List TextToken
tokens_at s at = tokens (suc (length (drop at s))) at (drop at s)

-- the token that was read, with its bytes
abbrev pub read_from : List ℕ → Token → TextToken
read_from s r = record { kind = kind_number r.kind; bytes = part s r.start r.stop; start = r.start; stop = r.stop }

-- r is the token that stands next at place `at` of s; the end of the text is never taken
pub record StandsNext (s : List ℕ) (at : ℕ) (r : Token) : Type 0 where
  pub stands : peek (tokens_at s at) ≡ read_from s r
  pub goes_on : (r.kind ≡ End → ⊥) → rest (tokens_at s at) ≡ tokens_at s r.stop
  pub onward : (r.kind ≡ End → ⊥) → (at < r.stop) × (r.stop ≤ length s)
  pub ordered : r.start ≤ r.stop
  -- only blanks stand between the place and the token
  pub forward : at ≤ r.start
  pub skips : tokens_at s at ≡ tokens_at s r.start
  pub long : (r.kind ≡ End → ⊥) → r.start < r.stop

-- the refusal of a text at the token t
abbrev pub refused_at : Token → Reason → TokenFault
refused_at t k = record { reason = k; start = t.start; stop = t.stop }

-- how many bytes that pass a test s begins with: "Spaces, tabs, CR and LF separate", and "any number of ASCII letters or digits"
unfoldable pub span : (ℕ → Bool) → List ℕ → ℕ
span p [] = 0
span p (b ∷ s) = elim (p b) [ true ↦ suc (span p s) | false ↦ 0 ]

-- bytes as one number, which no other bytes have: the first is its lowest digit, and 1 stands above the last
unfoldable pub packed : List ℕ → ℕ
packed [] = 1
packed (b ∷ w) = packed w * 256 + b

-- `word_kind` by such numbers: the place of v among those of the words numbered from i, else a name
unfoldable pub packed_kind : ℕ → List String → ℕ → ℕ
packed_kind i [] v = a_name
packed_kind i (w ∷ ws) v = elim (eqb v (packed (spell w))) [ true ↦ i | false ↦ packed_kind (suc i) ws v ]

-- the kind of the marks of one byte that begin no longer one, else a stray
unfoldable pub single_kind : ℕ → ℕ
single_kind b =
    cond (eqb 59 b) semicolon_kind (cond (eqb 44 b) comma_kind (cond (eqb 58 b) colon_kind (cond (eqb 40 b) opening_kind
    (cond (eqb 41 b) closing_kind (cond (eqb 126 b) not_kind (cond (eqb 38 b) and_kind (cond (eqb 124 b) or_kind a_stray)))))))

-- the size of a mark by its kind; a stray is one byte
unfoldable pub mark_size : ℕ → ℕ
mark_size k = cond (eqb k alike_kind) 3 (cond (eqb k implies_kind) 2 (cond (eqb k branch1_kind) 2 (cond (eqb k branch2_kind) 2 1)))
