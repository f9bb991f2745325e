-- Where a refusal 23 to 25 lies: request A2's "the earliest in the text". Assumes nothing.
use Rattle.std.specs.Prelude.{ℕ, ◌≡◌, ◌⊎◌, List, [], ◌∷◌, ◌++◌}
use Rattle.text.specs.Token.{Token, the_end, tokens_of}
use Rattle.text.specs.Grammar.{refused, peek, text_from, text_of}

-- the end of the text is among the tokens
unfoldable pub HasEnd : List Token → Type 0
HasEnd [] = ⊥
HasEnd (t ∷ ts) = (t.kind ≡ the_end) ⊎ HasEnd ts

-- the refusal k of the tokens ts lies at t, one of them, and hangs on nothing behind t but the one token next to it: that one may be the `sub`,
-- `in` or `=` that asks another order of the name t
pub record FaultAt (ts : List Token) (k : ℕ) (t : Token) : Type 0 where
  pub before : List Token
  pub after : List Token
  pub split : ts ≡ before ++ (t ∷ after)
  pub alike : (us : List Token) → peek us ≡ peek after → text_from (before ++ (t ∷ us)) ≡ refused k t

-- THE LAW: what stands behind a fault's token, but for one token of lookahead, does not matter
abbrev pub FaultLaw : Type 0
FaultLaw = (ts : List Token) (k : ℕ) (t : Token) → HasEnd ts → text_from ts ≡ refused k t → FaultAt ts k t

-- the same of texts: any text r that has the same tokens up to the one behind the fault's is refused alike, with that number at that token
pub record TextFaultAt (s : List ℕ) (k : ℕ) (t : Token) : Type 0 where
  pub before : List Token
  pub after : List Token
  pub split : tokens_of s ≡ before ++ (t ∷ after)
  pub alike : (r : List ℕ) (us : List Token) → tokens_of r ≡ before ++ (t ∷ us) → peek us ≡ peek after → text_of r ≡ refused k t

abbrev pub TextFaultLaw : Type 0
TextFaultLaw = (s : List ℕ) (k : ℕ) (t : Token) → text_of s ≡ refused k t → TextFaultAt s k t
