-- What import answers, and what the code that reads a whole text says of the definitions: request A2. Assumes nothing.
use Rattle.std.specs.Prelude.{ℕ, ◌-◌, ◌≡◌, cond, List, [], leb, eqb, length, take, Result, Ok, Err}
use Rattle.logic.specs.Rule.{Record}
use Rattle.refusals.specs.declared.Reason.{Reason}
use Rattle.refusals.specs.declared.Reason.TheVariants as reason
use Rattle.rule_strip.specs.declared.write.Written.{Written}
use Rattle.text.specs.Token.{Token, the_end, spells}
use Rattle.text.specs.declared.kinds.Kind.TheVariants.{Semicolon, End}
use Rattle.text.specs.Syntax.{Text}
use Rattle.text.specs.Grammar.{Read, got, peek, accept, or23, read_then, declarations, reader, formula}
use Rattle.text.specs.Grammar.{refused as leaves}
use Rattle.text.specs.Records.{variables_in, count_in, records_in, write_free}
use Rattle.text.specs.Import.{written}
use Rattle.text.specs.Import.{Import as Answer, refused as turned_down}
use Rattle.text.specs.Claims.{Imported}
use Rattle.tokens.specs.Tokens.{tokens_at}
use Rattle.tokens.specs.InUse.{scope_of}
use Rattle.tokens.specs.declared.TokenFault.{TokenFault}
use Rattle.tokens.specs.declared.names.Names.{Names}
use Rattle.drafting.specs.Draft.{Drafted}
use Rattle.drafting.specs.declared.Draft.{Draft}
use Rattle.phrases.specs.Told.{RefusedAt}
use Rattle.formulas.specs.Reading.{Looks, refused_here}
use Rattle.formulas.specs.declared.Reader.{Reader as Held}
use Rattle.import.specs.declared.TextFault.{TextFault}

-- the reason of a refusal of a text, or of its import, by its number: 23 to 27
abbrev pub reason_of : ℕ → Reason
reason_of k =
    cond (eqb k 24) reason.TextName (cond (eqb k 25) reason.TextVariables (cond (eqb k 26) reason.TextRecords (cond (eqb k 27) reason.RuleOut reason.TextGrammar)))

-- the answer in numbers: "From here on an operation that writes a strip returns its length in bytes"
abbrev pub imported_of : Answer → Result Written Reason
imported_of (written n m strip) = Ok (record { variables = n; records = m; length = length strip })
imported_of (turned_down k) = Err (reason_of k)

-- a refusal at a token, by the token's bytes
abbrev pub fault_at : TokenFault → TextFault
fault_at x = record { reason = x.reason; start = x.start; length = x.stop - x.start }

-- the refusal that import has for a text when out has room, and its token: 26 lies at none
abbrev pub fault_of : Read Text → Result Unit TextFault
fault_of (leaves k t) = Err (record { reason = reason_of k; start = t.start; length = t.stop - t.start })
fault_of (got t ts) = cond (leb (count_in t) 128) (Ok tt) (Err (record { reason = reason.TextRecords; start = 0; length = 0 }))

-- THE CLAIM: whatever is written, at the front of out, is the rule that the text says
abbrev pub Claimed : List ℕ → Result Written Reason → List ℕ → Type 0
Claimed s r out = (w : Written) → r ≡ Ok w → Imported s w.variables w.records (take w.length out)

-- "the heading `ws2s;`", and then what is read by go
abbrev pub headed : List Token → (List Token → Read Text) → Read Text
headed ts go = accept (or23 (spells "ws2s" (peek ts))) ts (λ _ us. accept (or23 (spells ";" (peek us))) us (λ _ vs. go vs))

-- "ended by a semicolon": the text t was read, if nothing stands behind it
abbrev pub ended_text : Text → List Token → Read Text
ended_text t xs = accept (or23 (spells ";" (peek xs))) xs (λ _ ys. accept (or23 (eqb (peek ys).kind the_end)) ys (λ _ zs. got t zs))

-- "any number of `var1` and `var2` declarations, then one formula", and the end
unfoldable pub body_of : List Token → Read Text
body_of vs =
    read_then (declarations (length vs) [] vs) (λ sc ws.
    read_then (reader 32 formula sc ws) (λ f xs. ended_text (record { declared = sc; sentence = f }) xs))

-- the heading stands, and the next token is looked for from place p on; or the text is refused at a token of it
abbrev pub HeadingTold : List ℕ → Result ℕ TokenFault → Type 0
HeadingTold s (Ok p) = (go : List Token → Read Text) → headed (tokens_at s 0) go ≡ go (tokens_at s p)
HeadingTold s (Err x) = (go : List Token → Read Text) → RefusedAt (headed (tokens_at s 0) go) x

-- the semicolon and the end stand behind the formula that was read, or not. h and h': where reading had come to before and after
pub data Ends (h h' : Held) (r : Result Unit TokenFault) : Type 0 where
  ends : r ≡ Ok tt → h.next.kind ≡ Semicolon → Looks h.next.stop h h' → h'.next.kind ≡ End → Ends h h' r
  no_semicolon : r ≡ refused_here h → (h.next.kind ≡ Semicolon → ⊥) → Ends h h' r
  no_end : r ≡ refused_here h' → h.next.kind ≡ Semicolon → Looks h.next.stop h h' → (h'.next.kind ≡ End → ⊥) → Ends h h' r

-- "each free first-order variable two more": of the names ns
abbrev pub FreePut : Names → Draft → Draft → Type 0
FreePut ns d e = (rs : List Record) → Drafted d rs → Drafted e (write_free (scope_of ns) rs)

-- what reading a text, from some place on, answers: its records are drafted, and its tracks counted; or a refusal at a token
pub data TextTold (h : Held) (R : Read Text) (r : Result Unit TokenFault) : Type 0 where
  text-got : (t : Text) (us : List Token) → R ≡ got t us → r ≡ Ok tt → h.tracks ≡ variables_in t → Drafted h.draft (records_in t) → TextTold h R r
  text-refused : (x : TokenFault) → RefusedAt R x → r ≡ Err x → TextTold h R r
