-- A list of names in use, as spans of the text: document 01, "How trainers type a rule". Assumes nothing.
use Rattle.std.specs.Prelude.{ℕ, zero, suc, ◌<◌, ◌≤◌, List, [], ◌∷◌, get_or}
use Rattle.text.specs.Syntax.{Order, first, second, Declared, Scope}
use Rattle.tokens.specs.Spans.{part, Span}
use Rattle.tokens.specs.declared.names.Order.{Order as OrderCode}
use Rattle.tokens.specs.declared.names.Order.TheVariants.{First, Second}
use Rattle.tokens.specs.declared.names.Name.{Name}

-- `var1`, `ex1`, `all1` are of first order, `var2`, `ex2`, `all2` of second
abbrev pub order_of : OrderCode → Order
order_of First = first
order_of Second = second

-- what stands behind the last name
abbrev pub no_name : Name
no_name = record { start = 0; stop = 0; order = First }

-- "A name is an ASCII letter followed by any number of ASCII letters or digits": its bytes in the text s
abbrev pub declared_by : List ℕ → Name → Declared
declared_by s e = record { name = part s e.start e.stop; order = order_of e.order }

-- the first n of the names ns: "an inner one hides an outer", so the latest stands first
unfoldable pub scope_by : List ℕ → List Name → ℕ → Scope
scope_by s ns zero = []
scope_by s ns (suc i) = declared_by s (get_or ns i no_name) ∷ scope_by s ns i

-- at most eight names are in use, since "a name that needs a ninth track" is refused (request A2), and each is a part of the text s
pub record NamesFit (s : List ℕ) (ns : List Name) (n : ℕ) : Type 0 where
  pub few : n ≤ 8
  pub each : (i : ℕ) → i < n → Span s (get_or ns i no_name).start (get_or ns i no_name).stop
