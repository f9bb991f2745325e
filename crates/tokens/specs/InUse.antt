-- The names in use, as scopes of the text: document 01, "How trainers type a rule". Assumes nothing.
use Rattle.std.specs.Prelude.{ℕ, ◌+◌, ◌<◌, ◌≡◌, false, ◌∷◌, get_or, Option, Some, None}
use Rattle.text.specs.Syntax.{Name, Order, Scope}
use Rattle.text.specs.Grammar.{same_order, has_order}
use Rattle.text.specs.Records.{track_of}
use Rattle.tokens.specs.Named.{order_of, no_name, declared_by, scope_by}
use Rattle.tokens.specs.declared.names.Name.{Name as NameCode}
use Rattle.tokens.specs.declared.names.Names.{Names}

abbrev pub scope_of : Names → Scope
scope_of ns = scope_by ns.text.now ns.entries ns.count

-- r is the track of the entry that the name x means, "an inner one hides an outer", since tracks are taken "in order of declaration" and then "the
-- next after those in use"
pub record FoundAt (ns : Names) (x : Name) (r : ℕ) : Type 0 where
  pub few : r < ns.count
  pub track : track_of (scope_of ns) x ≡ r
  pub of_order : (o : Order) → has_order (scope_of ns) o x ≡ same_order o (order_of (get_or ns.entries r no_name).order)

-- that, or x is not in use
abbrev pub Found : Names → Name → Option ℕ → Type 0
Found ns x (Some r) = FoundAt ns x r
Found ns x None = (o : Order) → has_order (scope_of ns) o x ≡ false

-- ms holds one name more than ns, the latest: "A declaration lists one or more names", "a quantifier binds one name"
pub record Bound (ns : Names) (e : NameCode) (ms : Names) : Type 0 where
  pub text : ms.text.now ≡ ns.text.now
  pub count : ms.count ≡ ns.count + 1
  pub scope : scope_of ms ≡ declared_by ns.text.now e ∷ scope_of ns
