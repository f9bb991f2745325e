-- A name that is looked up among those in use, or declared. Assumes nothing.
use Prim.Native.Nat.{ℕ, ◌<◌, ◌≤◌}
use mathlib.Core.Path.{◌≡◌, refl}
use mathlib.Core.Bool.{true, false, ◌||◌}
use mathlib.Core.List.{List}
use native.Mathlib.Omega.{arith}
use borrow.Author.Tests.{le-leb, lt-leb}
use lib.ListN.{length, get_or}
use Rattle.std.specs.Prelude.{Option, Some, None, is_some}
use Rattle.text.specs.declared.kinds.Kind.TheVariants as kind
use Rattle.text.specs.Kinds.{kind_number}
use Rattle.text.specs.Token.{Token as TextToken, words, text_marks, number_in, spells}
use Rattle.text.specs.Syntax.{Name, Order, first, second, Scope}
use Rattle.text.specs.Grammar.{same_order, has_order, is_in_use, new_refusal, relation_of, Relation, inclusion, membership, equality, other, left_good}
use Rattle.tokens.specs.declared.Token.{Token}
use Rattle.tokens.specs.declared.names.Names.{Names}
use Rattle.tokens.specs.declared.names.Order.{Order as OrderCode}
use Rattle.tokens.specs.declared.names.Order.TheVariants.{First, Second}
use Rattle.tokens.specs.Spans.{part}
use Rattle.tokens.specs.Named.{order_of, no_name}
use Rattle.tokens.specs.Tokens.{read_from}
use Rattle.tokens.specs.InUse.{scope_of, FoundAt}
use Rattle.phrases.specs.declared.Holder.{Holder}
use Rattle.phrases.specs.Looked.{Looked, Held, Unknown, relation_by, good_order}

-- ---- an entry that was found, or none
module _ (ns : Names) (x : Name) where
  pub look_none : ((o : Order) → has_order (scope_of ns) o x ≡ false) → Unknown (scope_of ns) x
  unfolding is_in_use
  look_none u = record { of_order = u; at_all = rw (u first, u second) refl }

  pub look_some : {r : ℕ} → FoundAt ns x r → Held (scope_of ns) x (record { order = (get_or ns.entries r no_name).order; track = r })
  unfolding is_in_use
  look_some {r} f = record {
    of_order = f.of_order;
    at_all = rw (f.of_order first, f.of_order second) (one_of (get_or ns.entries r no_name).order);
    track_is = f.track;
    few = omega (arith, ns.fit.few, f.few);
  }
    where
      one_of : (o : OrderCode) → (same_order first (order_of o) || same_order second (order_of o)) ≡ true
      one_of First = refl
      one_of Second = refl

-- a name that look_up does not find
pub not-looked : (sc : Scope) (x : Name) (r : Option Holder) → Looked sc x r → is_some r ≡ false → Unknown sc x
not-looked sc x None k e = k
not-looked sc x (Some h) k e = absurd cc

-- ---- a name that is declared
module _ (s : List ℕ) (sc : Scope) (t : Token) (e : t.kind ≡ kind.Name) (u : Unknown sc (part s t.start t.stop)) where
  pub new-full : 8 ≤ length sc → 25 ≡ new_refusal (is_in_use sc (part s t.start t.stop)) sc (read_from s t)
  new-full l = rw (e, u.at_all, le-leb 8 _ l) refl

  pub new-good : length sc < 8 → 0 ≡ new_refusal (is_in_use sc (part s t.start t.stop)) sc (read_from s t)
  new-good l = rw (e, u.at_all, lt-leb 8 _ l) refl

-- ---- the token behind an atom's left name
pub relation_is : (t : Token) (u : TextToken) → u.kind ≡ kind_number t.kind → relation_of u ≡ relation_by t.kind
unfolding relation_of spells number_in words text_marks
relation_is t u e = rw e refl

pub left_is : {sc : Scope} {x : Name} {h : Holder} → Held sc x h → (r : Relation) → left_good r sc x ≡ good_order r h.order
unfolding left_good
left_is k inclusion = k.of_order second
left_is k membership = k.of_order first
left_is k equality = k.of_order first
left_is k other = k.at_all

pub left_unknown : {sc : Scope} {x : Name} → Unknown sc x → (r : Relation) → left_good r sc x ≡ false
unfolding left_good
left_unknown u inclusion = u.of_order second
left_unknown u membership = u.of_order first
left_unknown u equality = u.of_order first
left_unknown u other = u.at_all
