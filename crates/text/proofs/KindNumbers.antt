-- No two kinds have one number, and what the derived `==` and `!=` say of kinds. Assumes nothing.
use Prim.Native.Nat.{ℕ}
use mathlib.Core.Path.{◌≡◌, refl, sym, ◌∙◌, ap}
use mathlib.Core.Bool.{true, false, not}
use mathlib.Core.List.{List, [], ◌∷◌}
use denote.Enum.Bare.{sameb, same_true, same_false, differs_true, differs_false}
use lib.ListN.{get_or}
use Rattle.std.proofs.Common.{rules}
use Rattle.text.specs.contracts.kinds.Kind.{the_type}
use Rattle.text.specs.declared.kinds.Kind.{Kind}
use Rattle.text.specs.declared.kinds.Kind.TheVariants as kind
use Rattle.text.specs.Kinds.{kind_number}

-- all kinds, in the order of their numbers
unfoldable kinds : List Kind
kinds =
    kind.Ws2s ∷ kind.Var1 ∷ kind.Var2 ∷ kind.Ex1 ∷ kind.Ex2 ∷ kind.All1 ∷ kind.All2 ∷ kind.Sub ∷ kind.In ∷ kind.Root ∷ kind.Semicolon ∷ kind.Comma ∷ kind.Colon
    ∷ kind.Opening ∷ kind.Closing ∷ kind.Not ∷ kind.And ∷ kind.Or ∷ kind.Implies ∷ kind.Alike ∷ kind.Equals ∷ kind.Branch1 ∷ kind.Branch2 ∷ kind.Name ∷ kind.Stray ∷ kind.End ∷ []

back : (k : Kind) → get_or kinds (kind_number k) kind.End ≡ k
unfolding kinds
back kind.Ws2s = refl
back kind.Var1 = refl
back kind.Var2 = refl
back kind.Ex1 = refl
back kind.Ex2 = refl
back kind.All1 = refl
back kind.All2 = refl
back kind.Sub = refl
back kind.In = refl
back kind.Root = refl
back kind.Semicolon = refl
back kind.Comma = refl
back kind.Colon = refl
back kind.Opening = refl
back kind.Closing = refl
back kind.Not = refl
back kind.And = refl
back kind.Or = refl
back kind.Implies = refl
back kind.Alike = refl
back kind.Equals = refl
back kind.Branch1 = refl
back kind.Branch2 = refl
back kind.Name = refl
back kind.Stray = refl
back kind.End = refl

pub same_kind : (a b : Kind) → kind_number a ≡ kind_number b → a ≡ b
same_kind a b e = sym (back a) ∙ ap (λ (n : ℕ). get_or kinds n kind.End) e ∙ back b

pub other_kind : {a b : Kind} → (a ≡ b → ⊥) → kind_number a ≡ kind_number b → ⊥
other_kind {a} {b} z e = z (same_kind a b e)

module _ (a b : Kind) where
  pub eq_true : true ≡ sameb the_type a b → a ≡ b
  eq_true e = same_true the_type (search rules) a b (sym e)

  pub eq_false : false ≡ sameb the_type a b → a ≡ b → ⊥
  eq_false e = same_false the_type a b (sym e)

  pub ne_true : true ≡ not (sameb the_type a b) → a ≡ b → ⊥
  ne_true e = differs_true the_type a b (sym e)

  pub ne_false : false ≡ not (sameb the_type a b) → a ≡ b
  ne_false e = differs_false the_type (search rules) a b (sym e)
