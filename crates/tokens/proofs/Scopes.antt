-- The names in use: how many they are, one that is looked for from the latest down, and one more. Assumes nothing.
use Prim.Native.Nat.{ℕ, zero, suc, ◌+◌, ◌<◌}
use mathlib.Core.Path.{◌≡◌, refl, ◌∙◌, ap, ap₂}
use mathlib.Core.Bool.{Bool, true, false, cond, ◌&&◌}
use mathlib.Core.List.{List, [], ◌∷◌}
use native.Mathlib.Omega.{arith}
use native.Mathlib.Numerals.{add-one}
use lib.Dec.{eqb}
use lib.ListN.{length, get_or, set}
use lib.Pointwise.{pointwise}
use lib.Seq.{get_or-set_same, get_or-set_other}
use Rattle.text.specs.Token.{same_bytes}
use Rattle.text.specs.Syntax.{Name, Order, Declared}
use Rattle.text.specs.Grammar.{same_order, has_order}
use Rattle.text.specs.Records.{track_of}
use Rattle.tokens.specs.Named.{no_name, declared_by, scope_by}
use Rattle.tokens.specs.InUse.{scope_of, FoundAt, Bound}
use Rattle.tokens.specs.declared.names.Name.{Name as NameCode}
use Rattle.tokens.specs.declared.names.Names.{Names}

by-length : (s : List ℕ) (ns : List NameCode) (n : ℕ) → length (scope_by s ns n) ≡ n
unfolding scope_by
by-length s ns zero = refl
by-length s ns (suc n) = ap suc (by-length s ns n)

pub scope-length : (ns : Names) → length (scope_of ns) ≡ ns.count
scope-length ns = by-length ns.text.now ns.entries ns.count

pub no_names : (ns : Names) → ns.count ≡ 0 → scope_of ns ≡ []
unfolding scope_by
no_names ns e = rw e refl

-- ---- a name x is looked for: none of those in use has it, but for the first i
pub record Passed (ns : Names) (x : Name) (i : ℕ) : Type 0 where
  pub tracks : track_of (scope_of ns) x ≡ track_of (scope_by ns.text.now ns.entries i) x
  pub orders : (o : Order) → has_order (scope_of ns) o x ≡ has_order (scope_by ns.text.now ns.entries i) o x

abbrev entry : Names → ℕ → Declared
entry ns j = declared_by ns.text.now (get_or ns.entries j no_name)

module _ {ns : Names} {x : Name} where
  module _ {i : ℕ} (p : Passed ns x i) (j : ℕ) (q : i ≡ suc j) where
    track_by : {v : Bool} → same_bytes x (entry ns j).name ≡ v → track_of (scope_of ns) x ≡ cond v j (track_of (scope_by ns.text.now ns.entries j) x)
    unfolding scope_by track_of
    track_by {v} e =
        p.tracks ∙ ap (λ (k : ℕ). track_of (scope_by ns.text.now ns.entries k) x) q
        ∙ ap₂ (λ (u : Bool) (k : ℕ). cond u k (track_of (scope_by ns.text.now ns.entries j) x)) e (by-length ns.text.now ns.entries j)

    order_by : {v : Bool} → same_bytes x (entry ns j).name ≡ v → (o : Order)
        → has_order (scope_of ns) o x ≡ cond v (same_order o (entry ns j).order) (has_order (scope_by ns.text.now ns.entries j) o x)
    unfolding scope_by has_order
    order_by {v} e o =
        p.orders o ∙ ap (λ (k : ℕ). has_order (scope_by ns.text.now ns.entries k) o x) q
        ∙ ap (λ (u : Bool). cond u (same_order o (entry ns j).order) (has_order (scope_by ns.text.now ns.entries j) o x)) e

    -- name j, the latest that is left, is another, or the one
    pub passed-next : same_bytes x (entry ns j).name ≡ false → Passed ns x j
    passed-next e = record { tracks = track_by e; orders = order_by e }

    pub found_here : same_bytes x (entry ns j).name ≡ true → j < ns.count → FoundAt ns x j
    found_here e h = record { few = h; track = track_by e; of_order = order_by e }

  pub found_none : Passed ns x 0 → (o : Order) → has_order (scope_of ns) o x ≡ false
  unfolding scope_by has_order
  found_none p o = p.orders o

-- the first n names are as they were
same-scope : (s : List ℕ) (es fs : List NameCode) (n : ℕ) → ((i : ℕ) → i < n → get_or fs i no_name ≡ get_or es i no_name) → scope_by s fs n ≡ scope_by s es n
unfolding scope_by
same-scope s es fs zero h = refl
same-scope s es fs (suc n) h = rw (h n (omega arith), same-scope s es fs n (λ i l. h i (omega arith))) refl

-- ---- one name more
module _ (ns : Names) (e : NameCode) {ms : Names} (t : ms.text.now ≡ ns.text.now) (c : ms.count ≡ ns.count + 1) where
  pub bound-more : ns.count < length ns.entries → ms.entries ≡ set ns.entries ns.count e → Bound ns e ms
  unfolding scope_by
  bound-more h g = record { text = t; count = c; scope = rw (t, c, g, add-one) (rw (get_or-set_same ns.entries ns.count e no_name h, kept) refl) }
    where
      kept : scope_by ns.text.now (set ns.entries ns.count e) ns.count ≡ scope_of ns
      kept = same-scope ns.text.now ns.entries _ ns.count (λ i l. get_or-set_other ns.entries ns.count i e no_name (λ z. omega arith))

-- ---- bytes that are held against each other
pub same_pointwise : (v w : List ℕ) → pointwise eqb v w ≡ same_bytes v w
unfolding same_bytes
same_pointwise [] [] = refl
same_pointwise [] (c ∷ w) = refl
same_pointwise (b ∷ v) [] = refl
same_pointwise (b ∷ v) (c ∷ w) = ap (λ (u : Bool). eqb b c && u) (same_pointwise v w)
