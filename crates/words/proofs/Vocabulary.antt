-- What the proofs of the builder and the operations say in words of the libraries, passed on so that files name them together. Assumes nothing.
pub use Prim.Native.Nat.{ℕ, ◌≤◌, ◌<◌, ◌+◌, ◌-◌, ◌*◌, suc, ◌%◌, zero, ◌^◌, ◌/◌, suc-le-suc, zero-le, max, min}
pub use mathlib.Core.Bool.{Bool, true, false, ◌||◌, ◌&&◌, cond, not, or-true, or_assoc, or-false, and-true, and-false, and_self}
pub use mathlib.Core.Path.{◌≡◌, ◌∙◌, refl, sym, ap, subst, ap₂, fun_ext}
pub use mathlib.Core.Logic.{⊎_elim, inl, inr, ◌↔◌, ◌⊎◌}
pub use mathlib.Core.List.{List, [], ◌∷◌, ◌++◌, append_assoc, append-nil, map}
pub use mathlib.Core.Option.{some, Option, none}
pub use borrow.Author.Count.{below_more}
pub use borrow.Author.Rules.{rules}
pub use borrow.Author.Tests.{eq-eqb, eqb-true, le-leb, le-ltb, lt-leb, lt-ltb, ltb-false, ltb-true, ne_eqb, eqb-false, leb-false, leb-true}
pub use denote.Enum.Declared.{tag_of}
pub use lib.Arith.{digits_lt, mod-mul, digits_div, digits_mod}
pub use lib.Bits.{bit_or, and_le_l, bit_and, or_lt, and_step, or_step}
unfoldable pub use lib.Count.{ones, ones_in, count_trailing_zeros}
pub use lib.Count.{under, ones_step}
pub use lib.Dec.{eqb, ltb, T, eqb-suc-suc as eqb·suc-suc, eqb-suc-zero as eqb·suc-zero, eqb-zero-suc as eqb·zero-suc, ltb→lt, eqb→eq, leb}
pub use lib.ListN.{length, get_or, take, set, get_or-append as List·getD-append, length-append, drop, length-set, replicate, length-take, get_or-eq_default as List·getD-eq-default}
pub use lib.ListN.{length-map, length-drop}
pub use lib.Pow.{pow_pos, pow-lt, pow_mono, pow-add, shr-shr}
pub use lib.Seq.{length-take-le, get_or-take, get_or-set_other, get_or-set_same, drop-set-lt, get_or-append_seam, get_or-drop, drop-drop, take-set-le}
pub use lib.Seq.{take-suc-set, ext_get_or}
pub use native.Mathlib.Decide.{dec_lt, ℕ_discrete}
pub use native.Mathlib.Nat.{le_of_suc-le-suc, not-suc-le-zero, add-zero, eq-or-lt_of_le, add-suc, mul-le-mul_right, pow-suc, suc-mul, mod-lt}
pub use native.Mathlib.Nat.{mul-le-mul_left, add-mul, div-add-mod', div-div-eq-div-mul, mul_assoc, div-mul-le_self, suc-add, zero-add, zero-div, zero-mod}
pub use native.Mathlib.Numerals.{add-one}
pub use native.Mathlib.Omega.{arith}
pub use types.Run.{OneOf, miss}
