-- What two alike sides put into a draft. Assumes nothing.
use Prim.Native.Nat.{ℕ, ◌+◌, ◌-◌, ◌<◌, ◌≤◌, min}
use mathlib.Core.Path.{◌≡◌, refl}
use mathlib.Core.List.{List, [], ◌∷◌}
use native.Mathlib.Omega.{arith}
use lib.ListN.{length, length-append}
use Rattle.logic.specs.Rule.{Record, last_of}
use Rattle.text.specs.Records.{put, put_alike}
use Rattle.drafting.specs.declared.Draft.{Draft}
use Rattle.drafting.specs.Draft.{Puts, Joins}

pub put-length : (op a b : ℕ) (rs : List Record) → length (put op a b rs) ≡ length rs + 1
put-length op a b rs = length-append rs (record { op = op; first = a; second = b } ∷ [])

-- what `last` gives of the count l of the first records fs, while there is room behind all of them, gs
last_is : (fs gs : List Record) (l x c : ℕ) → l ≡ min (length fs) 129 → length fs ≤ length gs → c ≡ min (length gs) 129 → (l ≤ 128 → x ≡ l - 1)
    → c < 128 → x ≡ last_of fs
last_is fs gs l x c e m f g h = let z = g (omega arith) in omega arith

-- the five records of `<=>`
pub alike_is : {d d₁ : Draft} {x : ℕ} → (d.count ≤ 128 → x ≡ d.count - 1) → (l y : ℕ) {d₂ d₃ d₄ d₅ : Draft} → (l ≤ 128 → y ≡ l - 1) → Puts d 5 y 0 d₁ → Puts d₁ 5 x 0 d₂
    → Puts d₂ 6 d.count x d₃ → Puts d₃ 6 d₁.count y d₄ → Puts d₄ 7 d₂.count d₃.count d₅ → Joins d l d₅ put_alike
alike_is {d} {d₁} {x} f l y g p₁ p₂ p₃ p₄ p₅ fs gs e m D =
    let i = length gs in
    let a = last_of fs in
    let b = last_of gs in
    let s = D.size in
    let is_a : d.count < 128 → y ≡ a = last_is fs gs l y d.count e m s g in
    let is_b : d.count < 128 → x ≡ b = last_is gs gs d.count x d.count s (omega arith) s f in
    let D₁ = p₁ gs a 0 D is_a (λ _. refl) in
    let s₁ = D₁.size in
    let l₁ = put-length 5 a 0 gs in
    let r₁ = put 5 a 0 gs in
    let D₂ = p₂ r₁ b 0 D₁ (λ h. is_b (omega arith)) (λ _. refl) in
    let s₂ = D₂.size in
    let l₂ = put-length 5 b 0 r₁ in
    let r₂ = put 5 b 0 r₁ in
    let D₃ = p₃ r₂ i b D₂ (λ h. omega arith) (λ h. is_b (omega arith)) in
    let s₃ = D₃.size in
    let l₃ = put-length 6 i b r₂ in
    let r₃ = put 6 i b r₂ in
    let D₄ = p₄ r₃ (i + 1) a D₃ (λ h. omega arith) (λ h. is_a (omega arith)) in
    let s₄ = D₄.size in
    let l₄ = put-length 6 (i + 1) a r₃ in
    p₅ (put 6 (i + 1) a r₃) (i + 2) (i + 3) D₄ (λ h. omega arith) (λ h. omega arith)
