-- `note` meets its contract.
use Rattle.words.proofs.Vocabulary.{ℕ, ◌+◌, ◌≡◌, ◌∙◌, ap, [], ◌∷◌, set, take, arith}
use Rattle.layout.specs.Shape.{place_in}
use Rattle.std.specs.Option.{unwrap_or}
use Rattle.exploring.specs.Explore.{place_of}
use Rattle.exploring.proofs.Place.{place-or, place-new}
use Rattle.exploring.proofs.note.Goals as goal

pub returns : goal.returns
returns c =
    let a = c.args in
    let b = a.b.now in
    let at = place-or a.x b.count b.codes (omega arith) in
    let found = c.locate-at.ensures in
    let is : c.unwrap_or.result ≡ unwrap_or (place_of a.x (take b.count b.codes)) b.count = cc in
    record {
      found = λ h. place-new a.x b.count b.codes (omega arith) _ (rw found at c.is_none.ensures);
      written = λ h. c.enter.ensures ∙ ap (λ (n : ℕ). set a.ws.now (a.p.base + place_in a.p.shape a.l (a.i ∷ a.j ∷ [])) n) (is ∙ at.0);
      passed = λ h. absurd (omega arith);
    }
