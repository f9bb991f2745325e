-- `find` meets its contract.
use Rattle.words.proofs.Vocabulary.{◌∙◌, take, rules, eqb}
use borrow.Author.Tests.{tests}
use Rattle.std.proofs.lemmas.Iterator.{YieldsList-from_slice}
use Rattle.std.proofs.lemmas.Iterator.Search.{position_from_yields_List}
use Rattle.exploring.proofs.Place.{first-place}
use Rattle.exploring.proofs.find.Goals as goal

pub returns : goal.returns
returns c =
    let b = c.args.b.now in
    let x = c.args.x in
    let codes = take b.count b.codes in
    position_from_yields_List (λ y. eqb y x) _ _ c.position.result c.position.ensures.ran (YieldsList-from_slice codes (cc)) (λ y b q k. search (rules, tests))
    ∙ first-place x codes
