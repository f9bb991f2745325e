-- `build_record` meets its contract, by what `build_joined` says of the summary that it returns.
use Rattle.words.proofs.Vocabulary.{refl, arith}
use Rattle.joining.specs.Record.{AddsJoined}
use Rattle.building.specs.Build.{entry_of}
use Rattle.building.proofs.OneRecord.{builds, entered_here, entered-other}
use Rattle.building.proofs.build_record.Goals as goal
use Rattle.building.proofs.build_record.Goals.{After-build_joined-k}

-- the parts are those that are named
added : (c : After-build_joined-k) → let a = c.args in
    AddsJoined a.x a.s a.r (entry_of a.machines.now a.x.first) (entry_of a.machines.now a.x.second) c.build_joined-k.result a.ws.now c.build_joined-k.new.ws
added c = rw (c.kept-f.ensures, c.kept-g.ensures, c.from.ensures, c.from-2.ensures) at c.build_joined-k.ensures.adds_joined

pub returns-then-s-from : goal.returns-then-s-from
returns-then-s-from c =
    builds (added (goal.at.returns-then-s-from c).After-build_joined-k) c.build_joined-k.ensures.spared (λ a e. refl) refl (λ e. omega arith) (λ e. absurd cc)

pub returns : goal.returns
returns c =
    let k = c.build_joined-k.result in
    rw c.keep.ensures
    (builds (added (goal.at.returns c).After-build_joined-k) c.build_joined-k.ensures.spared
    (λ a e. entered-other _ _ k a (λ q. let z = e q in absurd cc)) tt (λ e. absurd cc)
    (λ e. (omega arith, entered_here c.args.machines.now c.args.r k (omega arith) (omega arith) (omega arith))))
