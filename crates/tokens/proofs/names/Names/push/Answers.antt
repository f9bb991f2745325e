-- `push` meets its contract. Assumes nothing.
use mathlib.Core.Path.{refl}
use native.Mathlib.Omega.{arith}
use Rattle.tokens.proofs.Scopes.{bound-more}
use Rattle.tokens.proofs.names.Names.push.Goals as goal

pub returns : goal.returns
returns c =
    bound-more c.args.self.now c.args.name refl refl (omega arith) refl
