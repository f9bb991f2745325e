-- `put_alike` meets its contract. Assumes nothing.
use Rattle.drafting.proofs.Drafts.{alike_is}
use Rattle.drafting.proofs.Draft.put_alike.Goals as goal

pub returns : goal.returns
returns c =
    alike_is c.last-b.ensures.value _ _ c.last-a.ensures.value
    c.put.ensures.puts c.put-2.ensures.puts c.put-3.ensures.puts c.put-4.ensures.puts c.put-5.ensures.puts
