use Rattle.std.proofs.Common.{◌∙◌, ap, take}
use Rattle.journal_store.proofs.Beginning.{head-of-all, read-front}
use Rattle.journal_store.proofs.opening.synced_head.Goals as goal

pub returns-clause-head : goal.returns-clause-head
returns-clause-head g c =
    λ honest.
    let same = (c.in_ok-sync.ensures.syncs honest).leaves.bytes in
    let reads = c.in_ok-len.ensures.bytes (c.in_ok-sync.ensures.goes_on.honest ∙ honest) in
    head-of-all c.head_of.result _ (g.D.Disk.drive c.args.disk.now).bytes (read-front (g.D.Disk.drive c.sync.new.self).bytes c.read.new.into _ 18 c.in_ok-len.len reads.0 reads.1 ∙ ap (take 18) same) c.head_of.ensures
