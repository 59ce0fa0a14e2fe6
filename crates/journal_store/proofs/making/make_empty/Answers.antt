use Rattle.journal_store.specs.Format.{header}
use Rattle.journal_store.proofs.MakeLaws.{makes, made-bytes}
use Rattle.journal_store.proofs.making.make_empty.Goals as goal

pub returns-clause-makes : goal.returns-clause-makes
unfolding header
returns-clause-makes g c =
    λ fresh. makes c.write_and_sync.result (g.D.Disk.drive c.args.disk.now) (g.D.Disk.drive c.write_and_sync.new.disk) fresh c.write_and_sync.ensures.goes_on (c.write_and_sync.ensures.keeps fresh.honest fresh.stored)

pub returns-clause-bytes : goal.returns-clause-bytes
unfolding header
returns-clause-bytes g c =
    λ fresh. made-bytes c.write_and_sync.result (g.D.Disk.drive c.args.disk.now) (g.D.Disk.drive c.write_and_sync.new.disk) fresh (c.write_and_sync.ensures.keeps fresh.honest fresh.stored)
