use Rattle.journal_store.proofs.reader.Reader.begin.Goals as goal

pub returns-in-Err-clause-image : goal.returns-in-Err-clause-image
returns-in-Err-clause-image g c = λ honest stored image there. (c.in-Err.ensures.begins honest stored).image image there

pub returns-in-Ok-open-clause-image : goal.returns-in-Ok-open-clause-image
returns-in-Ok-open-clause-image g c = λ honest stored image there. (c.in-Ok-open.ensures.begins honest stored).image image there

pub returns-in-Ok-open-clause-since : goal.returns-in-Ok-open-clause-since
returns-in-Ok-open-clause-since g c = λ honest stored moment image early since. (c.in-Ok-open.ensures.begins honest stored).since moment image early since
