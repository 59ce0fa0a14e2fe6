use Rattle.std.proofs.Common.{◌∙◌, ap, sym}
use Rattle.exchange_top.specs.EndText.{end_text}
use Rattle.exchange_top.proofs.ending.write_end.Goals as goal

pub returns-in-NotJournal : goal.returns-in-NotJournal
returns-in-NotJournal c = c.write_error.ensures ∙ sym (ap end_text c.in-NotJournal.is)
