use Rattle.std.proofs.Common.{Ok, Err}
use Rattle.bac_parts.proofs.archives.close_file.Goals as goal

pub returns-in-Ok-clause-ends : goal.returns-in-Ok-clause-ends
returns-in-Ok-clause-ends g c = (Ok tt, (c.in-Ok.ensures.closed, c.in-Ok.ensures.unfailed), c.and_shut.ensures)

pub returns-in-Err-clause-ends : goal.returns-in-Err-clause-ends
returns-in-Err-clause-ends g c = (Err c.in-Err.error, (c.in-Err.ensures.failed, c.in-Err.ensures.unclosed), c.and_shut-in-Err.ensures)
