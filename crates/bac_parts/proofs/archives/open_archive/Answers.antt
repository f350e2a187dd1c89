use Rattle.std.proofs.Common.{Err, ap, refl}
use Rattle.bac_parts.proofs.archives.open_archive.Goals as goal

pub returns-in-Err-clause-refused : goal.returns-in-Err-clause-refused
returns-in-Err-clause-refused g c = (c.in-Err.why, refl, (c.in-Err.ensures.why, λ clean error same. c.in-Err.ensures.cause clean error (ap Err same)))
