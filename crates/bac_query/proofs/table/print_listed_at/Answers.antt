use Rattle.std.proofs.Common.{refl}
use Rattle.bac_query.proofs.table.print_listed_at.Goals as goal

pub unreachable-requires : goal.unreachable-requires
unreachable-requires g c = c.in-None.ensures.none refl c.requires.is.0 c.requires.is.1
