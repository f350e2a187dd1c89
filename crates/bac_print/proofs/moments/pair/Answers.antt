use Rattle.std.proofs.Common.{refl}
use Rattle.bac_print.proofs.PlainMoments.{PAIRS_at}
use Rattle.bac_print.proofs.moments.pair.Goals as goal

pub returns : goal.returns
returns c = let p = PAIRS_at c.args.n c.requires in rw (p.0, p.1) refl
