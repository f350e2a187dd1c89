use Rattle.std.proofs.lemmas.Bool.{eqb-true}
use Rattle.bac_wire.proofs.Looks.{flags_passed}
use Rattle.bac_wire.proofs.level.are_flags_next.Goals as goal

pub returns-in-len3-up : goal.returns-in-len3-up
returns-in-len3-up c same = flags_passed c.args.bytes.now c.in-len3-up.len_at_least (eqb-true _ _ same)
