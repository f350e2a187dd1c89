use Rattle.bac_keeping.proofs.Opened.{named_halts}
use Rattle.bac_keeping.proofs.naming.name_told.Goals as goal

pub returns-in-Ok-clause-halts : goal.returns-in-Ok-clause-halts
returns-in-Ok-clause-halts g c clean =
    named_halts g.S.Store c.args.named.now c.args.told c.as_slice.result.now c.in-Ok.puts.items c.args.conn.now c.put_any.new.conn c.put_any.result c.as_slice.ensures.value c.in-Ok.ensures.ok
    (c.put_any.ensures.halts clean)
