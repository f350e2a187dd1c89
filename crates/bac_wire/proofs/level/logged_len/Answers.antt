use Rattle.std.proofs.lemmas.List.{take_rest}
use Rattle.bac_wire.proofs.Looks.{both_passed}
use Rattle.bac_wire.proofs.level.logged_len.Goals as goal

pub returns-then-are_flags_next : goal.returns-then-are_flags_next
returns-then-are_flags_next c =
    both_passed c.in_ok-len.len 3 c.args.bytes.now (c.in_ok-len.ensures {u = tt}) (rw (take_rest c.args.bytes.now c.in_ok-len.len) at (c.are_flags_next.ensures c.if-are_flags_next.true))
