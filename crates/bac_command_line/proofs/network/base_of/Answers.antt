use Rattle.std.proofs.Common.{◌+◌, ◌*◌, ◌/◌, ◌^◌, ◌<◌, ◌≤◌, subst, sym, arith}
use Rattle.bac_command_line.proofs.Hosting.{room, some}
use Rattle.bac_command_line.proofs.network.base_of.Goals as goal

pub nonzero_div-result : goal.nonzero_div-result
nonzero_div-result c = subst (λ n. 0 < n) (sym c.requires.size) (some c.args.bits)

pub returns-clause-room : goal.returns-clause-room
returns-clause-room c =
    let below : c.args.host < 2 ^ 32 = omega arith in
    subst (λ n. c.args.host / n * n + n ≤ 2 ^ 32) (sym c.requires.size) (room c.args.host c.args.bits below c.requires.high)
