use Rattle.bac_command_line.proofs.Hosting.{shifted, some, within}
use Rattle.std.proofs.Common.{◌<◌, ◌≤◌, subst, sym}
use Rattle.bac_command_line.proofs.network.size_of.Goals as goal

pub returns-clause-value : goal.returns-clause-value
returns-clause-value c = shifted c.args.bits c.requires.low

pub returns-clause-some : goal.returns-clause-some
returns-clause-some c = subst (λ n. 0 < n) (sym (shifted c.args.bits c.requires.low)) (some c.args.bits)

pub returns-clause-within : goal.returns-clause-within
returns-clause-within c = subst (λ n. n ≤ 4096) (sym (shifted c.args.bits c.requires.low)) (within c.args.bits c.requires.low)
