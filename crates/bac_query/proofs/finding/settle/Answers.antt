use Rattle.std.proofs.Common.{refl, rules}
use Rattle.bac_query.specs.Hearing.{standing}
use Rattle.bac_query.proofs.finding.settle.Goals as goal

pub returns-in_err-left : goal.returns-in_err-left
returns-in_err-left g c = (
  c.hear.result,
  c.hear.new.port,
  standing (g.W.Write.contents c.hear.new.out) c.hear.new.seeking,
  c.hear.ensures,
  rw c.in_err-left.was (search rules),
)

pub returns-in_err-rest : goal.returns-in_err-rest
returns-in_err-rest g c = (
  c.hear.result,
  c.hear.new.port,
  standing (g.W.Write.contents c.hear.new.out) c.hear.new.seeking,
  c.hear.ensures,
  rw c.in_ok-left.was (
    c.hear-2.result,
    c.hear-2.new.port,
    standing (g.W.Write.contents c.hear-2.new.out) c.hear-2.new.seeking,
    c.hear-2.ensures,
    rw c.in_err-rest.was (search rules),
  ),
)

pub returns : goal.returns
returns g c = (
  c.hear.result,
  c.hear.new.port,
  standing (g.W.Write.contents c.hear.new.out) c.hear.new.seeking,
  c.hear.ensures,
  rw c.in_ok-left.was (
    c.hear-2.result,
    c.hear-2.new.port,
    standing (g.W.Write.contents c.hear-2.new.out) c.hear-2.new.seeking,
    c.hear-2.ensures,
    rw c.in_ok-rest.was (refl, refl, search rules),
  ),
)
