use Rattle.std.proofs.Common.{◌∙◌, ap, arith, length, List, ℕ}
use Rattle.bac_apdu.specs.Apdu.{apdu_octets}
use Rattle.bac_device.proofs.Replies.{begun_size, short_enough, too_long}
use Rattle.bac_device.proofs.reply.end_within.Goals as goal

pub returns-then-octets-limit : goal.returns-then-octets-limit
returns-then-octets-limit c = λ m e.
    c.abort.ensures ∙ too_long c.args.limit c.args.invoke m (omega (arith, c.if-octets-limit.true, ap (λ (l : List ℕ). length l) c.octets.ensures.value, begun_size c.args.out.now (apdu_octets m) e))

pub returns : goal.returns
returns c = λ m e.
    c.end.ensures m e ∙ short_enough c.args.limit c.args.invoke m (omega (arith, c.if-octets-limit.false, ap (λ (l : List ℕ). length l) c.octets.ensures.value, begun_size c.args.out.now (apdu_octets m) e))
