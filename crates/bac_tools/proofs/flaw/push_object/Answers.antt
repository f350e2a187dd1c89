use Rattle.std.proofs.Common.{codes, sym, refl}
use Rattle.bac_tools.specs.Flaws.{around, reply_text}
use Rattle.bac_tools.proofs.Parts.{two}
use Rattle.bac_tools.proofs.flaw.push_object.Goals as goal

pub returns : goal.returns
unfolding reply_text
returns c =
    rw (sym c.kind.ensures.value, sym c.from.ensures, sym c.instance.ensures.value, sym c.from-2.ensures)
    (two c.push_around-2.result c.args.text.now.items (around (codes "the reply is of object ") c.from.result (codes " "))
    (around (codes "") c.from-2.result (codes ", not of the trend log")) (around (codes "") c.from-2.result (codes ", not of the trend log"))
    c.push_around.new.text.items c.push_around-2.new.text.items c.in_ok-push_around.ensures refl c.push_around-2.ensures)
