use Rattle.std.proofs.Common.{codes, refl}
use Rattle.bac_tools.specs.Flaws.{around, in_all, reply_text}
use Rattle.bac_tools.proofs.Parts.{two}
use Rattle.bac_tools.proofs.flaw.push_too_many.Goals as goal

pub returns : goal.returns
unfolding reply_text
returns c =
    let after = around (codes "") c.args.asked (codes " were asked for") in
    two c.push_around.result c.args.text.now.items (in_all c.args.records (codes " in all; ")) after after
    c.push_records.new.text.items c.push_around.new.text.items c.in_ok-push_records.ensures refl c.push_around.ensures
