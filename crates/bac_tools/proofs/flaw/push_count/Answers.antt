use Rattle.std.proofs.Common.{codes, decimal, refl}
use Rattle.bac_tools.specs.Flaws.{in_all, reply_text}
use Rattle.bac_tools.proofs.Parts.{two}
use Rattle.bac_tools.proofs.flaw.push_count.Goals as goal

pub returns : goal.returns
unfolding reply_text
returns c =
    two c.push_number.result c.args.text.now.items (in_all c.args.records (codes " in all, and item count ")) (decimal c.args.count) (decimal c.args.count)
    c.push_records.new.text.items c.push_number.new.text.items c.in_ok-push_records.ensures refl c.push_number.ensures
