use Rattle.std.proofs.Common.{codes}
use Rattle.bac_tools.specs.Flaws.{reply_text}
use Rattle.bac_tools.proofs.Parts.{grown}
use Rattle.bac_tools.proofs.flaw.push_reply_flaw.Goals as goal

pub returns-in-Parameters : goal.returns-in-Parameters
unfolding reply_text
returns-in-Parameters c =
    rw c.in-Parameters.is (grown c.extend_from_slice-in-Parameters.result c.args.text.now.items (codes "the reply's parameters aren't those of an ACK of ReadRange")
    c.extend_from_slice-in-Parameters.new.self.items c.extend_from_slice-in-Parameters.ensures.items)

pub returns-in-Item : goal.returns-in-Item
unfolding reply_text
returns-in-Item c = rw c.in-Item.is c.push_around.ensures

pub returns-in-NoNumber : goal.returns-in-NoNumber
unfolding reply_text
returns-in-NoNumber c = rw c.in-NoNumber.is c.push_records.ensures
