use Rattle.std.proofs.Common.{codes}
use Rattle.bac_tools.specs.Reasons.{flaw_text}
use Rattle.bac_tools.proofs.Parts.{grown}
use Rattle.bac_tools.proofs.reason.push_flaw.Goals as goal

pub returns-in-Kind : goal.returns-in-Kind
unfolding flaw_text
returns-in-Kind c =
    rw c.in-Kind.is (grown c.extend_from_slice.result c.args.text.now.items
    (codes "a line begins with device, binary, multistate, integer, log, rx, clock, sample or walk")
    c.extend_from_slice.new.self.items c.extend_from_slice.ensures.items)

pub returns-in-Described : goal.returns-in-Described
unfolding flaw_text
returns-in-Described c =
    rw c.in-Described.is (grown c.extend_from_slice-in-Described.result c.args.text.now.items
    (codes "a line begins with device, binary, multistate, integer or log")
    c.extend_from_slice-in-Described.new.self.items c.extend_from_slice-in-Described.ensures.items)

pub returns-in-Event : goal.returns-in-Event
unfolding flaw_text
returns-in-Event c =
    rw c.in-Event.is (grown c.extend_from_slice-in-Event.result c.args.text.now.items
    (codes "a configuration has no events: rx, clock, sample and walk are for bac replay")
    c.extend_from_slice-in-Event.new.self.items c.extend_from_slice-in-Event.ensures.items)
