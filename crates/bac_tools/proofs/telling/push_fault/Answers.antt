use Rattle.std.proofs.Common.{codes, ◌++◌}
use Rattle.bac_tools.specs.Texts.{bad_value, fault_text}
use Rattle.bac_tools.proofs.Parts.{grown}
use Rattle.bac_tools.proofs.telling.push_fault.Goals as goal

pub returns-in-NotText : goal.returns-in-NotText
unfolding fault_text
returns-in-NotText c =
    rw c.in-NotText.is (grown c.extend_from_slice.result c.args.text.now.items (bad_value ++ codes "a word isn't UTF-8")
    c.extend_from_slice.new.self.items c.extend_from_slice.ensures.items)

pub returns-in-OtherTool : goal.returns-in-OtherTool
unfolding fault_text
returns-in-OtherTool c =
    rw c.in-OtherTool.is (grown c.extend_from_slice-in-OtherTool.result c.args.text.now.items (bad_value ++ codes "this program has no keep, kept or check")
    c.extend_from_slice-in-OtherTool.new.self.items c.extend_from_slice-in-OtherTool.ensures.items)

pub returns-in-NoDevice : goal.returns-in-NoDevice
unfolding fault_text
returns-in-NoDevice c =
    rw c.in-NoDevice.is (grown c.extend_from_slice-in-NoDevice.result c.args.text.now.items (bad_value ++ codes "no device line")
    c.extend_from_slice-in-NoDevice.new.self.items c.extend_from_slice-in-NoDevice.ensures.items)

pub returns-in-Socket : goal.returns-in-Socket
unfolding fault_text
returns-in-Socket c =
    rw c.in-Socket.is (grown c.extend_from_slice-in-Socket.result c.args.text.now.items (codes "socket fault")
    c.extend_from_slice-in-Socket.new.self.items c.extend_from_slice-in-Socket.ensures.items)

pub returns-in-Write : goal.returns-in-Write
unfolding fault_text
returns-in-Write c =
    rw c.in-Write.is (grown c.extend_from_slice-in-Write.result c.args.text.now.items (codes "write fault")
    c.extend_from_slice-in-Write.new.self.items c.extend_from_slice-in-Write.ensures.items)

pub returns-in-Memory : goal.returns-in-Memory
unfolding fault_text
returns-in-Memory c =
    rw c.in-Memory.is (grown c.extend_from_slice-in-Memory.result c.args.text.now.items (codes "out of memory")
    c.extend_from_slice-in-Memory.new.self.items c.extend_from_slice-in-Memory.ensures.items)
