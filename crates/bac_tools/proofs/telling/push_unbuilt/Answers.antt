use Rattle.std.proofs.Common.{codes, ◌∙◌}
use Rattle.bac_tools.specs.Texts.{build_text, unbuilt_text}
use Rattle.bac_tools.proofs.Parts.{grown, two}
use Rattle.bac_tools.proofs.telling.push_unbuilt.Goals as goal

pub returns : goal.returns
unfolding unbuilt_text
returns c =
    two c.extend_from_slice-2.result c.args.text.now.items (codes "cannot build: ") (build_text c.args.fault) c.as_bytes.result.now
    c.extend_from_slice.new.self.items c.extend_from_slice-2.new.self.items
    c.in_ok-extend_from_slice.ensures.items (c.as_bytes.ensures.value ∙ c.built_badly.ensures)
    (grown c.extend_from_slice-2.result c.extend_from_slice.new.self.items c.as_bytes.result.now
    c.extend_from_slice-2.new.self.items c.extend_from_slice-2.ensures.items)
