-- The part is what lies before the first separator.
use Rattle.std.proofs.Common.{sym, ◌∙◌}
use Rattle.bac_known.proofs.ReadBack.{part_split}
use Rattle.bac_known.proofs.stamps.part_before.Goals as goal

pub returns-in_err-part : goal.returns-in_err-part
returns-in_err-part c n rest few is =
    let cut = rw c.in_err-part.was at (part_split c.args.separator n c.args.text.now rest c.split_once.result c.split_once.ensures.cases c.requires few is) in
    absurd cut

pub returns-in_err-read_part : goal.returns-in_err-read_part
returns-in_err-read_part c n rest few is =
    let cut = rw c.in_ok-part.was at (part_split c.args.separator n c.args.text.now rest c.split_once.result c.split_once.ensures.cases c.requires few is) in
    let read = c.read_part.ensures n few cut.0 in
    let none = sym c.in_err-read_part.was ∙ read in absurd cc

pub returns : goal.returns
returns c n rest few is =
    let cut = rw c.in_ok-part.was at (part_split c.args.separator n c.args.text.now rest c.split_once.result c.split_once.ensures.cases c.requires few is) in
    let read = c.read_part.ensures n few cut.0 in
    let some = sym c.in_ok-read_part.was ∙ read in (cc, cut.1)
