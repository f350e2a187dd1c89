use Rattle.bac_apdu.proofs.Shorts.{length-header, length-frame}
use Rattle.bac_apdu.proofs.frame.frames_have_a_size.Goals as goal

pub returns-clause-header : goal.returns-clause-header
returns-clause-header c = length-header

pub returns-clause-frame : goal.returns-clause-frame
returns-clause-frame c = length-frame
