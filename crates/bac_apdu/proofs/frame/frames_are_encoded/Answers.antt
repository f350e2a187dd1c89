use Rattle.std.proofs.Common.{refl}
use Rattle.bac_apdu.specs.Frame.{frame_octets}
use Rattle.bac_apdu.proofs.Grammar.{frame_takes, frame_again}
use Rattle.bac_apdu.proofs.frame.frames_are_encoded.Goals as goal

pub returns-clause-found : goal.returns-clause-found
returns-clause-found c = frame_takes

pub returns-clause-only : goal.returns-clause-only
returns-clause-only c = frame_again

pub returns-clause-written : goal.returns-clause-written
unfolding frame_octets
returns-clause-written c = λ npdu. refl
