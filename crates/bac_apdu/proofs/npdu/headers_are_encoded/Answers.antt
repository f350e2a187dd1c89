use Rattle.std.proofs.Common.{refl}
use Rattle.bac_apdu.proofs.Grammar.{header_takes, header_again, control_written}
use Rattle.bac_apdu.proofs.npdu.headers_are_encoded.Goals as goal

pub returns-clause-found : goal.returns-clause-found
returns-clause-found c = λ bytes rest h octets e. let t = header_takes bytes (h, rest) octets e in (t.valid, (t.control, t.said, t.parts))

pub returns-clause-only : goal.returns-clause-only
returns-clause-only c = header_again

pub returns-clause-written : goal.returns-clause-written
returns-clause-written c = λ h. (control_written h, refl)
