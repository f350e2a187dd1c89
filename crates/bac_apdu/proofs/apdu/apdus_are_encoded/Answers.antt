use Rattle.bac_apdu.proofs.ApduGrammar.{apdu_takes, apdu_again, apdu_written}
use Rattle.bac_apdu.proofs.apdu.apdus_are_encoded.Goals as goal

pub returns-clause-found : goal.returns-clause-found
returns-clause-found c = apdu_takes

pub returns-clause-only : goal.returns-clause-only
returns-clause-only c = λ text m is. apdu_again m text is

pub returns-clause-written : goal.returns-clause-written
returns-clause-written c = apdu_written
