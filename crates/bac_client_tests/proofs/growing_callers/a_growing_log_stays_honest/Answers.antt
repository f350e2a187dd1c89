use Rattle.bac_client_tests.specs.declared.growing_callers.GrowingLink.{GrowingLink}
use Rattle.bac_client_tests.proofs.Growing.{stays}
use Rattle.bac_client_tests.proofs.growing_callers.a_growing_log_stays_honest.Goals as goal

pub returns : goal.returns
returns c = λ count more link asks room. stays (λ (l : GrowingLink). l.logged) count more link asks room
