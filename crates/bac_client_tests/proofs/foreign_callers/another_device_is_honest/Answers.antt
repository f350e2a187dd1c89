use Rattle.bac_client_tests.proofs.Foreign.{honest_where}
use Rattle.bac_client_tests.proofs.foreign_callers.another_device_is_honest.Goals as goal

pub returns : goal.returns
returns c = λ count low asks two. honest_where count low asks two
