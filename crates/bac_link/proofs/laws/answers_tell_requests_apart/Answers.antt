use Rattle.bac_link.proofs.Client.{answers_tell_apart}
use Rattle.bac_link.proofs.laws.answers_tell_requests_apart.Goals as goal

pub returns : goal.returns
returns c = answers_tell_apart
