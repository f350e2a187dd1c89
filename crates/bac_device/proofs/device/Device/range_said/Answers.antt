use Rattle.bac_device.proofs.Unaborted.{records_asked}
use Rattle.bac_device.proofs.device.Device.range_said.Goals as goal

pub log_answer-requires-clause-buffer : goal.log_answer-requires-clause-buffer
log_answer-requires-clause-buffer c = records_asked c.self.inside.database c.args.request.now c.in-Ok.log.now c.in-Ok.ensures
