use Rattle.std.proofs.Common.{arith}
use Rattle.bac_device.proofs.Replies.{error-len}
use Rattle.bac_device.proofs.reply.error.Goals as goal

pub write_reply-requires-clause-short : goal.write_reply-requires-clause-short
write_reply-requires-clause-short c = omega (arith, error-len c.class.result c.code.result)
