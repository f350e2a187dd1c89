use Rattle.std.proofs.Common.{◌≡◌, ℕ, List, min, ap, subst, ◌∙◌, arith}
use Rattle.bac_objects.specs.Sampling.{log_id}
use Rattle.bac_device.specs.Answer.{answer, records_said}
use Rattle.bac_device.specs.Reply.{datagram_to}
use Rattle.bac_link.specs.Links.{HasReply}
use Rattle.bac_link.specs.Path.{back, towards}
use Rattle.bac_client_tests.proofs.direct_callers.questions_bring_replies.Goals as goal

pub returns : goal.returns
returns c = λ d source n log invoke extent sound way there ranged.
    let limit = min 1476 d.reply_size in
    let octets = datagram_to source (records_said limit invoke (log_id n) extent log) in
    let size : limit ≡ d.reply_size = omega (arith, sound.greatest_reply) in (
      octets,
      ap (λ (o : List ℕ). answer d o) (c.questions_are_the_devices.ensures source invoke n extent) ∙ c.questions_are_answered.ensures d source n log invoke extent way there ranged,
      subst (λ k. HasReply k log (log_id n) extent (back (towards source)) invoke octets) size
          (c.replies_are_the_devices.ensures.datagram source limit invoke (log_id n) extent log way (sound.logs n log there) (omega (arith, sound.least_reply)) (omega arith)),
    )
