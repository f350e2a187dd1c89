use Rattle.bac_print.proofs.Parts.{three}
use Rattle.bac_socket_notes.specs.Silence.{counts_text}
use Rattle.bac_socket_notes.proofs.silence.push_counts.Goals as goal

pub returns : goal.returns
unfolding counts_text
returns c = three c.push_count-2.result _ _ _ _ _ _ _ c.in_ok-extend_from_slice.ensures.items c.in_ok-push_count.ensures c.push_count-2.ensures
