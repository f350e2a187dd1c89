use Rattle.bac_socket_notes.proofs.Texts.{four}
use Rattle.bac_socket_notes.specs.Silence.{strays_text}
use Rattle.bac_socket_notes.proofs.silence.push_strays.Goals as goal

pub returns : goal.returns
unfolding strays_text
returns c =
    four c.push_full.result _ _ _ _ _ _ _ _ _ c.in_ok-push_counts.ensures c.in_ok-extend_from_slice.ensures.items c.in_ok-push_stray.ensures c.push_full.ensures
