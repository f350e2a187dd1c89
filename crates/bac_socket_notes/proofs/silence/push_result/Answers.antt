use Rattle.bac_socket_notes.proofs.Texts.{two}
use Rattle.bac_socket_notes.proofs.silence.push_result.Goals as goal

pub returns : goal.returns
returns c = two c.push_hex.result _ _ _ _ _ c.in_ok-extend_from_slice.ensures.items (rw c.to_be_bytes.ensures at c.push_hex.ensures)
