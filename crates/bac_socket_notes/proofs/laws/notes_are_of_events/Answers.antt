use Rattle.bac_socket_notes.proofs.Events.{noted}
use Rattle.bac_socket_notes.proofs.laws.notes_are_of_events.Goals as goal

pub returns : goal.returns
returns g c = noted _ _ _ _ (λ a b octets to sent h. h.1) (λ a b heard h. h.1) (λ a b wait heard h. h.1)
