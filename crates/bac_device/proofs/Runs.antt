-- Runs of events.
use Rattle.std.proofs.Common.{◌≡◌, refl, ap, ℕ, List, [], ◌∷◌, ◌++◌, map}
use Rattle.bac_objects.specs.State.{State}
use Rattle.bac_device.specs.Answer.{answer}
use Rattle.bac_device.specs.History.{after}
use Rattle.bac_device.specs.Run.{Datagram, Event, left_by, outcomes_of, step}

same_outcomes : (d : State) (first rest : List Event) → outcomes_of d (first ++ rest) ≡ outcomes_of d first ++ outcomes_of (left_by d first) rest
same_outcomes d [] rest = refl
same_outcomes d (event ∷ events) rest = ap (λ said. (step d event).0 ∷ said) (same_outcomes (step d event).1 events rest)

same_left : (d : State) (first rest : List Event) → left_by d (first ++ rest) ≡ left_by (left_by d first) rest
same_left d [] rest = refl
same_left d (event ∷ events) rest = same_left (step d event).1 events rest

pub runs_joined : (d : State) (first rest : List Event)
    → (outcomes_of d (first ++ rest) ≡ outcomes_of d first ++ outcomes_of (left_by d first) rest) × (left_by d (first ++ rest) ≡ left_by (left_by d first) rest)
runs_joined d first rest = (same_outcomes d first rest, same_left d first rest)

pub datagrams_left : (d : State) (datagrams : List (List ℕ)) → left_by d (map (λ octets. Datagram octets) datagrams) ≡ after d datagrams
datagrams_left d [] = refl
datagrams_left d (octets ∷ datagrams) = datagrams_left (answer d octets).1 datagrams
