-- What a datagram to one device holds, and which datagram answers which request.
use Rattle.std.specs.Prelude.{ℕ, Bool, false, ◌&&◌, ◌==◌, List, Option, Some, None, if◌then◌else◌}
use Rattle.std.specs.Option.{option_map}
use Rattle.bac_wire.specs.OptionChain.{◌>>=◌}
use Rattle.bac_apdu.specs.Frame.{Frame, Unicast, Broadcast, Forwarded, Function, frame_at}
use Rattle.bac_apdu.specs.Npdu.{header_at}
use Rattle.bac_apdu.specs.Apdu.{Apdu, apdu_at}
use Rattle.bac_apdu.specs.Apdu as apdu
use Rattle.bac_link.specs.Path.{Path, path_of, comes_back}
use Rattle.bac_link.specs.Answer.{Answer, Simple, Complex, Segmented, Error, Reject, Abort}

-- an Original-Unicast-NPDU (J.2.11)
abbrev pub unicast_in : Option Frame → Option (List ℕ)
unicast_in (Some (Unicast rest)) = Some rest
unicast_in (Some (Broadcast rest)) = None
unicast_in (Some (Forwarded address rest)) = None
unicast_in (Some (Function function rest)) = None
unicast_in None = None

-- in a frame to one device, other than a message of the network layer (6.2.2): by which networks it goes, and the
-- octets of its APDU
unfoldable pub carried_in : List ℕ → Option (Path × List ℕ)
carried_in bytes = do
  npdu ← unicast_in (frame_at bytes)
  header ← header_at npdu
  if header.0.network then None else Some (path_of header.0, header.1)

-- and the APDU
unfoldable pub message_in : List ℕ → Option (Path × Apdu)
message_in bytes = do
  carried ← carried_in bytes
  apdu ← apdu_at carried.1
  Some (carried.0, apdu)

-- each of them alone
abbrev pub path_in : List ℕ → Option Path
path_in bytes = option_map (λ message. message.0) (message_in bytes)

-- the APDU alone
abbrev pub apdu_in : List ℕ → Option Apdu
apdu_in bytes = option_map (λ message. message.1) (message_in bytes)

-- the invoke ID of a confirmed request
abbrev pub asked_id : Option Apdu → Option ℕ
asked_id (Some (apdu.Confirmed segmented size invoke service parameters)) = Some invoke
asked_id _ = None

-- the invoke ID of an answer by a server, and the answer
abbrev pub answer_in : Option Apdu → Option (ℕ × Answer)
answer_in (Some (apdu.Simple invoke service)) = Some (invoke, Simple)
answer_in (Some (apdu.Complex segmented invoke service parameters)) =
    Some (invoke, if segmented then Segmented else Complex parameters)
answer_in (Some (apdu.Error invoke service class code)) = Some (invoke, Error class code)
answer_in (Some (apdu.Reject invoke reason)) = Some (invoke, Reject reason)
answer_in (Some (apdu.Abort by_server invoke reason)) = if by_server then Some (invoke, Abort reason) else None
answer_in _ = None

-- the request and the answer are there and have the same invoke ID (clause 5.4)
abbrev pub same_id : Option ℕ → Option (ℕ × Answer) → Bool
same_id None answer = false
same_id (Some invoke) None = false
same_id (Some invoke) (Some answer) = invoke == answer.0

-- the paths of request and answer are there, and the answer comes from where the request went
abbrev pub same_path : Option Path → Option Path → Bool
same_path None told = false
same_path (Some asked) None = false
same_path (Some asked) (Some told) = comes_back asked told

-- whether a datagram answers a request: both are to one device, the invoke ID is the same, and it comes from where the
-- request went
unfoldable pub answers_to : List ℕ → List ℕ → Bool
answers_to request datagram =
    same_id (asked_id (apdu_in request)) (answer_in (apdu_in datagram))
    && same_path (path_in request) (path_in datagram)
