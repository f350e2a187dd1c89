-- Frames (Annex J.2): what a whole datagram is, and how a frame to one device is written.
use Rattle.std.specs.Prelude.{◌≡◌, ◌≢◌, ◌<◌, ℕ, ◌+◌, ◌-◌, ◌/◌, ◌%◌, ◌&&◌, ◌==◌, List, [], ◌∷◌, ◌++◌, length, slice_set}
use Rattle.std.specs.Prelude.{Option, Some, None, if◌then◌else◌}
use Rattle.std.specs.Int.{w16, to_be_bytes}
use Rattle.bac_apdu.specs.declared.frame.Frame.{Frame as FrameCode}
use Rattle.bac_apdu.specs.declared.frame.Frame.TheVariants as code
use Rattle.bac_wire.specs.OptionChain.{◌>>=◌}
use Rattle.bac_apdu.specs.Octets.{octet_at, word_at, octets_at}

-- A frame, whatever memory holds it. Forwarded has an address and an NPDU, Function its number and what follows.
pub data Frame : Type 0 where
  Unicast : List ℕ → Frame
  Broadcast : List ℕ → Frame
  Forwarded : List ℕ → List ℕ → Frame
  Function : ℕ → List ℕ → Frame

-- a frame of the code, apart from where it lies in memory
abbrev pub frame_of : FrameCode → Frame
frame_of (code.Unicast rest) = Unicast rest.now
frame_of (code.Broadcast rest) = Broadcast rest.now
frame_of (code.Forwarded address rest) = Forwarded address rest.now
frame_of (code.Function function rest) = Function function rest.now

-- What each function has (J.2.5, J.2.11, J.2.12): Original-Unicast-NPDU is 0A,
-- Original-Broadcast-NPDU 0B; Forwarded-NPDU, 04, has six octets of address first.
unfoldable pub body_at : ℕ → List ℕ → Option Frame
body_at function bytes =
    if function == 0x0A then Some (Unicast bytes) else
    if function == 0x0B then Some (Broadcast bytes) else
    if function == 0x04 then (do
      address ← octets_at 6 bytes
      Some (Forwarded address.0 address.1)) else
    Some (Function function bytes)

-- 81, the function, the length of the whole in two octets, and what the function has
unfoldable pub frame_at : List ℕ → Option Frame
frame_at bytes = do
  kind ← octet_at bytes
  function ← octet_at kind.1
  len ← word_at function.1
  if kind.0 == 0x81 && len.0 == length bytes then body_at function.0 len.1 else None

-- a BVLC-Result (J.2.1): the function 00, and a code in two octets
abbrev pub result_octets : ℕ → List ℕ
result_octets code = (0x81 ∷ 0x00 ∷ 0x00 ∷ 0x06 ∷ []) ++ to_be_bytes w16 code

-- an Original-Unicast-NPDU (J.2.11)
unfoldable pub frame_octets : List ℕ → List ℕ
frame_octets body = (0x81 ∷ 0x0A ∷ to_be_bytes w16 (length body + 4)) ++ body

-- ---- in two steps, around an APDU that is written in place

-- the head of an Original-Unicast-NPDU that tells a length
abbrev pub unicast_head : ℕ → List ℕ
unicast_head len = 0x81 ∷ 0x0A ∷ to_be_bytes w16 len

-- The head of the frame that begins at `start` tells its length, in the two octets after type and function.
abbrev pub with_length : ℕ → List ℕ → List ℕ
with_length start octets =
    let len = length octets - start in
    slice_set (slice_set octets (start + 2) (len / 256 % 256)) (start + 3) (len % 256)

-- ---- the grammar

-- 81, the function, the length of the whole in two octets, high octet first, and what the function has (J.2)
abbrev pub framed : ℕ → List ℕ → List ℕ
framed function body = (0x81 ∷ function ∷ to_be_bytes w16 (length body + 4)) ++ body

-- the BVLC function, the number in the second octet (J.2)
abbrev pub function_of : Frame → ℕ
function_of (Unicast npdu) = 0x0A
function_of (Broadcast npdu) = 0x0B
function_of (Forwarded address npdu) = 0x04
function_of (Function function body) = function

-- what comes after the length
abbrev pub body_of : Frame → List ℕ
body_of (Unicast npdu) = npdu
body_of (Broadcast npdu) = npdu
body_of (Forwarded address npdu) = address ++ npdu
body_of (Function function body) = body

-- the octets of each frame
abbrev pub frame_encoding : Frame → List ℕ
frame_encoding frame = framed (function_of frame) (body_of frame)

-- an address has six octets, and a function with a name of its own is no other function
abbrev pub IsKind : Frame → Type 0
IsKind (Unicast npdu) = Unit {0}
IsKind (Broadcast npdu) = Unit {0}
IsKind (Forwarded address npdu) = length address ≡ 6
IsKind (Function function body) = (function ≢ 0x0A) × (function ≢ 0x0B) × (function ≢ 0x04)

-- and its length has two octets
abbrev pub IsFrame : Frame → Type 0
IsFrame frame = IsKind frame × (length (body_of frame) + 4 < 65536)
