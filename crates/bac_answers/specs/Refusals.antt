-- Refusals that are no last word.
use Rattle.std.specs.Prelude.{Bool, false, ◌==◌, ◌&&◌, ◌||◌}
use Rattle.bac_link.specs.declared.exchanges.Refusal.{Refusal}
use Rattle.bac_link.specs.declared.exchanges.Refusal.TheVariants.{Abort, Error, Reject}
use Rattle.bac_link.specs.declared.exchanges.Verdict.{Verdict}
use Rattle.bac_link.specs.declared.exchanges.Verdict.TheVariants.{Ack, BadReply, Refused}

-- preempted, out of time or of resources, or no answer from behind it (Abort 3, 8, 9 and 10; clause 18.10), or a device
-- that is busy (Error 0 3; clause 18)
abbrev pub is_passing : Refusal → Bool
is_passing (Error class code) = class == 0 && code == 3
is_passing (Reject reason) = false
is_passing (Abort reason) = reason == 3 || (reason == 8 || (reason == 9 || reason == 10))

-- an answer that is one
abbrev pub is_busy : Verdict → Bool
is_busy Ack = false
is_busy (Refused refusal) = is_passing refusal
is_busy BadReply = false

-- too long for one answer: no room for it, no segments, or an APDU that is too long (Abort 1, 4 and 11; clause 18.10)
abbrev pub is_long : Refusal → Bool
is_long (Error class code) = false
is_long (Reject reason) = false
is_long (Abort reason) = reason == 1 || (reason == 4 || reason == 11)

-- an answer that says so
abbrev pub is_too_long : Verdict → Bool
is_too_long Ack = false
is_too_long (Refused refusal) = is_long refusal
is_too_long BadReply = false
