-- What a device tells of its restart and of its database (clause 12.11).
use Rattle.std.specs.Prelude.{ℕ, ◌==◌, Bool, if◌then◌else◌, List, [], Option, None, Some}
use Rattle.std.specs.List.{list_any}
use Rattle.hex.specs.Hex.{encode_lower}
use Rattle.bac_known.specs.DateTime.{undated}
use Rattle.bac_known.specs.Stamps.{stamped}
use Rattle.bac_known.specs.declared.date_time.DateTime.{DateTime}

-- an octet of 255 says that its part is unspecified
abbrev pub is_unspecified : List ℕ → Bool
is_unspecified values = list_any (λ octet. octet == 255) values

-- a restart as it is kept, the octets of its value in hexadecimal digits: nothing of one with an unspecified part
abbrev pub restart_of : Option (List ℕ) → List ℕ
restart_of None = []
restart_of (Some values) = if is_unspecified values then [] else encode_lower values

-- the same as a date and time, if it is one
abbrev pub moment_of : Option (List ℕ) → DateTime
moment_of None = undated
moment_of (Some values) = if is_unspecified values then undated else stamped values
