-- The numbers of properties (clause 21, BACnetPropertyIdentifier).
use Rattle.std.specs.Prelude.{ℕ}

-- Log_Buffer of a Trend Log (clause 12.25)
abbrev pub log_buffer : ℕ
log_buffer = 131
