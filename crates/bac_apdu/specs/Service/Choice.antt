-- The numbers of services (clause 21, BACnetConfirmedServiceChoice and BACnetUnconfirmedServiceChoice).
use Rattle.std.specs.Prelude.{ℕ}

-- ReadProperty, confirmed (clause 15.5)
abbrev pub read_property_service : ℕ
read_property_service = 12

-- WriteProperty, confirmed (clause 15.9)
abbrev pub write_property_service : ℕ
write_property_service = 15

-- ReadRange, confirmed (clause 15.8)
abbrev pub read_range_service : ℕ
read_range_service = 26

-- I-Am, unconfirmed (clause 16.10)
abbrev pub i_am_service : ℕ
i_am_service = 0

-- Who-Is, unconfirmed (clause 16.10)
abbrev pub who_is_service : ℕ
who_is_service = 8
