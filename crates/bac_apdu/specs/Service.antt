-- The services, one file each: its list of parameters, and what it shows of its fields.
pub mod Choice
pub mod PropertyId
pub mod WhoIs
pub mod IAm
pub mod PropertyReference
pub mod ReadProperty
pub mod ReadPropertyAck
pub mod WriteProperty
pub mod Extent
pub mod ReadRange
pub mod ReadRangeAck
