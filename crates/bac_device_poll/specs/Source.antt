-- What a trend log logs, its Log_DeviceObjectProperty: a BACnetDeviceObjectPropertyReference (clause 21).
pub use Rattle.bac_answers.specs.Source.{as_object, as_enumerated, as_unsigned, object_at, property_at, number_at}
pub use Rattle.bac_answers.specs.Source.{given, maybe_index, maybe_device, ended, reference_at, read_as, source_of}
