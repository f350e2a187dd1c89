-- What an answer to ReadProperty tells (clause 15.5).
pub use Rattle.bac_answers.specs.Values.{values_of, values_in, told_by, if_last, only, value_of, value_by}
pub use Rattle.bac_answers.specs.Values.{number_of, enumerated_of, date_in, date_of, time_in, time_of, IsText}
pub use Rattle.bac_answers.specs.Values.{object_by, object_in, only_object, object_of, with_object, objects_in}
pub use Rattle.bac_answers.specs.Values.{no_objects, objects_of}
