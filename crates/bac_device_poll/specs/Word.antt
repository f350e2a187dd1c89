-- What a device tells of its restart and of its database (clause 12.11).
pub use Rattle.bac_answers.specs.Word.{is_unspecified, restart_of, moment_of}
