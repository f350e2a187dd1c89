-- How a reply is read.
pub use Rattle.bac_poll_steps.specs.Reading.{is_taken, number_told, numbered_in}
