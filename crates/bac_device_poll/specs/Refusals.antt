-- Refusals that are no last word.
pub use Rattle.bac_answers.specs.Refusals.{is_passing, is_busy, is_long, is_too_long}
