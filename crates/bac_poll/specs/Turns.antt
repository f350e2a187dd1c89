-- What an answer makes of a poll, and the steps of which the rule is made.
pub use Rattle.bac_poll_steps.specs.Turns.{Turned, turned, asks, asks_at, ends, end_of, gap_up_to, asking_from}
pub use Rattle.bac_poll_steps.specs.Turns.{standing_on, standing_alone, third_known, knowing, behind, brings_to}
pub use Rattle.bac_poll_steps.specs.Turns.{brings, standing_at, confirmed, next_life, renewed, anew, with_restart}
pub use Rattle.bac_poll_steps.specs.Turns.{revision_or, word_with, kept_or, number_before, first_in, last_in}
pub use Rattle.bac_poll_steps.specs.Turns.{number_or, first_number, before_last}
