-- What is known of a log that is polled.
pub use Rattle.bac_poll_steps.specs.State.{PollState, StandingAs, standing_as, KeptAs, ToldAs, Reply, reply_as}
pub use Rattle.bac_poll_steps.specs.State.{maybe_reply, kept_of, kept_as, maybe_kept, told_as}
