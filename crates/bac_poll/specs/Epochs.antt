-- 6. A new epoch: what is done where another life is told.
pub use Rattle.bac_poll_steps.specs.Epochs.{asks_oldest, asks_back, brings_behind, renews, another, another_by}
pub use Rattle.bac_poll_steps.specs.Epochs.{renews_none, renews_of, another_of}
