-- 5. A first run.
pub use Rattle.bac_poll_steps.specs.Starts.{beginning, is_doubted, stands_from, starts_here, starts_behind}
pub use Rattle.bac_poll_steps.specs.Starts.{starts_at, starts, starts_by, total_of, starts_none, starts_at_count}
pub use Rattle.bac_poll_steps.specs.Starts.{starts_told, starts_refused, starts_from}
