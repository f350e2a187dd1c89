-- Dates and times as values.
pub use Rattle.bac_known.specs.DateTime.{dated, undated, is_same_time, is_date, is_time, is_moment, day_of, ticks_of}
pub use Rattle.bac_known.specs.DateTime.{is_before}
