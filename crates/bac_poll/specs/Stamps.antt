-- How dates and times are written.
pub use Rattle.bac_known.specs.Stamps.{stamp_text, IsDate4, IsTime4, IsDateBack, IsTimeBack, IsReadBack, IsSeparator}
pub use Rattle.bac_known.specs.Stamps.{IsPartRead, is_date_time, date_time_in, stamped}
