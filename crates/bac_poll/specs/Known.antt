-- What records say of those that are known: section 1 of the rule.
pub use Rattle.bac_poll_steps.specs.Known.{is_steady, heeding, means_in, shift, is_same_value, shift_of, shown_as}
pub use Rattle.bac_poll_steps.specs.Known.{record_at, maybe_shown, shown_in, records_behind, number_in, is_unshown}
pub use Rattle.bac_poll_steps.specs.Known.{is_another, is_equal, shift_in, means_all, means_some, means_shifted}
pub use Rattle.bac_poll_steps.specs.Known.{means_other, means_of, is_other_restart, is_other_revision}
pub use Rattle.bac_poll_steps.specs.Known.{is_other_word, is_restart_changed, is_revision_changed, is_untold}
pub use Rattle.bac_poll_steps.specs.Known.{word_of, is_retold, is_steady_with}
