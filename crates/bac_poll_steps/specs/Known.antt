-- What records say of those that are known: section 1 of the rule.
use Rattle.std.specs.Prelude.{◌&&◌, Bool, if◌then◌else◌, List}
use Rattle.std.specs.Option.{is_some}
use Rattle.bac_walk.specs.declared.batch.Numbered.{Numbered}
use Rattle.bac_known.specs.declared.known.Means.{Means}
use Rattle.bac_known.specs.declared.known.Means.TheVariants.{Shifted, Partly, Same, Unshown as NoneShown}
use Rattle.bac_known.specs.declared.known.Means.TheVariants.{Another as OtherShown}
use Rattle.bac_poll_steps.specs.State.{PollState}
pub use Rattle.bac_known.specs.Known.{shift, is_same_value, shift_of, shown_as, record_at, maybe_shown, shown_in}
pub use Rattle.bac_known.specs.Known.{records_behind, number_in, is_unshown, is_another, is_equal, shift_in}
pub use Rattle.bac_known.specs.Known.{means_all, means_some, means_shifted, means_other, means_of, is_other_restart}
pub use Rattle.bac_known.specs.Known.{is_other_revision, is_other_word, is_restart_changed, is_revision_changed}
pub use Rattle.bac_known.specs.Known.{is_untold, word_of, is_retold, is_steady_with}

-- a value that never changes, at even times, shows nothing
abbrev pub is_steady : PollState → Bool
is_steady p = is_steady_with p.newest p.earlier && is_steady_with p.newest p.earliest

-- so a shift counts only where the word isn't another one
abbrev pub heeding : PollState → Means → Means
heeding p (Shifted by) = if is_steady p && is_other_word p.word p.told then OtherShown else Shifted by
heeding p NoneShown = NoneShown
heeding p Same = Same
heeding p Partly = Partly
heeding p OtherShown = OtherShown

-- what records say of the known ones
abbrev pub means_in : PollState → List Numbered → Means
means_in p records =
    heeding p (means_of (is_some p.earliest) (shown_in p.newest records) (shown_in p.earlier records)
    (shown_in p.earliest records))
