use Rattle.bac_poll_steps.proofs.state.LogState.takes.Goals as goal

pub are_asked-requires : goal.are_asked-requires
are_asked-requires c = c.fits.ensures.few c.if-not-fits.false
