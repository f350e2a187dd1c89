use Rattle.bac_device.proofs.Moves.{answers_keep, samples_keep, ticks_keep}
use Rattle.bac_device.proofs.logs.logs_move_by_steps.Goals as goal

pub returns-clause-answer : goal.returns-clause-answer
returns-clause-answer c = answers_keep

pub returns-clause-sample : goal.returns-clause-sample
returns-clause-sample c = samples_keep

pub returns-clause-advance : goal.returns-clause-advance
returns-clause-advance c = ticks_keep
