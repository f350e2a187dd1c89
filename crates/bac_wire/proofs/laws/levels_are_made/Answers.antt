use Rattle.bac_wire.proofs.Joins.{levels_join, level_encloses, value_level, context_level}
use Rattle.bac_wire.proofs.laws.levels_are_made.Goals as goal

pub returns-clause-value : goal.returns-clause-value
returns-clause-value c = value_level

pub returns-clause-context : goal.returns-clause-context
returns-clause-context c = context_level

pub returns-clause-joined : goal.returns-clause-joined
returns-clause-joined c = levels_join

pub returns-clause-enclosed : goal.returns-clause-enclosed
returns-clause-enclosed c = level_encloses
