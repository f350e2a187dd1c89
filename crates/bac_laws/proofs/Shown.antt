-- Records of which something holds.
use Rattle.std.specs.Prelude.{List, [], ◌∷◌, Option, None, Some}
use Rattle.bac_poll.specs.State.{Reply}
use Rattle.bac_walk.specs.declared.batch.Numbered.{Numbered}

-- it holds of each of these
abbrev pub Each : (Numbered → Type 0) → List Numbered → Type 0
Each P [] = Unit {0}
Each P (held ∷ others) = P held × Each P others

-- and of each that a reply shows
abbrev pub Shows : (Numbered → Type 0) → Option Reply → Type 0
Shows P None = Unit {0}
Shows P (Some reply) = Each P reply.records
