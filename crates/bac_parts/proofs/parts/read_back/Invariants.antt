use Rattle.std.proofs.Common.{◌≡◌, ◌++◌, ◌+◌, List, length, map, reverse}
use Rattle.std.specs.String.{string_bytes}
use Rattle.bac_parts.specs.Visits.{Visit, VisitsEach, at_visit, path_of, visit_rules}
use Rattle.bac_parts.proofs.parts.read_back.Given as goal

-- the parts behind the older ones were visited, from the newest back
abbrev pub invariant-loop-step : goal.invariant-loop-step
invariant-loop-step g l =
    (visits : List Visit) × (map string_bytes l.fn.paths ≡ map string_bytes l.older ++ reverse (map path_of visits))
    × VisitsEach (visit_rules g.P.Parts.holds g.P.Parts.bars g.V.Reader.reads g.V.Visitor.wants g.V.Visitor.ends) visits
    (at_visit l.fn.parts l.fn.visitor (g.O.Write.contents l.fn.output)) (at_visit l.parts l.visitor (g.O.Write.contents l.output))
    × (length l.older + l.step ≡ length l.fn.paths)
