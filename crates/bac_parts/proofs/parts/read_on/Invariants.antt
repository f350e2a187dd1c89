use Rattle.std.proofs.Common.{◌≡◌, ◌++◌, ◌+◌, List, length, map}
use Rattle.std.specs.String.{string_bytes}
use Rattle.bac_parts.specs.Visits.{Visit, VisitsEach, at_visit, path_of, visit_rules}
use Rattle.bac_parts.proofs.parts.read_on.Given as goal

-- the parts before the newer ones were visited, from the first on
abbrev pub invariant-loop-step : goal.invariant-loop-step
invariant-loop-step g l =
    (visits : List Visit) × (map string_bytes l.fn.paths ≡ map path_of visits ++ map string_bytes l.newer)
    × VisitsEach (visit_rules g.P.Parts.holds g.P.Parts.bars g.V.Reader.reads g.V.Visitor.wants g.V.Visitor.ends) visits
    (at_visit l.fn.parts l.fn.visitor (g.O.Write.contents l.fn.output)) (at_visit l.parts l.visitor (g.O.Write.contents l.output))
    × (length visits ≡ l.visited) × (length l.newer + l.step ≡ length l.fn.paths) × (l.visited ≡ l.step)
