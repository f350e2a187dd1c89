use Rattle.std.proofs.Common.{◌≡◌, take}
use Rattle.std.specs.List.{filter}
use Rattle.bac_check.specs.Counted.{is_unknown}
use Rattle.bac_check.proofs.course.unknown.Given as goal

-- those so far that aren't among them
abbrev pub invariant-loop-one : goal.invariant-loop-one
invariant-loop-one l = l.new.items ≡ filter (is_unknown l.courses) (take l.one-index l.begun)
