-- The Object_List of a device (clause 12.11).
use Rattle.std.specs.Prelude.{ℕ, ◌==◌, ◌&&◌, Bool, true, if◌then◌else◌, List, [], ◌∷◌}
use Rattle.std.specs.Prelude.{Option, None, Some, count_by}
use Rattle.bac_wire.specs.Primitive.{Id}
use Rattle.bac_answers.specs.Naming.{is_other}
use Rattle.bac_answers.specs.declared.entry.Entry.{Entry}
use Rattle.bac_answers.specs.declared.entry.Entry.TheVariants.{Others as Told}
use Rattle.bac_answers.specs.declared.entry.Others.{Others}

-- whether a device that tells this revision may have another list; one that tells none may
abbrev pub may_differ : (was : Option ℕ) → (now : Option ℕ) → Bool
may_differ was None = true
may_differ was (Some now) = is_other was now

-- the same object
abbrev pub is_object : Id → Id → Bool
is_object object other = object.kind == other.kind && object.instance == other.instance

-- ---- objects whose records aren't kept

-- objects of a type among these
abbrev pub count_of : (kind : ℕ) → List Id → ℕ
count_of kind objects = count_by (λ (object : Id). object.kind == kind) objects

-- Trend Log Multiple objects (type 27) and Event Log objects (type 25)
abbrev pub others_in : List Id → Others
others_in objects = record { multiple = count_of 27 objects; event = count_of 25 objects }

-- the same numbers of them
abbrev pub are_same : Option Others → Others → Bool
are_same None now = now.multiple == 0 && now.event == 0
are_same (Some was) now = was.multiple == now.multiple && was.event == now.event

-- They are told where their numbers are other ones.
abbrev pub told_others : Option Others → Others → List Entry
told_others was now = if are_same was now then [] else Told now ∷ []
