-- What a commandable object is commanded to (clause 19.2).
use Rattle.std.specs.Prelude.{List, [], ◌∷◌, Option, Some, None}
use Rattle.std.specs.List.{repeat}
use Rattle.bac_objects.specs.declared.command.Setting.{Setting}
use Rattle.bac_objects.specs.declared.command.Range.{Range}
use Rattle.bac_objects.specs.declared.command.Command.{Command}

-- the value at the lowest-numbered priority that has one, else the default
abbrev pub present : List (Option Setting) → Setting → Setting
present [] default = default
present (None ∷ slots) default = present slots default
present (Some setting ∷ slots) default = setting

-- sixteen priorities, and none has a value
abbrev pub commanded : Range → Setting → Command
commanded range default = record { range = range; slots = repeat 16 (None ∷ []); default = default }
