-- Devices, and which of its logs of each: ADDRESS [INSTANCE].., once or more.
use Rattle.std.specs.Prelude.{Bool, true, false, not, ◌&&◌, if◌then◌else◌, List, [], ◌∷◌, ◌++◌, Option, None, Some}
use Rattle.std.specs.Prelude.{codes}
use Rattle.std.specs.Char.{is_ascii_digit}
use Rattle.std.specs.List.{list_all}
use Rattle.std.specs.Str.{bytes_eq}
use Rattle.clap.specs.Words.{Row, Text}
use Rattle.bac_command_line.specs.Rows.{text_at, texts_at}
use Rattle.bac_command_line.specs.declared.group.Group.{Group}
use Rattle.bac_command_line.specs.declared.word.Word.TheVariants.{Address, Instance}

-- a device, none of whose logs is named
abbrev pub group_at : Text → Group
group_at address = record { address = address; instances = []; way = None }

-- the same group with one more instance
abbrev pub with_instance : Group → Text → Group
with_instance group instance = record group { instances = group.instances ++ instance ∷ [] }

-- This group with the words behind it: digits alone are an instance of it, and any other word begins the next one.
abbrev pub groups_from : Group → List Text → List Group
groups_from group [] = group ∷ []
groups_from group (word ∷ words) =
    if list_all is_ascii_digit word then groups_from (with_instance group word) words
    else group ∷ groups_from (group_at word) words

-- those of a first address and the words behind it
abbrev pub groups_of : Option Text → List Text → List Group
groups_of None words = []
groups_of (Some address) words = groups_from (group_at address) words

-- the groups of the words behind FILE
abbrev pub groups_at : List Row → List Group
groups_at rows = groups_of (text_at Address rows) (texts_at Instance rows)

-- there is a group
abbrev pub are_any : List Group → Bool
are_any [] = false
are_any (group ∷ more) = true

-- there is no text
abbrev pub are_none : List Text → Bool
are_none [] = true
are_none (text ∷ more) = false

-- they are the one word -, which stands for the lines of standard input
abbrev pub are_input : List Group → Bool
are_input [] = false
are_input (group ∷ []) = bytes_eq group.address (codes "-") && are_none group.instances
are_input (group ∷ other ∷ more) = false
