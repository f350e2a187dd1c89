-- The words and options that each tool takes, with their defaults, as clap's contracts see a command.
-- Each value is kept as text.
use Rattle.std.specs.Prelude.{◌≡◌, ℕ, true, false, List, [], ◌∷◌, ◌++◌, Some, codes}
use Rattle.clap.specs.Lexer.{usize_max}
use Rattle.clap.specs.Words.{App, Rule, Text, app_of, new_app, new_rule, with_rule, with_subcommand}
use Rattle.clap.specs.declared.builder.action.ArgAction.TheVariants.{SetTrue}
use Rattle.clap.specs.declared.builder.command.Command.{Command}
use Rattle.clap.specs.declared.builder.command.Command.TheViews.{out-Command}
use Rattle.bac_command_line.specs.declared.word.Word.{Word}
use Rattle.bac_command_line.specs.declared.word.Word.TheVariants.{Address, ObjectType, Instance, Property, Priority}
use Rattle.bac_command_line.specs.declared.word.Word.TheVariants.{Tag, From}
use Rattle.bac_command_line.specs.declared.word.Word.TheVariants.{File}
use Rattle.bac_command_line.specs.declared.word.Word.TheVariants.{Index, Value, Min, Max, Steps, Count, Local, Timeout}
use Rattle.bac_command_line.specs.declared.word.Word.TheVariants.{AtOnce, Records, Part, Since, Until, Last, Wait}
use Rattle.bac_command_line.specs.declared.word.Word.TheVariants.{Retries, Dnet, Dadr, Csv, Stop, Numbers, Trace}
use Rattle.bac_command_line.specs.declared.word.Word.TheVariants.{Json, Quiet}
use Rattle.bac_command_line.specs.Names.{name_of}

-- NAME, a word that has to be there
abbrev pub needed : Word → Rule
needed w = record (new_rule (name_of w)) { required = true }

-- NAME.., one or more of them
abbrev pub needed_list : Word → Rule
needed_list w = record (needed w) { range = Some (record { start_inclusive = 1; end_inclusive = usize_max }) }

-- [NAME], a word that may be there
abbrev pub maybe : Word → Rule
maybe w = new_rule (name_of w)

-- [NAME].., any number of them
abbrev pub maybe_list : Word → Rule
maybe_list w = record (maybe w) { range = Some (record { start_inclusive = 0; end_inclusive = usize_max }) }

-- [--NAME=VALUE]
abbrev pub option : Word → Rule
option w = record (new_rule (name_of w)) { long = Some (name_of w); value_names = 1 }

-- the same, with a value if none is given
abbrev pub option_or : Word → Text → Rule
option_or w default = record (option w) { defaults = default ∷ [] }

-- [--NAME]
abbrev pub flag : Word → Rule
flag w = record (new_rule (name_of w)) { long = Some (name_of w); action = Some SetTrue }

-- [--NAME], or [-N] by a letter
abbrev pub flag_or : Word → ℕ → Rule
flag_or w letter = record (flag w) { short = Some letter }

-- [--quiet] [-q] (113)
abbrev pub quiet_rule : Rule
quiet_rule = flag_or Quiet 113

-- [--timeout=MS] [--local=ADDRESS] [--trace]
abbrev pub timeout_rules : List Rule
timeout_rules = option_or Timeout (codes "3000") ∷ option Local ∷ flag Trace ∷ []

-- [--dnet=N] [--dadr=HEX]: a device behind a router
abbrev pub route_rules : List Rule
route_rules = option Dnet ∷ option Dadr ∷ []

-- those of a wait, [--retries=N] and those of a route
abbrev pub asking_rules : List Rule
asking_rules = timeout_rules ++ option_or Retries (codes "3") ∷ route_rules

-- the same without defaults
abbrev pub keeping_rules : List Rule
keeping_rules = option Timeout ∷ option Local ∷ flag Trace ∷ option Retries ∷ route_rules

-- ADDRESS TYPE INSTANCE PROPERTY
abbrev pub property_rules : List Rule
property_rules = needed Address ∷ needed ObjectType ∷ needed Instance ∷ needed Property ∷ []

-- a command with more words
abbrev pub with_rules : App → List Rule → App
with_rules a [] = a
with_rules a (r ∷ rs) = with_rules (with_rule a r) rs

-- bac replay
abbrev pub replay_app : App
replay_app = new_app (codes "replay")

-- bac wi ADDRESS.. [--min=N] [--max=N] [--dnet=N]
abbrev pub wi_app : App
wi_app = with_rules (new_app (codes "wi"))
    (needed_list Address ∷ option Min ∷ option Max ∷ option Dnet ∷ timeout_rules)

-- bac rp ADDRESS TYPE INSTANCE PROPERTY [--index=N] [--numbers]
abbrev pub rp_app : App
rp_app = with_rules (new_app (codes "rp"))
    (property_rules ++ option Index ∷ flag Numbers ∷ asking_rules)

-- bac wp ADDRESS TYPE INSTANCE PROPERTY PRIORITY TAG [--index=N] [--value=V]
abbrev pub wp_app : App
wp_app = with_rules (new_app (codes "wp"))
    (property_rules ++ needed Priority ∷ needed Tag ∷ option Index ∷ option Value ∷ asking_rules)

-- bac log ADDRESS INSTANCE FROM [--steps=N] [--count=N] [--csv] [--json]
abbrev pub log_app : App
log_app = with_rules (new_app (codes "log"))
    (needed Address ∷ needed Instance ∷ needed From ∷ option_or Steps (codes "1000")
    ∷ option_or Records (codes "100") ∷ flag Csv ∷ flag Json ∷ asking_rules)

-- bac logs ADDRESS [INSTANCE..]
abbrev pub logs_app : App
logs_app = with_rules (new_app (codes "logs")) (needed Address ∷ maybe_list Instance ∷ asking_rules)

-- bac keep FILE [ADDRESS [INSTANCE..]] [--steps=N] [--count=N] [--part=MIB] [--at-once=N] [--wait=SECONDS]
-- [--stop] [--quiet]
abbrev pub keep_app : App
keep_app = with_rules (new_app (codes "keep"))
    (needed File ∷ maybe Address ∷ maybe_list Instance ∷ option Steps ∷ option Records ∷ option_or Part (codes "32")
    ∷ option_or AtOnce (codes "64") ∷ option_or Wait (codes "10") ∷ flag Stop ∷ quiet_rule ∷ keeping_rules)

-- bac kept FILE [ADDRESS [INSTANCE]] [--since=STAMP] [--until=STAMP] [--last] [--csv] [--json] [--wait=SECONDS]
abbrev pub kept_app : App
kept_app = with_rules (new_app (codes "kept"))
    (needed File ∷ maybe Address ∷ maybe Instance ∷ option Since ∷ option Until ∷ flag Last ∷ flag Csv ∷ flag Json
    ∷ option_or Wait (codes "10") ∷ route_rules)

-- bac check FILE [--wait=SECONDS] [--quiet]
abbrev pub check_app : App
check_app = with_rules (new_app (codes "check")) (needed File ∷ option_or Wait (codes "10") ∷ quiet_rule ∷ [])

-- bac serve ADDRESS [--count=N]
abbrev pub serve_app : App
serve_app = with_rules (new_app (codes "serve")) (needed Address ∷ option_or Count (codes "4294967295") ∷ [])

-- bac, which has a version and wants a tool
abbrev pub top_app : App
top_app = record (new_app (codes "bac")) {
  top = record ((new_app (codes "bac")).top) { has_version = true; subcommand_required = true };
}

-- bac with its tools
abbrev pub bac_app : App
bac_app = with_subcommand (with_subcommand (with_subcommand (with_subcommand (with_subcommand (with_subcommand
    (with_subcommand (with_subcommand (with_subcommand (with_subcommand top_app replay_app.top) wi_app.top) rp_app.top)
    wp_app.top) log_app.top) logs_app.top) keep_app.top) kept_app.top) check_app.top) serve_app.top

-- the command is the one that is written down
pub record IsCommand (a : App) (c : Command) : Type 0 where
  pub app : app_of c ≡ a
  pub globals : (out-Command c).has_globals ≡ false

-- the same with more words
pub record Extends (old : Command) (rules : List Rule) (new : Command) : Type 0 where
  pub app : app_of new ≡ with_rules (app_of old) rules
  pub globals : (out-Command new).has_globals ≡ (out-Command old).has_globals
