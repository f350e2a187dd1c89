-- The job that a tool's words and options say, or the first of them whose value isn't one that it can have.
use Rattle.std.specs.Prelude.{ℕ, Bool, true, false, ◌&&◌, ◌||◌, not, List, [], ◌∷◌, Option, None, Some, Result, Ok, Err}
use Rattle.std.specs.Prelude.{codes, is_some}
use Rattle.std.specs.Prelude.{if◌then◌else◌, option_and_then}
use Rattle.std.specs.Option.{ok_or}
use Rattle.std.specs.Str.{bytes_eq}
use Rattle.clap.specs.Words.{Row, Text}
use Rattle.bac_command_line.specs.declared.word.Word.{Word}
use Rattle.bac_command_line.specs.declared.word.Word.TheVariants.{Tool, Address, ObjectType, Instance, Property}
use Rattle.bac_command_line.specs.declared.word.Word.TheVariants.{Priority, Tag}
use Rattle.bac_command_line.specs.declared.word.Word.TheVariants.{From, File, Index, Value, Min, Max, Steps, Count}
use Rattle.bac_command_line.specs.declared.word.Word.TheVariants.{Local}
use Rattle.bac_command_line.specs.declared.word.Word.TheVariants.{AtOnce, Records, Part, Wait, Quiet}
use Rattle.bac_command_line.specs.declared.word.Word.TheVariants.{Timeout, Retries, Dnet, Dadr, Stop, Numbers, Trace}
use Rattle.bac_command_line.specs.declared.job.Job.{Job}
use Rattle.bac_command_line.specs.declared.job.Job.TheVariants.{Replay, Wi, Rp, Wp, Log, Logs, Serve}
use Rattle.bac_command_line.specs.declared.job.Job.TheVariants as job
use Rattle.bac_command_line.specs.declared.job.Asked.{Asked}
use Rattle.bac_command_line.specs.declared.job.Given.{Given}
use Rattle.bac_command_line.specs.declared.job.Keep.{Keep}
use Rattle.bac_command_line.specs.declared.job.KeepOptions.{KeepOptions}
use Rattle.bac_command_line.specs.Numbers.{number_in}
use Rattle.bac_command_line.specs.Dates.{extent_at}
use Rattle.bac_command_line.specs.Groups.{are_input, groups_at}
use Rattle.bac_command_line.specs.declared.group.Group.{Group}
use Rattle.bac_command_line.specs.Rows.{text_at, is_said, number_at, maybe_number_at, address_at, instances_at}
use Rattle.bac_command_line.specs.Rows.{form_at, local_at, stations_at, route_at}
use Rattle.bac_command_line.specs.Given.{is_tag, given_in}
use Rattle.bac_command_line.specs.Steps.{◌>>=◌}

-- what the tools that ask one device have in common
unfoldable pub asked_at : List Row → Result Asked Word
asked_at rows = do
  address ← address_at rows
  local ← local_at rows
  timeout ← number_at Timeout 1 60000 rows
  retries ← number_at Retries 0 10 rows
  route ← route_at rows
  Ok (record { address = address; local = local; timeout = timeout; retries = retries; route = route })

-- --max goes with --min only
abbrev pub max_beside : Option ℕ → Option ℕ → Result (Option ℕ) Word
max_beside None (Some max) = Err Max
max_beside min max = Ok max

-- bac wi
unfoldable pub wi_at : List Row → Result Job Word
wi_at rows = do
  stations ← stations_at rows
  min ← maybe_number_at Min 0 4194303 rows
  highest ← maybe_number_at Max 0 4194303 rows
  max ← max_beside min highest
  dnet ← maybe_number_at Dnet 1 65535 rows
  local ← local_at rows
  timeout ← number_at Timeout 1 60000 rows
  Ok (Wi (record {
    stations = stations;
    min = min;
    max = max;
    dnet = dnet;
    local = local;
    timeout = timeout;
    trace = is_said Trace rows;
  }))

-- bac rp
unfoldable pub rp_at : List Row → Result Job Word
rp_at rows = do
  asked ← asked_at rows
  object_type ← number_at ObjectType 0 1023 rows
  instance ← number_at Instance 0 4194303 rows
  property ← number_at Property 0 4294967295 rows
  index ← maybe_number_at Index 0 4294967295 rows
  Ok (Rp (record {
    asked = asked;
    object_type = object_type;
    instance = instance;
    property = property;
    index = index;
    numbers = is_said Numbers rows;
    trace = is_said Trace rows;
  }))

-- the application tag of a value that can be given
abbrev pub tag_at : List Row → Result ℕ Word
tag_at rows = do
  tag ← number_at Tag 0 9 rows
  if is_tag tag then Ok tag else Err Tag

-- the value to write, by its tag
unfoldable pub given_at : List Row → Result Given Word
given_at rows = do
  tag ← tag_at rows
  ok_or (given_in tag (text_at Value rows)) Value

-- bac wp
unfoldable pub wp_at : List Row → Result Job Word
wp_at rows = do
  asked ← asked_at rows
  object_type ← number_at ObjectType 0 1023 rows
  instance ← number_at Instance 0 4194303 rows
  property ← number_at Property 0 4294967295 rows
  priority ← number_at Priority 0 16 rows
  given ← given_at rows
  index ← maybe_number_at Index 0 4294967295 rows
  Ok (Wp (record {
    asked = asked;
    object_type = object_type;
    instance = instance;
    property = property;
    priority = priority;
    given = given;
    index = index;
    trace = is_said Trace rows;
  }))

-- a number from 1, or `oldest`
unfoldable pub from_in : Text → Option (Option ℕ)
from_in text =
    if bytes_eq text (codes "oldest") then Some None else
    option_and_then (λ n. Some (Some n)) (number_in 1 4294967295 text)

-- the number of the first record to fetch; absent is the oldest
abbrev pub from_at : List Row → Result (Option ℕ) Word
from_at rows = ok_or (option_and_then from_in (text_at From rows)) From

-- bac log
unfoldable pub log_at : List Row → Result Job Word
log_at rows = do
  asked ← asked_at rows
  instance ← number_at Instance 0 4194303 rows
  from ← from_at rows
  steps ← number_at Steps 0 4294967295 rows
  count ← number_at Records 1 100 rows
  form ← form_at rows
  Ok (Log (record {
    asked = asked;
    instance = instance;
    from = from;
    steps = steps;
    count = count;
    form = form;
    trace = is_said Trace rows;
  }))

-- bac logs
unfoldable pub logs_at : List Row → Result Job Word
logs_at rows = do
  asked ← asked_at rows
  instances ← instances_at rows
  Ok (Logs (record { asked = asked; instances = instances; trace = is_said Trace rows }))

-- the file of `keep`, `kept` and `check`
abbrev pub file_at : List Row → Result Text Word
file_at rows = ok_or (text_at File rows) File

-- the texts of the options of `keep`
abbrev pub keep_options_at : List Row → KeepOptions
keep_options_at rows = record {
  steps = text_at Steps rows;
  count = text_at Records rows;
  timeout = text_at Timeout rows;
  local = text_at Local rows;
  retries = text_at Retries rows;
  dnet = text_at Dnet rows;
  dadr = text_at Dadr rows;
}

-- --stop goes with one ADDRESS only
abbrev pub stop_beside : List Group → Bool → Result Bool Word
stop_beside [] true = Err Stop
stop_beside (group ∷ other ∷ more) true = Err Stop
stop_beside groups stop = Ok stop

-- how many seconds a file that is in use is waited for
abbrev pub wait_at : List Row → Result ℕ Word
wait_at rows = number_at Wait 0 3600 rows

-- bac keep: its texts, which are read by the rules of `log` for each log
unfoldable pub keep_at : List Row → Result Job Word
keep_at rows = do
  file ← file_at rows
  stop ← stop_beside (groups_at rows) (is_said Stop rows)
  part ← number_at Part 1 4096 rows
  at_once ← number_at AtOnce 1 1024 rows
  wait ← wait_at rows
  Ok (job.Keep (record {
    file = file;
    groups = groups_at rows;
    stop = stop;
    part = part;
    at_once = at_once;
    wait = wait;
    quiet = is_said Quiet rows;
    trace = is_said Trace rows;
    options = keep_options_at rows;
  }))

-- the devices of `bac keep` are those of the lines of standard input: - alone, without --stop
abbrev pub reads_input : Keep → Bool
reads_input keep = not keep.stop && are_input keep.groups

-- the same of these devices
abbrev pub with_groups : Keep → List Group → Keep
with_groups keep groups = record keep { groups = groups }

-- --dnet and --dadr go with an ADDRESS only
abbrev pub address_beside : (dnet dadr address : Option Text) → Result (Option Text) Word
address_beside dnet dadr None = if is_some dnet || is_some dadr then Err Address else Ok None
address_beside dnet dadr (Some address) = Ok (Some address)

-- bac kept
unfoldable pub kept_at : List Row → Result Job Word
kept_at rows = do
  file ← file_at rows
  address ← address_beside (text_at Dnet rows) (text_at Dadr rows) (text_at Address rows)
  extent ← extent_at rows
  form ← form_at rows
  wait ← wait_at rows
  Ok (job.Kept (record {
    file = file;
    address = address;
    instance = text_at Instance rows;
    dnet = text_at Dnet rows;
    dadr = text_at Dadr rows;
    extent = extent;
    form = form;
    wait = wait;
  }))

-- bac check
unfoldable pub check_at : List Row → Result Job Word
check_at rows = do
  file ← file_at rows
  wait ← wait_at rows
  Ok (job.Check (record { file = file; wait = wait; quiet = is_said Quiet rows }))

-- bac serve
unfoldable pub serve_at : List Row → Result Job Word
serve_at rows = do
  address ← address_at rows
  count ← number_at Count 0 4294967295 rows
  Ok (Serve (record { address = address; count = count }))

-- of the tool with this name
abbrev pub job_of_tool : Text → List Row → Result Job Word
job_of_tool tool rows =
    if bytes_eq tool (codes "replay") then Ok Replay else
    if bytes_eq tool (codes "wi") then wi_at rows else
    if bytes_eq tool (codes "rp") then rp_at rows else
    if bytes_eq tool (codes "wp") then wp_at rows else
    if bytes_eq tool (codes "log") then log_at rows else
    if bytes_eq tool (codes "logs") then logs_at rows else
    if bytes_eq tool (codes "keep") then keep_at rows else
    if bytes_eq tool (codes "kept") then kept_at rows else
    if bytes_eq tool (codes "check") then check_at rows else
    if bytes_eq tool (codes "serve") then serve_at rows else Err Tool

-- of the tool that the words name, and of its rows: an id and its values each
abbrev pub job_of : Option (Text × List Row) → Result Job Word
job_of None = Err Tool
job_of (Some x) = job_of_tool x.0 x.1

-- ---- of any job

-- --trace was given
abbrev pub is_traced : Job → Bool
is_traced (Wi asked) = asked.trace
is_traced (Rp asked) = asked.trace
is_traced (Wp asked) = asked.trace
is_traced (Log asked) = asked.trace
is_traced (Logs asked) = asked.trace
is_traced (job.Keep asked) = asked.trace
is_traced (job.Kept asked) = false
is_traced (job.Check asked) = false
is_traced (Serve asked) = false
is_traced Replay = false
