-- What is fetched in lines: nothing stands before them.
use Rattle.std.proofs.Common.{◌≡◌, ℕ, Bool, Option, Some, inl, inr, subst}
use Rattle.bac_socket_notes.specs.declared.notes.Passed.{Passed}
use Rattle.bac_ports.specs.Sockets.{SocketRules}
use Rattle.bac_ports.specs.declared.udp_link.UdpLink.{UdpLink}
use Rattle.bac_print.specs.Output.{Held}
use Rattle.bac_query.specs.Ahead.{errand}
use Rattle.bac_query.specs.Fetching.{Fetching}
use Rattle.bac_query.specs.Reading.{printing}
use Rattle.bac_form.specs.declared.form.Form.{Form}
use Rattle.bac_form.specs.declared.form.Form.TheVariants.{Lines}
use Rattle.bac_tools.specs.Asking.{FetchesOn, FetchesOver}
use Rattle.bac_tools.specs.Run.{Runs}
use Rattle.bac_tools.specs.Streams.{Streams}
use Rattle.bac_walk.specs.Place.{WalkPlace}
use Rattle.bac_wire.specs.Stamp.{CivilTime}
use Rattle.bac_command_line.specs.declared.job.Asked.{Asked}
use Rattle.bac_command_line.specs.declared.job.Job.TheVariants.{Log}
use Rattle.bac_command_line.specs.declared.job.LogReading.{LogReading}

pub in_lines : {S P : Type 0} (rules : SocketRules S P) (asked : Asked) (walk : WalkPlace) (steps : ℕ) (link : UdpLink P)
    (fetching : Fetching) (left : UdpLink P) (old new : Held) → FetchesOver rules asked (errand Lines walk steps) (printing link old) fetching (printing left new) →
    FetchesOn rules asked (errand Lines walk steps) (printing link old) fetching (printing left new)
in_lines rules asked walk steps link fetching left old new (inl (fault, (never, same), is, there)) = absurd (cc)
in_lines rules asked walk steps link fetching left old new (inr (mid, (begun, same), on)) =
    let P : Held → Type 0 = λ h. FetchesOn rules asked (errand Lines walk steps) (printing link h) fetching (printing left new) in subst P same on

-- words of `log` without --csv and --json
abbrev pub plain : Asked → ℕ → Option ℕ → ℕ → ℕ → Bool → LogReading
plain asked instance from steps count trace = record {
  asked = asked;
  instance = instance;
  from = from;
  steps = steps;
  count = count;
  form = Lines;
  trace = trace;
}

-- what is done of them is done of their parts
pub of_plain : {S P C : Type 0} (rules : SocketRules S P) (passes : S → Passed) (tells : C → Option CivilTime → C → Type 0) (said : LogReading)
    (old new : Streams S C) (status : ℕ) → said.form ≡ Lines → Runs rules passes tells (Log said) old status new →
    Runs rules passes tells (Log (plain said.asked said.instance said.from said.steps said.count said.trace)) old status new
of_plain rules passes tells said old new status is runs =
    subst (λ (f : Form). Runs rules passes tells (Log (record said { form = f })) old status new) is runs

-- the same from a number on
pub of_numbered : {S P C : Type 0} (rules : SocketRules S P) (passes : S → Passed) (tells : C → Option CivilTime → C → Type 0) (said : LogReading)
    (number : ℕ) (old new : Streams S C) (status : ℕ) → said.form ≡ Lines → said.from ≡ Some number → Runs rules passes tells (Log said) old status new →
    Runs rules passes tells (Log (plain said.asked said.instance (Some number) said.steps said.count said.trace)) old status new
of_numbered rules passes tells said number old new status is from runs =
    subst (λ (f : Option ℕ). Runs rules passes tells (Log (plain said.asked said.instance f said.steps said.count said.trace)) old status new) from
    (of_plain rules passes tells said old new status is runs)
