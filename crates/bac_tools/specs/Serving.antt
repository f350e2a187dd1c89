-- What `bac serve` does. Read from the end.
use Rattle.std.specs.Prelude.{◌≡◌, ◌⊎◌, ℕ, if◌then◌else◌, List, Option, Some, None, Result, Ok, Err, IfSome}
use Rattle.std.specs.List.{list_any}
use Rattle.std.specs.Str.Lines.{lines}
use Rattle.bac_objects.specs.Build.{build_fault, built}
use Rattle.bac_objects.specs.Misfit.{IsMisfit}
use Rattle.bac_objects.specs.State.{State}
use Rattle.bac_objects.specs.declared.lines.DeviceLine.{DeviceLine}
use Rattle.bac_objects.specs.declared.lines.ObjectLine.{ObjectLine}
use Rattle.bac_ports.specs.Sockets.{SocketRules}
use Rattle.bac_print.specs.Output.{AppendsPart, Held}
use Rattle.bac_script.specs.Configuration.{Configures}
use Rattle.bac_script.specs.Reason.{AreNumbers, IsExplainedThere}
use Rattle.bac_script.specs.declared.configuration.Configuration.{Configuration}
use Rattle.bac_script.specs.declared.replay.fault.Reason.TheVariants.{Device}
use Rattle.bac_script.specs.declared.replay.fault.Refused.{Refused}
use Rattle.bac_script.specs.declared.replay.fault.ReplayFault.TheVariants.{Build}
use Rattle.bac_script.specs.declared.replay.fault.UnfitLine.{UnfitLine}
use Rattle.bac_serve.specs.Serving.{Done, Serves as ServesDevice, server}
use Rattle.bac_serve.specs.Waiting.{has_interval}
use Rattle.bac_tools.specs.Ending.{Ending}
use Rattle.bac_tools.specs.Sockets.{IsDoneOver, binding}
use Rattle.bac_tools.specs.Streams.{Streams, IsIdle, IsQuiet}
use Rattle.bac_tools.specs.Texts.{serving_line}
use Rattle.bac_tools.specs.declared.fault.Fault.{Fault}
use Rattle.bac_tools.specs.declared.fault.Fault.TheVariants.{NoDevice, Script, Socket, Memory}
use Rattle.bac_wire.specs.Stamp.{CivilTime}

-- ---- the configuration

-- the input is a configuration of at most 1,048,576 octets, which describes a device; or it isn't, and what is to mend
abbrev pub IsConfigured : Held → Held → Result Configuration Fault → Type 0
IsConfigured input left (Ok c) = Configures 1048576 input left (Ok (Some c))
IsConfigured input left (Err NoDevice) = Configures 1048576 input left (Ok None)
IsConfigured input left (Err (Script refused)) =
    Configures 1048576 input left (Err refused.fault) × IsExplainedThere input left refused
IsConfigured input left (Err other) = ⊥

-- the refusal of a configuration with this line
abbrev pub refused_with : UnfitLine → Refused
refused_with unfit = record { fault = Build unfit.misfit.fault; reason = Some (Device unfit) }

-- The device can't be built with one of the lines, the first that has a fault, and the numbers of that line and of the
-- one that has its type and instance, or its name, are those in the input; or there is no memory for the device.
abbrev pub IsUnbuilt : Held → DeviceLine → List ObjectLine → Fault → Type 0
IsUnbuilt input device objects fault =
    ((build_fault device objects ≡ None) × (fault ≡ Memory))
    ⊎ ((unfit : UnfitLine) × IsMisfit device objects unfit.misfit
    × (build_fault device objects ≡ Some unfit.misfit.fault)
    × IfSome input (λ text. AreNumbers (lines text) unfit) × (fault ≡ Script (refused_with unfit)))

-- ---- the server

-- how serving ends: done, or the socket failed
abbrev pub of_served : Done → Ending
of_served (Ok done) = Ok 0
of_served (Err fault) = Err Socket

-- what is served: a device, at this address, for so many datagrams, each of which is waited for so many milliseconds at
-- a time
pub record Service : Type 0 where
  pub device : State
  pub address : List ℕ
  pub wait : ℕ
  pub count : ℕ

-- the four together
abbrev pub service : State → List ℕ → ℕ → ℕ → Service
service device address wait count = record { device = device; address = address; wait = wait; count = count }

-- a socket over which a device is served, the clock, and what the errors hold
pub record ServedPort (P C : Type 0) : Type 0 where
  pub port : P
  pub clock : C
  pub errors : Held

-- the three together
abbrev pub served_port : {P C : Type 0} → P → C → Held → ServedPort P C
served_port port clock errors = record { port = port; clock = clock; errors = errors }

-- The device is served for so many datagrams over this socket, which that leaves so, and a line on the errors says so.
abbrev pub IsServedOver : {S P C : Type 0} → SocketRules S P → (C → Option CivilTime → C → Type 0) → Service →
    ServedPort P C → Ending → ServedPort P C → Type 0
IsServedOver rules tells wanted old result new =
    (served : Done) × (after : State) × AppendsPart old.errors new.errors (serving_line wanted.address)
    × ServesDevice rules.sends rules.receives tells wanted.count
    (server old.port wanted.device old.clock) served (server new.port after new.clock)
    × (result ≡ of_served served)

-- One socket is opened with this address and wait, and closed at the end. Without memory for the line that says so,
-- none is.
abbrev pub IsServed : {S P C : Type 0} → SocketRules S P → (C → Option CivilTime → C → Type 0) → Service →
    Streams S C → Ending → Streams S C → Type 0
IsServed rules tells wanted old result new =
    ((result ≡ Err Memory) × IsIdle old new)
    ⊎ IsDoneOver rules (binding wanted.address wanted.wait) old.sockets new.sockets result (IsQuiet old new)
    (λ port last. IsServedOver rules tells wanted
    (served_port port old.clock old.errors) result (served_port last new.clock new.errors))

-- a fifth of a second while a log has an interval, so that it takes its samples while nobody asks; else without limit
abbrev pub wait_of : List ObjectLine → ℕ
wait_of lines = if list_any has_interval lines then 200 else 0

-- the faults of the configuration, of the build and of the socket, in this order
abbrev pub Serves : {S P C : Type 0} → SocketRules S P → (C → Option CivilTime → C → Type 0) →
    List ℕ → ℕ → Streams S C → Ending → Streams S C → Type 0
Serves rules tells address count old result new =
    ((fault : Fault) × IsConfigured old.input new.input (Err fault) × (result ≡ Err fault) × IsIdle old new)
    ⊎ ((c : Configuration) × IsConfigured old.input new.input (Ok c)
    × (((fault : Fault) × IsUnbuilt old.input c.device c.objects.items fault × (result ≡ Err fault) × IsIdle old new)
    ⊎ ((build_fault c.device c.objects.items ≡ None)
    × IsServed rules tells (service (built c.device c.objects.items) address (wait_of c.objects.items) count)
    old result new)))
