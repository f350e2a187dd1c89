-- What the tools open, and how they ask over it.
use Rattle.std.specs.Prelude.{◌≡◌, ◌⊎◌, ℕ, List, None, Err}
use Rattle.std.specs.Io.KnownBytes.{Keeps}
use Rattle.bac_link.specs.declared.transactions.Transactions.{Transactions}
use Rattle.bac_ports.specs.Sockets.{SocketRules, UsesSocket}
use Rattle.bac_ports.specs.declared.port.OpenFault.{OpenFault}
use Rattle.bac_print.specs.Output.{Held}
use Rattle.bac_tools.specs.Ending.{Ending}
use Rattle.bac_tools.specs.declared.fault.Fault.TheVariants.{Unopened}
use Rattle.bac_command_line.specs.declared.job.Asked.{Asked}

-- ---- sockets

-- sockets, and what an output holds
pub record Outside (S : Type 0) : Type 0 where
  pub sockets : S
  pub output : Held

-- the two together
abbrev pub outside : {S : Type 0} → S → Held → Outside S
outside sockets output = record { sockets = sockets; output = output }

-- sockets, and what an output and the errors hold
pub record Outlets (S : Type 0) : Type 0 where
  pub sockets : S
  pub output : Held
  pub errors : Held

-- the three together
abbrev pub outlets : {S : Type 0} → S → Held → Held → Outlets S
outlets sockets output errors = record { sockets = sockets; output = output; errors = errors }

-- sockets, what an input has left, and what an output holds
pub record Pipes (S : Type 0) : Type 0 where
  pub sockets : S
  pub input : Held
  pub output : Held

-- the three together
abbrev pub pipes : {S : Type 0} → S → Held → Held → Pipes S
pipes sockets input output = record { sockets = sockets; input = input; output = output }

-- how a socket is opened: at this address, and its receives wait so many milliseconds
pub record Binding : Type 0 where
  pub address : List ℕ
  pub wait : ℕ

-- the two together
abbrev pub binding : List ℕ → ℕ → Binding
binding address wait = record { address = address; wait = wait }

-- One socket is opened so, this is done over it, and it is closed. Without one the fault is why it isn't opened, and
-- all stays quiet.
abbrev pub IsDoneOver : {S P : Type 0} → SocketRules S P → Binding → S → S → Ending → Type 0 → (P → P → Type 0) → Type 0
IsDoneOver rules bound old new result quiet does =
    ((why : OpenFault) × rules.opens old bound.address bound.wait (Err why) new × (result ≡ Err (Unopened why)) × quiet)
    ⊎ UsesSocket rules bound.address bound.wait old does new

-- the same of sockets and an output, on which nothing is printed without a socket
abbrev pub Opens : {S P : Type 0} → SocketRules S P → Binding → Outside S → Ending → Outside S → (P → P → Type 0)
    → Type 0
Opens rules bound old result new does =
    IsDoneOver rules bound old.sockets new.sockets result (Keeps old.output new.output) does

-- ---- asking one device

-- none begun, each request to be repeated as often as the words say, and by the way that they say
abbrev pub transactions_with : Asked → Transactions
transactions_with asked = record { retries = asked.retries; route = asked.route; invoke = 0; begun = 0; pending = None }
