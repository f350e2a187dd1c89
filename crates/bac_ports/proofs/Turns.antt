-- One receive more.
use Rattle.std.proofs.Common.{◌≡◌, ◌<◌, ◌+◌, ◌-◌, ℕ, List, Result, suc, arith}
use Rattle.bac_link.specs.declared.link.Lost.{Lost}
use Rattle.bac_ports.specs.Asking.{Awaits, IsHeard}
use Rattle.bac_ports.specs.Port.{Receiving}

pub one_more : {P : Type 0} (receives : P → Receiving → P → Type 0) (peer request : List ℕ) (limit tried : ℕ) (port mid new : P)
    (heard : Receiving) (result : Result (List ℕ) Lost) → tried < limit → receives port heard mid →
    IsHeard peer request heard mid result new (Awaits receives peer request (limit - (tried + 1)) mid result new) →
    Awaits receives peer request (limit - tried) port result new
unfolding Awaits
one_more receives peer request limit tried port mid new heard result below received rest =
    let e : limit - tried ≡ suc (limit - (tried + 1)) = omega arith in rw e (heard, mid, received, rest)
