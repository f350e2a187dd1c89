-- One turn more.
use Rattle.std.proofs.Common.{◌≡◌, ◌<◌, ◌+◌, ◌-◌, ℕ, suc, arith, Option, List}
use Rattle.bac_wire.specs.Stamp.{CivilTime}
use Rattle.bac_ports.specs.Port.{Receiving, Sending}
use Rattle.bac_serve.specs.Serving.{Done, IsServed, IsWaited, Server, Serves, ServesNext, server}

-- one wait more
pub waits_once : {P C : Type 0} (sends : P → List ℕ → List ℕ → Sending → P → Type 0) (receives : P → Receiving → P → Type 0)
    (tells : C → Option CivilTime → C → Type 0) (limit waited : ℕ) (old new : Server P C) (mid : P)
    (heard : Receiving) (result : Done) → waited < limit → receives old.port heard mid →
    IsWaited sends tells heard (server mid old.device old.clock) result new
    (λ ticked. ServesNext sends receives tells (limit - (waited + 1)) ticked result new) →
    ServesNext sends receives tells (limit - waited) old result new
unfolding ServesNext
waits_once sends receives tells limit waited old new mid heard result below received rest =
    let e : limit - waited ≡ suc (limit - (waited + 1)) = omega arith in rw e (heard, mid, received, rest)

-- one datagram more
pub serves_once : {P C : Type 0} (sends : P → List ℕ → List ℕ → Sending → P → Type 0) (receives : P → Receiving → P → Type 0)
    (tells : C → Option CivilTime → C → Type 0) (limit served : ℕ) (old mid new : Server P C)
    (one result : Done) → served < limit →
    ServesNext sends receives tells 18446744073709551615 old one mid →
    IsServed one mid result new (Serves sends receives tells (limit - (served + 1)) mid result new) →
    Serves sends receives tells (limit - served) old result new
unfolding Serves
serves_once sends receives tells limit served old mid new one result below next rest =
    let e : limit - served ≡ suc (limit - (served + 1)) = omega arith in rw e (one, mid, next, rest)
