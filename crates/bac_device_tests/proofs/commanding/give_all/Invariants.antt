use Rattle.std.proofs.Common.{◌≡◌, drop, map}
use Rattle.bac_device.specs.History.{after}
use Rattle.bac_device_tests.proofs.commanding.give_all.Given as goal

-- what is left to give
abbrev pub invariant-loop-datagram : goal.invariant-loop-datagram
invariant-loop-datagram l =
    after l.fn.device (map (λ datagram. datagram.now) l.datagrams) ≡ after l.device (map (λ datagram. datagram.now) (drop l.datagram-index l.datagrams))
