use Rattle.std.proofs.Common.{ℕ, ◌+◌, Option, None, sym, subst, arith}
use Rattle.bac_wire.specs.Primitive.{Id}
use Rattle.bac_apdu.specs.Npdu.{Place}
use Rattle.bac_link.specs.Growing.{StaysHonest}
use Rattle.bac_link.specs.Path.{towards}
use Rattle.bac_link.specs.Standard.{IsCount}
use Rattle.bac_link.specs.Honest.{asked_log}
use Rattle.bac_walk.specs.Growing.{most_asks}
use Rattle.bac_client_tests.specs.declared.growing_callers.GrowingLink.{GrowingLink}
use Rattle.bac_client_tests.specs.Foreign.{log}
use Rattle.bac_client_tests.specs.Growing.{MayGrow, logged_so_far}
use Rattle.bac_client_tests.proofs.Growing.{begins, stays}
use Rattle.bac_client_tests.proofs.growing_callers.walk_of_a_growing_log.Goals as goal

pub returns : goal.returns
returns c = λ s near log_is next room at.
    let asks : ℕ = most_asks c.args.steps c.args.transactions.now.retries + 0 in
    let A : Option Place → Id → Type 0 = λ y i. StaysHonest {S = GrowingLink} (λ old octets answer new. MayGrow old.logged octets answer new.logged) (asked_log (towards y) i c.args.walk.now.count) 1 asks c.args.link.now (logged_so_far c.args.link.now.logged) in
    let honest : A None log = stays (λ (l : GrowingLink). l.logged) c.args.walk.now.count asks c.args.link.now
    (subst IsCount c.count-count.ensures.count c.count-count.ensures.bounds) (omega (arith, room)) in
    let here = subst (λ y. A y c.args.walk.now.log) (sym near) (subst (A None) (sym log_is) honest) in
    (c.collect.ensures.growing (logged_so_far c.args.link.now.logged) s 1 0 here (begins c.args.link.now.logged (omega (arith, room))) next at).0
