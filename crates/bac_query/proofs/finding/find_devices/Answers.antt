use Rattle.std.proofs.Common.{List, ℕ, ◌≡◌, ◌∙◌, refl, subst}
use Rattle.bac_query.specs.Finding.{Seeks, unasked}
use Rattle.bac_query.specs.Hearing.{port_rules, searching, standing}
use Rattle.bac_query.specs.Requests.{who_is_octets}
use Rattle.bac_query.proofs.Told.{seeks_told}
use Rattle.bac_query.proofs.finding.find_devices.Goals as goal

pub returns : goal.returns
returns g c =
    let is : c.octets.result.now ≡ who_is_octets c.args.search.now = c.octets.ensures.value ∙ c.datagram_of-datagram.ensures in
    let then = standing (g.W.Write.contents c.seek-sought.new.out) c.seek-sought.new.seeking in
    let Q : List ℕ → Type 0 = λ octets. Seeks (port_rules g.P.Port.sends g.P.Port.receives g.P.Port.receives_within) octets c.args.addresses.now 4096 (searching c.args.port.now (unasked (g.W.Write.contents c.args.out.now))) c.seek-sought.result (searching c.seek-sought.new.port then) in
    let seeks : Q (who_is_octets c.args.search.now) =
    subst Q is (rw (c.new-seeking.ensures.pending, c.new-seeking.ensures.taken, c.new-seeking.ensures.refused) at c.seek-sought.ensures) in (
      c.seek-sought.result,
      then,
      seeks,
      seeks_told (port_rules g.P.Port.sends g.P.Port.receives g.P.Port.receives_within) (who_is_octets c.args.search.now) c.args.addresses.now 4096
          c.args.port.now c.seek-sought.new.port (unasked (g.W.Write.contents c.args.out.now)) then c.seek-sought.result seeks,
      refl,
      c.told_of.ensures,
    )
