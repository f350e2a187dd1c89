use Rattle.std.proofs.Common.{◌≡◌, ◌++◌, ◌∷◌, [], ap, ◌∙◌, arith, rules}
use Rattle.bac_apdu.specs.Apdu.{Unconfirmed}
use Rattle.bac_apdu.specs.FormCanon.{canon_form}
use Rattle.bac_apdu.specs.Service.IAm.{i_am, i_am_parameters}
use Rattle.bac_apdu.specs.declared.service.i_am.IAm.{IAm}
use Rattle.bac_device.specs.Answer.{announcement}
use Rattle.bac_device.specs.Reply.{datagram_octets}
use Rattle.bac_device.proofs.Replies.{announcement-len, begun_room, begun_size, begun_with, fits_in}
use Rattle.bac_device.proofs.device.Device.announce.Goals as goal

pub unwrap-requires : goal.unwrap-requires
unwrap-requires c =
    let a : IAm = record { device = c.id.result; max_apdu = c.from.result; segmentation = 3; vendor = c.from-2.result } in
    (fits_in c.begin_with.new.out (canon_form i_am (i_am_parameters a)) c.write.result c.write.new.out c.write.ensures.written (omega (arith, announcement-len a, begun_size c.begin_with.new.out (16 ∷ 0 ∷ []) c.begin_with.ensures))).0

pub end-requires : goal.end-requires
end-requires c =
    let a : IAm = record { device = c.id.result; max_apdu = c.from.result; segmentation = 3; vendor = c.from-2.result } in
    let text = canon_form i_am (i_am_parameters a) in
    let w = fits_in c.begin_with.new.out text c.write.result c.write.new.out c.write.ensures.written (omega (arith, announcement-len a, begun_size c.begin_with.new.out (16 ∷ 0 ∷ []) c.begin_with.ensures)) in
    begun_room c.write.new.out ((16 ∷ 0 ∷ []) ++ text) (begun_with c.begin_with.new.out c.write.new.out (16 ∷ 0 ∷ []) text c.begin_with.ensures w.1)

pub returns : goal.returns
returns c =
    let a : IAm = record { device = c.id.result; max_apdu = c.from.result; segmentation = 3; vendor = c.from-2.result } in
    let text = canon_form i_am (i_am_parameters a) in
    let w = fits_in c.begin_with.new.out text c.write.result c.write.new.out c.write.ensures.written (omega (arith, announcement-len a, begun_size c.begin_with.new.out (16 ∷ 0 ∷ []) c.begin_with.ensures)) in
    let same : a ≡ announcement c.args.self.now = search rules in
    c.end.ensures (Unconfirmed 0 text) (begun_with c.begin_with.new.out c.write.new.out (16 ∷ 0 ∷ []) text c.begin_with.ensures w.1)
    ∙ ap (λ (x : IAm). datagram_octets (Unconfirmed 0 (canon_form i_am (i_am_parameters x)))) same
