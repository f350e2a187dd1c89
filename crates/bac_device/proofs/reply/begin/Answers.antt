use Rattle.std.proofs.Common.{[], List, ℕ, ◌++◌, ap, sym, ◌∙◌, arith, length}
use Rattle.bac_apdu.specs.Frame.{unicast_head}
use Rattle.bac_apdu.specs.Npdu.{header_octets}
use Rattle.bac_device.specs.Reply.{plain}
use Rattle.bac_device.proofs.Replies.{begun_len, fits_in, heads_are}
use Rattle.bac_device.proofs.reply.begin.Goals as goal

pub unwrap-requires : goal.unwrap-requires
unwrap-requires c =
    (fits_in c.cut.new.self (unicast_head 0 ++ header_octets plain) c.begin_datagram.result c.begin_datagram.new.out c.begin_datagram.ensures
    (omega (arith, ap (λ (l : List ℕ). length l) c.cut.ensures, ap (λ (l : List ℕ). length l) heads_are, begun_len []))).0

pub returns : goal.returns
returns c =
    (fits_in c.cut.new.self (unicast_head 0 ++ header_octets plain) c.begin_datagram.result c.begin_datagram.new.out c.begin_datagram.ensures
    (omega (arith, ap (λ (l : List ℕ). length l) c.cut.ensures, ap (λ (l : List ℕ). length l) heads_are, begun_len []))).1
    ∙ ap (λ (l : List ℕ). l ++ (unicast_head 0 ++ header_octets plain)) c.cut.ensures ∙ sym heads_are
