use Rattle.std.proofs.Common.{◌≡◌, ◌<◌, length, ap, sym, arith, slice_set, ◌∙◌}
use Rattle.std.proofs.lemmas.List.Edits.{map_over_more}
use Rattle.bac_site_poller.specs.declared.seat.Seat.{Seat}
use Rattle.bac_site_poller.specs.Seat.{seat_read}
use Rattle.bac_site_poller.proofs.seat.read_all.Goals as goal

pub loop-seat-preserved : goal.loop-seat-preserved
loop-seat-preserved c =
    let below : c.loop-seat.seat-index < length c.args.seats.now = omega arith in
    let to : c.read.new.self ≡ seat_read c.args.now c.seat-item.result = c.read.ensures ∙ ap (seat_read c.args.now) (sym c.seat-item.is) in
    ap (λ (s : Seat). slice_set c.loop-seat.seats c.loop-seat.seat-index s) to
    ∙ map_over_more (seat_read c.args.now) c.args.seats.now c.loop-seat.seats c.loop-seat.seat-index c.seat-item.result below c.loop-seat.invariant c.seat-item.is
