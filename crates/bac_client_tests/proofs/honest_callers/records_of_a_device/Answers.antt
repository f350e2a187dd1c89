use Rattle.std.proofs.Common.{◌≡◌, ap, sym, subst}
use Rattle.bac_wire.specs.Primitive.{Id}
use Rattle.bac_objects.specs.Sampling.{log_id}
use Rattle.bac_memory_link.specs.Ahead.{IsAhead, history_ahead, moments_ahead, placed_all}
use Rattle.bac_client_tests.proofs.honest_callers.records_of_a_device.Goals as goal

pub returns : goal.returns
returns c = λ rounds k low kind there here window above below.
    let n = c.args.log.instance in
    let d = c.args.device.now in
    let events = c.args.events.now in
    let r = d.reply_size in
    let M = placed_all rounds (moments_ahead d n events) in
    let H = history_ahead rounds d n events in
    let id : c.args.log ≡ log_id n = ap (λ k. let i : Id = record { kind = k; instance = n } in i) kind in
    let K : Id → Type 0 = λ i. IsAhead c.new-link.result.device.now c.new-link.result.events.now i r M H in
    c.in_ok-outcome.ensures r M H k low (subst K (sym id) (rounds, c.new-link.ensures.ours n rounds there)) here window above below
