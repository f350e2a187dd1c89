use Rattle.std.proofs.Common.{◌≡◌, [], ◌∷◌, refl, sym, ap, subst, arith}
use Rattle.bac_wire.specs.Primitive.{Id}
use Rattle.bac_objects.specs.Sampling.{log_id}
use Rattle.bac_memory_link.specs.Ahead.{IsAhead, history_ahead, log_with, moment_of, placed}
use Rattle.bac_client_tests.proofs.direct_callers.all_records_from_any_number.Goals as goal

pub returns : goal.returns
returns c = λ some kind there more.
    let n = c.args.log.instance in
    let d = c.args.device.now in
    let r = d.reply_size in
    let m = placed 1 (moment_of (log_with d n)) in
    let H = history_ahead 1 d n [] in
    let id : c.args.log ≡ log_id n = ap (λ k. let i : Id = record { kind = k; instance = n } in i) kind in
    let K : Id → Type 0 = λ i. IsAhead c.new-link.result.device.now c.new-link.result.events.now i r (m ∷ []) H in
    let near = c.numbers_have_ordinals.ensures c.args.s m some (omega arith) (omega arith) in (
      near.0,
      near.1,
      near.2,
      c.in_ok-outcome.ensures r m H near.0 (c.new-link.ensures.events, refl) (subst K (sym id) (1, c.new-link.ensures.ours n 1 there)) near.1 near.2 (omega (arith, more)),
    )
