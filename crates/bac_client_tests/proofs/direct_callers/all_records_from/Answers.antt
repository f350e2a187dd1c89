use Rattle.std.proofs.Common.{◌≡◌, ℕ, ◌+◌, ◌-◌, ◌<◌, max, arith, List, [], ◌∷◌, ◌++◌, Option, inl, inr, refl, sym, ap, subst, ◌∙◌}
use Rattle.std.specs.Prelude.{All}
use Rattle.std.specs.Option.{unwrap_or}
use Rattle.bac_wire.specs.Primitive.{Id}
use Rattle.bac_log.specs.Entry.{IsLoggable}
use Rattle.bac_log.specs.TrendLog.{IsLog, Log, empty_log}
use Rattle.bac_log.specs.declared.entry.Entry.{Entry}
use Rattle.bac_objects.specs.Sampling.{log_id}
use Rattle.bac_objects.specs.Sound.{IsSound}
use Rattle.bac_link.specs.Moments.{log_at}
use Rattle.bac_link.specs.declared.transactions.Transactions.{Transactions}
use Rattle.bac_link.specs.Delivery.{History, Moment}
use Rattle.bac_walk.specs.Near.{IsNear}
use Rattle.bac_walk.specs.Place.{WalkPlace}
use Rattle.bac_walk.specs.Rests.{Misses, Rested, Rests, rest, rest_all}
use Rattle.bac_memory_link.specs.Ahead.{IsAhead, Lacks, history_ahead, log_with, moment_of, placed, turn}
use Rattle.bac_memory_link.proofs.Steps.{moment_same}
use Rattle.bac_client_tests.specs.Held.{held_from}
use Rattle.bac_client_tests.proofs.Held.{enough, held_all, held_now, history_of}
use Rattle.bac_client_tests.proofs.direct_callers.all_records_from.Goals as goal

pub returns-clause-records : goal.returns-clause-records
returns-clause-records c = λ k there here near more.
    let n = c.args.log.instance in
    let d = c.args.device.now in
    let r = d.reply_size in
    let log : Log = log_with d n in
    let m = placed 0 (moment_of log) in
    let H = history_ahead 0 d n [] in
    let zero : moment_of log ≡ m = moment_same _ _ _ _ (omega arith) (omega arith) in
    let same : history_of log ≡ H = ap (λ (b : ℕ). let h : History = record { logged = b; entries = log.entries ++ [] } in h) (let e : log.before ≡ log.before + turn 0 = omega arith in e) in
    let is = (c.in-Some.ensures {u = tt}).some in
    let kind = ((c.in-Some.ensures {u = tt}).is_some.0 refl).1 in
    let id : c.args.log ≡ log_id n = ap (λ k. let i : Id = record { kind = k; instance = n } in i) kind in
    let ahead = c.new-link.ensures.ours n 0 there in
    let K : Id → Type 0 = λ i. IsAhead c.new-link.result.device.now c.new-link.result.events.now i r (m ∷ []) H in
    let R : WalkPlace → Type 0 = λ w. Rests (rest r w.count H m w.fresh k c.args.steps) c.args.steps c.collect.result.items.items c.collect.result.next c.collect.result.why in
    let sound : IsSound d = subst IsSound c.new-link.ensures.device ahead.sound in
    let is_log : IsLog log = subst IsLog (sym (ap (λ (o : Option Log). unwrap_or o (empty_log 1 0)) there.1)) (sound.logs n there.0 there.1) in
    let loggable : All IsLoggable (log_at m H).entries = subst (λ (es : List Entry). All IsLoggable es) (sym (held_now log) ∙ ap (λ (x : Moment). (log_at x (history_of log)).entries) zero ∙ ap (λ (h : History). (log_at m h).entries) same) is_log.loggable in
    let close : IsNear k m = subst (λ (x : Moment). IsNear k x) zero near in
    let whole = c.rests_all.ensures r 100 H m k c.args.steps (omega arith) ahead.served loggable (subst (λ (x : Moment). (x.newest + 1) - max k x.oldest < c.args.steps) zero (enough log k c.args.steps more)) in
    let all : held_from log k ≡ (rest_all H m k).items = sym (held_all log k) ∙ ap (λ (x : Moment). (rest_all (history_of log) x k).items) zero ∙ ap (λ (h : History). (rest_all h m k).items) same in
    elim (subst R is (c.collect.ensures.resting r m H k (c.new-link.ensures.events, ap (λ (t : Transactions). t.route) c.new-transactions.ensures) (subst K (sym (ap (λ (w : WalkPlace). w.log) is ∙ id)) (0, ahead)) (ap (λ (w : WalkPlace). w.next) is ∙ here) (λ old. close))) [
      | inl memory ↦ inl memory
      | inr rests ↦ inr (rests.0 ∙ ap (λ (x : Rested). x.items) whole ∙ sym all)
    ]

pub returns-clause-missing : goal.returns-clause-missing
returns-clause-missing c = λ none.
    let n = c.args.log.instance in
    let is = (c.in-Some.ensures {u = tt}).some in
    let kind = ((c.in-Some.ensures {u = tt}).is_some.0 refl).1 in
    let id : c.args.log ≡ log_id n = ap (λ k. let i : Id = record { kind = k; instance = n } in i) kind in
    let K : Id → Type 0 = λ i. Lacks c.new-link.result.device.now i in
    subst (λ k. Misses c.args.steps k c.collect.result.items.items c.collect.result.next c.collect.result.why) (ap (λ (w : WalkPlace). w.next) is)
    (c.collect.ensures.missing (subst K (sym (ap (λ (w : WalkPlace). w.log) is ∙ id)) (c.new-link.ensures.lacks n none)) (c.new-link.ensures.events, ap (λ (t : Transactions). t.route) c.new-transactions.ensures))
