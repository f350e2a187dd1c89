use Rattle.std.proofs.Common.{◌≡◌, ◌∙◌, ap, map}
use Rattle.bac_poll.specs.Turns.{turned}
use Rattle.bac_device_poller.specs.Puts.{PutAs, Puts, none_from, place_behind, put_as, with_turn}
use Rattle.bac_device_poller.proofs.PutLemmas.{turn_log}
use Rattle.bac_device_poller.proofs.putting.put_turn.Goals as goal

pub returns : goal.returns
returns c = λ p.
    let t = turned p c.args.turn.now in
    let inside = c.putting.inside in
    let s = with_turn (none_from c.args.place) t in
    let all : record { log = inside.place.log; epoch = inside.place.epoch; full = inside.place.full; puts = map put_as inside.puts.items } ≡ s =
    c.putting.view_is ∙ c.in_ok-push_turn.ensures p ∙ ap (λ (q : Puts). with_turn q t) c.from-putting.ensures in (
      ap (λ (q : Puts). q.puts) all,
      ap (λ (q : Puts). place_behind q) all,
      ap (λ (q : Puts). q.log) all ∙ turn_log (none_from c.args.place) t,
    )
