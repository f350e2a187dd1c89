use Rattle.std.proofs.Common.{◌≡◌, true, false, List, take, get_or, sym, ap, subst, ◌∙◌, arith}
use Rattle.bac_world.specs.declared.event.WorldEvent.{WorldEvent}
use Rattle.bac_world.specs.Network.{happens_all}
use Rattle.bac_world.specs.Runs.{AreSane}
use Rattle.bac_world.specs.Views.{network_of}
use Rattle.bac_world.proofs.Withstands.{delivers_from, withstands_from}
use Rattle.bac_world.proofs.Played.{played_more, counted_more, sane_more, played_end, add_zero}
use Rattle.bac_world.proofs.world.World.play_all.Goals as goal
use Rattle.bac_world.proofs.world.World.play_all.Goals.{then-moved, else-moved}

pub returns-in-Err-clause-refused : goal.returns-in-Err-clause-refused
returns-in-Err-clause-refused c =
    let w = network_of c.args.self.now in
    let before = take c.loop-event.event-index c.args.events.now in
    let is : network_of c.play.new.self ≡ happens_all w before = c.in-Err.ensures.refused ∙ c.loop-event.invariant.network in
    (c.loop-event.event-index, c.loop-event-test.true, is, withstands_from w before (network_of c.play.new.self) c.loop-event.invariant.sane is)

pub loop-event-preserved : goal.loop-event-preserved
loop-event-preserved c =
    let w = network_of c.args.self.now in
    let es = c.args.events.now in
    let i = c.loop-event.event-index in
    let e = c.event-item.result in
    let is : get_or es i e ≡ e = sym c.event-item.is in
    record {
      network = played_more w (network_of c.loop-event.self) (network_of c.play.new.self) es i e e
          c.loop-event-test.true is c.loop-event.invariant.network c.in-Ok.ensures.step;
      counted = elim c.if-moved.branch [
        | then-moved v ↦
            v.count-is ∙ counted_more w (network_of c.loop-event.self) es i c.loop-event.count e e true
            c.loop-event-test.true is c.loop-event.invariant.network (sym v.if-moved.true ∙ c.in-Ok.ensures.moved) c.loop-event.invariant.counted
        | else-moved v ↦
            v.count-is ∙ sym (add_zero c.loop-event.count) ∙ counted_more w (network_of c.loop-event.self) es i c.loop-event.count e e false
            c.loop-event-test.true is c.loop-event.invariant.network (sym v.if-moved.false ∙ c.in-Ok.ensures.moved) c.loop-event.invariant.counted
      ];
      below = elim c.if-moved.branch [
        | then-moved v ↦ omega (arith, v.count-is)
        | else-moved v ↦ omega (arith, v.count-is)
      ];
      sane = sane_more w (network_of c.loop-event.self) (network_of c.play.new.self) es i e e
          c.loop-event-test.true is c.loop-event.invariant.network c.in-Ok.ensures.step c.loop-event.invariant.sane c.play.ensures.sane;
    }

pub returns-clause-withstands : goal.returns-clause-withstands
returns-clause-withstands c =
    let w = network_of c.args.self.now in
    let all : take c.loop-event.event-index c.args.events.now ≡ c.args.events.now = played_end c.args.events.now c.loop-event.event-index (omega arith) in
    withstands_from w c.args.events.now (network_of c.loop-event.self)
    (subst (λ (l : List WorldEvent). AreSane w l) all c.loop-event.invariant.sane)
    (c.loop-event.invariant.network ∙ ap (λ l. happens_all w l) all)

pub returns-clause-headline : goal.returns-clause-headline
returns-clause-headline c =
    let w = network_of c.args.self.now in
    let all : take c.loop-event.event-index c.args.events.now ≡ c.args.events.now = played_end c.args.events.now c.loop-event.event-index (omega arith) in
    delivers_from w c.args.events.now (network_of c.loop-event.self)
    (subst (λ (l : List WorldEvent). AreSane w l) all c.loop-event.invariant.sane)
    (c.loop-event.invariant.network ∙ ap (λ l. happens_all w l) all)
