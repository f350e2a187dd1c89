use Rattle.std.proofs.Common.{◌≡◌, false, [], ◌∷◌, List, length, subst, ◌∙◌}
use Rattle.bac_link.specs.declared.item.Item.{Item}
use Rattle.bac_walk.specs.declared.outcome.Ended.{Ended}
use Rattle.bac_walk.specs.Collects.{Collected, Goes, start_of, step_items, step_ended, our_log, started_at, losses_of, yield}
use Rattle.bac_walk.specs.Near.{IsNearStep}
use Rattle.bac_walk.specs.Replied.{step_of}
use Rattle.bac_walk.proofs.Rests.{rested_step}
use Rattle.bac_walk.proofs.Came.{start_old}
use Rattle.bac_walk.proofs.Runs.{collected_delivers}
use Rattle.bac_walk.proofs.Sames.{same_step}
use Rattle.bac_link.specs.Path.{towards}
use Rattle.bac_walk.specs.Told.{Told}
use Rattle.bac_walk.specs.Came.{Came, Brought, walk_over, reaching_by}
use Rattle.bac_walk.specs.Transacted.{BroughtBy, walk_by}
use Rattle.bac_walk.proofs.Growing.{delivers_growing}
use Rattle.bac_walk.proofs.Honest.{delivers_said}
use Rattle.bac_walk.proofs.walk.Walk.step.Goals as goal

pub returns-clause-fault : goal.returns-clause-fault
returns-clause-fault g c = (same_step (step_of c.reply.result) c.decoded.result c.decoded.ensures).fault c.reply.new.self.next c.args.self.now.next c.reply.ensures.fault

pub returns-clause-answered : goal.returns-clause-answered
returns-clause-answered g c r M H s sure ours next near =
    (same_step (step_of c.reply.result) c.decoded.result c.decoded.ensures).found (c.reply.ensures.answered r M H s sure ours next near)

pub returns-clause-lacking : goal.returns-clause-lacking
returns-clause-lacking g c lacks =
    let gone = c.reply.ensures.lacking lacks in
    ((same_step (step_of c.reply.result) c.decoded.result c.decoded.ensures).missing gone.0, gone.1)

pub returns-clause-refused : goal.returns-clause-refused
returns-clause-refused g c lacks sure =
    (same_step (step_of c.reply.result) c.decoded.result c.decoded.ensures).found (c.reply.ensures.refused lacks sure)

pub returns-clause-goes : goal.returns-clause-goes
returns-clause-goes g c s =
    let P : List Item → Type 0 = λ l. Goes c.args.self.now.fresh c.args.self.now.next s l c.reply.new.self.fresh c.reply.new.self.next in
    subst P (same_step (step_of c.reply.result) c.decoded.result c.decoded.ensures).items (c.reply.ensures.goes s)

pub returns-clause-ours : goal.returns-clause-ours
returns-clause-ours g c r M H s ours next near =
    let same = same_step (step_of c.reply.result) c.decoded.result c.decoded.ensures in
    let run = c.reply.ensures.ours r M H s ours next near in
    let P : List Item → Type 0 = λ l. Collected (our_log r M H) (started_at c.args.self.now.count c.args.self.now.fresh s) 1 (losses_of c.args.transactions.now.retries (g.L.LogLink.failures c.args.link.now) (g.L.LogLink.failures c.reply.new.link)) (yield l (step_ended (step_of c.reply.result))) run.1 run.0 in
    let Q : Ended → Type 0 = λ e. Collected (our_log r M H) (started_at c.args.self.now.count c.args.self.now.fresh s) 1 (losses_of c.args.transactions.now.retries (g.L.LogLink.failures c.args.link.now) (g.L.LogLink.failures c.reply.new.link)) (yield (step_items c.decoded.result) e) run.1 run.0 in
    (run.0, run.1, run.2, subst Q same.ended (subst P same.items run.3), run.4, run.5 ∙ same.fresh c.args.self.now.fresh)

pub returns-clause-resting : goal.returns-clause-resting
returns-clause-resting g c r m H s sure ours next near =
    let close : c.args.self.now.fresh ≡ false → IsNearStep c.args.self.now.count s (m ∷ []) = λ old. (near old, λ none. near old) in
    let run = returns-clause-ours g c r (m ∷ []) H s ours next close in
    rested_step r c.args.self.now.count H m c.args.self.now.fresh s c.args.transactions.now.retries (g.L.LogLink.failures c.args.link.now) (g.L.LogLink.failures c.reply.new.link)
    run.1 c.reply.new.self.next c.decoded.result run.0 (returns-clause-answered g c r (m ∷ []) H s sure ours next close) run.3 run.2

pub returns-clause-told : goal.returns-clause-told
returns-clause-told g c =
    let P : Ended → Type 0 = λ e. Told g.L.LogLink.asks (towards c.args.transactions.now.route) c.args.transactions.now.retries e c.reply.new.self c.reply.new.link in
    subst P (same_step (step_of c.reply.result) c.decoded.result c.decoded.ensures).ended c.reply.ensures.told

pub returns-clause-near : goal.returns-clause-near
returns-clause-near g c r M H s ours next near =
    let run = returns-clause-ours g c r M H s ours next near in (
      start_of c.args.self.now.fresh s M run.0,
      length run.0,
      run.1,
      start_old c.args.self.now.fresh s M run.0,
      run.2,
      collected_delivers r c.args.self.now.count H M c.args.self.now.fresh s 1 c.args.transactions.now.retries (g.L.LogLink.failures c.args.link.now) (g.L.LogLink.failures c.reply.new.link)
          (step_items c.decoded.result) run.1 (step_ended c.decoded.result) run.0 run.3,
      run.4,
    )

pub returns-clause-brought : goal.returns-clause-brought
returns-clause-brought g c =
    let same = same_step (step_of c.reply.result) c.decoded.result c.decoded.ensures in
    let P : List Item → Type 0 = λ l. (came : List Came) × Brought (reaching_by g.L.LogLink.asks c.args.transactions.now) (walk_over c.args.link.now c.args.self.now) 1 came l (step_ended (step_of c.reply.result)) (walk_over c.reply.new.link c.reply.new.self) in
    let Q : Ended → Type 0 = λ e. (came : List Came) × Brought (reaching_by g.L.LogLink.asks c.args.transactions.now) (walk_over c.args.link.now c.args.self.now) 1 came (step_items c.decoded.result) e (walk_over c.reply.new.link c.reply.new.self) in
    subst Q same.ended (subst P same.items c.reply.ensures.brought)

pub returns-clause-transacted : goal.returns-clause-transacted
returns-clause-transacted g c =
    let same = same_step (step_of c.reply.result) c.decoded.result c.decoded.ensures in
    let P : List Item → Type 0 = λ l. (came : List Came) × BroughtBy g.L.LogLink.asks (walk_by c.args.link.now c.args.transactions.now c.args.self.now) 1 came l (step_ended (step_of c.reply.result)) (walk_by c.reply.new.link c.reply.new.transactions c.reply.new.self) in
    let Q : Ended → Type 0 = λ e. (came : List Came) × BroughtBy g.L.LogLink.asks (walk_by c.args.link.now c.args.transactions.now c.args.self.now) 1 came (step_items c.decoded.result) e (walk_by c.reply.new.link c.reply.new.transactions c.reply.new.self) in
    subst Q same.ended (subst P same.items c.reply.ensures.transacted)

pub returns-clause-headline : goal.returns-clause-headline
unfolding returns-clause-transacted
returns-clause-headline g c =
    delivers_said g.L.LogLink.asks c.args.transactions.now c.reply.new.transactions c.args.link.now c.reply.new.link c.args.self.now c.reply.new.self 1
    (step_items c.decoded.result) (step_ended c.decoded.result) (returns-clause-transacted g c)

pub returns-clause-growing : goal.returns-clause-growing
unfolding returns-clause-transacted
returns-clause-growing g c =
    delivers_growing g.L.LogLink.asks c.args.transactions.now c.reply.new.transactions c.args.link.now c.reply.new.link c.args.self.now c.reply.new.self 1
    (step_items c.decoded.result) (step_ended c.decoded.result) (returns-clause-transacted g c)
