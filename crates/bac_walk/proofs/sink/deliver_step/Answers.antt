use Rattle.std.proofs.Common.{ℕ, List, arith}
use Rattle.bac_link.specs.Delivery.{History, Moment}
use Rattle.bac_walk.specs.Replied.{step_of}
use Rattle.bac_walk.proofs.Handed.{found_end, handed}
use Rattle.bac_link.specs.Path.{towards}
use Rattle.bac_walk.proofs.Near.{at_once}
use Rattle.bac_walk.proofs.Told.{told_handed}
use Rattle.bac_walk.proofs.Transacted.{into_plain}
use Rattle.bac_walk.proofs.TransactedRuns.{handed_brought}
use Rattle.bac_walk.proofs.sink.deliver_step.Goals as goal

pub returns-clause-delivers : goal.returns-clause-delivers
returns-clause-delivers g c =
    let was : ℕ → List Moment → History → Type 0 = λ r M H. g.L.LogLink.is_ours c.args.link.now c.args.walk.now.log r M H in
    let is : ℕ → List Moment → History → Type 0 = λ r M H. g.L.LogLink.is_ours c.reply-replied.new.link c.args.walk.now.log r M H in
    handed g.S.Sink.puts c.args.sink.now c.hand_on.new.sink was is c.args.transactions.now.retries
    (g.L.LogLink.failures c.args.link.now) (g.L.LogLink.failures c.reply-replied.new.link)
    c.args.walk.now c.reply-replied.new.self c.hand_on.new.walk (step_of c.reply-replied.result) c.hand_on.result
    (c.reply-replied.ensures.goes, c.reply-replied.ensures.ours) c.hand_on.ensures

-- the premises of a step are those of a run of one step
pub returns-clause-answered : goal.returns-clause-answered
returns-clause-answered g c r M H s sure ours next near =
    found_end g.S.Sink.puts c.args.sink.now c.reply-replied.new.self (step_of c.reply-replied.result) c.hand_on.result c.hand_on.new.walk c.hand_on.new.sink c.hand_on.ensures
    (c.reply-replied.ensures.answered r M H s sure ours next (at_once r c.args.walk.now.count H M c.args.walk.now.fresh s 1 0 0 (omega arith) near))

pub returns-clause-told : goal.returns-clause-told
returns-clause-told g c =
    told_handed g.L.LogLink.asks (towards c.args.transactions.now.route) c.args.transactions.now.retries c.reply-replied.new.link g.S.Sink.puts c.args.sink.now c.reply-replied.new.self
    (step_of c.reply-replied.result) c.hand_on.result c.hand_on.new.walk c.hand_on.new.sink c.hand_on.ensures c.reply-replied.ensures.told

pub returns-clause-transacted : goal.returns-clause-transacted
returns-clause-transacted g c =
    handed_brought g.L.LogLink.asks c.args.transactions.now c.reply-replied.new.transactions g.S.Sink.puts c.args.link.now c.reply-replied.new.link
    c.args.sink.now c.hand_on.new.sink c.args.walk.now c.reply-replied.new.self c.hand_on.new.walk (step_of c.reply-replied.result) c.hand_on.result
    c.reply-replied.ensures.transacted c.hand_on.ensures

pub returns-clause-brought : goal.returns-clause-brought
unfolding returns-clause-transacted
returns-clause-brought g c =
    into_plain g.L.LogLink.asks c.args.transactions.now c.reply-replied.new.transactions g.S.Sink.puts c.args.link.now c.reply-replied.new.link
    c.args.sink.now c.hand_on.new.sink c.args.walk.now c.hand_on.new.walk 1 c.hand_on.result (returns-clause-transacted g c)
