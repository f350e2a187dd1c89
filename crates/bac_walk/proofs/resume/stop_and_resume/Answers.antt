use Rattle.std.proofs.Common.{◌≡◌, ◌+◌, ℕ, sym, ap, ◌∙◌, subst}
use Rattle.bac_wire.specs.Primitive.{Id}
use Rattle.bac_walk.specs.Place.{WalkPlace, resumed}
use Rattle.bac_link.specs.Path.{Path, towards}
use Rattle.bac_walk.specs.Honest.{DeliversSaid}
use Rattle.bac_walk.proofs.Honest.{said_joins}
use Rattle.bac_walk.specs.Came.{BroughtInto, walk_over, reaching_by}
use Rattle.bac_walk.specs.Transacted.{BroughtIntoBy, spare, walk_by}
use Rattle.bac_walk.proofs.Transacted.{into_same}
use Rattle.bac_link.specs.Laws.{after_answers}
use Rattle.bac_link.specs.Delivery.{DeliversTo}
use Rattle.bac_link.specs.Moments.{AreInWindow}
use Rattle.bac_walk.specs.Sinks.{put_items, sink_filled}
use Rattle.bac_link.proofs.Delivers.{joined}
use Rattle.bac_walk.proofs.Near.{windows_near, stays_in}
use Rattle.bac_walk.proofs.Runs.{headline_of}
use Rattle.bac_walk.proofs.resume.stop_and_resume.Goals as goal

pub returns : goal.returns
returns g c =
    let x = c.deliver-first.ensures.delivers in
    let y = c.deliver-second.ensures.delivers in
    let to : c.resumed.result ≡ resumed c.deliver-first.new.walk = c.resumed.ensures in
    let B : WalkPlace → Type 0 = λ w. BroughtInto (reaching_by g.L.LogLink.asks c.args.transactions.now) (sink_filled g.R.Sink.puts c.args.rest.now c.deliver-second.new.sink) (walk_over c.deliver-first.new.link w) c.args.more c.deliver-second.result (walk_over c.deliver-second.new.link c.deliver-second.new.walk) in
    let C : WalkPlace → Type 0 = λ w. BroughtIntoBy g.L.LogLink.asks (sink_filled g.R.Sink.puts c.args.rest.now c.deliver-second.new.sink) (walk_by c.deliver-first.new.link c.deliver-first.new.transactions w) c.args.more c.deliver-second.result (walk_by c.deliver-second.new.link c.deliver-second.new.transactions c.deliver-second.new.walk) in record {
      brought = (
        c.deliver-first.new.walk,
        c.deliver-first.new.link,
        c.deliver-first.ensures.brought,
        subst B to (into_same g.L.LogLink.asks (towards c.args.transactions.now.route) (towards c.deliver-first.new.transactions.route) c.args.transactions.now.retries c.deliver-first.new.transactions.retries
            g.R.Sink.puts c.deliver-first.new.link c.deliver-second.new.link c.args.rest.now c.deliver-second.new.sink c.resumed.result c.deliver-second.new.walk c.args.more c.deliver-second.result
            (ap towards c.deliver-first.ensures.route) c.deliver-first.ensures.retries c.deliver-second.ensures.brought),
      );
      transacted = (
        c.deliver-first.new.walk,
        c.deliver-first.new.link,
        c.deliver-first.new.transactions,
        c.deliver-first.ensures.transacted,
        subst C to c.deliver-second.ensures.transacted,
      );
      headline = λ had_number.
          let one = c.deliver-first.ensures.headline in
          let two = c.deliver-second.ensures.headline in
          let D : Path → Type 0 = λ q. DeliversSaid g.L.LogLink.asks q (spare c.deliver-second.result) (walk_over c.deliver-first.new.link c.resumed.result) (put_items two.0) c.deliver-second.result (walk_over c.deliver-second.new.link c.deliver-second.new.walk) in (
            one.0,
            two.0,
            one.1,
            two.1,
            said_joins g.L.LogLink.asks (towards c.args.transactions.now.route) (spare c.deliver-first.result) (spare c.deliver-second.result) c.args.link.now c.deliver-first.new.link c.deliver-second.new.link c.args.walk.now c.deliver-first.new.walk
                c.resumed.result c.deliver-second.new.walk (put_items one.0) (put_items two.0) c.deliver-first.result c.deliver-second.result one.2
                (subst D (ap towards c.deliver-first.ensures.route) two.2) (ap (λ (v : WalkPlace). v.log) to ∙ c.deliver-first.ensures.log) (ap (λ (v : WalkPlace). v.count) to ∙ c.deliver-first.ensures.count)
                (ap (λ (v : WalkPlace). v.next) to) (ap (λ (v : WalkPlace). v.fresh) to) had_number,
          );
      resumed = (
        x.0,
        y.0,
        x.1,
        y.1,
        x.5,
        y.5,
        λ r M H s low old ours next window above below.
            let served = g.met.L.LogLink.serves c.args.link.now c.args.walk.now.log r M H ours in
            let walk : WalkPlace = c.resumed.result in
            let log = ap (λ (w : WalkPlace). w.log) to in
            let here = ap (λ (w : WalkPlace). w.next) to in
            let a = headline_of (λ r M H. g.L.LogLink.is_ours c.args.link.now c.args.walk.now.log r M H)
            (λ r M H. g.L.LogLink.is_ours c.deliver-first.new.link c.args.walk.now.log r M H) c.args.transactions.now.retries
            (g.L.LogLink.failures c.args.link.now) (g.L.LogLink.failures c.deliver-first.new.link) c.args.walk.now c.deliver-first.new.walk
            c.args.steps c.deliver-first.result (put_items x.0) x.4 r M H s ours next
            (windows_near r c.args.walk.now.count H M low s c.args.steps c.args.walk.now.fresh served window (λ is. (above, below))) in
            let K : Id → Type 0 = λ n. g.L.LogLink.is_ours c.deliver-first.new.link n r (after_answers a.1 M) H in
            let P : ℕ → Type 0 = λ n. DeliversTo H n (put_items x.0) a.2 M a.1 in
            let first = subst P (a.3 old) a.5 in
            let place = stays_in r H M low s a.2 first.0 served window above below first.3 in
            let W : ℕ → Type 0 = λ n. AreInWindow low (after_answers n M) in
            let left = subst W first.1 place.2 in
            let b = headline_of (λ r M H. g.L.LogLink.is_ours c.deliver-first.new.link walk.log r M H)
            (λ r M H. g.L.LogLink.is_ours c.deliver-second.new.link walk.log r M H) c.deliver-first.new.transactions.retries
            (g.L.LogLink.failures c.deliver-first.new.link) (g.L.LogLink.failures c.deliver-second.new.link) walk c.deliver-second.new.walk
            c.args.more c.deliver-second.result (put_items y.0) y.4 r (after_answers a.1 M) H a.2
            (subst K (sym (log ∙ c.deliver-first.ensures.log)) a.6) (here ∙ a.4)
            (windows_near r walk.count H (after_answers a.1 M) low a.2 c.args.more walk.fresh
            (g.met.L.LogLink.serves c.deliver-first.new.link c.args.walk.now.log r (after_answers a.1 M) H a.6) left (λ is. (place.0, place.1))) in
            let Q : ℕ → Type 0 = λ n. DeliversTo H n (put_items y.0) b.2 (after_answers a.1 M) b.1 in (
              a.1 + b.1,
              b.2,
              b.4,
              joined H s a.2 b.2 a.1 b.1 M (put_items x.0) (put_items y.0) first
                  (subst Q (b.3 (ap (λ (w : WalkPlace). w.fresh) to)) b.5),
            ),
      );
    }
