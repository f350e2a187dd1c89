use Rattle.std.proofs.Common.{◌≡◌, ◌+◌, ◌*◌, ◌≤◌, ℕ, Bool, false, List}
use Rattle.bac_link.specs.declared.item.Item.{Item}
use Rattle.bac_link.specs.declared.transactions.Transactions.{Transactions}
use Rattle.bac_query.specs.Layouts.{AppendsItems}
use Rattle.bac_walk.specs.Place.{WalkPlace}
use Rattle.bac_walk.specs.declared.outcome.Ended.TheVariants.{StepLimit}
use Rattle.bac_query.specs.Ahead.{IsRunOver, port_asks}
use Rattle.bac_query.proofs.fetching_ahead.fetch.Given as goal
use Rattle.bac_query.specs.Fetching.{course}
use Rattle.bac_link.specs.Exchanges.{client}

-- so far it was a run of so many steps, and the lines of all were written but for those of the last step, which are left
abbrev pub invariant-loop-done : goal.invariant-loop-done
invariant-loop-done g l = record {
  well : l.ahead.is_refused ≡ false;
  layout : l.ahead.layout ≡ l.fn.ahead.layout;
  same_link : l.ahead.link.ghost_name ≡ l.fn.ahead.link.ghost_name;
  same_out : l.ahead.out.ghost_name ≡ l.fn.ahead.out.ghost_name;
  retries : l.transactions.retries ≡ l.fn.transactions.retries;
  route : l.transactions.route ≡ l.fn.transactions.route;
  begun : l.transactions.begun ≤ l.fn.transactions.begun + 2 * l.done;
  log : l.walk.log ≡ l.fn.walk.log;
  so_far : (items : List Item) × (n : ℕ) × (k : ℕ) × (half : Transactions) × (mid : _) × (w : WalkPlace) × (was : Bool)
      × IsRunOver (port_asks g.P.Port.sends g.P.Port.receives) (client l.fn.ahead.link.now l.fn.transactions) l.fn.walk (course items n StepLimit w) (client mid half) false was
      × IsRunOver (port_asks g.P.Port.sends g.P.Port.receives) (client mid half) w (course l.ahead.left.now.items k StepLimit l.walk) (client l.ahead.link.now l.transactions) was l.ahead.said_more
      × (n + k ≡ l.done) × (k ≤ 1) × (l.told ≡ w.next)
      × AppendsItems l.fn.ahead.layout items (g.W.Write.contents l.fn.ahead.out.now) (g.W.Write.contents l.ahead.out.now);
}
