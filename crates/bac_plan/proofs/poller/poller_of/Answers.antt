use Rattle.bac_plan.proofs.poller.poller_of.Goals as goal

pub returns-clause-ok : goal.returns-clause-ok
returns-clause-ok c = record {
  way = c.in_ok-way.way;
  known = c.in_ok-known.known;
  tasks = c.in_ok-tasks.tasks.items;
  way_is = c.in_ok-way.ensures.ok;
  known_is = c.in_ok-known.ensures.ok;
  tasks_are = c.in_ok-tasks.ensures.ok;
  is = cc (c.new.ensures, c.new-poll.ensures, c.with_steps-poll.ensures, c.in_ok-clock.ensures, c.new-rows.ensures, c.transactions_on-transactions.ensures, c.in_ok-records.ensures, c.in_ok-called.ensures, c.as_slice.ensures.value);
}
