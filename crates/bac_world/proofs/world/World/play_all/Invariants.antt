use Rattle.std.proofs.Common.{◌≡◌, ◌≤◌, take}
use Rattle.bac_world.specs.Network.{happens_all, moves_all}
use Rattle.bac_world.specs.Runs.{AreSane}
use Rattle.bac_world.specs.Views.{network_of}
use Rattle.bac_world.proofs.world.World.play_all.Given as goal

-- the events so far have been played
abbrev pub invariant-loop-event : goal.invariant-loop-event
invariant-loop-event l = record {
  network : network_of l.self ≡ happens_all (network_of l.fn.self) (take l.event-index l.events);
  counted : l.count ≡ moves_all (network_of l.fn.self) (take l.event-index l.events);
  below : l.count ≤ l.event-index;
  sane : AreSane (network_of l.fn.self) (take l.event-index l.events);
}
