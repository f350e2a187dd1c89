-- What contracts see of a world.
use Rattle.bac_world.specs.declared.world.World.{World}
use Rattle.bac_world.specs.Network.{Network}

-- a world as a network
abbrev pub network_of : World → Network
network_of w = record {
  device = w.device;
  walk = w.walk;
  transactions = w.transactions;
  begun = w.begun;
  packets = w.packets.items;
  items = w.items.items;
  caught = w.caught;
}
