use Rattle.std.proofs.Common.{◌≡◌, ◌+◌, ◌≤◌, ◌++◌, map, take, vec_len, vec_capacity}
use Rattle.bac_walk.specs.Walks.{gap_items, item_of}
use Rattle.bac_world.proofs.client.keep.Given as goal

-- the gap and the entries so far stand after what was there
abbrev pub invariant-loop-numbered : goal.invariant-loop-numbered
invariant-loop-numbered l = record {
  items : l.items.items ≡ (l.fn.items.items ++ gap_items l.batch.gap) ++ map item_of (take l.numbered-index l.numbered-items);
  room : vec_len l.items + 100 ≤ vec_capacity l.items + l.numbered-index;
}
