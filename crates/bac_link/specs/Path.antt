-- By which other networks a message goes (clause 6.2.2): the place behind a router that it is for (DNET and DADR), and
-- the place behind a router that it is from (SNET and SADR).
use Rattle.std.specs.Prelude.{Bool, true, false, not, ◌&&◌, ◌==◌, Option, Some, None}
use Rattle.std.specs.Str.{bytes_eq}
use Rattle.bac_apdu.specs.Npdu.{Header, Place, is_there}
use Rattle.bac_apdu.specs.Route.{IsWay}

-- the two places: without dest a message is for a device of this network, and without source from one
pub record Path : Type 0 where
  pub dest : Option Place
  pub source : Option Place

-- the two places that a network header names
abbrev pub path_of : Header → Path
path_of h = record { dest = h.dest; source = h.source }

-- to a place behind a router, or to a device of this network
abbrev pub towards : Option Place → Path
towards place = record { dest = place; source = None }

-- an answer's: from where its request went, to where that came from
abbrev pub back : Path → Path
back path = record { dest = path.source; source = path.dest }

-- on either side no other network, or a place that a request can go to
abbrev pub AreWays : Path → Type 0
AreWays path = IsWay path.dest × IsWay path.source

-- both places are missing, or they have the same network and address
abbrev pub same_place : Option Place → Option Place → Bool
same_place None None = true
same_place (Some a) (Some b) = a.net == b.net && bytes_eq a.address b.address
same_place a b = false

-- whether an answer that has come to its network is one to a request that began there: it comes from where that went
abbrev pub comes_back : Path → Path → Bool
comes_back asked told = not (is_there asked.source) && (not (is_there told.dest) && same_place asked.dest told.source)
