-- What `bac wi` asks, and what it prints of what comes. Read `FindsWhatCame`.
use Rattle.std.specs.Prelude.{◌≡◌, ℕ, true, List, ◌++◌, [], ◌∷◌, map, Ok, Err}
use Rattle.std.specs.Io.KnownBytes.{Appends}
use Rattle.bac_socket_notes.specs.Ports.{Event, Sent, Received, came_in}
use Rattle.bac_laws.specs.Events.{sent_in}
use Rattle.bac_print.specs.Output.{AppendsPart, Held}
use Rattle.bac_query.specs.Requests.{who_is_octets}
use Rattle.bac_query.specs.Turns.{has_device, lines_of}
use Rattle.bac_tools.specs.Finding.{search_of}
use Rattle.bac_command_line.specs.declared.job.Discovery.{Discovery}
use Rattle.bac_command_line.specs.declared.job.Stations.{Stations}
use Rattle.bac_command_line.specs.declared.job.Stations.TheVariants.{Listed, Input}

-- these are the stations of the words; those of the input may be any
abbrev pub AreStations : Stations → List (List ℕ) → Type 0
AreStations (Listed addresses) all = all ≡ addresses
AreStations Input all = Unit {0}

-- no send was refused
abbrev pub AreTaken : List Event → Type 0
AreTaken [] = Unit {0}
AreTaken (Sent octets to (Ok done) ∷ es) = AreTaken es
AreTaken (Sent octets to (Err fault) ∷ es) = ⊥
AreTaken (Received received ∷ es) = AreTaken es

-- Only the Who-Is of the words is sent, once to each station, in order, up to the last or to an earlier one. Of what
-- comes each datagram with an I-Am has its line, in the order in which they came; these lines are printed, or a front
-- part of their text. With the status 0 each station was asked, no send was refused, a device announced itself, and
-- each line is there.
pub record FindsWhatCame (said : Discovery) (es : List Event) (before after : Held) (status : ℕ) : Type 0 where
  pub asked : List (List ℕ)
  pub rest : List (List ℕ)
  pub stations : AreStations said.stations (asked ++ rest)
  pub sent : sent_in es ≡ map (λ to. (who_is_octets (search_of said), to)) asked
  pub lines : AppendsPart before after (lines_of (came_in es))
  pub done : status ≡ 0 → (rest ≡ []) × AreTaken es × (has_device (came_in es) ≡ true)
      × Appends before after (lines_of (came_in es))
