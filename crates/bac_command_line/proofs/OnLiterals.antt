-- What a proof unfolds to compute what a line that is written out comes to.
use Rattle.std.specs.Prelude.{⊤}
use Rattle.clap.proofs.OnLiterals.{clap_on_literals}
use Rattle.hex.specs.Hex.{decode_pairs}
use Rattle.bac_command_line.specs.Numbers.{number_in}
use Rattle.bac_command_line.specs.Addresses.{host_in, address_in}
use Rattle.bac_command_line.specs.Devices.{announced, device_at, way_behind, way_of}
use Rattle.bac_command_line.specs.Networks.{size_of, stations_of}
use Rattle.bac_command_line.specs.Rows.{mac_in, route_in}
use Rattle.bac_command_line.specs.Jobs.{asked_at, wi_at, rp_at, given_at, wp_at, from_in, log_at, logs_at, keep_at, kept_at, check_at, serve_at}

unfoldable pub line_on_literals : ⊤
unfolding clap_on_literals decode_pairs number_in host_in address_in announced device_at way_behind way_of size_of stations_of mac_in route_in asked_at wi_at rp_at given_at wp_at from_in log_at logs_at keep_at kept_at check_at serve_at
line_on_literals = tt
