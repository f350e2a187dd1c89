use Rattle.bac_script.proofs.Places.{place_of_line}
use Rattle.bac_script.proofs.laws.lines_in_the_wrong_place_are_lines.Goals as goal

pub returns : goal.returns
returns c = place_of_line
