-- What the answers of a reference's text open.
use Rattle.std.specs.Prelude.{⊤}
use Rattle.bac_query.specs.Sources.{source_text}

-- a reference's text
unfoldable pub source : ⊤
unfolding source_text
source = tt
