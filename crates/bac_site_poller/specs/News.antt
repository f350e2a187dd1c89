-- What is told of a site beside the lines of its logs.
use Rattle.std.specs.Prelude.{ℕ, codes, decimal, List, [], ◌∷◌, ◌++◌}
use Rattle.bac_print.specs.Addresses.{address_text}
use Rattle.bac_device_poller.specs.Ending.{counted_text}
use Rattle.bac_site_poller.specs.declared.news.News.{News}
use Rattle.bac_site_poller.specs.declared.news.News.TheVariants.{Slow, Stray}

-- A.B.C.D of an address
unfoldable pub host_text : List ℕ → List ℕ
host_text (a ∷ b ∷ c ∷ d ∷ high ∷ low ∷ []) =
    decimal a ++ (46 ∷ (decimal b ++ (46 ∷ (decimal c ++ (46 ∷ decimal d)))))
host_text other = []

-- how many requests may be open at the host of an address
abbrev pub slow_text : List ℕ → (limit : ℕ) → List ℕ
slow_text peer limit =
    host_text peer
    ++ (codes ": slow, " ++ (counted_text limit (codes " request") (codes " requests") ++ codes " at a time"))

-- from where an answer came, and that none came from an address
abbrev pub from_text : List ℕ → List ℕ
from_text from = codes ": no answer, but one from " ++ address_text from

-- the whole of that
abbrev pub stray_text : List ℕ → List ℕ → List ℕ
stray_text peer from = address_text peer ++ from_text from

-- what is told, without the end of its line
abbrev pub news_text : News → List ℕ
news_text (Slow peer limit) = slow_text peer limit
news_text (Stray peer from) = stray_text peer from

-- its line
abbrev pub news_line : News → List ℕ
news_line news = news_text news ++ 10 ∷ []
