-- How many requests may be open at one IP address, where some were lost.
use Rattle.std.specs.Prelude.{ℕ, ◌+◌, ◌-◌, min, max, nat_le, nat_lt, take, map, Bool, true, false}
use Rattle.std.specs.Prelude.{if◌then◌else◌, List, [], ◌∷◌, ◌++◌, Option, None, Some}
use Rattle.std.specs.List.{find}
use Rattle.std.specs.Option.{is_some}
use Rattle.std.specs.Str.{bytes_eq}
use Rattle.bac_device_poller.specs.declared.doing.Doing.{Doing}
use Rattle.bac_device_poller.specs.declared.doing.Doing.TheVariants as doing
use Rattle.bac_site_poller.specs.declared.hosts.Host.{Host}

-- ---- one host

-- whether it is that of an address
abbrev pub is_host : List ℕ → Host → Bool
is_host peer h = bytes_eq (take 4 h.peer) (take 4 peer)

-- that of an address, if requests were lost there
abbrev pub host_at : List ℕ → List Host → Option Host
host_at peer hosts = find (λ h. is_host peer h) hosts

-- how many requests may be open there: one at least, and no more than at any host
abbrev pub limit_of : (most : ℕ) → Option Host → ℕ
limit_of most None = max most 1
limit_of most (Some h) = max (min h.limit most) 1

-- the fewest that ever might be
abbrev pub least_of : (most : ℕ) → Option Host → ℕ
least_of most None = max most 1
least_of most (Some h) = h.least

-- ---- a request is lost

-- so many may be open from now on, and the answers in a row are counted anew
abbrev pub slowed : (limit : ℕ) → Host → Host
slowed limit h = record h { limit = limit; left = limit; least = min h.least limit }

-- the same of the host of an address, and of no other
abbrev pub slowed_at : List ℕ → (limit : ℕ) → Host → Host
slowed_at peer limit h = if is_host peer h then slowed limit h else h

-- a host at which a request is lost for the first time
abbrev pub new_host : List ℕ → (limit : ℕ) → Host
new_host peer limit = record { peer = peer; limit = limit; left = limit; least = limit }

-- so many may be open at the host of an address, which may be new
abbrev pub with_limit : List ℕ → (limit : ℕ) → List Host → List Host
with_limit peer limit hosts =
    if is_some (host_at peer hosts)
    then map (slowed_at peer limit) hosts
    else hosts ++ new_host peer limit ∷ []

-- ---- an answer came

-- one more, as far as any host has them
abbrev pub risen : (most : ℕ) → ℕ → ℕ
risen most limit = if nat_lt limit most then limit + 1 else limit

-- A round is as many answers in a row as requests may be open; then one more may be.
abbrev pub answered : (most : ℕ) → Host → Host
answered most h =
    if nat_le h.left 1
    then record h { limit = risen most h.limit; left = risen most h.limit }
    else record h { left = h.left - 1 }

-- the same of the host of an address, and of no other
abbrev pub answered_at : (most : ℕ) → List ℕ → Host → Host
answered_at most peer h = if is_host peer h then answered most h else h

-- ---- by what a poll is at

-- its question was lost just now: it is to be sent again, or no answer came to any send
abbrev pub is_loss : Doing → Bool
is_loss (doing.Resends datagram) = true
is_loss doing.Loses = true
is_loss doing.Asks = false
is_loss doing.Waits = false
is_loss (doing.Hears came) = false
is_loss (doing.Tells end) = false
is_loss (doing.Ended why) = false

-- it was answered just now
abbrev pub is_answered : Doing → Bool
is_answered (doing.Hears came) = true
is_answered (doing.Resends datagram) = false
is_answered doing.Loses = false
is_answered doing.Asks = false
is_answered doing.Waits = false
is_answered (doing.Tells end) = false
is_answered (doing.Ended why) = false
