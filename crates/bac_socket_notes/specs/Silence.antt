-- What is told of an answer that didn't come.
use Rattle.std.specs.Prelude.{ℕ, ◌==◌, ◌&&◌, not, Bool, if◌then◌else◌, List, [], ◌++◌, codes, decimal}
use Rattle.std.specs.Prelude.{Option, Some, None}
use Rattle.std.specs.Int.{w16, to_be_bytes}
use Rattle.std.specs.Str.{bytes_eq}
use Rattle.hex.specs.Hex.{encode_lower}
use Rattle.bac_print.specs.Addresses.{address_text}
use Rattle.bac_socket_notes.specs.declared.contents.Content.{Content}
use Rattle.bac_socket_notes.specs.declared.contents.Content.TheVariants.{Rejected, Message, Bvlc, Confirmed}
use Rattle.bac_socket_notes.specs.declared.contents.Content.TheVariants.{Unconfirmed}
use Rattle.bac_socket_notes.specs.declared.contents.Content.TheVariants.{Answer, TooLong, Unread}
use Rattle.bac_socket_notes.specs.declared.contents.Stray.{Stray}
use Rattle.bac_socket_notes.specs.declared.notes.Passed.{Passed}

-- a number, and what is counted
unfoldable pub counted : ℕ → List ℕ → List ℕ → List ℕ
counted n one many = decimal n ++ (if n == 1 then one else many)

-- the reason of a Reject-Message-To-Network, before the network (6.4.4)
unfoldable pub reason_text : ℕ → List ℕ
reason_text reason =
    if reason == 1 then codes "no route to network " else
    if reason == 2 then codes "too busy for network " else
    if reason == 3 then codes "it doesn't know such messages, for network " else
    if reason == 4 then codes "too long for network " else
    if reason == 5 then codes "a security error, for network " else
    if reason == 6 then codes "no such address on network " else
    codes "another error, for network "

-- a service that wants no answer; 0 is I-Am (clause 21)
unfoldable pub unconfirmed_text : ℕ → List ℕ
unconfirmed_text service =
    if service == 0 then codes "an I-Am" else codes "an unconfirmed request, service " ++ decimal service

-- an answer that isn't the one, from the device that was asked or from another sender
unfoldable pub answer_text : List ℕ → Bool → List ℕ
answer_text address own =
    if own then codes "a reply, but not to this request" else codes "a reply, but not from "
    ++ address_text address

-- what a datagram is, for one who waits for an answer from an address
unfoldable pub content_text : List ℕ → Bool → Content → List ℕ
content_text address own (Rejected reason network) = codes "router: " ++ (reason_text reason ++ decimal network)
content_text address own (Message message) = codes "a message of the network layer, type " ++ decimal message
content_text address own (Bvlc code) = codes "BVLC-Result " ++ encode_lower (to_be_bytes w16 code)
content_text address own Confirmed = codes "a request"
content_text address own (Unconfirmed service) = unconfirmed_text service
content_text address own Answer = answer_text address own
content_text address own TooLong = codes "over 1501 octets"
content_text address own Unread = codes "it can't be read"

-- its sender, and what it is
unfoldable pub stray_text : List ℕ → Stray → List ℕ
stray_text address stray =
    address_text stray.from ++ (codes ": " ++ content_text address (bytes_eq stray.from address) stray.content)

-- what helps where as many datagrams came to each try as it may take
abbrev pub advice : List ℕ
advice = codes "; an attempt ends after 16 datagrams: use --retries=10, or a port with less traffic, such as "
    ++ codes "--local=0.0.0.0:50000"

-- that, if it was so
unfoldable pub full_text : Passed → List ℕ
full_text passed = if passed.full == passed.tries then advice else []

-- how many tries there were, and how many datagrams came
unfoldable pub counts_text : Passed → List ℕ
counts_text passed = codes "no reply after " ++ (counted passed.tries (codes " attempt; ") (codes " attempts; ")
    ++ counted passed.came (codes " unrelated datagram arrived") (codes " unrelated datagrams arrived"))

-- the same, and who sent the last of them and what it is
unfoldable pub strays_text : List ℕ → Passed → Stray → List ℕ
strays_text address passed stray =
    counts_text passed ++ (codes ", the last from " ++ (stray_text address stray ++ full_text passed))

-- what came, if anything did
unfoldable pub waited_text : List ℕ → Passed → Option Stray → List ℕ
waited_text address passed None = codes "no reply from " ++ address_text address
waited_text address passed (Some stray) = strays_text address passed stray

-- whether a question could never be sent
abbrev pub is_unsent : Passed → Bool
is_unsent passed = (passed.tries == 0) && not (passed.unsent == 0)

-- that no reply came from an address, and what passed since the question was first sent
unfoldable pub silence_text : List ℕ → Passed → List ℕ
silence_text address passed =
    if is_unsent passed then codes "nothing could be sent to " ++ address_text address
    else waited_text address passed passed.last
