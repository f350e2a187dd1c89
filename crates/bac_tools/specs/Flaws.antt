-- What is told of a bad reply to a walk, as the end line on the output says only that it is one: which part is wrong,
-- what is there, and what was asked for.
use Rattle.std.specs.Prelude.{ℕ, List, ◌++◌, codes, decimal}
use Rattle.bac_walk.specs.declared.flaw.ReplyFlaw.{ReplyFlaw}
use Rattle.bac_walk.specs.declared.flaw.ReplyFlaw.TheVariants as flaw

-- a number between two texts
abbrev pub around : List ℕ → ℕ → List ℕ → List ℕ
around before number after = before ++ (decimal number ++ after)

-- so many records of a reply
abbrev pub in_all : ℕ → List ℕ → List ℕ
in_all records after = around (codes "the reply has records, ") records after

-- each flaw
unfoldable pub reply_text : ReplyFlaw → List ℕ
reply_text flaw.NotComplex = codes "the reply isn't a ComplexACK, as a ReadRange needs"
reply_text flaw.Segmented = codes "the reply is segmented, which bac doesn't support"
reply_text (flaw.Service service) =
    around (codes "the reply is the ACK of service ") service (codes "; ReadRange is 26")
reply_text flaw.Parameters = codes "the reply's parameters aren't those of an ACK of ReadRange"
reply_text (flaw.Object id) =
    around (codes "the reply is of object ") id.kind (codes " ")
    ++ around (codes "") id.instance (codes ", not of the trend log")
reply_text (flaw.Index index) =
    around (codes "the reply has array index ") index (codes "; Log_Buffer has none")
reply_text (flaw.Property property) =
    around (codes "the reply is of property ") property (codes "; Log_Buffer is 131")
reply_text (flaw.Item place) = around (codes "item ") place (codes " of the reply is no record")
reply_text (flaw.NoNumber records) = in_all records (codes " in all, and no first sequence number")
reply_text (flaw.Count count records) = in_all records (codes " in all, and item count ") ++ decimal count
reply_text (flaw.TooMany records asked) =
    in_all records (codes " in all; ") ++ around (codes "") asked (codes " were asked for")
reply_text (flaw.Unasked first records next asked) =
    in_all records (codes " in all, from number ")
    ++ (decimal first ++ (around (codes " on; asked for were ") asked (codes " from number ")
    ++ around (codes "") next (codes " on")))
