-- What is wrong with a reply to a walk's question (clause 15.8), in the order in which it is looked at.
use Rattle.std.specs.Prelude.{◌≡◌, ℕ, zero, suc, ◌+◌, ◌==◌, nat_lt, not, ◌&&◌, ◌||◌, if◌then◌else◌}
use Rattle.std.specs.Prelude.{List, length, Option, Some, None, Result, Ok, Err}
use Rattle.bac_wire.specs.Primitive.{Id}
use Rattle.bac_wire.specs.declared.fault.WireFault.{WireFault}
use Rattle.bac_apdu.specs.Apdu.{Apdu}
use Rattle.bac_apdu.specs.Apdu as apdu
use Rattle.bac_apdu.specs.Service.ReadRangeAck.{RangeAck, read_range_ack_at}
use Rattle.bac_log.specs.declared.entry.Entry.{Entry}
use Rattle.bac_log.specs.RecordReading.{entry_at}
use Rattle.bac_link.specs.Datagrams.{apdu_in}
use Rattle.bac_link.specs.Exchanges.{Answers, way_by}
use Rattle.bac_link.specs.Links.{question}
use Rattle.bac_link.specs.Path.{Path}
use Rattle.bac_link.specs.declared.exchanges.Verdict.{Verdict}
use Rattle.bac_link.specs.declared.link.Lost.{Lost as Loss}
use Rattle.bac_walk.specs.declared.flaw.ReplyFlaw.{ReplyFlaw}
use Rattle.bac_walk.specs.declared.flaw.ReplyFlaw.TheVariants as flaw
use Rattle.bac_walk.specs.declared.outcome.BadReply.{BadReply as NotTaken}
use Rattle.bac_walk.specs.declared.outcome.WalkFault.TheVariants.{BadReply}
use Rattle.bac_link.specs.Heard.{is_of_log, records_in, same_id}
use Rattle.bac_walk.specs.Place.{WalkPlace}
use Rattle.bac_link.specs.Heard.{heard_in}
use Rattle.bac_walk.specs.Told.{ToldFault}
use Rattle.bac_walk.specs.Walks.{fits, is_past, question_of, IsTakenFrom}

-- ---- the number of its first record, its count, its records

-- records from this number on that a walk can't take: as many as the count says, at most those asked for, and these
abbrev pub span_flaw : WalkPlace → ℕ → ℕ → ℕ → ReplyFlaw
span_flaw w first count records =
    if not (count == records) then flaw.Count count records else
    if nat_lt w.count records then flaw.TooMany records w.count else flaw.Unasked first records w.next w.count

-- no records are never wrong, nor are those that the walk is past; others have a first number, and were asked for
abbrev pub extent_flaw : WalkPlace → Option ℕ → ℕ → ℕ → Option ReplyFlaw
extent_flaw w first count zero = None
extent_flaw w None count (suc more) = Some (flaw.NoNumber (suc more))
extent_flaw w (Some first) count (suc more) =
    if is_past w first || ((count == suc more) && fits w first (suc more)) then None
    else Some (span_flaw w first count (suc more))

-- ---- its items

-- one record more than in the octets behind it, if it is one
abbrev pub one_more : (List ℕ → ℕ) → Result (Entry × List ℕ) WireFault → ℕ
one_more behind (Err fault) = 0
one_more behind (Ok one) = suc (behind one.1)

-- how many records, at most so many, stand in front of the first octets that are none
unfoldable pub records_before : ℕ → List ℕ → ℕ
records_before zero octets = 0
records_before (suc most) octets = one_more (records_before most) (entry_at octets)

-- the place, from 1 on, of the first item that is no record
abbrev pub bad_item : List ℕ → ℕ
bad_item octets = records_before (length octets) octets + 1

-- the first item that is no record; or if all are, what is wrong with their number or count
abbrev pub items_flaw : WalkPlace → RangeAck → Result (List Entry) WireFault → Option ReplyFlaw
items_flaw w a (Err fault) = Some (flaw.Item (bad_item a.items))
items_flaw w a (Ok records) = extent_flaw w a.first_number a.count (length records)

-- ---- its head

-- an array index, or else another property
abbrev pub index_flaw : ℕ → Option ℕ → ReplyFlaw
index_flaw property (Some index) = flaw.Index index
index_flaw property None = flaw.Property property

-- of an ACK that isn't of the log's Log_Buffer: another object, an array index, or another property
abbrev pub head_flaw : Id → RangeAck → ReplyFlaw
head_flaw log a = if same_id a.object log then index_flaw a.property a.index else flaw.Object a.object

-- what is wrong with the parameters of an ACK, if they can be read
abbrev pub ack_flaw : WalkPlace → Option RangeAck → Option ReplyFlaw
ack_flaw w None = Some flaw.Parameters
ack_flaw w (Some a) = if is_of_log w.log a then items_flaw w a (records_in a.items) else Some (head_flaw w.log a)

-- of an APDU: it is no ComplexACK, in segments, or that of another service than ReadRange; or what its parameters are
abbrev pub apdu_flaw : WalkPlace → Option Apdu → Option ReplyFlaw
apdu_flaw w (Some (apdu.Complex segmented invoke service parameters)) =
    if segmented then Some flaw.Segmented else
    if service == 26 then ack_flaw w (read_range_ack_at parameters) else Some (flaw.Service service)
apdu_flaw w other = Some flaw.NotComplex

-- ---- a reply

-- what is wrong with a datagram as the reply to the question of a walk that is here, if anything is
abbrev pub flaw_in : WalkPlace → List ℕ → Option ReplyFlaw
flaw_in w datagram = apdu_flaw w (apdu_in datagram)

-- The question of a walk that is here was asked last, and brought this answer, with which this is wrong.
abbrev pub ToldFlaw : {S : Type 0} → (S → List ℕ → Result (List ℕ) Loss → S → Type 0) →
    Path → ℕ → WalkPlace → ReplyFlaw → S → Type 0
ToldFlaw {S = S} asks path retries w told new =
    (link : S) × (invoke : ℕ) × (datagram : List ℕ) × (said : Verdict)
    × Answers asks (way_by path invoke retries) (question w.log (question_of w)) said link datagram new
    × (flaw_in w datagram ≡ Some told)

-- The replies that a walk can't take are those with a flaw.
abbrev pub FlawsAreRefused : Type 0
FlawsAreRefused = (w : WalkPlace) (datagram : List ℕ) →
    ((told : ReplyFlaw) (bad : NotTaken) → flaw_in w datagram ≡ Some told →
    IsTakenFrom w (heard_in w.log datagram) (Err bad) w)
    × ((bad : NotTaken) (after : WalkPlace) → IsTakenFrom w (heard_in w.log datagram) (Err bad) after →
    (told : ReplyFlaw) × (flaw_in w datagram ≡ Some told))

-- A walk that was told a bad reply had one, and something is wrong with it.
abbrev pub BadRepliesHaveFlaws : {S : Type 0} → (S → List ℕ → Result (List ℕ) Loss → S → Type 0) → Type 0
BadRepliesHaveFlaws {S = S} asks = (path : Path) (retries : ℕ) (w : WalkPlace) (new : S) →
    ToldFault asks path retries BadReply w new → (told : ReplyFlaw) × ToldFlaw asks path retries w told new
