-- Questions for the records of a trend log.
use Rattle.std.proofs.Common.{◌≡◌, ◌≤◌, refl, ap, sym, ◌∙◌, arith, ℕ, ◌<◌, nat_lt, min, Bool, true, false, cond, List, [], ◌∷◌, ◌++◌, map, length, Option, Some, None, Ok, Err, inr, length-append}
use Rattle.std.specs.Map.{lookup}
use Rattle.std.proofs.lemmas.Bool.Decides.{nat_tests}
use Rattle.bac_apdu.specs.Apdu.{Apdu, Confirmed, apdu_octets}
use Rattle.bac_apdu.specs.FormCanon.{canon_form}
use Rattle.bac_apdu.specs.Frame.{Unicast, frame_at}
use Rattle.bac_apdu.specs.Npdu.{IsHeader, Place, control_of, header_octets, hops_octets, place_octets}
use Rattle.bac_apdu.specs.Route.{IsWay}
use Rattle.std.proofs.lemmas.Bool.{le-leb, le-ltb}
use Rattle.std.proofs.lemmas.Option.{none-some, same_Some}
use Rattle.bac_apdu.specs.Service.Extent.{IsExtent}
use Rattle.bac_apdu.specs.Service.ReadRange.{read_range, range_parameters, range_in, read_range_at}
use Rattle.bac_apdu.specs.declared.service.extent.Extent.{Extent}
use Rattle.bac_apdu.specs.declared.service.read_range.ReadRange.{ReadRange}
use Rattle.bac_apdu.proofs.Heads.{frame_again, header_again, message_again}
use Rattle.bac_apdu.proofs.Named.{fields_again, range_back}
use Rattle.bac_apdu.proofs.Services.{range_again}
use Rattle.bac_apdu.proofs.Shorts.{range_apdu_short, length-place, length-no_place, place_valid}
use Rattle.bac_log.specs.TrendLog.{Log}
use Rattle.bac_objects.specs.Build.{built, entry_of}
use Rattle.bac_objects.specs.Records.{records_of}
use Rattle.bac_objects.specs.Sampling.{log_id, log_in, log_of, logger_in, records_in}
use Rattle.bac_objects.specs.State.{State, is_id}
use Rattle.bac_objects.specs.declared.fault.Fault.TheVariants.{UnknownObject}
use Rattle.bac_objects.specs.declared.lines.DeviceLine.{DeviceLine}
use Rattle.bac_objects.specs.declared.lines.ObjectLine.{ObjectLine}
use Rattle.bac_objects.specs.declared.lines.ObjectLine.TheVariants as line
use Rattle.bac_objects.specs.declared.object.Body.{Body}
use Rattle.bac_objects.specs.declared.object.Body.TheVariants as body
use Rattle.bac_objects.specs.declared.object.Logger.{Logger}
use Rattle.bac_objects.specs.declared.object.Object as object
use Rattle.bac_device.specs.Answer.{answer, range_said, records_said}
use Rattle.bac_objects.specs.Sound.{HasLogs}
use Rattle.bac_device.specs.Logs.{asking, question, question_octets}
use Rattle.bac_device.specs.Receiving.{heard_at, is_answerable}
use Rattle.bac_device.specs.Reply.{error, reply}
use Rattle.bac_device.specs.declared.reply.Receiver.TheVariants.{Sender}

-- ---- the question is read back

asking_valid : (source : Option Place) → IsWay source → IsHeader (asking source)
asking_valid source way = (omega arith, tt, place_valid source way, refl)

length-asking : (source : Option Place) → IsWay source → length (header_octets (asking source)) ≤ 20
length-asking source way =
    omega (
      arith,
      length-no_place,
      length-place source way,
      length-append (1 ∷ control_of (asking source) ∷ []) (place_octets None ++ (place_octets source ++ hops_octets None 0)),
      length-append (place_octets None) (place_octets source ++ hops_octets None 0),
      length-append (place_octets source) (hops_octets None 0),
    )

pub is_answered : (source : Option Place) → IsWay source → is_answerable source ≡ true
is_answered None way = refl
is_answered (Some place) way =
    rw (le-leb 1 place.net way.0, le-leb place.net 65534 way.1, le-leb 1 (length place.address) way.2, le-leb (length place.address) 15 way.3) refl

abbrev asked : ℕ → ℕ → Extent → Apdu
asked invoke n extent = Confirmed false 1476 invoke 26 (canon_form read_range (range_parameters (question n extent)))

frame_is : (source : Option Place) (invoke n : ℕ) (extent : Extent) → IsWay source → frame_at (question_octets source invoke n extent) ≡ Some (Unicast (header_octets (asking source) ++ apdu_octets (asked invoke n extent)))
frame_is source invoke n extent way =
    frame_again (header_octets (asking source) ++ apdu_octets (asked invoke n extent))
    (omega (arith, length-asking source way, range_apdu_short (question n extent) 1476 invoke, length-append (header_octets (asking source)) (apdu_octets (asked invoke n extent))))

heard_is : (source : Option Place) (invoke n : ℕ) (extent : Extent) → IsWay source → heard_at false (header_octets (asking source) ++ apdu_octets (asked invoke n extent)) ≡ Some (record { to_all = false; source = source; apdu = asked invoke n extent })
unfolding heard_at
heard_is source invoke n extent way =
    rw (header_again (asking source) (apdu_octets (asked invoke n extent)) (asking_valid source way), is_answered source way, message_again (asked invoke n extent) (refl, inr (inr (inr (inr (inr refl)))))) refl

read_is : (n : ℕ) (extent : Extent) → n < 4194304 → IsExtent extent → read_range_at (canon_form read_range (range_parameters (question n extent))) ≡ Ok (question n extent)
unfolding read_range_at
read_is n extent lt valid =
    let q : ReadRange = question n extent in
    fields_again range_in read_range (canon_form read_range (range_parameters q)) (range_parameters q) q (range_again q ((omega arith, lt), omega arith, tt) valid) (range_back q)

answer_is : (d : State) (source : Option Place) (invoke n : ℕ) (extent : Extent) → IsWay source → n < 4194304 → IsExtent extent
    → answer d (question_octets source invoke n extent) ≡ (Some (reply (record { to = Sender; place = source }) (range_said (min 1476 d.reply_size) invoke (question n extent) (records_of d (question n extent)))), d)
unfolding answer
answer_is d source invoke n extent way lt valid = rw (frame_is source invoke n extent way, heard_is source invoke n extent way, read_is n extent lt valid) refl

-- ---- the log

record Shows (d : State) (n : ℕ) (log : Log) : Type 0 where
  o : object.Object
  l : Logger
  low : n < 4194304
  at : lookup (is_id (log_id n)) d.objects ≡ Some o
  is : o.body ≡ body.Log l
  records : l.log ≡ log

in_range : (n : ℕ) → nat_lt 4194303 n ≡ false → n < 4194304
in_range n e = grind (arith, nat_tests)

shows_body : (d : State) (n : ℕ) (log : Log) (o : object.Object) (b : Body) → n < 4194304 → lookup (is_id (log_id n)) d.objects ≡ Some o → o.body ≡ b → records_in (logger_in b) ≡ Some log → Shows d n log
shows_body d n log o (body.Command c) lt at is e = absurd (none-some log e)
shows_body d n log o (body.Log l) lt at is e = record { o = o; l = l; low = lt; at = at; is = is; records = same_Some l.log log e }

shows_object : (far : Bool) (d : State) (n : ℕ) (log : Log) (x : Option object.Object) → nat_lt 4194303 n ≡ far → lookup (is_id (log_id n)) d.objects ≡ x → log_in (cond far None x) ≡ Some log → Shows d n log
shows_object true d n log x far at e = absurd (none-some log e)
shows_object false d n log None far at e = absurd (none-some log e)
shows_object false d n log (Some o) far at e = shows_body d n log o o.body (in_range n far) at refl e

shows : (d : State) (n : ℕ) (log : Log) → log_of d n ≡ Some log → Shows d n log
shows d n log e = shows_object (nat_lt 4194303 n) d n log (lookup (is_id (log_id n)) d.objects) refl refl e

found : (d : State) (n : ℕ) (extent : Extent) (o : object.Object) (l : Logger) → lookup (is_id (log_id n)) d.objects ≡ Some o → o.body ≡ body.Log l → records_of d (question n extent) ≡ Ok l.log
found d n extent o l at is = rw at (rw is refl)

pub question_answered : (d : State) (source : Option Place) (n : ℕ) (log : Log) (invoke : ℕ) (extent : Extent) → IsWay source → log_of d n ≡ Some log → IsExtent extent
    → answer d (question_octets source invoke n extent) ≡ (Some (reply (record { to = Sender; place = source }) (records_said (min 1476 d.reply_size) invoke (log_id n) extent log)), d)
question_answered d source n log invoke extent way e valid =
    let s = shows d n log e in
    answer_is d source invoke n extent way s.low valid
    ∙ ap (λ x. (Some (reply (record { to = Sender; place = source }) (range_said (min 1476 d.reply_size) invoke (question n extent) x)), d)) (found d n extent s.o s.l s.at s.is)
    ∙ ap (λ (x : Log). (Some (reply (record { to = Sender; place = source }) (records_said (min 1476 d.reply_size) invoke (log_id n) extent x)), d)) s.records

-- ---- without the log

missing : (d : State) (n : ℕ) (extent : Extent) → lookup (is_id (log_id n)) d.objects ≡ None → records_of d (question n extent) ≡ Err UnknownObject
missing d n extent at = rw at refl

lacks_object : (d : State) (n : ℕ) (x : Option object.Object) → ((o : object.Object) → x ≡ Some o → (l : Logger) × (o.body ≡ body.Log l)) → log_in x ≡ None → x ≡ None
lacks_object d n None has e = refl
lacks_object d n (Some o) has e =
    let l = has o refl in
    let log : log_in (Some o) ≡ Some l.0.log = ap (λ (b : Body). records_in (logger_in b)) l.1 in
    absurd (none-some l.0.log (sym e ∙ log))

pub question_refused : (d : State) (source : Option Place) (n : ℕ) (invoke : ℕ) (extent : Extent) → IsWay source → HasLogs d → log_of d n ≡ None → n < 4194304 → IsExtent extent
    → answer d (question_octets source invoke n extent) ≡ (Some (reply (record { to = Sender; place = source }) (error invoke 26 UnknownObject)), d)
question_refused d source n invoke extent way has e lt valid =
    let none : log_in (lookup (is_id (log_id n)) d.objects) ≡ None = sym (ap (λ (b : Bool). log_in (cond b None (lookup (is_id (log_id n)) d.objects))) (le-ltb 4194303 n (omega (arith, lt)))) ∙ e in
    answer_is d source invoke n extent way lt valid
    ∙ ap (λ x. (Some (reply (record { to = Sender; place = source }) (range_said (min 1476 d.reply_size) invoke (question n extent) x)), d)) (missing d n extent (lacks_object d n (lookup (is_id (log_id n)) d.objects) (has n) none))

-- ---- built devices

abbrev IsLogged : object.Object → Type 0
IsLogged o = (l : Logger) × (o.body ≡ body.Log l)

log_here : (b : Bool) (o p : object.Object) (rest : Option object.Object) → IsLogged p → (rest ≡ Some o → IsLogged o) → cond b (Some p) rest ≡ Some o → IsLogged o
log_here true o p rest is more e = (is.0, ap (λ (x : object.Object). x.body) (sym (same_Some p o e)) ∙ is.1)
log_here false o p rest is more e = more e

in_lines : (lines : List ObjectLine) (n : ℕ) (o : object.Object) → lookup (is_id (log_id n)) (map entry_of lines) ≡ Some o → IsLogged o
in_lines [] n o e = absurd (none-some o e)
in_lines (line.Binary instance name default ∷ lines) n o e = in_lines lines n o e
in_lines (line.Multistate instance name states default ∷ lines) n o e = in_lines lines n o e
in_lines (line.Integer instance name default ∷ lines) n o e = in_lines lines n o e
in_lines (line.Log instance name source capacity interval logged ∷ lines) n o e =
    let p = entry_of (line.Log instance name source capacity interval logged) in
    log_here (is_id (log_id n) p.0) o p.1 (lookup (is_id (log_id n)) (map entry_of lines)) (_, refl) (in_lines lines n o) e

pub built_has : (device : DeviceLine) (lines : List ObjectLine) → HasLogs (built device lines)
built_has device lines = λ n o e. in_lines lines n o e
