-- No ReadRange is answered by an Abort.
use Rattle.std.proofs.Common.{◌≡◌, refl, ap, subst, ◌∙◌, arith, ℕ, ◌≤◌, ◌%◌, ◌/◌, ◌==◌, nat_lt, min, Bool, true, false, cond, List, length, Option, Some, None, Result, Ok, Err}
use Rattle.std.specs.Map.{lookup}
use Rattle.std.proofs.Math.Nat.{le-min, min-le_right}
use Rattle.std.proofs.lemmas.Bool.Decides.{nat_tests}
use Rattle.std.proofs.lemmas.Option.{none-some}
use Rattle.std.proofs.lemmas.Bool.{eqb-true, le-ltb}
use Rattle.bac_wire.specs.Number.{bit}
use Rattle.bac_wire.specs.Chain.{◌>>=◌ as ◌>>>◌}
use Rattle.bac_wire.specs.OptionChain.{◌>>=◌}
use Rattle.bac_wire.specs.Primitive.{Id}
use Rattle.bac_apdu.specs.Apdu.{Apdu, Confirmed, Complex, apdu_at, apdu_behind, apdu_octets, complex_at, confirmed_at, error_at, number_at, pair_at, segment_ack_at, segment_at, size_of, unconfirmed_at}
use Rattle.bac_apdu.specs.Frame.{Frame, Unicast, Broadcast, Forwarded, Function, frame_at}
use Rattle.bac_apdu.specs.Npdu.{header_at}
use Rattle.bac_apdu.specs.Octets.{octet_at}
use Rattle.bac_apdu.specs.Service.ReadRange.{read_range_at}
use Rattle.bac_apdu.specs.declared.reason.Reason.{Reason}
use Rattle.bac_apdu.specs.declared.service.extent.Extent.{Extent}
use Rattle.bac_apdu.specs.declared.service.read_range.ReadRange.{ReadRange}
use Rattle.bac_log.specs.TrendLog.{IsLog, Log}
use Rattle.bac_objects.specs.Chain.{or_fault}
use Rattle.bac_objects.specs.Properties.{object_table, row}
use Rattle.bac_objects.specs.Records.{buffer_of, object_records, records_of}
use Rattle.bac_objects.specs.Sampling.{log_id, logger_in, records_in}
use Rattle.bac_objects.specs.Sound.{IsSound}
use Rattle.bac_objects.specs.State.{State, is_id}
use Rattle.bac_objects.specs.Writing.{checked, is_device}
use Rattle.bac_objects.specs.declared.fault.Fault.{Fault}
use Rattle.bac_objects.specs.declared.fault.Fault.TheVariants.{NotList, UnknownObject}
use Rattle.bac_objects.specs.declared.object.Body.{Body}
use Rattle.bac_objects.specs.declared.object.Body.TheVariants as body
use Rattle.bac_objects.specs.declared.object.Logger.{Logger}
use Rattle.bac_objects.specs.declared.object.Object as object
use Rattle.bac_objects.specs.Fault.{class_of, code_of}
use Rattle.bac_device.specs.Answer.{answer, answer_frame, answer_range, is_too_small, range_said, records_ack}
use Rattle.bac_device.specs.History.{heard_in}
use Rattle.bac_device.specs.Logs.{is_aborted, log_answer, log_said}
use Rattle.bac_device.specs.Receiving.{ReceivedApdu, heard_at, is_heard}
use Rattle.bac_apdu.specs.Npdu.{Place}
use Rattle.bac_apdu.specs.Route.{IsWay}
use Rattle.bac_device.specs.Reply.{Return, abort, error, reject, reply}
use Rattle.bac_device.specs.declared.reply.Reply.{Reply}
use Rattle.bac_device.specs.declared.reply.Receiver.{Receiver}
use Rattle.bac_device.specs.declared.reply.Receiver.TheVariants.{Sender, Address}
use Rattle.bac_device.proofs.Fits.{records_fit}
use Rattle.bac_device.proofs.Replies.{error-len}
use Rattle.bac_device.proofs.Told.{heard_way, again, small}

-- ---- each request takes an answer of 50 octets

abbrev HasRoom : Apdu → Type 0
HasRoom (Confirmed segmented size invoke service parameters) = 50 ≤ size
HasRoom other = Unit {0}

abbrev AnyOf : {A : Type 0} → (A → Type 0) → Option A → Type 0
AnyOf P None = Unit {0}
AnyOf P (Some x) = P x

any_then : {A B : Type 0} (Q : A → Type 0) (P : B → Type 0) (o : Option A) (f : A → Option B) → AnyOf Q o → ((x : A) → Q x → AnyOf P (f x)) → AnyOf P (o >>= f)
any_then Q P None f h k = tt
any_then Q P (Some x) f h k = k x h

any_step : {A B : Type 0} (P : B → Type 0) (o : Option A) (f : A → Option B) → ((x : A) → AnyOf P (f x)) → AnyOf P (o >>= f)
any_step P None f k = tt
any_step P (Some x) f k = k x

any_cond : {A : Type 0} (P : A → Type 0) (b : Bool) (o p : Option A) → AnyOf P o → AnyOf P p → AnyOf P (cond b o p)
any_cond P true o p h k = h
any_cond P false o p h k = k

least_at : (b : Bool) (n m : ℕ) → 50 ≤ n → 50 ≤ m → 50 ≤ cond b n m
least_at true n m h k = h
least_at false n m h k = k

least_size : (code : ℕ) → 50 ≤ size_of code
least_size code =
    least_at (code == 0) 50 _ (omega arith) (least_at (code == 1) 128 _ (omega arith) (least_at (code == 2) 206 _ (omega arith) (least_at (code == 3) 480 _ (omega arith) (least_at (code == 4) 1024 1476 (omega arith) (omega arith)))))

confirmed_room : (segmented : Bool) (bytes : List ℕ) → AnyOf HasRoom (confirmed_at segmented bytes)
unfolding confirmed_at
confirmed_room segmented bytes =
    any_step HasRoom (octet_at bytes) _ (λ sizes. any_step HasRoom (octet_at sizes.1) _ (λ invoke. any_step HasRoom (segment_at segmented invoke.1) _ (λ segment. any_step HasRoom (octet_at segment.1) _ (λ service. least_size (sizes.0 % 16)))))

complex_room : (segmented : Bool) (bytes : List ℕ) → AnyOf HasRoom (complex_at segmented bytes)
unfolding complex_at
complex_room segmented bytes =
    any_step HasRoom (octet_at bytes) _ (λ invoke. any_step HasRoom (segment_at segmented invoke.1) _ (λ segment. any_step HasRoom (octet_at segment.1) _ (λ service. tt)))

unconfirmed_room : (bytes : List ℕ) → AnyOf HasRoom (unconfirmed_at bytes)
unfolding unconfirmed_at
unconfirmed_room bytes = any_step HasRoom (octet_at bytes) _ (λ service. tt)

segment_room : (bytes : List ℕ) → AnyOf HasRoom (segment_ack_at bytes)
unfolding segment_ack_at
segment_room bytes = any_step HasRoom (octet_at bytes) _ (λ invoke. any_step HasRoom (octet_at invoke.1) _ (λ sequence. any_step HasRoom (octet_at sequence.1) _ (λ window. tt)))

error_room : (bytes : List ℕ) → AnyOf HasRoom (error_at bytes)
unfolding error_at
error_room bytes =
    any_step HasRoom (octet_at bytes) _ (λ invoke. any_step HasRoom (octet_at invoke.1) _ (λ service. any_step HasRoom (number_at service.1) _ (λ class. any_step HasRoom (number_at class.1) _ (λ code. tt))))

pair_room : (f : ℕ → ℕ → Apdu) (bytes : List ℕ) → ((a b : ℕ) → HasRoom (f a b)) → AnyOf HasRoom (pair_at f bytes)
unfolding pair_at
pair_room f bytes h = any_step HasRoom (octet_at bytes) _ (λ invoke. any_step HasRoom (octet_at invoke.1) _ (λ other. h invoke.0 other.0))

behind_room : (first : ℕ) (bytes : List ℕ) → AnyOf HasRoom (apdu_behind first bytes)
unfolding apdu_behind
behind_room first bytes =
    any_cond HasRoom (first / 16 == 0) _ _ (confirmed_room (bit first 3) bytes)
    (any_cond HasRoom (first / 16 == 1) _ _ (unconfirmed_room bytes)
    (any_cond HasRoom (first / 16 == 2) _ _ (pair_room _ bytes (λ a b. tt))
    (any_cond HasRoom (first / 16 == 3) _ _ (complex_room (bit first 3) bytes)
    (any_cond HasRoom (first / 16 == 4) _ _ (segment_room bytes)
    (any_cond HasRoom (first / 16 == 5) _ _ (error_room bytes)
    (any_cond HasRoom (first / 16 == 6) _ _ (pair_room _ bytes (λ a b. tt))
    (any_cond HasRoom (first / 16 == 7) _ None (pair_room _ bytes (λ a b. tt)) tt)))))))

apdu_room : (bytes : List ℕ) → AnyOf HasRoom (apdu_at bytes)
unfolding apdu_at
apdu_room bytes = any_step HasRoom (octet_at bytes) _ (λ first. behind_room first.0 first.1)

abbrev HeardRoom : ReceivedApdu → Type 0
HeardRoom heard = HasRoom heard.apdu

heard_room : (to_all : Bool) (npdu : List ℕ) → AnyOf HeardRoom (heard_at to_all npdu)
unfolding heard_at
heard_room to_all npdu =
    any_step HeardRoom (header_at npdu) _ (λ header. any_cond HeardRoom (is_heard header.0) _ None (any_then HasRoom HeardRoom (apdu_at header.1) _ (apdu_room header.1) (λ apdu room. room)) tt)

frame_room : (f : Option Frame) → AnyOf HeardRoom (heard_in f)
frame_room None = tt
frame_room (Some (Unicast npdu)) = heard_room false npdu
frame_room (Some (Broadcast npdu)) = heard_room true npdu
frame_room (Some (Forwarded address npdu)) = heard_room true npdu
frame_room (Some (Function function rest)) = tt

asked_room : (f : Option Frame) (to_all : Bool) (source : Option Place) (size invoke : ℕ) (parameters : List ℕ) → heard_in f ≡ Some (record { to_all = to_all; source = source; apdu = Confirmed false size invoke 26 parameters }) → 50 ≤ size
asked_room f to_all source size invoke parameters h = subst (λ (o : Option ReceivedApdu). AnyOf HeardRoom o) h (frame_room f)

-- ---- the records that a sound device answers are a log

abbrev AnyOk : {A F : Type 0} → (A → Type 0) → Result A F → Type 0
AnyOk P (Ok x) = P x
AnyOk P (Err fault) = Unit {0}

ok_cond : {A F : Type 0} (P : A → Type 0) (b : Bool) (o p : Result A F) → AnyOk P o → AnyOk P p → AnyOk P (cond b o p)
ok_cond P true o p h k = h
ok_cond P false o p h k = k

ok_step : {A B F : Type 0} (P : B → Type 0) (o : Result A F) (f : A → Result B F) → ((x : A) → AnyOk P (f x)) → AnyOk P (o >>> f)
ok_step P (Ok x) f k = k x
ok_step P (Err fault) f k = tt

sound_log : (d : State) (id : Id) (o : object.Object) (l : Logger) → IsSound d → lookup (is_id id) d.objects ≡ Some o → o.body ≡ body.Log l → IsLog l.log
sound_log d id o l is at e =
    let named = is.only id o l at e in
    let same : id ≡ log_id id.instance = ap (λ k. let i : Id = record { kind = k; instance = id.instance } in i) named.0 in
    let found : lookup (is_id (log_id id.instance)) d.objects ≡ Some o = subst (λ (i : Id). lookup (is_id i) d.objects ≡ Some o) same at in
    is.logs id.instance l.log (rw (le-ltb 4194303 id.instance (omega (arith, named.1)), found) (ap (λ b. records_in (logger_in b)) e))

buffer_log : (property : ℕ) (b : Body) → ((l : Logger) → b ≡ body.Log l → IsLog l.log) → AnyOk IsLog (buffer_of property b)
buffer_log property (body.Command c) h = tt
buffer_log property (body.Log l) h = ok_cond IsLog (property == 131) (Ok l.log) _ (h l refl) tt

found_log : (d : State) (r : ReadRange) (found : Option object.Object) → IsSound d → lookup (is_id r.object) d.objects ≡ found → AnyOk IsLog (or_fault found UnknownObject >>> object_records r)
found_log d r None is e = tt
found_log d r (Some o) is e = ok_step IsLog (checked (row r.property (object_table r.object o)) r.index) _ (λ ok. buffer_log r.property o.body (λ l b. sound_log d r.object o l is e b))

records_log : (d : State) (r : ReadRange) → IsSound d → AnyOk IsLog (records_of d r)
records_log d r is = ok_cond IsLog (is_device d r.object) _ _ tt (found_log d r (lookup (is_id r.object) d.objects) is refl)

-- whose records are answered was asked for them
is_buffer : (property : ℕ) (b : Bool) (l : Logger) → (property == 131) ≡ b → AnyOk (λ log. property ≡ 131) (cond b (Ok l.log) (Err NotList))
is_buffer property true l e = eqb-true property 131 e
is_buffer property false l e = tt

buffer_asked : (property : ℕ) (b : Body) → AnyOk (λ log. property ≡ 131) (buffer_of property b)
buffer_asked property (body.Command c) = tt
buffer_asked property (body.Log l) = is_buffer property (property == 131) l refl

found_asked : (r : ReadRange) (found : Option object.Object) → AnyOk (λ log. r.property ≡ 131) (or_fault found UnknownObject >>> object_records r)
found_asked r None = tt
found_asked r (Some o) = ok_step (λ log. r.property ≡ 131) (checked (row r.property (object_table r.object o)) r.index) _ (λ ok. buffer_asked r.property o.body)

pub records_asked : (d : State) (r : ReadRange) (log : Log) → records_of d r ≡ Ok log → r.property ≡ 131
records_asked d r log e = subst (AnyOk (λ log. r.property ≡ 131)) e (ok_cond (λ log. r.property ≡ 131) (is_device d r.object) _ _ tt (found_asked r (lookup (is_id r.object) d.objects)))

-- ---- what is said

said_is : (limit invoke : ℕ) (r : ReadRange) (x : Result Log Fault) → 44 ≤ limit → AnyOk IsLog x → range_said limit invoke r x ≡ log_said limit invoke r x
said_is limit invoke r (Ok log) ge is = records_fit limit invoke r.object r.extent log is ge
said_is limit invoke r (Err fault) ge is = refl

range_is : (d : State) (limit invoke : ℕ) (x : Result ReadRange Reason) → IsSound d → 44 ≤ limit → answer_range d limit invoke x ≡ log_answer d limit invoke x
range_is d limit invoke (Ok r) is ge = said_is limit invoke r (records_of d r) ge (records_log d r is)
range_is d limit invoke (Err reason) is ge = refl

abbrev said_to : State → ℕ → ℕ → List ℕ → Return → Option Reply × State
said_to d size invoke parameters to = (Some (reply to (log_answer d (min size d.reply_size) invoke (read_range_at parameters))), d)

said_so : (d : State) (size invoke : ℕ) (parameters : List ℕ) (to : Return) → IsSound d → 50 ≤ size
    → (let said : Option Reply × State = (Some (reply to (answer_range d (min size d.reply_size) invoke (read_range_at parameters))), d) in said) ≡ said_to d size invoke parameters to
said_so d size invoke parameters to is room =
    ap (λ (a : Apdu). let said : Option Reply × State = (Some (reply to a), d) in said) (range_is d (min size d.reply_size) invoke (read_range_at parameters) is (omega (arith, le-min room is.least_reply)))

frame_answered : (d : State) (f : Option Frame) (source : Option Place) (size invoke : ℕ) (parameters : List ℕ) → IsSound d → 50 ≤ size
    → heard_in f ≡ Some (record { to_all = false; source = source; apdu = Confirmed false size invoke 26 parameters }) → (to : Receiver) × (answer_frame d f ≡ said_to d size invoke parameters (record { to = to; place = source }))
frame_answered d None source size invoke parameters is room h = absurd (none-some _ h)
frame_answered d (Some (Unicast npdu)) source size invoke parameters is room h = (Sender, rw h (said_so d size invoke parameters (record { to = Sender; place = source }) is room))
frame_answered d (Some (Broadcast npdu)) source size invoke parameters is room h = (Sender, rw h (said_so d size invoke parameters (record { to = Sender; place = source }) is room))
frame_answered d (Some (Forwarded address npdu)) source size invoke parameters is room h = (Address address, rw h (said_so d size invoke parameters (record { to = Address address; place = source }) is room))
frame_answered d (Some (Function function rest)) source size invoke parameters is room h = absurd (none-some _ h)

pub ranges_answered : (d : State) (datagram : List ℕ) (source : Option Place) (size invoke : ℕ) (parameters : List ℕ) → IsSound d
    → heard_in (frame_at datagram) ≡ Some (record { to_all = false; source = source; apdu = Confirmed false size invoke 26 parameters }) → (to : Receiver) × (answer d datagram ≡ said_to d size invoke parameters (record { to = to; place = source }))
unfolding answer
ranges_answered d datagram source size invoke parameters is h = frame_answered d (frame_at datagram) source size invoke parameters is (asked_room (frame_at datagram) false source size invoke parameters h) h

-- ---- and it is read back

-- a request is heard from where an answer can go
frame_way : (f : Option Frame) (x : ReceivedApdu) → heard_in f ≡ Some x → IsWay x.source
frame_way None x h = absurd (none-some _ h)
frame_way (Some (Unicast npdu)) x h = heard_way false npdu x h
frame_way (Some (Broadcast npdu)) x h = heard_way true npdu x h
frame_way (Some (Forwarded address npdu)) x h = heard_way true npdu x h
frame_way (Some (Function function rest)) x h = absurd (none-some _ h)

within_limit : (small over : Bool) (limit invoke n : ℕ) (parameters : List ℕ) → nat_lt limit n ≡ over
    → cond small (abort invoke) (cond over (abort invoke) (Complex false invoke 26 parameters)) ≡ Complex false invoke 26 parameters → n ≤ limit
within_limit true over limit invoke n parameters e h = absurd cc
within_limit false true limit invoke n parameters e h = absurd cc
within_limit false false limit invoke n parameters e h = grind (arith, nat_tests)

pub ack_short : (limit invoke : ℕ) (object : Id) (extent : Extent) (log : Log) → IsLog log → 44 ≤ limit → length (apdu_octets (records_ack limit invoke object extent log)) ≤ limit
ack_short limit invoke object extent log is ge = within_limit (is_too_small limit extent log) (nat_lt limit _) limit invoke _ _ refl (records_fit limit invoke object extent log is ge)

log_unaborted : (to : Return) (way : IsWay to.place) (limit invoke : ℕ) (r : ReadRange) (x : Result Log Fault) → 44 ≤ limit → limit ≤ 1476 → AnyOk IsLog x → is_aborted (Some (reply to (log_said limit invoke r x))) ≡ false
log_unaborted to way limit invoke r (Ok log) ge le is = rw (again to.place (records_ack limit invoke r.object r.extent log) way refl (omega (arith, le, ack_short limit invoke r.object r.extent log is ge))) refl
log_unaborted to way limit invoke r (Err f) ge le is = rw (again to.place (error invoke 26 f) way (small f) (omega (arith, error-len (class_of f) (code_of f)))) refl

unaborted : (d : State) (to : Return) (way : IsWay to.place) (limit invoke : ℕ) (x : Result ReadRange Reason) → IsSound d → 44 ≤ limit → limit ≤ 1476 → is_aborted (Some (reply to (log_answer d limit invoke x))) ≡ false
unaborted d to way limit invoke (Ok r) is ge le = log_unaborted to way limit invoke r (records_of d r) ge le (records_log d r is)
unaborted d to way limit invoke (Err reason) is ge le = rw (again to.place (reject invoke reason) way tt (omega arith)) refl

frame_unaborted : (d : State) (f : Option Frame) (source : Option Place) (size invoke : ℕ) (parameters : List ℕ)
    → heard_in f ≡ Some (record { to_all = true; source = source; apdu = Confirmed false size invoke 26 parameters }) → is_aborted (answer_frame d f).0 ≡ false
frame_unaborted d None source size invoke parameters h = absurd (none-some _ h)
frame_unaborted d (Some (Unicast npdu)) source size invoke parameters h = rw h refl
frame_unaborted d (Some (Broadcast npdu)) source size invoke parameters h = rw h refl
frame_unaborted d (Some (Forwarded address npdu)) source size invoke parameters h = rw h refl
frame_unaborted d (Some (Function function rest)) source size invoke parameters h = absurd (none-some _ h)

pub ranges_unaborted : (d : State) (datagram : List ℕ) (to_all : Bool) (source : Option Place) (size invoke : ℕ) (parameters : List ℕ) → IsSound d
    → heard_in (frame_at datagram) ≡ Some (record { to_all = to_all; source = source; apdu = Confirmed false size invoke 26 parameters }) → is_aborted (answer d datagram).0 ≡ false
unfolding answer
ranges_unaborted d datagram true source size invoke parameters is h = frame_unaborted d (frame_at datagram) source size invoke parameters h
ranges_unaborted d datagram false source size invoke parameters is h =
    let room = asked_room (frame_at datagram) false source size invoke parameters h in
    let said = ranges_answered d datagram source size invoke parameters is h in
    let limit = min size d.reply_size in
    ap (λ (x : Option Reply × State). is_aborted x.0) said.1
    ∙ unaborted d (record { to = said.0; place = source }) (frame_way (frame_at datagram) _ h) limit invoke (read_range_at parameters) is (omega (arith, le-min room is.least_reply)) (omega (arith, min-le_right size d.reply_size, is.greatest_reply))
