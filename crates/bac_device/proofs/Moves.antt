-- What each call makes of a device's trend logs.
use Rattle.std.proofs.Common.{◌≡◌, refl, ap, sym, subst, ◌∙◌, arith, ℕ, ◌==◌, nat_lt, Bool, true, false, cond, List, [], ◌∷◌, map, Option, Some, None, Result, Ok, Err, inl, inr}
use Rattle.std.specs.Prelude.{◌≢◌}
use Rattle.std.specs.Map.{lookup, keys_of, set_value}
use Rattle.std.proofs.lemmas.Bool.Decides.{nat_tests}
use Rattle.std.proofs.lemmas.Map.{keys-set_value}
use Rattle.std.proofs.lemmas.Option.{none-some, same_Some}
use Rattle.bac_wire.specs.Chain.{◌>>=◌}
use Rattle.bac_wire.specs.Primitive.{Id, Primitive, Null, Boolean, Unsigned, Signed, Real, Double, Octets, Chars, Bits, Enumerated, Date, Time, Object}
use Rattle.bac_wire.specs.Stamp.{CivilTime}
use Rattle.bac_log.specs.History.{is_change}
use Rattle.bac_log.specs.TrendLog.{Log, newest, sequence_number, last_ordinal, logs, purges, enables}
use Rattle.bac_log.specs.declared.entry.Entry.{Entry}
use Rattle.bac_objects.specs.Chain.{or_fault}
use Rattle.bac_apdu.specs.Service.WriteProperty.{PropertyWrite}
use Rattle.bac_objects.specs.Sampling.{body_after, due_entry, due_source, log_id, log_in, logger_in, object_ticked, records_in, sample_of, sampled, takes, ticked}
use Rattle.bac_objects.specs.State.{State, is_id}
use Rattle.bac_objects.specs.Writing.{body_written, command_written, enabled, purged, records_written, unless_full}
use Rattle.bac_objects.specs.declared.command.Command.{Command}
use Rattle.bac_objects.specs.declared.fault.Fault.{Fault}
use Rattle.bac_objects.specs.declared.fault.Fault.TheVariants.{WriteDenied, BadValue}
use Rattle.bac_objects.specs.declared.object.Body.{Body}
use Rattle.bac_objects.specs.declared.object.Body.TheVariants as body
use Rattle.bac_objects.specs.declared.object.Logger.{Logger}
use Rattle.bac_objects.specs.declared.object.Object as object
use Rattle.bac_objects.specs.declared.sampling.SampleFault.{SampleFault}
use Rattle.bac_objects.specs.declared.sampling.SampleFault.TheVariants.{NoSuchLog, Disabled, CycleFull}
use Rattle.bac_device.specs.Answer.{answer}
use Rattle.bac_device.specs.History.{write_asked}
use Rattle.bac_device.specs.Logs.{Keeps, StepsTo}
use Rattle.bac_device.proofs.History.{Wrote, apart, looked_other, looked_same, same_id, wrote}
use Rattle.bac_device.proofs.Told.{Told, told}

-- ---- one object

abbrev BodySteps : Body → Body → Type 0
BodySteps (body.Command c) new = (k : Command) × (new ≡ body.Command k)
BodySteps (body.Log l) new = (m : Logger) × (new ≡ body.Log m) × StepsTo l.log m.log

body_stays : (b : Body) → BodySteps b b
body_stays (body.Command c) = (c, refl)
body_stays (body.Log l) = (l, refl, inl refl)

abbrev Steps : Option object.Object → Option object.Object → Type 0
Steps None None = Unit {0}
Steps None (Some p) = ⊥
Steps (Some o) None = ⊥
Steps (Some o) (Some p) = BodySteps o.body p.body

stays : (x : Option object.Object) → Steps x x
stays None = tt
stays (Some o) = body_stays o.body

-- ---- the logs that are seen

logs_body : (b c : Body) (log : Log) → BodySteps b c → records_in (logger_in b) ≡ Some log → (after : Log) × (records_in (logger_in c) ≡ Some after) × StepsTo log after
logs_body (body.Command k) c log s e = absurd (none-some log e)
logs_body (body.Log l) c log s e = (s.0.log, ap (λ (x : Body). records_in (logger_in x)) s.1, subst (λ (x : Log). StepsTo x s.0.log) (same_Some l.log log e) s.2)

logs_some : (x y : Option object.Object) (log : Log) → Steps x y → log_in x ≡ Some log → (after : Log) × (log_in y ≡ Some after) × StepsTo log after
logs_some None y log s e = absurd (none-some log e)
logs_some (Some o) None log s e = absurd s
logs_some (Some o) (Some p) log s e = logs_body o.body p.body log s e

logs_at : (far : Bool) (x y : Option object.Object) (log : Log) → Steps x y → log_in (cond far None x) ≡ Some log → (after : Log) × (log_in (cond far None y) ≡ Some after) × StepsTo log after
logs_at true x y log s e = absurd (none-some log e)
logs_at false x y log s e = logs_some x y log s e

lacks_body : (b c : Body) → BodySteps b c → records_in (logger_in b) ≡ None → records_in (logger_in c) ≡ None
lacks_body (body.Command k) c s e = ap (λ (x : Body). records_in (logger_in x)) s.1
lacks_body (body.Log l) c s e = absurd (none-some l.log (sym e))

lacks_some : (x y : Option object.Object) → Steps x y → log_in x ≡ None → log_in y ≡ None
lacks_some None None s e = refl
lacks_some None (Some p) s e = absurd s
lacks_some (Some o) None s e = absurd s
lacks_some (Some o) (Some p) s e = lacks_body o.body p.body s e

lacks_at : (far : Bool) (x y : Option object.Object) → Steps x y → log_in (cond far None x) ≡ None → log_in (cond far None y) ≡ None
lacks_at true x y s e = refl
lacks_at false x y s e = lacks_some x y s e

has_body : (b c : Body) (l : Logger) → b ≡ body.Log l → BodySteps b c → (m : Logger) × (c ≡ body.Log m)
has_body b c l is s =
    let t : BodySteps (body.Log l) c = subst (λ (x : Body). BodySteps x c) is s in (t.0, t.1)

has_at : (x y : Option object.Object) (p : object.Object) → Steps x y → ((o : object.Object) → x ≡ Some o → (l : Logger) × (o.body ≡ body.Log l)) → y ≡ Some p → (m : Logger) × (p.body ≡ body.Log m)
has_at None None p s has e = absurd (none-some p e)
has_at None (Some q) p s has e = absurd s
has_at (Some o) None p s has e = absurd s
has_at (Some o) (Some q) p s has e =
    let l = has o refl in
    let m = has_body o.body q.body l.0 l.1 s in
    (m.0, ap (λ (x : object.Object). x.body) (sym (same_Some q p e)) ∙ m.1)

-- objects that each move by a step
keeps_of : (d new : State) → new.reply_size ≡ d.reply_size → new.instance ≡ d.instance → keys_of new.objects ≡ keys_of d.objects
    → ((n : ℕ) → Steps (lookup (is_id (log_id n)) d.objects) (lookup (is_id (log_id n)) new.objects)) → Keeps d new
keeps_of d new size instance ids steps = record {
  reply_size = size;
  instance = instance;
  ids = ids;
  logs = λ n log e. logs_at (nat_lt 4194303 n) (lookup (is_id (log_id n)) d.objects) (lookup (is_id (log_id n)) new.objects) log (steps n) e;
  lacks = λ n e. lacks_at (nat_lt 4194303 n) (lookup (is_id (log_id n)) d.objects) (lookup (is_id (log_id n)) new.objects) (steps n) e;
  has = λ has n p e. has_at (lookup (is_id (log_id n)) d.objects) (lookup (is_id (log_id n)) new.objects) p (steps n) (has n) e;
}

keeps_same : (d new : State) → new ≡ d → Keeps d new
keeps_same d new is =
    keeps_of d new (ap (λ (s : State). s.reply_size) is) (ap (λ (s : State). s.instance) is) (ap (λ (s : State). keys_of s.objects) is)
    (λ n. subst (λ (s : State). Steps (lookup (is_id (log_id n)) d.objects) (lookup (is_id (log_id n)) s.objects)) (sym is) (stays (lookup (is_id (log_id n)) d.objects)))

-- ---- one object set

steps_set : (b : Bool) (d : State) (id : Id) (o p : object.Object) (n : ℕ) → is_id (log_id n) id ≡ b → lookup (is_id id) d.objects ≡ Some o → BodySteps o.body p.body
    → Steps (lookup (is_id (log_id n)) d.objects) (lookup (is_id (log_id n)) (set_value (is_id id) d.objects p))
steps_set true d id o p n e at s =
    let same : log_id n ≡ id = same_id (log_id n) id e in
    let here : lookup (is_id (log_id n)) d.objects ≡ Some o = ap (λ (x : Id). lookup (is_id x) d.objects) same ∙ at in
    let there : lookup (is_id (log_id n)) (set_value (is_id id) d.objects p) ≡ Some p =
    ap (λ (x : Id). lookup (is_id x) (set_value (is_id id) d.objects p)) same ∙ looked_same (is_id id) (is_id id) d.objects o p at in
    rw (here, there) s
steps_set false d id o p n e at s =
    let there : lookup (is_id (log_id n)) (set_value (is_id id) d.objects p) ≡ lookup (is_id (log_id n)) d.objects = looked_other (is_id id) (is_id (log_id n)) (λ k y. apart (log_id n) id k e y) d.objects p in
    rw there (stays (lookup (is_id (log_id n)) d.objects))

keeps_set : (d : State) (id : Id) (o p : object.Object) → lookup (is_id id) d.objects ≡ Some o → BodySteps o.body p.body → Keeps d (record d { objects = set_value (is_id id) d.objects p })
keeps_set d id o p at s =
    keeps_of d (record d { objects = set_value (is_id id) d.objects p }) refl refl (keys-set_value (is_id id) d.objects p) (λ n. steps_set (is_id (log_id n) id) d id o p n refl at s)

-- ---- writes

err_log : (f : Fault) (log : Log) → (let r : Result Log Fault = Err f in r) ≡ Ok log → ⊥
err_log f log e = cc

ok_log : (a b : Log) → (let r : Result Log Fault = Ok a in r) ≡ Ok b → a ≡ b
ok_log a b e = cc

not_equal : (n m : ℕ) → (n == m) ≡ false → n ≢ m
not_equal n m e is = grind (arith, nat_tests)

full_or : (full : Bool) (log next new : Log) → (newest log == last_ordinal) ≡ full → cond full (Err WriteDenied) (Ok next) ≡ Ok new → (newest log ≢ last_ordinal) × (new ≡ next)
full_or true log next new e h = absurd (err_log _ new h)
full_or false log next new e h = (not_equal (newest log) last_ordinal e, sym (ok_log next new h))

enable_steps : (change value : Bool) (clock : CivilTime) (log new : Log) → cond change (unless_full log (enables value clock log)) (Ok log) ≡ Ok new → StepsTo log new
enable_steps true value clock log new h = let f = full_or (newest log == last_ordinal) log (enables value clock log) new refl h in inr (inr (inr (f.0, (value, (clock, f.1)))))
enable_steps false value clock log new h = inl (sym (ok_log log new h))

enabled_steps : (clock : CivilTime) (v : Primitive) (log new : Log) → enabled clock v log ≡ Ok new → StepsTo log new
enabled_steps clock (Boolean value) log new h = enable_steps (is_change log.enabled value) value clock log new h
enabled_steps clock Null log new h = absurd (err_log _ new h)
enabled_steps clock (Unsigned n) log new h = absurd (err_log _ new h)
enabled_steps clock (Signed z) log new h = absurd (err_log _ new h)
enabled_steps clock (Real octets) log new h = absurd (err_log _ new h)
enabled_steps clock (Double octets) log new h = absurd (err_log _ new h)
enabled_steps clock (Octets octets) log new h = absurd (err_log _ new h)
enabled_steps clock (Chars set octets) log new h = absurd (err_log _ new h)
enabled_steps clock (Bits bits) log new h = absurd (err_log _ new h)
enabled_steps clock (Enumerated n) log new h = absurd (err_log _ new h)
enabled_steps clock (Date octets) log new h = absurd (err_log _ new h)
enabled_steps clock (Time octets) log new h = absurd (err_log _ new h)
enabled_steps clock (Object id) log new h = absurd (err_log _ new h)

purge_steps : (zero_ : Bool) (clock : CivilTime) (log new : Log) → cond zero_ (unless_full log (purges clock log)) (Err BadValue) ≡ Ok new → StepsTo log new
purge_steps true clock log new h = let f = full_or (newest log == last_ordinal) log (purges clock log) new refl h in inr (inr (inl (f.0, (clock, f.1))))
purge_steps false clock log new h = absurd (err_log _ new h)

purged_steps : (clock : CivilTime) (v : Primitive) (log new : Log) → purged clock v log ≡ Ok new → StepsTo log new
purged_steps clock (Unsigned n) log new h = purge_steps (n == 0) clock log new h
purged_steps clock Null log new h = absurd (err_log _ new h)
purged_steps clock (Boolean b) log new h = absurd (err_log _ new h)
purged_steps clock (Signed z) log new h = absurd (err_log _ new h)
purged_steps clock (Real octets) log new h = absurd (err_log _ new h)
purged_steps clock (Double octets) log new h = absurd (err_log _ new h)
purged_steps clock (Octets octets) log new h = absurd (err_log _ new h)
purged_steps clock (Chars set octets) log new h = absurd (err_log _ new h)
purged_steps clock (Bits bits) log new h = absurd (err_log _ new h)
purged_steps clock (Enumerated n) log new h = absurd (err_log _ new h)
purged_steps clock (Date octets) log new h = absurd (err_log _ new h)
purged_steps clock (Time octets) log new h = absurd (err_log _ new h)
purged_steps clock (Object id) log new h = absurd (err_log _ new h)

records_steps : (enable count : Bool) (clock : CivilTime) (w : PropertyWrite) (log new : Log) → cond enable (enabled clock w.value log) (cond count (purged clock w.value log) (Err WriteDenied)) ≡ Ok new → StepsTo log new
records_steps true count clock w log new h = enabled_steps clock w.value log new h
records_steps false true clock w log new h = purged_steps clock w.value log new h
records_steps false false clock w log new h = absurd (err_log _ new h)

err_body : (f : Fault) (b : Body) → (let r : Result Body Fault = Err f in r) ≡ Ok b → ⊥
err_body f b e = cc

ok_body : (a b : Body) → (let r : Result Body Fault = Ok a in r) ≡ Ok b → a ≡ b
ok_body a b e = cc

log_ends : (clock : CivilTime) (w : PropertyWrite) (l : Logger) (new : Body) (x : Result Log Fault) → records_written clock w l.log ≡ x
    → ((x >>= (λ log. Ok (let m : Logger = record l { log = log } in m))) >>= (λ m. Ok (body.Log m))) ≡ Ok new → BodySteps (body.Log l) new
log_ends clock w l new (Ok log) e h =
    (record l { log = log }, sym (ok_body (body.Log (record l { log = log })) new h), records_steps (w.property == 133) (w.property == 141) clock w l.log log e)
log_ends clock w l new (Err f) e h = absurd (err_body f new h)

command_ends : (c : Command) (new : Body) (x : Result Command Fault) → (x >>= (λ k. Ok (body.Command k))) ≡ Ok new → BodySteps (body.Command c) new
command_ends c new (Ok k) h = (k, sym (ok_body (body.Command k) new h))
command_ends c new (Err f) h = absurd (err_body f new h)

body_steps : (clock : CivilTime) (w : PropertyWrite) (b new : Body) → body_written clock w b ≡ Ok new → BodySteps b new
body_steps clock w (body.Command c) new h = command_ends c new (command_written w c) h
body_steps clock w (body.Log l) new h = log_ends clock w l new (records_written clock w l.log) refl h

err_object : (f : Fault) (o : object.Object) → (let r : Result object.Object Fault = Err f in r) ≡ Ok o → ⊥
err_object f o e = cc

ok_object : (a b : object.Object) → (let r : Result object.Object Fault = Ok a in r) ≡ Ok b → a ≡ b
ok_object a b e = cc

object_ends : (clock : CivilTime) (w : PropertyWrite) (o n : object.Object) (ok : Result (Unit {0}) Fault) (x : Result Body Fault) → body_written clock w o.body ≡ x
    → (ok >>= (λ u. x >>= (λ b. Ok (let m : object.Object = record o { body = b } in m)))) ≡ Ok n → BodySteps o.body n.body
object_ends clock w o n (Err f) x e h = absurd (err_object f n h)
object_ends clock w o n (Ok u) (Err f) e h = absurd (err_object f n h)
object_ends clock w o n (Ok u) (Ok b) e h =
    subst (λ (x : Body). BodySteps o.body x) (ap (λ (m : object.Object). m.body) (ok_object (record o { body = b }) n h)) (body_steps clock w o.body b e)

keeps_wrote : (d : State) (w : PropertyWrite) (new : State) → Wrote d w new → Keeps d new
keeps_wrote d w new t =
    subst (λ (s : State). Keeps d s) (sym t.is) (keeps_set d w.object t.o t.n t.at (object_ends d.clock w t.o t.n _ (body_written d.clock w t.o.body) refl t.did))

pub answers_keep : (d : State) (datagram : List ℕ) → Keeps d (answer d datagram).1
answers_keep d datagram = of (told d datagram)
  where
    of : Told d (answer d datagram) (write_asked datagram) → Keeps d (answer d datagram).1
    of (inl t) = keeps_same d (answer d datagram).1 t.1
    of (inr t) = keeps_wrote d t.0 (answer d datagram).1 (wrote d t.0 (answer d datagram).1 t.3)

-- ---- samples

abbrev Sample : Type 0
Sample = Result (ℕ × State) SampleFault

err_state : (f : SampleFault) (x : ℕ × State) → (let r : Sample = Err f in r) ≡ Ok x → ⊥
err_state f x e = cc

ok_state : (a b : ℕ × State) → (let r : Sample = Ok a in r) ≡ Ok b → a ≡ b
ok_state a b e = cc

err_taken : (f : SampleFault) (log : Log) → (let r : Result Log SampleFault = Err f in r) ≡ Ok log → ⊥
err_taken f log e = cc

ok_taken : (a b : Log) → (let r : Result Log SampleFault = Ok a in r) ≡ Ok b → a ≡ b
ok_taken a b e = cc

takes_steps : (off full : Bool) (entry : Entry) (log new : Log) → (newest log == last_ordinal) ≡ full → cond off (Err Disabled) (cond full (Err CycleFull) (Ok (logs entry log))) ≡ Ok new → StepsTo log new
takes_steps true full entry log new e h = absurd (err_taken _ new h)
takes_steps false true entry log new e h = absurd (err_taken _ new h)
takes_steps false false entry log new e h = inr (inl (not_equal (newest log) last_ordinal e, (entry, sym (ok_taken (logs entry log) new h))))

abbrev with_log : State → ℕ → object.Object → Logger → Log → Sample
with_log d instance o l log = Ok (sequence_number (newest log), (let s : State = record d { objects = set_value (is_id (log_id instance)) d.objects (record o { body = body.Log (record l { log = log }) }) } in s))

sample_log : (d : State) (instance : ℕ) (o : object.Object) (l : Logger) (y : Result Log SampleFault) (x : ℕ × State) → takes (sample_of d d.clock l.source) l.log ≡ y → o.body ≡ body.Log l → lookup (is_id (log_id instance)) d.objects ≡ Some o
    → (y >>= with_log d instance o l) ≡ Ok x → Keeps d x.1
sample_log d instance o l (Err f) x e is at h = absurd (err_state f x h)
sample_log d instance o l (Ok log) x e is at h =
    let s : BodySteps o.body (body.Log (record l { log = log })) = subst (λ (b : Body). BodySteps b (body.Log (record l { log = log }))) (sym is)
    (record l { log = log }, refl, takes_steps _ (newest l.log == last_ordinal) (sample_of d d.clock l.source) l.log log refl e) in
    subst (λ (y : ℕ × State). Keeps d y.1) (ok_state _ x h) (keeps_set d (log_id instance) o (record o { body = body.Log (record l { log = log }) }) at s)

sample_body : (d : State) (instance : ℕ) (o : object.Object) (b : Body) (x : ℕ × State) → o.body ≡ b → lookup (is_id (log_id instance)) d.objects ≡ Some o
    → (or_fault (logger_in b) NoSuchLog >>= (λ l. takes (sample_of d d.clock l.source) l.log >>= with_log d instance o l)) ≡ Ok x → Keeps d x.1
sample_body d instance o (body.Command c) x is at h = absurd (err_state _ x h)
sample_body d instance o (body.Log l) x is at h = sample_log d instance o l (takes (sample_of d d.clock l.source) l.log) x refl is at h

sample_object : (far : Bool) (d : State) (instance : ℕ) (y : Option object.Object) (x : ℕ × State) → lookup (is_id (log_id instance)) d.objects ≡ y
    → (or_fault (cond far None y) NoSuchLog >>= (λ o. or_fault (logger_in o.body) NoSuchLog >>= (λ l. takes (sample_of d d.clock l.source) l.log >>= with_log d instance o l))) ≡ Ok x → Keeps d x.1
sample_object true d instance y x at h = absurd (err_state _ x h)
sample_object false d instance None x at h = absurd (err_state _ x h)
sample_object false d instance (Some o) x at h = sample_body d instance o o.body x refl at h

pub samples_keep : (d : State) (instance : ℕ) (x : ℕ × State) → sampled d instance ≡ Ok x → Keeps d x.1
samples_keep d instance x h = sample_object (nat_lt 4194303 instance) d instance (lookup (is_id (log_id instance)) d.objects) x refl h

-- ---- as the clock goes on

full_stays : (full : Bool) (entry : Entry) (l : Logger) → (newest l.log == last_ordinal) ≡ full → BodySteps (body.Log l) (cond full (body.Log l) (body.Log (record l { log = logs entry l.log })))
full_stays true entry l e = (l, refl, inl refl)
full_stays false entry l e = (record l { log = logs entry l.log }, refl, inr (inl (not_equal (newest l.log) last_ordinal e, (entry, refl))))

after_steps : (entry : Option Entry) (b : Body) → BodySteps b (body_after entry b)
after_steps None b = body_stays b
after_steps (Some entry) (body.Command c) = (c, refl)
after_steps (Some entry) (body.Log l) = full_stays (newest l.log == last_ordinal) entry l refl

map_steps : (test : Id → Bool) (f : object.Object → object.Object) → ((o : object.Object) → BodySteps o.body (f o).body) → (es : List (Id × object.Object)) → Steps (lookup test es) (lookup test (map (λ e. (e.0, f e.1)) es))
map_steps test f steps [] = tt
map_steps test f steps (e ∷ es) = at (test e.0) e.1 (map_steps test f steps es)
  where
    at : (b : Bool) (o : object.Object) → Steps (lookup test es) (lookup test (map (λ e. (e.0, f e.1)) es)) → Steps (cond b (Some o) (lookup test es)) (cond b (Some (f o)) (lookup test (map (λ e. (e.0, f e.1)) es)))
    at true o rest = steps o
    at false o rest = rest

map_keys : (f : object.Object → object.Object) (es : List (Id × object.Object)) → keys_of (map (λ e. (e.0, f e.1)) es) ≡ keys_of es
map_keys f [] = refl
map_keys f (e ∷ es) = ap (λ l. e.0 ∷ l) (map_keys f es)

pub ticks_keep : (d : State) (stamp : CivilTime) → Keeps d (ticked d stamp)
ticks_keep d stamp =
    keeps_of d (ticked d stamp) refl refl (map_keys (object_ticked d stamp) d.objects)
    (λ n. map_steps (is_id (log_id n)) (object_ticked d stamp) (λ o. after_steps (due_entry d stamp (due_source d stamp o.body)) o.body) d.objects)
