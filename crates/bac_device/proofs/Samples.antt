-- Which entry a log appends, and what leaves it.
use Rattle.std.proofs.Common.{◌≡◌, refl, sym, ap, subst, ◌∙◌, ℕ, ◌==◌, nat_lt, Bool, true, false, ◌&&◌, cond, List, [], ◌∷◌, map, Option, Some, None, Result, Ok, Err, inl, inr}
use Rattle.std.specs.Prelude.{◌≢◌}
use Rattle.std.specs.Map.{lookup, set_value}
use Rattle.std.specs.Option.{option_map}
use Rattle.std.proofs.lemmas.Option.{none-some}
use Rattle.bac_wire.specs.Chain.{◌>>=◌}
use Rattle.bac_wire.specs.Primitive.{Id}
use Rattle.bac_wire.specs.Stamp.{CivilTime, ticks_of}
use Rattle.bac_log.specs.TrendLog.{Log, newest, sequence_number, last_ordinal, logs}
use Rattle.bac_objects.specs.Chain.{or_fault}
use Rattle.bac_objects.specs.Sampling.{body_after, due_entry, due_source, is_due, log_id, log_in, log_of, logger_in, object_at, object_ticked, records_in, sample_of, takes, ticked}
use Rattle.bac_objects.specs.State.{State, is_id}
use Rattle.bac_objects.specs.declared.object.Body.{Body}
use Rattle.bac_objects.specs.declared.object.Body.TheVariants as body
use Rattle.bac_objects.specs.declared.object.Logger.{Logger}
use Rattle.bac_objects.specs.declared.object.Object as object
use Rattle.bac_objects.specs.declared.sampling.SampleFault.{SampleFault}
use Rattle.bac_objects.specs.declared.sampling.SampleFault.TheVariants.{NoSuchLog, Disabled, CycleFull}
use Rattle.bac_apdu.specs.Service.WriteProperty.{PropertyWrite}
use Rattle.bac_device.specs.Answer.{answer}
use Rattle.bac_device.specs.History.{write_asked, is_done}
use Rattle.bac_device.proofs.History.{Wrote, apart, looked_other, looked_same, same_id, wrote}
use Rattle.bac_device.proofs.Told.{Told, told}
use Rattle.bac_device.specs.Logs.{OtherWritesLeaveLogs, SamplesAppend, TicksAppend, after_sample}

abbrev Sample : Type 0
Sample = Result (ℕ × State) SampleFault

err_ok : {X : Type 0} (f : SampleFault) (x : X) → (let r : Result X SampleFault = Err f in r) ≡ Ok x → ⊥
err_ok f x e = cc

ok_same : {X : Type 0} (a b : X) → (let r : Result X SampleFault = Ok a in r) ≡ Ok b → a ≡ b
ok_same a b e = cc

-- the device with another log in an object
abbrev with_state : State → ℕ → object.Object → Logger → Log → State
with_state d n o l log = record d { objects = set_value (is_id (log_id n)) d.objects (record o { body = body.Log (record l { log = log }) }) }

abbrev with_log : State → ℕ → object.Object → Logger → Log → Sample
with_log d n o l log = Ok (sequence_number (newest log), with_state d n o l log)

taken_log : (off full : Bool) (log new next : Log) → cond off (Err Disabled) (cond full (Err CycleFull) (Ok next)) ≡ Ok new → new ≡ next
taken_log true full log new next e = absurd (err_ok _ new e)
taken_log false true log new next e = absurd (err_ok _ new e)
taken_log false false log new next e = sym (ok_same next new e)

-- what a sample says
said_log : (d : State) (n : ℕ) (o : object.Object) (l : Logger) (said : ℕ × State) (y : Result Log SampleFault) → takes (sample_of d d.clock l.source) l.log ≡ y →
    (y >>= with_log d n o l) ≡ Ok said → said ≡ (sequence_number (newest (after_sample d l)), with_state d n o l (after_sample d l))
said_log d n o l said (Err f) e h = absurd (err_ok f said h)
said_log d n o l said (Ok log) e h =
    let is : log ≡ after_sample d l = taken_log _ (newest l.log == last_ordinal) l.log log (after_sample d l) e in
    let P : Log → Type 0 = λ x. said ≡ (sequence_number (newest x), with_state d n o l x) in
    subst P is (sym (ok_same _ said h))

said_body : (d : State) (n : ℕ) (o : object.Object) (l : Logger) (said : ℕ × State) (b : Body) → b ≡ body.Log l →
    (or_fault (logger_in b) NoSuchLog >>= (λ m. takes (sample_of d d.clock m.source) m.log >>= with_log d n o m)) ≡ Ok said →
    said ≡ (sequence_number (newest (after_sample d l)), with_state d n o l (after_sample d l))
said_body d n o l said b is h =
    let P : Body → Type 0 = λ x. (or_fault (logger_in x) NoSuchLog >>= (λ m. takes (sample_of d d.clock m.source) m.log >>= with_log d n o m)) ≡ Ok said in
    said_log d n o l said (takes (sample_of d d.clock l.source) l.log) refl (subst P is h)

said_object : (d : State) (n : ℕ) (o : object.Object) (l : Logger) (said : ℕ × State) (x : Option object.Object) → x ≡ Some o → o.body ≡ body.Log l →
    (or_fault x NoSuchLog >>= (λ p. or_fault (logger_in p.body) NoSuchLog >>= (λ m. takes (sample_of d d.clock m.source) m.log >>= with_log d n p m))) ≡ Ok said →
    said ≡ (sequence_number (newest (after_sample d l)), with_state d n o l (after_sample d l))
said_object d n o l said x at is h =
    let P : Option object.Object → Type 0 = λ y. (or_fault y NoSuchLog >>= (λ p. or_fault (logger_in p.body) NoSuchLog >>= (λ m. takes (sample_of d d.clock m.source) m.log >>= with_log d n p m))) ≡ Ok said in
    said_body d n o l said o.body is (subst P at h)

-- an object that is there has an instance of 22 bits
near : (far : Bool) (x : Option object.Object) (o : object.Object) → cond far None x ≡ Some o → (far ≡ false) × (x ≡ Some o)
near true x o e = absurd (none-some o e)
near false x o e = (refl, e)

log_there : (d : State) (n : ℕ) (o : object.Object) (l : Logger) (log : Log) → object_at d n ≡ Some o → log_of (with_state d n o l log) n ≡ Some log
log_there d n o l log at =
    let t = near (nat_lt 4194303 n) (lookup (is_id (log_id n)) d.objects) o at in
    let p : object.Object = record o { body = body.Log (record l { log = log }) } in
    let looked : lookup (is_id (log_id n)) (set_value (is_id (log_id n)) d.objects p) ≡ Some p = looked_same (is_id (log_id n)) (is_id (log_id n)) d.objects o p t.1 in
    rw (t.0, looked) refl

other_id : (m n : ℕ) (x : Bool) → is_id (log_id m) (log_id n) ≡ x → m ≢ n → x ≡ false
other_id m n true e other = absurd (other (ap (λ (i : Id). i.instance) (same_id (log_id m) (log_id n) e)))
other_id m n false e other = refl

log_elsewhere : (d : State) (n m : ℕ) (o : object.Object) (l : Logger) (log : Log) → m ≢ n → log_of (with_state d n o l log) m ≡ log_of d m
log_elsewhere d n m o l log other =
    let apart_ : is_id (log_id m) (log_id n) ≡ false = other_id m n (is_id (log_id m) (log_id n)) refl other in
    let p : object.Object = record o { body = body.Log (record l { log = log }) } in
    let looked : lookup (is_id (log_id m)) (set_value (is_id (log_id n)) d.objects p) ≡ lookup (is_id (log_id m)) d.objects =
    looked_other (is_id (log_id n)) (is_id (log_id m)) (λ k y. apart (log_id m) (log_id n) k apart_ y) d.objects p in
    ap (λ (x : Option object.Object). log_in (cond (nat_lt 4194303 m) None x)) looked

pub appended : SamplesAppend
appended = λ d n o l said at is h.
    let s = said_object d n o l said (object_at d n) at is h in
    let log : Log = after_sample d l in
    let P : State → Type 0 = λ x. log_of x n ≡ Some log in
    let Q : State → Type 0 = λ x. (m : ℕ) → m ≢ n → log_of x m ≡ log_of d m in
    let left : said.1 ≡ with_state d n o l log = ap (λ (x : ℕ × State). x.1) s in (
      subst P (sym left) (log_there d n o l log at),
      ap (λ (x : ℕ × State). x.0) s,
      subst Q (sym left) (λ m other. log_elsewhere d n m o l log other),
    )

-- ---- as the clock goes on

looked_map : (test : Id → Bool) (f : object.Object → object.Object) (es : List (Id × object.Object)) → lookup test (map (λ e. (e.0, f e.1)) es) ≡ option_map f (lookup test es)
looked_map test f [] = refl
looked_map test f (e ∷ es) = at (test e.0) e.1 (looked_map test f es)
  where
    at : (b : Bool) (o : object.Object) → lookup test (map (λ e. (e.0, f e.1)) es) ≡ option_map f (lookup test es) →
        cond b (Some (f o)) (lookup test (map (λ e. (e.0, f e.1)) es)) ≡ option_map f (cond b (Some o) (lookup test es))
    at true o rest = refl
    at false o rest = rest

ticked_log : (due full : Bool) (d : State) (stamp : CivilTime) (l : Logger) →
    records_in (logger_in (body_after (due_entry d stamp (cond due (Some l.source) None)) (body.Log l)))
    ≡ Some (cond due (cond (newest l.log == last_ordinal) l.log (logs (sample_of d stamp l.source) l.log)) l.log)
ticked_log false full d stamp l = refl
ticked_log true full d stamp l = at (newest l.log == last_ordinal)
  where
    at : (b : Bool) → records_in (logger_in (cond b (body.Log l) (body.Log (record l { log = logs (sample_of d stamp l.source) l.log }))))
        ≡ Some (cond b l.log (logs (sample_of d stamp l.source) l.log))
    at true = refl
    at false = refl

pub ticks : TicksAppend
ticks = λ d stamp n o l at is.
    let t = near (nat_lt 4194303 n) (lookup (is_id (log_id n)) d.objects) o at in
    let f : object.Object → object.Object = object_ticked d stamp in
    let looked : lookup (is_id (log_id n)) (map (λ e. (e.0, f e.1)) d.objects) ≡ Some (f o) =
    looked_map (is_id (log_id n)) f d.objects ∙ ap (λ (x : Option object.Object). option_map f x) t.1 in
    let due : Bool = is_due (ticks_of d.origin) (ticks_of d.clock) (ticks_of stamp) l.interval && l.log.enabled in
    let step : log_of (ticked d stamp) n ≡ log_in (Some (f o)) =
    ap (λ (b : Bool). log_in (cond b None (lookup (is_id (log_id n)) (map (λ e. (e.0, f e.1)) d.objects)))) t.0 ∙ ap (λ (x : Option object.Object). log_in x) looked in
    let body_is : log_in (Some (f o)) ≡ records_in (logger_in (body_after (due_entry d stamp (due_source d stamp (body.Log l))) (body.Log l))) =
    ap (λ (b : Body). records_in (logger_in (body_after (due_entry d stamp (due_source d stamp b)) b))) is in
    step ∙ body_is ∙ ticked_log due true d stamp l

-- ---- writes to others

not_same : (a b : Id) (x : Bool) → is_id a b ≡ x → a ≢ b → x ≡ false
not_same a b true e other = absurd (other (same_id a b e))
not_same a b false e other = refl

left : (d new : State) (w : PropertyWrite) (n : ℕ) → Wrote d w new → w.object ≢ log_id n → log_of new n ≡ log_of d n
left d new w n t other =
    let apart_ : is_id (log_id n) w.object ≡ false = not_same (log_id n) w.object (is_id (log_id n) w.object) refl (λ same. other (sym same)) in
    let looked : lookup (is_id (log_id n)) (set_value (is_id w.object) d.objects t.n) ≡ lookup (is_id (log_id n)) d.objects =
    looked_other (is_id w.object) (is_id (log_id n)) (λ k y. apart (log_id n) w.object k apart_ y) d.objects t.n in
    let P : State → Type 0 = λ s. log_of s n ≡ log_of d n in
    subst P (sym t.is) (ap (λ (x : Option object.Object). log_in (cond (nat_lt 4194303 n) None x)) looked)

taken : (b : Bool) (asked : Option PropertyWrite) (w : PropertyWrite) → cond b asked None ≡ Some w → asked ≡ Some w
taken true asked w e = e
taken false asked w e = absurd (none-some w e)

pub leave : OtherWritesLeaveLogs
leave = λ d datagram n other. of d datagram n other (told d datagram)
  where
    of : (d : State) (datagram : List ℕ) (n : ℕ) → ((w : PropertyWrite) → write_asked datagram ≡ Some w → w.object ≢ log_id n) →
        Told d (answer d datagram) (write_asked datagram) → log_of (answer d datagram).1 n ≡ log_of d n
    of d datagram n other (inl t) = ap (λ (s : State). log_of s n) t.1
    of d datagram n other (inr t) =
        left d (answer d datagram).1 t.0 n (wrote d t.0 (answer d datagram).1 t.3)
        (other t.0 (taken (is_done (answer d datagram).0) (write_asked datagram) t.0 t.1))
