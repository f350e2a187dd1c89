-- What `fetch_log_ahead` says of the run that it fetched.
use Rattle.std.proofs.Common.{◌≡◌, Bool, true, false, ℕ, List, Option, Ok, Err, IfErr, inl, inr, refl, sym, subst}
use Rattle.bac_link.specs.Delivery.{History, Moment}
use Rattle.bac_link.specs.Path.{Path, towards}
use Rattle.bac_link.specs.declared.item.Item.{Item}
use Rattle.bac_ports.specs.Sockets.{SocketRules, socket_asks}
use Rattle.bac_ports.specs.declared.udp_link.UdpLink.{UdpLink}
use Rattle.bac_print.specs.Output.{Held}
use Rattle.bac_query.specs.Ahead.{errand}
use Rattle.bac_query.specs.Fetching.{EndsAs, Fetching, IsFetched, PrintsItems, TellsRun, course, failing}
use Rattle.bac_query.specs.Flaws.{TellsFlawOf, log_place}
use Rattle.bac_query.specs.More.{if_caught_up}
use Rattle.bac_form.specs.declared.form.Form.{Form}
use Rattle.bac_form.specs.declared.form.Form.TheVariants.{Lines, Csv, Json}
use Rattle.bac_query.specs.Layouts.{BeginsWith}
use Rattle.bac_query.specs.Reading.{Answer, printing}
use Rattle.bac_query.specs.declared.fault.QueryFault.{QueryFault}
use Rattle.bac_query.specs.declared.fault.QueryFault.TheVariants.{Exchange, Write, Memory}
use Rattle.bac_tools.specs.Asking.{FetchesRun, SaysMore}
use Rattle.bac_tools.specs.Ending.{Ending}
use Rattle.bac_tools.specs.LogEnds.{ended_as, of_why}
use Rattle.bac_walk.specs.Place.{WalkPlace}
use Rattle.bac_walk.specs.Told.{Told}
use Rattle.bac_walk.specs.declared.flaw.ReplyFlaw.{ReplyFlaw}
use Rattle.bac_walk.specs.declared.outcome.Ended.{Ended}
use Rattle.bac_walk.specs.declared.outcome.Why.{Why}
use Rattle.bac_walk.specs.declared.outcome.Why.TheVariants as why
use Rattle.bac_walk.proofs.Told.{Asking}
use Rattle.bac_wire.specs.Primitive.{Id}
use Rattle.bac_command_line.specs.declared.job.Asked.{Asked}

-- what is printed, and how the run ended, in one
tells : (layout : Form) (items : List Item) (steps n : ℕ) (ended : Ended) (after : WalkPlace) (fetching : Fetching) (old new : Held) →
    PrintsItems layout items fetching old new → EndsAs layout steps (course items n ended after) fetching old new →
    TellsRun layout (λ cause. Unit {0}) steps (course items n ended after) fetching old new
tells layout items steps n ended after (Ok fetched) old new prints ends = (ends, tt, prints)
tells layout items steps n ended after (Err Write) old new prints (few, inl part) = inl (few, tt, part)
tells layout items steps n ended after (Err Write) old new prints (few, inr (why, next, end, part)) = inr (why, next, end, tt, part)
tells layout items steps n ended after (Err Memory) old new prints (why, next, end) = (why, next, end, tt, prints)
tells layout items steps n ended after (Err (Exchange fault)) old new prints ends = absurd ends

pub run_of : {S P : Type 0} (rules : SocketRules S P) (layout : Form) (asked : Asked) (walk : WalkPlace) (steps retries failed fails : ℕ)
    (was : ℕ → List Moment → History → Type 0) (fetching : Fetching) (link left : UdpLink P) (old new : Held) (items : List Item) →
    PrintsItems layout items fetching old new →
    ((n : ℕ) × (ended : Ended) × (after : WalkPlace) × EndsAs layout steps (course items n ended after) fetching old new
    × IsFetched was retries (failing failed fails) walk (course items n ended after)
    × Told (socket_asks rules) (towards asked.route) asked.retries ended after left) →
    FetchesRun rules asked (errand layout walk steps) (printing link old) fetching (printing left new)
run_of rules layout asked walk steps retries failed fails was fetching link left old new items prints (n, ended, after, ends, fetched, told) =
    (items, n, ended, after, tells layout items steps n ended after fetching old new prints ends, fetched.0.0, fetched.1, fetched.2, told)

-- ---- what is said beside the end line

unsaid : (more : Bool) (old new : Held) → more ≡ false → SaysMore more old new → new ≡ old
unsaid true old new is says = absurd cc
unsaid false old new is says = says

after_any : (result : Ending) (old new : Held) → new ≡ old → IfErr result (λ fault. new ≡ old)
after_any (Ok done) old new same = tt
after_any (Err fault) old new same = same

-- before a fault nothing is said, since a walk that is caught up ends with a status
pub quiet_end : {S : Type 0} (asks : Asking S) (path : Path) (retries : ℕ) (log : Id) (next : ℕ) (left : S) (address : List ℕ) (cause : Why) (flaw : Option ReplyFlaw)
    (more said : Bool) (old new : Held) → TellsFlawOf asks path retries (log_place log next) flaw left cause → more ≡ if_caught_up cause said → SaysMore more old new →
    IfErr (of_why address cause flaw) (λ fault. new ≡ old)
quiet_end asks path retries log next left address why.CaughtUp flaw more said old new tells is says =
    let P : Option ReplyFlaw → Type 0 = λ f. IfErr (of_why address why.CaughtUp f) (λ fault. new ≡ old) in
    subst P (sym tells) tt
quiet_end asks path retries log next left address why.StepLimit flaw more said old new tells is says =
    after_any (of_why address why.StepLimit flaw) old new (unsaid more old new is says)
quiet_end asks path retries log next left address (why.Fault fault) flaw more said old new tells is says =
    after_any (of_why address (why.Fault fault) flaw) old new (unsaid more old new is says)
quiet_end asks path retries log next left address why.Memory flaw more said old new tells is says =
    after_any (of_why address why.Memory flaw) old new (unsaid more old new is says)

-- so it is where a status takes the place of the line
pub quiet_as : (layout : Form) (cause : Why) (ended : Ending) (old new : Held) → IfErr ended (λ fault. new ≡ old) →
    IfErr (ended_as layout cause ended) (λ fault. new ≡ old)
quiet_as Lines cause ended old new is = is
quiet_as Csv why.CaughtUp ended old new is = is
quiet_as Csv why.StepLimit ended old new is = tt
quiet_as Csv (why.Fault fault) ended old new is = is
quiet_as Csv why.Memory ended old new is = is
quiet_as Json why.CaughtUp ended old new is = is
quiet_as Json why.StepLimit ended old new is = tt
quiet_as Json (why.Fault fault) ended old new is = is
quiet_as Json why.Memory ended old new is = is

-- ---- what stands before the items

-- it was printed, if it wasn't refused
pub begun_with : (layout : Form) (result : Answer) (old new : Held) → ((fault : QueryFault) → result ≡ Err fault → ⊥) → BeginsWith layout result old new →
    BeginsWith layout (Ok tt) old new
begun_with layout (Ok done) old new well begins = begins
begun_with layout (Err fault) old new well begins = absurd (well fault refl)
