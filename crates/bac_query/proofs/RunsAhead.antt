-- Runs over a link whose lines are printed later, and how they end.
use Rattle.std.proofs.Common.{Bool, true, Option, Result, [], ◌∷◌, append_assoc, append-nil, ◌≡◌, ◌≢◌, ◌+◌, ◌<◌, ◌≤◌, ℕ, false, inl, inr, Some, Ok, Err, List, ◌++◌, length, refl, sym, subst, ◌∙◌, ap, arith, length-append}
use Rattle.std.proofs.KnownBytes.{Keeps-refl}
use Rattle.bac_link.specs.Path.{Path, towards}
use Rattle.bac_link.specs.declared.transactions.Transactions.{Transactions}
use Rattle.bac_link.specs.declared.item.Item.{Item}
use Rattle.bac_query.specs.Layouts.{AppendsAll, AppendsItems, AppendsItemsPart}
use Rattle.bac_form.specs.declared.form.Form.{Form}
use Rattle.bac_query.proofs.Laid.{laid_end_part, laid_ended, laid_kept, laid_longer, laid_part, laid_then, part_ended}
use Rattle.bac_link.specs.declared.link.Lost.{Lost as Loss}
use Rattle.bac_walk.specs.Came.{Came, Brought, reaching, walk_over}
use Rattle.bac_walk.specs.Transacted.{BroughtIntoBy, walk_by}
use Rattle.bac_walk.specs.Walks.{gap_items, item_of}
use Rattle.bac_walk.specs.declared.batch.Gap.{Gap as GapOf}
use Rattle.bac_walk.specs.declared.batch.Numbered.{Numbered}
use Rattle.bac_walk.specs.Outcomes.{IsRunOf, why_of}
use Rattle.bac_walk.specs.Place.{WalkPlace}
use Rattle.bac_walk.specs.Sinks.{Call, Delivery, IsRun, Takes, is_stopped, put_items, sink_filled, ours_around}
use Rattle.bac_walk.specs.Told.{Told}
use Rattle.bac_walk.specs.declared.outcome.Ended.{Ended}
use Rattle.bac_walk.specs.declared.outcome.Ended.TheVariants.{CaughtUp, StepLimit, Stopped, Fault}
use Rattle.bac_walk.specs.declared.outcome.Why.{Why}
use Rattle.bac_walk.specs.Collects.{losses_of}
use Rattle.bac_walk.specs.declared.outcome.Why.TheVariants as why
use Rattle.bac_walk.proofs.Came.{brought_delivers}
use Rattle.bac_walk.proofs.Transacted.{brought_plain, transacted_bounded}
use Rattle.bac_walk.proofs.Joined.{limit_count}
use Rattle.bac_walk.proofs.Runs.{join_runs, no_run, run_early}
use Rattle.bac_walk.proofs.Keeps.{put_length}
use Rattle.bac_walk.proofs.Told.{Asking}
use Rattle.bac_query.proofs.JoinedBy.{early_by, joins_by, none_by}
use Rattle.bac_query.proofs.Maps.{Maps, brought_keeps, brought_maps, told_maps}
use Rattle.bac_query.proofs.SaidMore.{more_append, step_more, tells_alike}
use Rattle.bac_query.proofs.Pending.{prints_goes, prints_itself}
use Rattle.bac_query.specs.Ahead.{FetchesAhead, IsLeftAhead, IsRunOver, Pending, PrintsLast, PrintsLeft, PrintsOn, PrintsRun, closing, errand, never}
use Rattle.bac_query.specs.Fetching.{EndsAs, Fetching, IsEnd, PrintsEnd, PrintsItems, TellsRun, course, failing}
use Rattle.bac_query.specs.More.{TellsMore, more_after, more_last}
use Rattle.bac_query.specs.Reading.{Held, printing}
use Rattle.bac_query.specs.declared.fault.QueryFault.{QueryFault}
use Rattle.bac_query.specs.declared.fault.QueryFault.TheVariants.{Exchange, Write, Memory}
use Rattle.bac_query.proofs.Delivered.{runs_on}
use Rattle.bac_link.specs.Exchanges.{client}

-- ---- runs

pub none_over : {S : Type 0} (asks : Asking S) (t : Transactions) (link : S) (w : WalkPlace) (was : Bool) → IsRunOver asks (client link t) w (course [] 0 StepLimit w) (client link t) was was
none_over asks t link w was =
    (([], none_by asks t link w, refl), ([], λ on. refl, no_run never t.retries 0 w, omega arith, λ e. omega arith), tt)

pub limit_on : StepLimit ≢ Stopped
limit_on e = cc

pub over_joins : {S : Type 0} (asks : Asking S) (t u z : Transactions) (link half new : S) (w mid after : WalkPlace) (n k : ℕ) (xs ys : List Item) (ended : Ended) (was here said : Bool) →
    IsRunOver asks (client link t) w (course xs n StepLimit mid) (client half u) was here → IsRunOver asks (client half u) mid (course ys k ended after) (client new z) here said →
    IsRunOver asks (client link t) w (course (xs ++ ys) (n + k) ended after) (client new z) was said
over_joins asks t u z link half new w mid after n k xs ys ended was here said (brought, (us, same, run, few, many), told) (more, (vs, as_well, goes, less, enough), last) =
    let joined = length-append us vs in
    let leaves = transacted_bounded asks t u link half w mid n brought.0 xs StepLimit brought.1 in
    let R : ℕ → Type 0 = λ r. IsRun (ours_around never never) (losses_of r 0 0) mid after k ended vs in
    let P : Path → Type 0 = λ q. Told asks q u.retries ended after new in
    let Q : ℕ → Type 0 = λ r. Told asks (towards t.route) r ended after new in (
      (
        brought.0 ++ more.0,
        joins_by asks t u z link half new w mid after n k brought.0 more.0 xs ys ended brought.1 more.1,
        more.2 ∙ ap (λ b. more_after b more.0) brought.2 ∙ sym (more_append was brought.0 more.0),
      ),
      (
        us ++ vs,
        λ on. ap (λ l. l ++ vs) (same limit_on) ∙ ap (λ l. xs ++ l) (as_well on),
        join_runs never never never t.retries 0 0 0 w mid after n k ended us vs run (subst R leaves.3 goes) (omega arith)
            (limit_count asks (towards t.route) t.retries link half w mid n brought.0 xs (brought_plain asks t u link half w mid n brought.0 xs StepLimit brought.1)),
        omega (arith, joined, few, less),
        λ limit. omega (arith, joined, many refl, enough limit),
      ),
      subst Q leaves.3 (subst P (ap towards leaves.2) last),
    )

pub over_early : {S : Type 0} (asks : Asking S) (t z : Transactions) (link new : S) (w after : WalkPlace) (n steps : ℕ) (xs : List Item) (ended : Ended) (was said : Bool) → ended ≢ StepLimit → n ≤ steps →
    IsRunOver asks (client link t) w (course xs n ended after) (client new z) was said → IsRunOver asks (client link t) w (course xs steps ended after) (client new z) was said
over_early asks t z link new w after n steps xs ended was said other le (brought, (us, same, run, few, many), told) = (
  (brought.0, early_by asks t z link new w after n steps brought.0 xs ended other le brought.1, brought.2),
  (
    us,
    same,
    run_early never never t.retries 0 0 w after n steps ended us other le run,
    omega (arith, le, few),
    λ limit. absurd (other limit),
  ),
  told,
)

-- ---- what is told of them

-- the end line was that of the run, or a front part of it, or there was no memory for it
tells_end : (layout : Form) (left : Why → Type 0) (items : List Item) (steps n : ℕ) (ended : Ended) (after : WalkPlace) (cause : Why) (next : ℕ) (result : Fetching) (old mid new : Held) →
    IsRunOf cause steps n ended → next ≡ after.next → left cause → AppendsItems layout items old mid → PrintsEnd layout cause next result mid new →
    TellsRun layout left steps (course items n ended after) result old new
tells_end layout left items steps n ended after cause next (Ok done) old mid new run at here first (same, is, last) =
    let P : Why → Type 0 = λ w. IsEnd steps n ended after w done.next × left w × AppendsAll layout items w done.next old new in
    let Q : ℕ → Type 0 = λ k. IsEnd steps n ended after cause k × left cause × AppendsAll layout items cause k old new in
    subst P (sym same) (subst Q (sym is) ((run, at), here, laid_ended layout items cause next old mid new first last))
tells_end layout left items steps n ended after cause next (Err Write) old mid new run at here first part =
    inr (cause, next, (run, at), here, laid_end_part layout items cause next old mid new first part)
tells_end layout left items steps n ended after cause next (Err Memory) old mid new run at here first kept =
    (cause, next, (run, at), here, laid_kept layout items old mid new first kept)
tells_end layout left items steps n ended after cause next (Err (Exchange fault)) old mid new run at here first never = absurd never

pub tells_items : (layout : Form) (left : Why → Type 0) (items : List Item) (steps n : ℕ) (ended : Ended) (after : WalkPlace) (result : Fetching) (old new : Held) →
    TellsRun layout left steps (course items n ended after) result old new → PrintsItems layout items result old new
tells_items layout left items steps n ended after (Ok done) old new (is, here, all) = all
tells_items layout left items steps n ended after (Err Write) old new (inl (le, here, part)) =
    (why.CaughtUp, 0, part_ended layout items why.CaughtUp 0 old new part)
tells_items layout left items steps n ended after (Err Write) old new (inr (cause, next, is, here, part)) = (cause, next, part)
tells_items layout left items steps n ended after (Err Memory) old new (cause, next, is, here, all) = all
tells_items layout left items steps n ended after (Err (Exchange fault)) old new none = absurd none

tells_ends : (layout : Form) (left : Why → Type 0) (items : List Item) (steps n : ℕ) (ended : Ended) (after : WalkPlace) (result : Fetching) (old new : Held) → n ≤ steps →
    TellsRun layout left steps (course items n ended after) result old new → EndsAs layout steps (course items n ended after) result old new
tells_ends layout left items steps n ended after (Ok done) old new few (is, here, all) = is
tells_ends layout left items steps n ended after (Err Write) old new few (inl (le, here, part)) = (few, inl part)
tells_ends layout left items steps n ended after (Err Write) old new few (inr (cause, next, is, here, part)) = (few, inr (cause, next, is, part))
tells_ends layout left items steps n ended after (Err Memory) old new few (cause, next, is, here, all) = (cause, next, is)
tells_ends layout left items steps n ended after (Err (Exchange fault)) old new few none = absurd none

-- both that a caller learns
abbrev pub Learns : {S : Type 0} → Form → Asking S → Transactions → S → WalkPlace → ℕ → Fetching → ℕ → ℕ → Transactions → S → Held → Held → Type 0
Learns {S = S} layout asks t link walk steps result failures more last left old new =
    FetchesAhead (errand layout walk steps) asks (printing (client link t) old) result (printing (client left last) new)
    × PrintsRun (errand layout walk steps) asks (failing failures more) (printing (client link t) old) result (printing (client left last) new)

learns_both : {S : Type 0} (layout : Form) (asks : Asking S) (t u z : Transactions) (link mid left : S) (walk after : WalkPlace) (steps n : ℕ) (items : List Item) (ended : Ended) (result : Fetching) (failures more : ℕ) (old new : Held) (said : Bool) →
    n ≤ steps → (run : IsRunOver asks (client link t) walk (course items n ended after) (client mid u) false said) → TellsMore said result → Told asks (towards t.route) t.retries ended after left →
    TellsRun layout (λ cause. IsLeftAhead asks u mid after z left cause) steps (course items n ended after) result old new →
    TellsRun layout (λ cause. IsLeftAhead asks u mid after z left cause) steps (course run.1.0 n ended after) result old new →
    Learns layout asks t link walk steps result failures more z left old new
learns_both layout asks t u z link mid left walk after steps n items ended result failures more old new said few (brought, (us, same, run, less, many), last) says told tells covers =
    let M : Bool → Type 0 = λ b. TellsMore b result in
    let here : Why → Type 0 = λ cause. IsLeftAhead asks u mid after z left cause in (
      (
        brought.0,
        items,
        n,
        ended,
        after,
        u,
        mid,
        brought.1,
        tells,
        λ H M low s said at some back window place.
            brought_delivers asks (towards t.route) t.retries link mid walk after n brought.0 items ended H M low s
            (brought_plain asks t u link mid walk after n brought.0 items ended brought.1) said at some back window place,
        subst M brought.2 says,
      ),
      (
        us,
        tells_items layout here us steps n ended after result old new covers,
        (
          n,
          ended,
          after,
          tells_ends layout here us steps n ended after result old new few covers,
          ((run.0, λ r M H s ours. absurd ours), less, many),
          told,
        ),
      ),
    )

learns : {S : Type 0} (layout : Form) (asks : Asking S) (t u z : Transactions) (link mid left : S) (walk after : WalkPlace) (steps n : ℕ) (items : List Item) (ended : Ended) (result : Fetching) (failures more : ℕ) (old new : Held) (said : Bool) →
    n ≤ steps → ended ≢ Stopped → IsRunOver asks (client link t) walk (course items n ended after) (client mid u) false said → TellsMore said result → Told asks (towards t.route) t.retries ended after left →
    TellsRun layout (λ cause. IsLeftAhead asks u mid after z left cause) steps (course items n ended after) result old new →
    Learns layout asks t link walk steps result failures more z left old new
learns layout asks t u z link mid left walk after steps n items ended result failures more old new said few on run says told tells =
    let P : List Item → Type 0 = λ l. TellsRun layout (λ cause. IsLeftAhead asks u mid after z left cause) steps (course l n ended after) result old new in
    learns_both layout asks t u z link mid left walk after steps n items ended result failures more old new said few run says told tells (subst P (sym (run.1.1 on)) tells)

-- ---- how they end

-- All lines were printed; what came after them wasn't, since there was no memory for it.
pub without_lines : {S : Type 0} (layout : Form) (asks : Asking S) (t u z : Transactions) (link mid new : S) (walk w after : WalkPlace) (steps n j : ℕ) (items more : List Item) (ended : Ended) (next : ℕ)
    (result : Fetching) (failures over : ℕ) (old half out : Held) (was said any : Bool) →
    IsRunOver asks (client link t) walk (course items n StepLimit w) (client mid u) false was → n < steps → next ≡ w.next → IsRunOver asks (client mid u) w (course more j ended after) (client new z) was said → j ≤ 2 →
    AppendsItems layout items old half → PrintsEnd layout why.Memory next result half out → TellsMore any result →
    Learns layout asks t link walk steps result failures over z new old out
without_lines layout asks t u z link mid new walk w after steps n j items more ended next result failures over old half out was said any run few at last two printed end says =
    learns layout asks t u z link mid new walk w steps n items StepLimit result failures over old out was (omega (arith, few)) limit_on run (tells_alike layout any was why.Memory next result half out (λ e. cc) end says) tt
    (tells_end layout (λ cause. IsLeftAhead asks u mid w z new cause) items steps n StepLimit w why.Memory next result old half out (few, refl) at
    (j, last.0.0, more, ended, after, two, last.0.1) printed end)

-- a write of lines was refused, and one step more came
pub refused_lines : {S : Type 0} (layout : Form) (asks : Asking S) (t u z : Transactions) (link mid new : S) (walk w after : WalkPlace) (steps n j : ℕ) (items last : List Item) (ended : Ended)
    (result : Fetching) (failures over : ℕ) (old out : Held) (was said : Bool) →
    IsRunOver asks (client link t) walk (course items n StepLimit w) (client mid u) false was → IsRunOver asks (client mid u) w (course last j ended after) (client new z) was said → n + j ≤ steps → result ≡ Err Write →
    AppendsItemsPart layout items old out → Learns layout asks t link walk steps result failures over z new old out
unfolding over_joins
refused_lines layout asks t u z link mid new walk w after steps n j items last ended result failures over old out was said first rest few is part =
    let P : Fetching → Type 0 = λ r. Learns layout asks t link walk steps r failures over z new old out in
    let all = over_joins asks t u z link mid new walk w after n j items last ended false was said first rest in
    let Q : List Item → Type 0 = λ l. AppendsItemsPart layout (l ++ rest.1.0) old out in
    subst P (sym is) (learns_both layout asks t z z link new new walk after steps (n + j) (items ++ last) ended (Err Write) failures over old out said few all tt all.2
    (inl (few, (refl, refl), laid_longer layout items last old out part)) (inl (few, (refl, refl), subst Q (sym (first.1.1 limit_on)) (laid_longer layout items rest.1.0 old out part))))

-- a step failed beside which lines were to be printed
pub fails : {S : Type 0} (layout : Form) (asks : Asking S) (t u v z : Transactions) (link mid half new : S) (walk w here after : WalkPlace) (steps n k : ℕ) (items left last : List Item) (ended : Ended) (told : ℕ) (fault : QueryFault)
    (failures over : ℕ) (old now out : Held) (was known said : Bool) →
    IsRunOver asks (client link t) walk (course items n StepLimit w) (client mid u) false was → IsRunOver asks (client mid u) w (course left k StepLimit here) (client half v) was known → IsRunOver asks (client half v) here (course last 1 ended after) (client new z) known said →
    n + k < steps → k ≤ 1 → told ≡ w.next → AppendsItems layout items old now → PrintsLeft {A = Ended} layout left (Err fault) now out →
    Learns layout asks t link walk steps (Err fault) failures over z new old out
fails layout asks t u v z link mid half new walk w here after steps n k items left last ended told Write failures over old now out was known said first second third few one at printed part =
    refused_lines layout asks t v z link half new walk here after steps (n + k) 1 (items ++ left) last ended (Err Write) failures over old out known said
    (over_joins asks t u v link mid half walk w here n k items left StepLimit false was known first second) third (omega (arith, few)) refl (laid_part layout items left old now out printed part)
fails layout asks t u v z link mid half new walk w here after steps n k items left last ended told Memory failures over old now out was known said first second third few one at printed (some, kept) =
    without_lines layout asks t u z link mid new walk w after steps n (k + 1) items (left ++ last) ended told (Err Memory) failures over old out out was said said first (omega (arith, few)) at
    (over_joins asks u v z mid half new w here after k 1 left last ended was known said second third) (omega (arith, one)) (laid_kept layout items old now out printed kept) (Keeps-refl out) tt
fails layout asks t u v z link mid half new walk w here after steps n k items left last ended told (Exchange fault) failures over old now out was known said first second third few one at printed none = absurd none

-- a run that isn't stopped left the link as it is
pub whole_ahead : {S : Type 0} (asks : Asking S) (u : Transactions) (mid : S) (here : WalkPlace) (ended : Ended) (cause : Why) → is_stopped ended ≡ false → why_of ended ≡ Some cause →
    IsLeftAhead asks u mid here u mid cause
whole_ahead asks u mid here ended why.CaughtUp on is = (refl, refl)
whole_ahead asks u mid here ended why.StepLimit on is = (refl, refl)
whole_ahead asks u mid here ended (why.Fault fault) on is = (refl, refl)
whole_ahead asks u mid here CaughtUp why.Memory on is = absurd (cc)
whole_ahead asks u mid here StepLimit why.Memory on is = absurd (cc)
whole_ahead asks u mid here Stopped why.Memory on is = absurd (cc)
whole_ahead asks u mid here (Fault e) why.Memory on is = absurd (cc)

-- the lines of the last step are printed, and the end line, as far as there is memory and no write is refused
pub finishes : {S : Type 0} (layout : Form) (asks : Asking S) (t u z : Transactions) (link mid new : S) (walk w after : WalkPlace) (steps n j whole : ℕ) (items last : List Item) (ended : Ended) (cause : Why) (next told : ℕ)
    (result : Fetching) (failures over : ℕ) (old half out : Held) (was said : Bool) →
    IsRunOver asks (client link t) walk (course items n StepLimit w) (client mid u) false was → IsRunOver asks (client mid u) w (course last j ended after) (client new z) was said → ended ≢ Stopped →
    IsRunOver asks (client link t) walk (course (items ++ last) whole ended after) (client new z) false said → TellsMore said result → whole ≤ steps → IsRunOf cause steps whole ended → IsLeftAhead asks z new after z new cause →
    n + j ≤ steps → j ≤ 1 → next ≡ after.next → told ≡ w.next → AppendsItems layout items old half → PrintsLast layout (closing last cause next told) result half out →
    Learns layout asks t link walk steps result failures over z new old out
finishes layout asks t u z link mid new walk w after steps n j whole items last ended cause next told result failures over old half out was said first rest on all says few ends left sum one at before printed (inl (now, more, end)) =
    learns layout asks t z z link new new walk after steps whole (items ++ last) ended result failures over old out said few on all says all.2
    (tells_end layout (λ c. IsLeftAhead asks z new after z new c) (items ++ last) steps whole ended after cause next result old now out ends at left
    (laid_then layout items last old half now printed more) end)
finishes layout asks t u z link mid new walk w after steps n j whole items last ended cause next told result failures over old half out was said first rest on all says few ends left sum one at before printed (inr (inl (now, some, kept, end))) =
    let same = ap length (rest.1.1 on) in
    without_lines layout asks t u z link mid new walk w after steps n j items last ended told result failures over old now out was said said first (omega (arith, some, same, rest.1.3, sum)) before rest (omega (arith, one))
    (laid_kept layout items old half now printed kept) end says
finishes layout asks t u z link mid new walk w after steps n j whole items last ended cause next told result failures over old half out was said first rest on all says few ends left sum one at before printed (inr (inr (is, part))) =
    let P : Fetching → Type 0 = λ r. Learns layout asks t link walk steps r failures over z new old out in
    subst P (sym is) (learns layout asks t z z link new new walk after steps whole (items ++ last) ended (Err Write) failures over old out said few on all tt all.2
    (inl (few, (refl, refl), laid_part layout items last old half out printed part)))

-- ---- one step

-- what a sink that keeps items states of a put
abbrev pub Fills : {K : Type 0} → (K → List Item) → K → Option GapOf → Numbered → Bool → K → Type 0
Fills items old gap item taken new = taken ≡ true → items new ≡ items old ++ (gap_items gap ++ item_of item ∷ [])

all_filled : {K : Type 0} (items : K → List Item) (old : K) (calls : List Call) (new : K) →
    Takes (λ s gap item taken t. Fills items s gap item taken t) old calls false new → items new ≡ items old ++ put_items calls
all_filled items old [] new taken = ap items taken.0 ∙ sym (append-nil (items old))
all_filled items old (c ∷ calls) new (inl last) = absurd (let e = last.2 in cc)
all_filled items old (c ∷ calls) new (inr (mid, put, rest)) =
    let here = gap_items c.gap ++ item_of c.record_put ∷ [] in
    all_filled items mid calls new rest
    ∙ ap (λ l. l ++ put_items calls) (put refl)
    ∙ append_assoc (items old) here (put_items calls)
    ∙ ap (λ l. items old ++ l) (append_assoc (gap_items c.gap) (item_of c.record_put ∷ []) (put_items calls))

filled_whole : {K : Type 0} (items : K → List Item) (old : K) (calls : List Call) (new : K) (ended : Ended) → items old ≡ [] →
    Takes (λ s gap item taken t. Fills items s gap item taken t) old calls (is_stopped ended) new → ended ≢ Stopped → items new ≡ put_items calls
filled_whole items old calls new ended none taken on =
    let P : Bool → Type 0 = λ b. Takes (λ s gap item t u. Fills items s gap item t u) old calls b new in
    all_filled items old calls new (subst P (runs_on ended on) taken) ∙ ap (λ l. l ++ put_items calls) none

-- what a step into such a sink brought, seen over the link below
pub over_step : {S T K : Type 0} (f : S → T) (asks : Asking S) (other : Asking T) → Maps f asks other → (items : K → List Item) (last : S → Option (List ℕ)) →
    ((a b : S) (octets datagram : List ℕ) → asks a octets (Ok datagram) b → last b ≡ Some datagram) → (t z : Transactions) (failures more : ℕ)
    (old new : S) (sink left : K) (w after : WalkPlace) (ended : Ended) (was said : Bool) → said ≡ more_last was ended (last new) → items sink ≡ [] →
    BroughtIntoBy asks (sink_filled (λ s gap item taken t. Fills items s gap item taken t) sink left) (walk_by old t w) 1 ended (walk_by new z after) →
    Delivery (sink_filled (λ s gap item taken t. Fills items s gap item taken t) sink left) (ours_around never never) (losses_of t.retries failures more) w after 1 ended → Told asks (towards t.route) t.retries ended after new →
    (brought : List Item) × (ended ≢ Stopped → items left ≡ brought) × IsRunOver other (client (f old) t) w (course brought 1 ended after) (client (f new) z) was said
over_step f asks other maps items last keeps t z failures more old new sink left w after ended was said says none (calls, taken, few, gap, brought) (again, as_well, less, gaps, run, enough) told = (
  put_items calls,
  filled_whole items sink calls left ended none taken,
  (
    (
      brought.0,
      brought_maps f asks other maps t z old w 1 brought.0 (put_items calls) ended after new brought.1,
      says ∙ step_more asks last keeps was t z old new w after brought.0 (put_items calls) ended brought.1,
    ),
    (
      put_items again,
      λ on. sym (filled_whole items sink again left ended none as_well on) ∙ filled_whole items sink calls left ended none taken on,
      (run.0, λ r M H s ours. absurd ours),
      omega (arith, put_length again, less, gaps),
      λ limit. omega (arith, put_length again, enough limit),
    ),
    told_maps f asks other maps (towards t.route) t.retries ended after new told,
  ),
)

-- what is printed beside a run
pub beside : {S A B : Type 0} (asks : Asking S) (pend : S → Pending) (link : S → A) (out : S → B) →
    ((a b : S) (octets : List ℕ) (answer : Result (List ℕ) Loss) → asks a octets answer b → PrintsOn (pend a) (pend b) × (link b ≡ link a) × (out b ≡ out a)) →
    (path : Path) (retries : ℕ) (old : S) (before : WalkPlace) (steps : ℕ) (came : List Came) (items : List Item) (ended : Ended) (after : WalkPlace) (new : S) →
    Brought (reaching asks path retries) (walk_over old before) steps came items ended (walk_over new after) → PrintsOn (pend old) (pend new) × (link new ≡ link old) × (out new ≡ out old)
beside {S = S} asks pend link out each path retries old before steps came items ended after new brought =
    let R : S → S → Type 0 = λ a b. PrintsOn (pend a) (pend b) × (link b ≡ link a) × (out b ≡ out a) in
    brought_keeps R asks (λ a. (prints_itself (pend a), refl, refl))
    (λ a b c h k. (prints_goes (pend a) (pend b) (pend c) h.0 k.0, k.1 ∙ h.1, k.2 ∙ h.2)) each path retries old before steps came items ended after new brought
