-- A run that has nobody to poll.
use Rattle.std.proofs.Common.{◌≡◌, ◌⊎◌, inl, inr, ℕ, Bool, true, false, List, [], ◌∷◌, map, max, None, Some, refl, sym, ap, subst, ◌∙◌}
use Rattle.std.specs.List.{slice_get}
use Rattle.bac_drive.specs.Chain.{Chain}
use Rattle.bac_ports.specs.Port.{Receiving, Sending}
use Rattle.bac_drive.specs.Event.{Event, Kept, Printed, Read, Sent, Waited, Warned}
use Rattle.bac_drive.specs.Happens.{Acts, Changes, Does, Happens, IsTold, Scene}
use Rattle.bac_drive.specs.declared.machine.Next.{Next}
use Rattle.bac_drive.specs.declared.machine.Next.TheVariants as next
use Rattle.bac_batch.specs.Batch.{Answers, Batched, Ends, GivesBatched}
use Rattle.bac_site_poller.specs.Seat.{seat_read}
use Rattle.bac_site_poller.specs.Site.{GivesNews, GivesSite, GivesWaiting, IsActed, NoneActs, Rests, SiteState}
use Rattle.bac_site_poller.specs.SiteLaws.{site_acts}
use Rattle.bac_site_poller.specs.declared.news.News.{News}
use Rattle.bac_site_poller.specs.declared.seat.Seat.{Seat}
use Rattle.bac_keeping.specs.Idle.{IdleAsksNobody}
use Rattle.bac_keeping.specs.Keeping.{IsNamed, at_first}

-- it has nobody to ask, and nothing to put or to tell
record IsIdle (b : Batched SiteState) : Type 0 where
  active : b.machine.active ≡ []
  waiting : b.machine.waiting ≡ []
  news : b.machine.news ≡ []
  puts : b.puts ≡ []
  behind : b.behind ≡ []

-- nobody is at any place of an empty list
nobody : {P : Type 0} (seats : List Seat) (place : ℕ) (s : Seat) → seats ≡ [] → slice_get seats place ≡ Some s → P
nobody seats place s none at = absurd (let e : None ≡ Some s = sym (ap (λ (l : List Seat). slice_get l place) none) ∙ at in cc)

abbrev IsReadOrEnd : Next → Type 0
IsReadOrEnd wanted = (wanted ≡ next.Read) ⊎ (wanted ≡ next.End)

rests : (m : SiteState) (wanted : Next) → m.active ≡ [] → Rests m wanted → IsReadOrEnd wanted
rests m (next.Wait within) none (due, nearest, is) = nobody m.active nearest.1.0 nearest.1.1 none nearest.1.2
rests m next.End none rest = inr refl
rests m (next.Send datagram to) none rest = absurd rest
rests m next.Read none rest = absurd rest
rests m (next.Keep puts) none rest = absurd rest
rests m (next.Print text) none rest = absurd rest
rests m (next.Warn text) none rest = absurd rest

site_gives : (m mid : SiteState) (wanted : Next) → m.active ≡ [] → m.waiting ≡ [] → m.news ≡ [] → GivesSite m wanted mid → IsReadOrEnd wanted × (mid ≡ m)
site_gives m mid wanted active waiting news gives = go (subst (λ (l : List News). GivesNews l m wanted mid) news gives)
  where
    waits : (b : Bool) → GivesWaiting b m wanted mid → IsReadOrEnd wanted × (mid ≡ m)
    waits true (is, same) = (inl is, same)
    waits false (inl (place, s, at, asked, from)) = nobody m.waiting place s waiting at
    waits false (inr (none, rest, same)) = (rests m wanted active rest, same)

    go : IsActed m wanted mid ⊎ (NoneActs m.active × GivesWaiting m.is_stale m wanted mid) → IsReadOrEnd wanted × (mid ≡ m)
    go (inl (place, s, at, acts, from)) = nobody m.active place s active at
    go (inr (none, so)) = waits m.is_stale so

answered : (b new : Batched SiteState) (wanted given : Next) → b.puts ≡ [] → IsReadOrEnd wanted → Answers wanted b given new → IsReadOrEnd given × (new ≡ b)
answered b new wanted given none (inl is) x = let it = subst (λ (w : Next). Answers w b given new) is x in (inl it.0, it.1)
answered b new wanted given none (inr is) x = ends (subst (λ (w : Next). Answers w b given new) is x)
  where
    ends : Ends b given new → IsReadOrEnd given × (new ≡ b)
    ends (inl (empty, done)) = (inr done.0, done.1)
    ends (inr (holds, before)) = absurd (holds none)

idle_gives : (old new : Batched SiteState) (given : Next) → IsIdle old → GivesBatched GivesSite old given new → IsReadOrEnd given × (new ≡ old)
idle_gives old new given idle (inl (others, puts, behind, is)) = absurd (let e : [] ≡ given ∷ others = sym idle.behind ∙ behind in cc)
idle_gives old new given idle (inr (none, (wanted, mid, gives, answers))) =
    let it = site_gives old.machine mid wanted idle.active idle.waiting idle.news gives in
    let that = answered (record old { machine = mid }) new wanted given idle.puts it.0 answers in
    (that.0, that.1 ∙ ap (λ (m : SiteState). record old { machine = m }) it.1)

-- so it does nothing but read the clock
reads_only : (wanted : Next) (e : Event) → IsReadOrEnd wanted → Does wanted e → (ms : ℕ) × (e ≡ Read ms)
reads_only wanted e (inl is) does = go e (subst (λ (w : Next). Does w e) is does)
  where
    go : (e : Event) → Does next.Read e → (ms : ℕ) × (e ≡ Read ms)
    go (Read ms) x = (ms, refl)
    go (Sent octets to answer) x = absurd x
    go (Waited within heard) x = absurd x
    go (Kept puts) x = absurd x
    go (Printed text) x = absurd x
    go (Warned text) x = absurd x
reads_only wanted e (inr is) does = go e (subst (λ (w : Next). Does w e) is does)
  where
    go : (e : Event) → Does next.End e → (ms : ℕ) × (e ≡ Read ms)
    go (Read ms) x = absurd x
    go (Sent octets to answer) x = absurd x
    go (Waited within heard) x = absurd x
    go (Kept puts) x = absurd x
    go (Printed text) x = absurd x
    go (Warned text) x = absurd x

module _ {P C : Type 0} (sends : P → List ℕ → List ℕ → Sending → P → Type 0) (receives : P → ℕ → Receiving → P → Type 0) (tells : C → ℕ → C → Type 0) where
  abbrev acts : Acts (Batched SiteState) P C
  acts = site_acts sends receives tells

  abbrev Scenes : Type 0
  Scenes = Scene (Batched SiteState) P C

  -- nothing was sent, put or printed
  record IsUntouched (old new : Scenes) : Type 0 where
    port : new.port ≡ old.port
    database : new.database ≡ old.database
    output : new.output ≡ old.output
    errors : new.errors ≡ old.errors

  idle_read : (old mid new : Batched SiteState) (ms : ℕ) → IsIdle old → mid ≡ old → acts.reads mid ms new → IsIdle new
  idle_read old mid new ms idle same (m, read, is) = record {
    active = ap (λ (b : Batched SiteState). b.machine.active) is ∙ ap (λ (s : SiteState). s.active) read ∙ none (seat_read (max mid.machine.time ms)) mid.machine.active (subst IsIdle (sym same) idle).active;
    waiting = ap (λ (b : Batched SiteState). b.machine.waiting) is ∙ ap (λ (s : SiteState). s.waiting) read ∙ (subst IsIdle (sym same) idle).waiting;
    news = ap (λ (b : Batched SiteState). b.machine.news) is ∙ ap (λ (s : SiteState). s.news) read ∙ (subst IsIdle (sym same) idle).news;
    puts = ap (λ (b : Batched SiteState). b.puts) is ∙ (subst IsIdle (sym same) idle).puts;
    behind = ap (λ (b : Batched SiteState). b.behind) is ∙ (subst IsIdle (sym same) idle).behind;
  }
    where
      none : (f : Seat → Seat) (seats : List Seat) → seats ≡ [] → map f seats ≡ []
      none f seats empty = ap (map f) empty

  idle_step : (old new : Scenes) (e : Event) → IsIdle old.machine → Happens acts old e new → IsIdle new.machine × IsUntouched old new
  idle_step old new e idle (wanted, mid, gives, does, told, changes) =
      let it = idle_gives old.machine mid wanted idle gives in
      let read = reads_only wanted e it.0 does in
      let told_so : IsTold acts mid (Read read.0) new.machine = subst (λ (x : Event). IsTold acts mid x new.machine) read.1 told in
      let left : Changes acts old (Read read.0) new = subst (λ (x : Event). Changes acts old x new) read.1 changes in (
        idle_read old.machine mid new.machine read.0 idle it.1 told_so,
        record {
          port = ap (λ (s : Scenes). s.port) left.1;
          database = ap (λ (s : Scenes). s.database) left.1;
          output = ap (λ (s : Scenes). s.output) left.1;
          errors = ap (λ (s : Scenes). s.errors) left.1;
        },
      )

  idle_run : (es : List Event) (old new : Scenes) → IsIdle old.machine → Chain (Happens acts) old es new → IsUntouched old new
  idle_run [] old new idle same = record {
    port = ap (λ (s : Scenes). s.port) same;
    database = ap (λ (s : Scenes). s.database) same;
    output = ap (λ (s : Scenes). s.output) same;
    errors = ap (λ (s : Scenes). s.errors) same;
  }
  idle_run (e ∷ es) old new idle (mid, happens, more) =
      let one = idle_step old mid e idle happens in
      let rest = idle_run es mid new one.0 more in
      record {
        port = rest.port ∙ one.1.port;
        database = rest.database ∙ one.1.database;
        output = rest.output ∙ one.1.output;
        errors = rest.errors ∙ one.1.errors;
      }

  pub nobody_asked : IdleAsksNobody acts
  nobody_asked run by left old new status none (begun, site, last, set, (es, end, chain, (gives, is)), told) =
      let it = idle_run es (at_first by site begun) end (record { active = ap (λ (s : SiteState). s.active) set.site_is.is; waiting = none begun site set; news = ap (λ (s : SiteState). s.news) set.site_is.is; puts = refl; behind = refl }) chain in (
        ap (λ (s : Scenes). s.port) is ∙ it.port,
        subst (IsNamed run old) (sym (ap (λ (s : Scenes). s.database) is ∙ it.database)) set.named,
        ap (λ (s : Scenes). s.output) is ∙ it.output,
        ap (λ (s : Scenes). s.errors) is ∙ it.errors,
      )
