-- The device that the lines before the first event describe.
use Rattle.std.proofs.Common.{◌≡◌, refl, ap, sym, ◌∙◌, subst, ℕ, ◌+◌, ◌⊎◌, inl, inr, Bool, true, false, if◌then◌else◌, List, [], ◌∷◌, ◌++◌, take, drop, Option, Some, None, Result, Ok, Err, IfErr, append_assoc, append-nil}
use Rattle.std.proofs.lemmas.List.{take-append-drop}
use Rattle.std.specs.Str.Lines.{lines}
use Rattle.bac_objects.specs.Build.{Refuses, build_fault, built}
use Rattle.bac_objects.specs.State as device
use Rattle.bac_objects.specs.declared.build.BuildFault.{BuildFault}
use Rattle.bac_objects.specs.declared.build.BuildFault.TheVariants as build
use Rattle.bac_objects.specs.declared.build.Misfit.{Misfit}
use Rattle.bac_script.specs.Configuration.{Plan, with_read, with_text}
use Rattle.bac_script.specs.Fault.{replay_fault}
use Rattle.bac_script.specs.Reason.{IsUnbuilt, IsUnfit, IsUnfitLine, described, with_next}
use Rattle.bac_script.specs.Replay.{Played, play, then_play}
use Rattle.bac_script.specs.Script.Line.{ScriptEvent, ScriptLine, Device, Object, Happens, is_silent, line_in}
use Rattle.bac_script.specs.Script.Lines.{ended_lines, open_line}
use Rattle.bac_script.specs.Session.{SessionState, Step, Empty, Described, Running, end_fault, first_event, happens, on_read, step}
use Rattle.bac_script.specs.Stops.{ScriptStops, Stops}
use Rattle.bac_script.specs.declared.replay.fault.ReplayFault.{ReplayFault}
use Rattle.bac_script.specs.declared.replay.fault.ReplayFault.TheVariants.{BadLine, Build, Memory}
use Rattle.bac_script.proofs.LineLemmas.{ended_lines-longer, lines-parts}

-- what is described, as what the lines so far have made
abbrev session_of : Plan → SessionState
session_of None = Empty
session_of (Some plan) = Described plan.0 plan.1

-- ---- a line that describes something

abbrev made : Plan → Step
made plan = Ok ([], session_of plan)

added : (p q : Plan) (line : Option ScriptLine) → with_read p line ≡ Some q → on_read (session_of p) line ≡ made q
added p q None h = absurd cc
added None q (Some (Device line)) h = let same : Some (line, []) ≡ q = cc in ap made same
added (Some plan) q (Some (Device line)) h = absurd cc
added None q (Some (Object line)) h = absurd cc
added (Some plan) q (Some (Object line)) h = let same : Some (plan.0, plan.1 ++ line ∷ []) ≡ q = cc in ap made same
added None q (Some (Happens event)) h = absurd cc
added (Some plan) q (Some (Happens event)) h = absurd cc

stepped : (p q : Plan) (text : List ℕ) → with_text p text ≡ Some q → step (session_of p) text ≡ made q
unfolding with_text step
stepped p q text h = either (is_silent text) h
  where
    either : (b : Bool) → (if b then Some p else with_read p (line_in text)) ≡ Some q → (if b then made p else on_read (session_of p) (line_in text)) ≡ made q
    either true k = let same : p ≡ q = cc in ap made same
    either false k = added p q (line_in text) k

-- ---- lines that end with a device that is described

-- how it ends, which is neither by a bad line nor with a device that runs
module _ (Q : Result SessionState ReplayFault → Type 0) (never_bad : (n : ℕ) → Q (Err (BadLine n)) → ⊥) (never_runs : (d : device.State) → Q (Ok (Running d)) → ⊥) where
  running_read : (n : ℕ) (d : device.State) (line : Option ScriptLine) (rest : SessionState → Played) → ((e : device.State) → Q (rest (Running e)).1 → ⊥)
      → Q (then_play n (on_read (Running d) line) rest).1 → ⊥
  running_read n d None rest more h = never_bad n h
  running_read n d (Some (Device line)) rest more h = never_bad n h
  running_read n d (Some (Object line)) rest more h = never_bad n h
  running_read n d (Some (Happens event)) rest more h = more (happens d event).1 h

  running_text : (n : ℕ) (d : device.State) (text : List ℕ) (rest : SessionState → Played) → ((e : device.State) → Q (rest (Running e)).1 → ⊥)
      → Q (then_play n (step (Running d) text) rest).1 → ⊥
  unfolding step
  running_text n d text rest more h = either (is_silent text) h
    where
      either : (b : Bool) → Q (then_play n (if b then Ok ([], Running d) else on_read (Running d) (line_in text)) rest).1 → ⊥
      either true k = more d k
      either false k = running_read n d (line_in text) rest more k

  running_ends : (n : ℕ) (d : device.State) (all : List (List ℕ)) → Q (play n (Running d) all).1 → ⊥
  running_ends n d [] h = never_runs d h
  running_ends n d (x ∷ more) h = running_text n d x (λ t. play (n + 1) t more) (λ e. running_ends (n + 1) e more) h

  event_stops : (n : ℕ) (fault : Option BuildFault) (d : device.State) (event : ScriptEvent) (rest : SessionState → Played) → ((e : device.State) → Q (rest (Running e)).1 → ⊥)
      → Q (then_play n (first_event fault d event) rest).1 → (f : BuildFault) × (fault ≡ Some f) × Q (Err (Build f))
  event_stops n None d event rest more h = absurd (more (happens d event).1 h)
  event_stops n (Some f) d event rest more h = (f, refl, h)

  read_stops : (n : ℕ) (p : Plan) (line : Option ScriptLine) (rest : SessionState → Played) → ((e : device.State) → Q (rest (Running e)).1 → ⊥)
      → with_read p line ≡ None → Q (then_play n (on_read (session_of p) line) rest).1 → (f : BuildFault) × IsUnbuilt p f × Q (Err (Build f))
  read_stops n None None rest more none h = absurd (never_bad n h)
  read_stops n (Some plan) None rest more none h = absurd (never_bad n h)
  read_stops n None (Some (Device line)) rest more none h = absurd cc
  read_stops n (Some plan) (Some (Device line)) rest more none h = absurd (never_bad n h)
  read_stops n None (Some (Object line)) rest more none h = absurd (never_bad n h)
  read_stops n (Some plan) (Some (Object line)) rest more none h = absurd cc
  read_stops n None (Some (Happens event)) rest more none h = absurd (never_bad n h)
  read_stops n (Some plan) (Some (Happens event)) rest more none h = event_stops n (build_fault plan.0 plan.1) (built plan.0 plan.1) event rest more h

  text_stops : (n : ℕ) (p : Plan) (text : List ℕ) (rest : SessionState → Played) → ((e : device.State) → Q (rest (Running e)).1 → ⊥)
      → with_text p text ≡ None → Q (then_play n (step (session_of p) text) rest).1 → (f : BuildFault) × IsUnbuilt p f × Q (Err (Build f))
  unfolding with_text step
  text_stops n p text rest more none h = either (is_silent text) none h
    where
      either : (b : Bool) → (if b then Some p else with_read p (line_in text)) ≡ None → Q (then_play n (if b then made p else on_read (session_of p) (line_in text)) rest).1 → (f : BuildFault) × IsUnbuilt p f × Q (Err (Build f))
      either true k j = absurd cc
      either false k j = read_stops n p (line_in text) rest more k j

  -- an event stops them, or they describe the device to the end
  line_ends : (n : ℕ) (p : Plan) (x : List ℕ) (all more : List (List ℕ)) (o : Option Plan) → with_text p x ≡ o → Q (play n (session_of p) (x ∷ all)).1
      → ((q : Plan) → Q (play (n + 1) (session_of q) all).1 → ((f : BuildFault) × IsUnbuilt (described q (all ++ more)) f × Q (Err (Build f))) ⊎ Q (Ok (session_of (described q all))))
      → ((f : BuildFault) × IsUnbuilt (described p (x ∷ (all ++ more))) f × Q (Err (Build f))) ⊎ Q (Ok (session_of (described p (x ∷ all))))
  line_ends n p x all more None is h next =
      let stop = text_stops n p x (λ t. play (n + 1) t all) (λ e. running_ends (n + 1) e all) is h in
      inl (subst (λ (o : Option Plan). (f : BuildFault) × IsUnbuilt (with_next p o (λ r. described r (all ++ more))) f × Q (Err (Build f))) (sym is) stop)
  line_ends n p x all more (Some q) is h next =
      let after : Q (play (n + 1) (session_of q) all).1 = subst (λ (s : Step). Q (then_play n s (λ t. play (n + 1) t all)).1) (stepped p q x is) h in
      subst (λ (o : Option Plan). ((f : BuildFault) × IsUnbuilt (with_next p o (λ r. described r (all ++ more))) f × Q (Err (Build f))) ⊎ Q (Ok (session_of (with_next p o (λ r. described r all))))) (sym is) (next q after)

  all_end : (n : ℕ) (p : Plan) (all more : List (List ℕ)) → Q (play n (session_of p) all).1
      → ((f : BuildFault) × IsUnbuilt (described p (all ++ more)) f × Q (Err (Build f))) ⊎ Q (Ok (session_of (described p all)))
  all_end n p [] more h = inr h
  all_end n p (x ∷ all) more h = line_ends n p x all more (with_text p x) refl h (λ q k. all_end (n + 1) q all more k)

-- ---- a device that can't be built, at the first event or at the end

unbuilt_event : (all more : List (List ℕ)) (f : BuildFault) → (play 1 Empty all).1 ≡ Err (Build f) → IsUnbuilt (described None (all ++ more)) f
unbuilt_event all more f h = told (all_end (λ r. r ≡ Err (Build f)) (λ n e. cc) (λ d e. cc) 1 None all more h)
  where
    told : ((g : BuildFault) × IsUnbuilt (described None (all ++ more)) g × (let r : Result SessionState ReplayFault = Err (Build g) in r ≡ Err (Build f))) ⊎ (Ok (session_of (described None all)) ≡ Err (Build f)) → IsUnbuilt (described None (all ++ more)) f
    told (inl (g, unbuilt, e)) = subst (IsUnbuilt (described None (all ++ more))) (let same : g ≡ f = cc in same) unbuilt
    told (inr e) = absurd cc

unbuilt_of : (p : Plan) (f : BuildFault) → end_fault (session_of p) ≡ Some f → IsUnbuilt p f
unbuilt_of None f h = absurd cc
unbuilt_of (Some plan) f h = h

abbrev EndsWith : BuildFault → Result SessionState ReplayFault → Type 0
EndsWith f r = (t : SessionState) × (r ≡ Ok t) × (end_fault t ≡ Some f)

never_ran : (f : BuildFault) (d : device.State) (t : SessionState) (r : Result SessionState ReplayFault) → r ≡ Ok (Running d) → r ≡ Ok t → end_fault t ≡ Some f → ⊥
never_ran f d Empty r ran e h = cc
never_ran f d (Described line lines) r ran e h = cc
never_ran f d (Running other) r ran e h = cc

unbuilt_end : (all : List (List ℕ)) (f : BuildFault) (t : SessionState) → (play 1 Empty all).1 ≡ Ok t → end_fault t ≡ Some f → IsUnbuilt (described None all) f
unbuilt_end all f t h fault = told (all_end (EndsWith f) (λ n e. let wrong = e.1 in cc) (λ d e. never_ran f d e.0 (Ok (Running d)) refl e.1 e.2) 1 None all [] (t, h, fault))
  where
    told : ((g : BuildFault) × IsUnbuilt (described None (all ++ [])) g × EndsWith f (Err (Build g))) ⊎ EndsWith f (Ok (session_of (described None all))) → IsUnbuilt (described None all) f
    told (inl (g, unbuilt, (u, e, k))) = absurd cc
    told (inr (u, e, k)) = unbuilt_of (described None all) f (let same : session_of (described None all) ≡ u = cc in ap end_fault same ∙ k)

-- ---- why a replay stops

refused : (e f : BuildFault) (said : Option BuildFault) → Build f ≡ replay_fault e → Refuses e said → said ≡ Some f
refused build.BadInstance f said is h = let same : build.BadInstance ≡ f = cc in h ∙ ap Some same
refused build.DuplicateId f said is h = let same : build.DuplicateId ≡ f = cc in h ∙ ap Some same
refused build.BadName f said is h = let same : build.BadName ≡ f = cc in h ∙ ap Some same
refused build.DuplicateName f said is h = let same : build.DuplicateName ≡ f = cc in h ∙ ap Some same
refused build.BadStates f said is h = let same : build.BadStates ≡ f = cc in h ∙ ap Some same
refused build.BadDefault f said is h = let same : build.BadDefault ≡ f = cc in h ∙ ap Some same
refused build.BadCapacity f said is h = let same : build.BadCapacity ≡ f = cc in h ∙ ap Some same
refused build.BadInterval f said is h = let same : build.BadInterval ≡ f = cc in h ∙ ap Some same
refused build.BadReplySize f said is h = let same : build.BadReplySize ≡ f = cc in h ∙ ap Some same
refused build.Memory f said is h = absurd cc

cut_unbuilt : (old new : Option (List ℕ)) (text front : List ℕ) (more : List (List ℕ)) (g : ReplayFault) → lines text ≡ ended_lines front ++ more → Stops old new Empty (ended_lines front) g
    → (f : BuildFault) → g ≡ Build f → IsUnbuilt (described None (lines text)) f
cut_unbuilt old new text front more g split h f is =
    let stops : Stops old new Empty (ended_lines front) (Build f) = subst (Stops old new Empty (ended_lines front)) is h in
    subst (λ (l : List (List ℕ)). IsUnbuilt (described None l) f) (sym split) (unbuilt_event (ended_lines front) more f stops.0)

whole_unbuilt : (old new : Option (List ℕ)) (text : List ℕ) (g : ReplayFault) → ScriptStops old new text g → (f : BuildFault) → g ≡ Build f → IsUnbuilt (described None (lines text)) f
whole_unbuilt old new text g (inl h) f is =
    let stops : Stops old new Empty (lines text) (Build f) = subst (Stops old new Empty (lines text)) is h in
    subst (λ (l : List (List ℕ)). IsUnbuilt (described None l) f) (append-nil (lines text)) (unbuilt_event (lines text) [] f stops.0)
whole_unbuilt old new text g (inr (t, e, same, played, told)) f is = unbuilt_end (lines text) f t played.state (refused e f (end_fault t) (sym is ∙ same) told)

pub cut_result : (old new : Option (List ℕ)) (text front : List ℕ) (more : List (List ℕ)) (g : ReplayFault) (r : Result (Unit {0}) ReplayFault) → r ≡ Err g → lines text ≡ ended_lines front ++ more
    → Stops old new Empty (ended_lines front) g → (f : BuildFault) → r ≡ Err (Build f) → IsUnbuilt (described None (lines text)) f
cut_result old new text front more g r told split h f is = cut_unbuilt old new text front more g split h f (let same : Err g ≡ Err (Build f) = sym told ∙ is in cc)

pub whole_result : (old new : Option (List ℕ)) (text : List ℕ) (r : Result (Unit {0}) ReplayFault) → IfErr r (ScriptStops old new text) → (f : BuildFault) → r ≡ Err (Build f) → IsUnbuilt (described None (lines text)) f
whole_result old new text (Ok x) h f is = absurd cc
whole_result old new text (Err g) h f is = whole_unbuilt old new text g h f (let same : g ≡ Build f = cc in same)

-- the ended lines of a front are the first lines
pub front_lines : (limit : ℕ) (text : List ℕ) → (more : List (List ℕ)) × (lines text ≡ ended_lines (take limit text) ++ more)
front_lines limit text =
    let (more, e) = ended_lines-longer (take limit text) (drop limit text) in
    let whole : ended_lines text ≡ ended_lines (take limit text) ++ more = ap ended_lines (sym (take-append-drop limit text)) ∙ e in
    (more ++ open_line text, lines-parts text ∙ ap (λ (l : List (List ℕ)). l ++ open_line text) whole ∙ append_assoc (ended_lines (take limit text)) more (open_line text))

-- ---- its line

pub unfit : (plan : Plan) (f : BuildFault) (m : Misfit) → IsUnfitLine plan m → IsUnbuilt plan f → IsUnfit plan f m
unfit None f m line unbuilt = line
unfit (Some plan) f m line unbuilt = (line.0, let same : m.fault ≡ f = told (build_fault plan.0 plan.1) line.1 unbuilt in same)
  where
    told : (said : Option BuildFault) → said ≡ Some m.fault → said ≡ Some f → m.fault ≡ f
    told said a b = let same : Some m.fault ≡ Some f = sym a ∙ b in cc
