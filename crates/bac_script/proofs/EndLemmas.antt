-- From the lines that were played to the script that was read.
use Rattle.std.proofs.Common.{◌≡◌, ℕ, ◌+◌, ◌-◌, ◌≤◌, ◌<◌, Bool, true, false, cond, nat_le, List, [], ◌∷◌, ◌++◌, length, take, drop, Option, None, Some, Result, Ok, Err, refl, sym, ap, subst, ◌∙◌, arith, append_assoc, append-nil, inl, inr, OnOk, IfErr, length-append, option_map}
use Rattle.std.proofs.KnownBytes.{Appends-nil, Appends-kept}
use Rattle.std.proofs.Math.Seq.{take-add}
use Rattle.std.proofs.lemmas.List.{take_at, drop_at, take-append-le}
use Rattle.std.proofs.lemmas.Bool.{le-leb, lt-leb}
use Rattle.bac_script.proofs.LineLemmas.{ended_lines-longer, lines-parts}
use Rattle.std.specs.Io.KnownBytes.{Appends, Consumes, IsAtEnd, Keeps}
use Rattle.bac_script.specs.Script.Lines.{last_if_any, ended_lines, open_line}
use Rattle.std.specs.Str.Lines.{lines}
use Rattle.bac_script.specs.Replay.{Played, play, then_play, at_end, past_limit, played_lines, text_of, fault_of_script, PlaysAll, Ends, Replays}
use Rattle.bac_script.specs.Fault.{replay_fault, Refusal}
use Rattle.bac_script.specs.Session.{step, end_fault, SessionState, Empty}
use Rattle.bac_script.specs.Stops.{FaultStops, Stops, ScriptStops}
use Rattle.bac_print.specs.Output.{AppendsPart}
use Rattle.bac_print.proofs.Octets.{whole_part}
use Rattle.bac_objects.specs.Build.{Refuses}
use Rattle.bac_objects.specs.declared.build.BuildFault.{BuildFault}
use Rattle.bac_objects.specs.declared.build.BuildFault.TheVariants as build
use Rattle.bac_script.specs.declared.replay.fault.ReplayFault.{ReplayFault}
use Rattle.bac_script.specs.declared.replay.fault.ReplayFault.TheVariants.{BadLine, Build, Read, TooLong, Write, Memory}
use Rattle.bac_script.proofs.PlayLemmas.{Progress, Progress-more, Progress-end}

-- ---- lines that are followed by more lines

abbrev SamePlay : Played → Played → Type 0
SamePlay p q = (p.0 ≡ q.0) × (p.1 ≡ q.1)

SamePlay-step : (r : Result (List ℕ × SessionState) Refusal) (n : ℕ) (f g : SessionState → Played) (e : ReplayFault)
    → (then_play n r f).1 ≡ Err e → ((u : SessionState) → (f u).1 ≡ Err e → SamePlay (g u) (f u)) → SamePlay (then_play n r g) (then_play n r f)
SamePlay-step (Ok x) n f g e stopped more = let next = more x.1 stopped in (ap (λ l. x.0 ++ l) next.0, next.1)
SamePlay-step (Err d) n f g e stopped more = (refl, refl)

-- nothing is played after a fault
pub play-stopped : (before after : List (List ℕ)) (n : ℕ) (s : SessionState) (e : ReplayFault) → (play n s before).1 ≡ Err e → SamePlay (play n s (before ++ after)) (play n s before)
play-stopped [] after n s e stopped = cc
play-stopped (x ∷ more) after n s e stopped =
    SamePlay-step (step s x) n (λ u. play (n + 1) u more) (λ u. play (n + 1) u (more ++ after)) e stopped (λ u err. play-stopped more after (n + 1) u e err)

abbrev Longer : List ℕ → List ℕ → Type 0
Longer long short = (more : List ℕ) × (long ≡ short ++ more)

Longer-step : (r : Result (List ℕ × SessionState) Refusal) (n : ℕ) (f g : SessionState → Played) → ((u : SessionState) → Longer (g u).0 (f u).0) → Longer (then_play n r g).0 (then_play n r f).0
Longer-step (Ok x) n f g more = let next = more x.1 in (next.0, ap (λ l. x.0 ++ l) next.1 ∙ sym (append_assoc x.0 (f x.1).0 next.0))
Longer-step (Err d) n f g more = ([], refl)

-- the text of the first lines comes first
pub play-longer : (before after : List (List ℕ)) (n : ℕ) (s : SessionState) → Longer (play n s (before ++ after)).0 (play n s before).0
play-longer [] after n s = ((play n s after).0, refl)
play-longer (x ∷ more) after n s = Longer-step (step s x) n (λ u. play (n + 1) u more) (λ u. play (n + 1) u (more ++ after)) (λ u. play-longer more after (n + 1) u)

AppendsPart-longer : (old new : Option (List ℕ)) (short long : List ℕ) → Longer long short → AppendsPart old new short → AppendsPart old new long
AppendsPart-longer old new short long (more, is) (written, left, cut, appended) =
    (written, left ++ more, is ∙ ap (λ l. l ++ more) cut ∙ append_assoc written left more, appended)

module _ (old new : Option (List ℕ)) (s : SessionState) (all first more : List (List ℕ)) (is : all ≡ first ++ more) where
  fault_more : (f : ReplayFault) → FaultStops old new s first f → FaultStops old new s all f
  fault_more f (stopped, text) =
      let same = play-stopped first more 1 s f stopped in
      subst (λ l. FaultStops old new s l f) (sym is) (same.1 ∙ stopped, subst (Appends old new) (sym same.0) text)

  pub Stops-more : (f : ReplayFault) → Stops old new s first f → Stops old new s all f
  Stops-more (BadLine n) h = fault_more (BadLine n) h
  Stops-more (Build f) h = fault_more (Build f) h
  Stops-more Read h = h
  Stops-more TooLong h = h
  Stops-more Write h = subst (λ l. AppendsPart old new (play 1 s l).0) (sym is) (AppendsPart-longer old new _ _ (play-longer first more 1 s) h)
  Stops-more Memory (before, after, t, split, played) = (before, after ++ more, t, is ∙ ap (λ l. l ++ more) split ∙ append_assoc before after more, played)

-- ---- the last line of a script

last_is : (rest : List ℕ) → 0 < length rest → last_if_any (rest ∷ []) ≡ rest ∷ []
last_is [] h = absurd (omega arith)
last_is (b ∷ bs) h = refl

last_is_none : (rest : List ℕ) → length rest ≡ 0 → last_if_any (rest ∷ []) ≡ []
last_is_none [] h = refl
last_is_none (b ∷ bs) h = absurd (omega arith)

module _ (old mid : Option (List ℕ)) (s : SessionState) (script rest : List ℕ) (number : ℕ) (t : SessionState) (open-is : open_line script ≡ last_if_any (rest ∷ [])) (played : PlaysAll old mid s (ended_lines script) t) where
  pub no_last_line : length rest ≡ 0 → PlaysAll old mid s (lines script) t
  no_last_line h =
      let same : lines script ≡ ended_lines script = lines-parts script ∙ ap (λ l. ended_lines script ++ l) (open-is ∙ last_is_none rest h) ∙ append-nil (ended_lines script) in
      subst (λ l. PlaysAll old mid s l t) (sym same) played

  pub last_line : 0 < length rest → number ≡ 1 + length (ended_lines script) → Progress old mid s (lines script) (rest ∷ []) number t
  last_line h counted =
      record { before = ended_lines script; split = lines-parts script ∙ ap (λ l. ended_lines script ++ l) (open-is ∙ last_is rest h); counted = counted; played = played }

pub Stops-ended : (old new : Option (List ℕ)) (s : SessionState) (script : List ℕ) (f : ReplayFault) → Stops old new s (ended_lines script) f → Stops old new s (lines script) f
Stops-ended old new s script f h = Stops-more old new s (lines script) (ended_lines script) (open_line script) (lines-parts script) f h

-- the last line was played
pub last_played : (old mid new : Option (List ℕ)) (s : SessionState) (all : List (List ℕ)) (line : List ℕ) (number : ℕ) (t u : SessionState) → Progress old mid s all (line ∷ []) number t
    → (text : List ℕ) × (step t line ≡ Ok (text, u)) × Appends mid new text → PlaysAll old new s all u
last_played old mid new s all line number t u p (text, stepped, written) = (Progress-end (Progress-more old mid new s all line [] number t p text u stepped written)).0

-- ---- the script that was read

-- the two forms of a script's end
fault_by : (b : Bool) (all some : List (List ℕ)) (f : ReplayFault) → (play 1 Empty (cond b all some)).1 ≡ Err f
    → cond b (at_end (play 1 Empty all).1) (past_limit (play 1 Empty some).1) ≡ Some f
fault_by true all some f e = ap at_end e
fault_by false all some f e = ap past_limit e

pub Ends-stopped : (limit : ℕ) (script : List ℕ) (left old new : Option (List ℕ)) (f : ReplayFault) → Stops old new Empty (played_lines limit script) f → Ends limit script left old new (Err f)
unfolding Ends
Ends-stopped limit script left old new (BadLine n) (e, text) = (fault_by (nat_le (length script) limit) (lines script) (ended_lines (take limit script)) (BadLine n) e, text)
Ends-stopped limit script left old new (Build b) (e, text) = (fault_by (nat_le (length script) limit) (lines script) (ended_lines (take limit script)) (Build b) e, text)
Ends-stopped limit script left old new Read h = absurd h
Ends-stopped limit script left old new TooLong h = absurd h
Ends-stopped limit script left old new Write h = h
Ends-stopped limit script left old new Memory h = h

-- nothing was read
pub Ends-no_memory : (limit : ℕ) (script : List ℕ) (left old : Option (List ℕ)) → Ends limit script left old old (Err Memory)
Ends-no_memory limit script left old =
    Ends-stopped limit script left old old Memory ([], played_lines limit script, Empty, refl, record { state = refl; text = Appends-nil old })

module _ (limit : ℕ) (script : List ℕ) (short : length script ≤ limit) where
  within : nat_le (length script) limit ≡ true
  within = le-leb _ _ short

  played-whole : played_lines limit script ≡ lines script
  played-whole = ap (λ b. cond b (lines script) (ended_lines (take limit script))) within

  fault-whole : fault_of_script limit script ≡ at_end (play 1 Empty (lines script)).1
  fault-whole = ap (λ b. cond b (at_end (play 1 Empty (lines script)).1) (past_limit (play 1 Empty (ended_lines (take limit script))).1)) within

  text-whole : text_of limit script ≡ (play 1 Empty (lines script)).0
  text-whole = ap (λ l. (play 1 Empty l).0) played-whole

  -- the device could not be built at the end
  Ends-unbuilt : (left old new : Option (List ℕ)) (t : SessionState) (e : BuildFault) → PlaysAll old new Empty (lines script) t → Refuses e (end_fault t) → Ends limit script left old new (Err (replay_fault e))
  unfolding Ends
  Ends-unbuilt left old new t build.Memory played is =
      (lines script, [], t, played-whole ∙ sym (append-nil (lines script)), played)
  Ends-unbuilt left old new t fault played is =
      (fault-whole ∙ ap at_end played.state ∙ ap (option_map Build) is, subst (Appends old new) (sym text-whole) played.text)

  pub Ends-done : (left old new : Option (List ℕ)) (r : Result (Unit {0}) ReplayFault)
      → OnOk r ((t : SessionState) × PlaysAll old new Empty (lines script) t × (end_fault t ≡ None)) → IfErr r (ScriptStops old new script) → Ends limit script left old new r
  unfolding Ends
  Ends-done left old new (Ok x) (t, played, no_fault) err =
      (fault-whole ∙ ap at_end played.state ∙ ap (option_map Build) no_fault, subst (Appends old new) (sym text-whole) played.text)
  Ends-done left old new (Err f) ok err =
      elim err as (λ _. Ends limit script left old new (Err f)) [
        | inl h ↦ Ends-stopped limit script left old new f (subst (λ l. Stops old new Empty l f) (sym played-whole) h)
        | inr h ↦ subst (λ e. Ends limit script left old new (Err e)) (sym h.2) (Ends-unbuilt left old new h.0 h.1 h.3 h.4)
      ]

module _ (limit : ℕ) (script : List ℕ) (long : limit < length script) where
  beyond : nat_le (length script) limit ≡ false
  beyond = lt-leb _ _ long

  pub played-cut : played_lines limit script ≡ ended_lines (take limit script)
  played-cut = ap (λ b. cond b (lines script) (ended_lines (take limit script))) beyond

  fault-cut : fault_of_script limit script ≡ past_limit (play 1 Empty (ended_lines (take limit script))).1
  fault-cut = ap (λ b. cond b (at_end (play 1 Empty (lines script)).1) (past_limit (play 1 Empty (ended_lines (take limit script))).1)) beyond

  pub Ends-too_long : (left old new : Option (List ℕ)) (t : SessionState) → PlaysAll old new Empty (ended_lines (take limit script)) t → Ends limit script left old new (Err TooLong)
  unfolding Ends
  Ends-too_long left old new t played =
      (long, fault-cut ∙ ap past_limit played.state, subst (Appends old new) (sym (ap (λ l. (play 1 Empty l).0) played-cut)) played.text)

take-past : (limit : ℕ) (read rest : List ℕ) → length read ≤ limit → take limit (read ++ rest) ≡ read ++ take (limit - length read) rest
take-past limit read rest short =
    let sum : limit ≡ length read + (limit - length read) = omega arith in
    ap (λ n. take n (read ++ rest)) sum ∙ take-add (length read) (limit - length read) (read ++ rest)
    ∙ ap (λ l. l ++ take (limit - length read) (drop (length read) (read ++ rest))) (take_at read rest (length read) refl)
    ∙ ap (λ l. read ++ take (limit - length read) l) (drop_at read rest (length read) refl)

-- the lines that were read whole come first
played-longer_by : (b : Bool) (limit : ℕ) (read rest : List ℕ) → length read ≤ limit
    → (more : List (List ℕ)) × (cond b (lines (read ++ rest)) (ended_lines (take limit (read ++ rest))) ≡ ended_lines read ++ more)
played-longer_by true limit read rest short =
    let (more, e) = ended_lines-longer read rest in
    (more ++ open_line (read ++ rest), lines-parts (read ++ rest) ∙ ap (λ l. l ++ open_line (read ++ rest)) e ∙ append_assoc (ended_lines read) more (open_line (read ++ rest)))
played-longer_by false limit read rest short =
    let (more, e) = ended_lines-longer read (take (limit - length read) rest) in
    let part : take limit (read ++ rest) ≡ read ++ take (limit - length read) rest = take-past limit read rest short in
    (more, ap ended_lines part ∙ e)

pub played-longer : (limit : ℕ) (read rest : List ℕ) → length read ≤ limit → (more : List (List ℕ)) × (played_lines limit (read ++ rest) ≡ ended_lines read ++ more)
played-longer limit read rest short = played-longer_by (nat_le (length (read ++ rest)) limit) limit read rest short

-- ---- what the reader gave

-- the reader came to its end
pub Ends-read : (limit : ℕ) (have left old new : Option (List ℕ)) (read : List ℕ) → Consumes have left read → IsAtEnd left → length read ≤ limit → (r : Result (Unit {0}) ReplayFault)
    → OnOk r ((t : SessionState) × PlaysAll old new Empty (lines read) t × (end_fault t ≡ None)) → IfErr r (ScriptStops old new read) → Replays limit have left old new r
unfolding Replays
Ends-read limit None left old new read consumed end short r ok err = tt
Ends-read limit (Some script) None old new read consumed end short r ok err = absurd consumed
Ends-read limit (Some script) (Some rest) old new read consumed end short r ok err =
    let same : script ≡ read = consumed ∙ ap (λ l. read ++ l) end ∙ append-nil read in
    subst (λ s. Ends limit s (Some rest) old new r) (sym same) (Ends-done limit read short (Some rest) old new r ok err)

pub Ends-cut : (limit : ℕ) (have left old new : Option (List ℕ)) (read : List ℕ) (t : SessionState) → Consumes have left read → length read ≤ limit
    → PlaysAll old new Empty (ended_lines read) t → Replays limit have left old new (Err Read)
unfolding Ends Replays
Ends-cut limit None left old new read t consumed short played = tt
Ends-cut limit (Some script) left old new read t consumed short played = (read, t, consumed, short, played)

pub Ends-cut_stopped : (limit : ℕ) (have left old new : Option (List ℕ)) (read : List ℕ) (f : ReplayFault) → Consumes have left read → length read ≤ limit
    → Stops old new Empty (ended_lines read) f → Replays limit have left old new (Err f)
unfolding Replays
Ends-cut_stopped limit None left old new read f consumed short stopped = tt
Ends-cut_stopped limit (Some script) None old new read f consumed short stopped = absurd consumed
Ends-cut_stopped limit (Some script) (Some rest) old new read f consumed short stopped =
    let (more, e) = played-longer limit read rest short in
    Ends-stopped limit script (Some rest) old new f
    (subst (λ s. Stops old new Empty (played_lines limit s) f) (sym consumed) (Stops-more old new Empty (played_lines limit (read ++ rest)) (ended_lines read) more e f stopped))

-- the script is too long: one octet more than the limit was read
module _ (limit : ℕ) (old new : Option (List ℕ)) (read : List ℕ) (full : length read ≡ limit + 1) where
  front_of : (rest : List ℕ) → take limit (read ++ rest) ≡ take limit read
  front_of rest = take-append-le limit read rest (omega arith)

  over : (script rest : List ℕ) → script ≡ read ++ rest → limit < length script
  over script rest is = omega (arith, ap length is, length-append read rest)

  pub Ends-full : (have left : Option (List ℕ)) (t : SessionState) → Consumes have left read → PlaysAll old new Empty (ended_lines (take limit read)) t
      → Replays limit have left old new (Err TooLong)
  unfolding Replays
  Ends-full None left t consumed played = tt
  Ends-full (Some script) None t consumed played = absurd consumed
  Ends-full (Some script) (Some rest) t consumed played =
      Ends-too_long limit script (over script rest consumed) (Some rest) old new t
      (subst (λ l. PlaysAll old new Empty (ended_lines l) t) (sym (ap (take limit) consumed ∙ front_of rest)) played)

  pub Ends-full_stopped : (have left : Option (List ℕ)) (f : ReplayFault) → Consumes have left read → Stops old new Empty (ended_lines (take limit read)) f
      → Replays limit have left old new (Err f)
  unfolding Replays
  Ends-full_stopped None left f consumed stopped = tt
  Ends-full_stopped (Some script) None f consumed stopped = absurd consumed
  Ends-full_stopped (Some script) (Some rest) f consumed stopped =
      Ends-stopped limit script (Some rest) old new f
      (subst (λ l. Stops old new Empty l f) (sym (played-cut limit script (over script rest consumed) ∙ ap ended_lines (ap (take limit) consumed ∙ front_of rest))) stopped)

pub Ends-refused : (limit : ℕ) (have left old : Option (List ℕ)) → Replays limit have left old old (Err Memory)
unfolding Replays
Ends-refused limit None left old = tt
Ends-refused limit (Some script) left old = Ends-no_memory limit script left old

-- ---- a buffer that is written out at the end

AppendsPart-kept : (old mid new : Option (List ℕ)) (text : List ℕ) → AppendsPart old mid text → Keeps mid new → AppendsPart old new text
AppendsPart-kept old mid new text (written, left, cut, appended) kept = (written, left, cut, Appends-kept old mid new written appended kept)

PlaysAll-kept : (old mid new : Option (List ℕ)) (all : List (List ℕ)) (t : SessionState) → PlaysAll old mid Empty all t → Keeps mid new → PlaysAll old new Empty all t
PlaysAll-kept old mid new all t played kept = record { state = played.state; text = Appends-kept old mid new _ played.text kept }

Ends-kept : (limit : ℕ) (script : List ℕ) (left old mid new : Option (List ℕ)) (r : Result (Unit {0}) ReplayFault) → Ends limit script left old mid r → Keeps mid new → Ends limit script left old new r
unfolding Ends
Ends-kept limit script left old mid new (Ok x) (none, text) kept = (none, Appends-kept old mid new _ text kept)
Ends-kept limit script left old mid new (Err (BadLine n)) (fault, text) kept = (fault, Appends-kept old mid new _ text kept)
Ends-kept limit script left old mid new (Err (Build f)) (fault, text) kept = (fault, Appends-kept old mid new _ text kept)
Ends-kept limit script left old mid new (Err TooLong) (long, fault, text) kept = (long, fault, Appends-kept old mid new _ text kept)
Ends-kept limit script left old mid new (Err Read) (read, t, consumed, short, played) kept = (read, t, consumed, short, PlaysAll-kept old mid new _ t played kept)
Ends-kept limit script left old mid new (Err Write) part kept = AppendsPart-kept old mid new _ part kept
Ends-kept limit script left old mid new (Err Memory) (before, after, t, split, played) kept = (before, after, t, split, PlaysAll-kept old mid new before t played kept)

-- what came is still there after the buffer was written out
pub Replays-kept : (limit : ℕ) (have left old mid new : Option (List ℕ)) (r : Result (Unit {0}) ReplayFault) → Replays limit have left old mid r → Keeps mid new → Replays limit have left old new r
unfolding Replays
Replays-kept limit None left old mid new r ends kept = tt
Replays-kept limit (Some script) left old mid new r ends kept = Ends-kept limit script left old mid new r ends kept

-- the text of some first lines is a front part of that of all
first_part : (old new : Option (List ℕ)) (all before after : List (List ℕ)) (t : SessionState) → all ≡ before ++ after → PlaysAll old new Empty before t → AppendsPart old new (play 1 Empty all).0
first_part old new all before after t split played =
    subst (λ l. AppendsPart old new (play 1 Empty l).0) (sym split)
    (AppendsPart-longer old new (play 1 Empty before).0 (play 1 Empty (before ++ after)).0 (play-longer before after 1 Empty) (whole_part old new _ played.text))

Ends-unwritten : (limit : ℕ) (script : List ℕ) (left old new : Option (List ℕ)) (r : Result (Unit {0}) ReplayFault) → Ends limit script left old new r → Ends limit script left old new (Err Write)
unfolding Ends
Ends-unwritten limit script left old new (Ok x) (none, text) = whole_part old new _ text
Ends-unwritten limit script left old new (Err (BadLine n)) (fault, text) = whole_part old new _ text
Ends-unwritten limit script left old new (Err (Build f)) (fault, text) = whole_part old new _ text
Ends-unwritten limit script left old new (Err TooLong) (long, fault, text) = whole_part old new _ text
Ends-unwritten limit script None old new (Err Read) (read, t, consumed, short, played) = absurd consumed
Ends-unwritten limit script (Some rest) old new (Err Read) (read, t, consumed, short, played) =
    let (more, e) = played-longer limit read rest short in
    first_part old new (played_lines limit script) (ended_lines read) more t (ap (played_lines limit) consumed ∙ e) played
Ends-unwritten limit script left old new (Err Write) part = part
Ends-unwritten limit script left old new (Err Memory) (before, after, t, split, played) = first_part old new (played_lines limit script) before after t split played

-- output that can't be written out is a failed write
pub Replays-unwritten : (limit : ℕ) (have left old mid new : Option (List ℕ)) (r : Result (Unit {0}) ReplayFault) → Replays limit have left old mid r → Keeps mid new → Replays limit have left old new (Err Write)
unfolding Replays
Replays-unwritten limit None left old mid new r ends kept = tt
Replays-unwritten limit (Some script) left old mid new r ends kept = Ends-unwritten limit script left old new r (Ends-kept limit script left old mid new r ends kept)
