-- What the machine inside makes of a run of its batches, from any place.
use Rattle.std.proofs.Common.{◌≡◌, ◌⊎◌, ◌∙◌, ℕ, ◌+◌, ◌<◌, ◌≤◌, List, [], ◌++◌, map, All, length, refl, sym, ap, subst}
use Rattle.std.proofs.Common.{append-nil}
use Rattle.std.proofs.lemmas.List.{map-append}
use Rattle.std.proofs.lemmas.List.Elements.{All-append, All-nil}
use Rattle.bac_archive.specs.declared.row.Put.{Put}
use Rattle.bac_drive.specs.Chain.{Chain}
use Rattle.bac_drive.proofs.Chains.{joined as chained}
use Rattle.bac_ports.specs.Port.{Receiving}
use Rattle.bac_drive.specs.Event.{Event}
use Rattle.bac_drive.specs.Happens.{Steps}
use Rattle.bac_drive.specs.Laws.{puts_of}
use Rattle.bac_drive.specs.declared.machine.Next.{Next}
use Rattle.bac_batch.specs.Batch.{Batched, HoldsRows}
use Rattle.bac_batch.specs.Laws.{AreCutShort, IsAt, joined, keeps_of, lines_held, lines_of, traffic_of}
use Rattle.bac_batch.proofs.Parts.{carried, cut_append, joined_append, keeps_append, lines_append, puts_append}
use Rattle.bac_batch.proofs.Parts.{traffic_append}

-- the rows that are held, reply by reply
abbrev pub AreReplies : {M : Type 0} → Batched M → List (List Put) → Type 0
AreReplies b held =
    ((b.puts ≡ []) × (held ≡ [])) ⊎ (HoldsRows b × (joined held ≡ b.puts) × (length held + b.room ≡ 64) × (0 < b.room))

pub record Ran {M : Type 0} (gives : M → Next → M → Type 0) (hears : M → Receiving → M → Type 0) (reads : M → ℕ → M →
    Type 0)
    (start : M) (before : List (List Put)) (old : Batched M) (es : List Event) (new : Batched M) : Type 0 where
  pub inner : List Event
  pub last : M
  pub groups : List (List (List Put))
  pub held : List (List Put)
  pub run : Chain (Steps gives hears reads) start inner last
  pub at : IsAt gives last new
  pub traffic : AreCutShort (traffic_of es) (traffic_of inner)
  pub rows : old.puts ++ puts_of inner ≡ puts_of es ++ new.puts
  pub lines : lines_held old.behind ++ lines_of inner ≡ lines_of es ++ lines_held new.behind
  pub replies : before ++ keeps_of inner ≡ joined groups ++ held
  pub kept : keeps_of es ≡ map joined groups
  pub small : All (λ group. length group ≤ 64) groups
  pub is_held : AreReplies new held

module _ {M : Type 0} (gives : M → Next → M → Type 0) (hears : M → Receiving → M → Type 0) (reads : M → ℕ → M →
    Type 0) where
  -- no event
  pub none_ran : (start : M) (before : List (List Put)) (b : Batched M) → IsAt gives start b → AreReplies b before →
      Ran gives hears reads start before b [] b
  none_ran start before b at replies = record {
    inner = [];
    last = start;
    groups = [];
    held = before;
    run = refl;
    at = at;
    traffic = tt;
    rows = append-nil b.puts;
    lines = append-nil (lines_held b.behind);
    replies = append-nil before;
    kept = refl;
    small = All-nil (λ group. length group ≤ 64);
    is_held = replies;
  }

  -- one run behind another
  pub both_ran : (start : M) (before : List (List Put)) (old mid new : Batched M) (es fs : List Event) →
      (a : Ran gives hears reads start before old es mid) →
      Ran gives hears reads a.last a.held mid fs new → Ran gives hears reads start before old (es ++ fs) new
  both_ran start before old mid new es fs a b = record {
    inner = a.inner ++ b.inner;
    last = b.last;
    groups = a.groups ++ b.groups;
    held = b.held;
    run = chained (Steps gives hears reads) start a.last b.last a.inner b.inner a.run b.run;
    at = b.at;
    traffic =
        let P : List Event → Type 0 = λ l. AreCutShort l (traffic_of (a.inner ++ b.inner)) in
        let Q : List Event → Type 0 = λ l. AreCutShort (traffic_of es ++ traffic_of fs) l in
        let both = cut_append (traffic_of es) (traffic_of a.inner) (traffic_of fs) (traffic_of b.inner) a.traffic
        b.traffic in
        subst P (sym (traffic_append es fs)) (subst Q (sym (traffic_append a.inner b.inner)) both);
    rows =
        ap (λ (l : List Put). old.puts ++ l) (puts_append a.inner b.inner)
        ∙ carried old.puts mid.puts new.puts (puts_of a.inner) (puts_of b.inner) (puts_of es) (puts_of fs) a.rows b.rows
        ∙ ap (λ (l : List Put). l ++ new.puts) (sym (puts_append es fs));
    lines =
        ap (λ (l : List Event). lines_held old.behind ++ l) (lines_append a.inner b.inner)
        ∙ carried (lines_held old.behind) (lines_held mid.behind) (lines_held new.behind) (lines_of a.inner)
        (lines_of b.inner) (lines_of es) (lines_of fs) a.lines b.lines
        ∙ ap (λ (l : List Event). l ++ lines_held new.behind) (sym (lines_append es fs));
    replies =
        ap (λ (l : List (List Put)). before ++ l) (keeps_append a.inner b.inner)
        ∙ carried before a.held b.held (keeps_of a.inner) (keeps_of b.inner) (joined a.groups) (joined b.groups)
        a.replies b.replies
        ∙ ap (λ (l : List (List Put)). l ++ b.held) (sym (joined_append a.groups b.groups));
    kept =
        keeps_append es fs ∙ ap (λ (l : List (List Put)). l ++ keeps_of fs) a.kept
        ∙ ap (λ (l : List (List Put)). map joined a.groups ++ l) b.kept ∙ sym (map-append joined a.groups b.groups);
    small = All-append (λ group. length group ≤ 64) a.groups b.groups a.small b.small;
    is_held = b.is_held;
  }
