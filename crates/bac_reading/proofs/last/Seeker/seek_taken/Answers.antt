use Rattle.std.proofs.Common.{◌≡◌, ap, inr, refl, subst, sym}
use Rattle.std.specs.List.{list_any}
use Rattle.sqlite.specs.Effect.{Database}
use Rattle.sqlite.specs.Held.{state}
use Rattle.bac_archive.specs.Schema.{HasArchive}
use Rattle.bac_kept.proofs.PartsLemmas.{now_at}
use Rattle.bac_kept.specs.Lasts.{FailsOnOne, HasLookedFor, LooksForEach, is_sought, last_logs}
use Rattle.bac_kept.specs.declared.words.Words.{Words}
use Rattle.bac_reading.proofs.SeekLemmas.{fails_so}
use Rattle.bac_reading.specs.Last.{FailsToLook}
use Rattle.bac_reading.proofs.last.Seeker.seek_taken.Goals as goal

pub returns-in-Ok-clause-sought : goal.returns-in-Ok-clause-sought
returns-in-Ok-clause-sought g c clean =
    let late = c.look-looked.ensures.clean clean in
    let archive = c.requires (c.begun.ensures.clean late) in
    let same = now_at g.A.Store c.args.conn.now c.begun.new.conn (c.in_ok-lasts.ensures.same late) in
    let schema = subst (λ (d : Database). HasArchive d.schema) (sym same) archive.schema in
    let begun = c.in_ok-lasts.lasts in
    let lasts = c.look-looked.new.self in
    let words : c.begun.new.self.words ≡ c.args.self.now.words = ap (λ s. s.words) c.in_ok-lasts.ensures.taken in
    record {
      archive = archive;
      begun = begun;
      begins = c.in_ok-lasts.ensures.begun late;
      lasts = lasts;
      now = refl;
      known = c.in-Ok.ensures.known;
      looks = subst (λ (w : Words). LooksForEach ((state g.A.Store c.args.conn.now).now.trees 5) (last_logs begun.known w.choice) begun.found.items lasts.found.items) words
          (subst (λ (d : Database). LooksForEach (d.trees 5) (last_logs begun.known c.begun.new.self.words.choice) begun.found.items lasts.found.items) same (c.in-Ok.ensures.ok clean schema));
      seeks = subst (λ (w : Words). c.in-Ok.more ≡ list_any (is_sought lasts.found.items) (last_logs lasts.known w.choice)) words
          (subst (λ k. c.in-Ok.more ≡ list_any (is_sought lasts.found.items) (last_logs k c.begun.new.self.words.choice)) (sym c.in-Ok.ensures.known) c.in-Ok.ensures.sought);
    }

pub returns-in-Err-clause-sought : goal.returns-in-Err-clause-sought
returns-in-Err-clause-sought g c = (
  ap (λ s. s.seeks) c.in_ok-lasts.ensures.taken,
  λ clean.
      let late = c.look-looked.ensures.clean clean in
      let archive = c.requires (c.begun.ensures.clean late) in
      let same = now_at g.A.Store c.args.conn.now c.begun.new.conn (c.in_ok-lasts.ensures.same late) in
      let schema = subst (λ (d : Database). HasArchive d.schema) (sym same) archive.schema in
      let begun = c.in_ok-lasts.lasts in
      let lasts = c.look-looked.new.self in
      let words : c.begun.new.self.words ≡ c.args.self.now.words = ap (λ s. s.words) c.in_ok-lasts.ensures.taken in (
        subst FailsToLook (sym c.stop_of.ensures) (fails_so (FailsOnOne g.A.Store c.begun.new.conn c.look-looked.new.conn) c.in-Err.why (c.in-Err.ensures.fault clean schema)),
        (
          archive,
          inr (
            begun,
            c.in_ok-lasts.ensures.begun late,
            lasts,
            refl,
            c.in-Err.ensures.known,
            subst (λ (w : Words). HasLookedFor ((state g.A.Store c.args.conn.now).now.trees 5) (last_logs begun.known w.choice) begun.found.items lasts.found.items) words
                (subst (λ (d : Database). HasLookedFor (d.trees 5) (last_logs begun.known c.begun.new.self.words.choice) begun.found.items lasts.found.items) same (c.in-Err.ensures.err clean schema)),
          ),
        ),
      ),
)
