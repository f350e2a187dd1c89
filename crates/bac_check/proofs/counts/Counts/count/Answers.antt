use Rattle.std.proofs.Common.{◌∙◌, inr, map, refl, rules, subst}
use Rattle.std.specs.List.{AllZip}
use Rattle.sqlite.specs.Effect.{Database as Db}
use Rattle.sqlite.specs.Held.{state}
use Rattle.bac_archive.proofs.AskLemmas.{has_still}
use Rattle.bac_archive.proofs.RowsLemmas.{because}
use Rattle.bac_check.specs.Counted.{begun_of, with_begun}
use Rattle.bac_check.specs.Joins.{AreJoined}
use Rattle.bac_check.specs.Rows.{CountsCourse}
use Rattle.bac_check.specs.Uncounts.{IsUncounted}
use Rattle.bac_check.specs.declared.tally.Uncounted.TheVariants.{Database, Memory}
use Rattle.bac_check.proofs.AskedLemmas.{as_was_both, has_was, no_memory, still, unchanged_behind, uncounted_then, unknown}
use Rattle.bac_check.proofs.counts.Counts.count.Goals as goal

pub returns-clause-same : goal.returns-clause-same
returns-clause-same g c late has =
    let a = c.args.conn.now in
    let b = c.read_known.new.conn in
    let d = c.are_joined.new.conn in
    let second = c.count_all.ensures.clean late in
    let one = c.in_ok-known.ensures.same (c.are_joined.ensures.clean second) has in
    let has_b = has_still (state g.A.Store a) (state g.A.Store b) one has in
    let two = c.in_ok-joined.ensures.same second has_b in
    let three = c.in_ok-courses.ensures.same late (has_was g.A.Store b d two has_b) in
    unchanged_behind g.A.Store a b c.count_all.new.conn one (as_was_both g.A.Store b d c.count_all.new.conn two three)

pub returns-clause-counted : goal.returns-clause-counted
returns-clause-counted g c late has =
    let a = c.args.conn.now in
    let b = c.read_known.new.conn in
    let d = c.are_joined.new.conn in
    let second = c.count_all.ensures.clean late in
    let first = c.are_joined.ensures.clean second in
    let one = c.in_ok-known.ensures.same first has in
    let has_b = has_still (state g.A.Store a) (state g.A.Store b) one has in
    let two = c.in_ok-joined.ensures.same second has_b in
    let counted = rw (c.as_slice-3.ensures.value, c.as_slice-4.ensures.value, c.in_ok-begun.ensures, c.as_slice.ensures.value) at (c.in_ok-courses.ensures.counted late (has_was g.A.Store b d two has_b)) in
    record {
      joins = subst (λ (x : Db). AreJoined (x.trees 5) c.args.self.now.courses.items c.in_ok-joined.joined) one.0.now_is (rw c.as_slice-2.ensures.value at (c.in_ok-joined.ensures.told second has_b));
      rows = record {
        known = c.in_ok-known.known;
        told = c.in_ok-known.ensures.known first has;
        devices = refl;
        logs = refl;
        counted = subst (λ (x : Db). AllZip (CountsCourse x.trees) (with_begun c.args.self.now.courses.items (map begun_of c.in_ok-known.known.beginnings.items)) c.in_ok-courses.courses.items) (still g.A.Store b d two ∙ one.0.now_is) counted;
      };
    }

pub returns-in_err-known-clause-uncounted : goal.returns-in_err-known-clause-uncounted
returns-in_err-known-clause-uncounted g c late has =
    because c.from_residual.result (Database c.in_err-known.field-0.0) (IsUncounted g.A.Store c.args.conn.now c.read_known.new.conn) (search rules)
    (unknown g.A.Store c.args.conn.now c.read_known.new.conn c.in_err-known.field-0.0 (c.read_known.ensures.left late has) (c.in_err-known.ensures.cause late has))

pub returns-in_err-begun-clause-uncounted : goal.returns-in_err-begun-clause-uncounted
returns-in_err-begun-clause-uncounted g c late has =
    because c.from_residual-in_err-begun.result Memory (IsUncounted g.A.Store c.args.conn.now c.read_known.new.conn) (search rules)
    (no_memory g.A.Store c.args.conn.now c.read_known.new.conn (inr (c.in_ok-known.ensures.same late has)))

pub returns-in_err-joined-clause-uncounted : goal.returns-in_err-joined-clause-uncounted
returns-in_err-joined-clause-uncounted g c late has =
    let a = c.args.conn.now in
    let b = c.read_known.new.conn in
    let one = c.in_ok-known.ensures.same (c.are_joined.ensures.clean late) has in
    because c.from_residual-in_err-joined.result c.in_err-joined.field-0.0 (IsUncounted g.A.Store a c.are_joined.new.conn) (search rules)
    (uncounted_then g.A.Store a b c.are_joined.new.conn c.in_err-joined.field-0.0 (inr one) (c.in_err-joined.ensures.uncounted late (has_still (state g.A.Store a) (state g.A.Store b) one has)))

pub returns-in_err-courses-clause-uncounted : goal.returns-in_err-courses-clause-uncounted
returns-in_err-courses-clause-uncounted g c late has =
    let a = c.args.conn.now in
    let b = c.read_known.new.conn in
    let d = c.are_joined.new.conn in
    let second = c.count_all.ensures.clean late in
    let one = c.in_ok-known.ensures.same (c.are_joined.ensures.clean second) has in
    let has_b = has_still (state g.A.Store a) (state g.A.Store b) one has in
    let two = c.in_ok-joined.ensures.same second has_b in
    because c.from_residual-in_err-courses.result c.in_err-courses.field-0.0 (IsUncounted g.A.Store a c.count_all.new.conn) (search rules)
    (uncounted_then g.A.Store a d c.count_all.new.conn c.in_err-courses.field-0.0 (as_was_both g.A.Store a b d (inr one) two)
    (c.in_err-courses.ensures.uncounted late (has_was g.A.Store b d two has_b)))
