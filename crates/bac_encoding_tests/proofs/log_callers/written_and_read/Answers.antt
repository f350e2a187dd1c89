use Rattle.std.proofs.Common.{ℕ, List, [], ◌++◌, refl, sym, ap, ◌∙◌}
use Rattle.std.proofs.lemmas.List.{append-nil}
use Rattle.bac_log.specs.Record.{entry_octets}
use Rattle.bac_encoding_tests.proofs.log_callers.written_and_read.Goals as goal

pub returns : goal.returns
returns c =
    let text : List ℕ = entry_octets c.args.entry.now in
    c.read_entry.ensures.only text [] c.args.entry.now (c.records_are_read_back.ensures.encoded c.args.entry.now c.requires.writable) (λ h. refl)
    (c.octets.ensures.value ∙ c.in-Ok.ensures.0 ∙ ap (λ (l : List ℕ). l ++ text) c.new-out.ensures ∙ sym (append-nil text))
