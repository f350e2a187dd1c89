-- Words that are added in two steps, and words and tools that are added one after the other.
use Rattle.std.proofs.Common.{◌≡◌, Bool, false, ◌||◌, ℕ, ◌+◌, ◌<◌, List, [], ◌∷◌, ◌++◌, ◌∙◌, length, get_or, drop, map, ap, sym, refl}
use Rattle.std.proofs.Math.Bool.{or-false}
use Rattle.std.proofs.lemmas.List.{at_drop_more}
use Rattle.clap.specs.Words.{AddsArg, App, Rule, app_of, rule_of, with_rule, with_subcommand}
use Rattle.clap.specs.declared.builder.arg.Arg.{Arg}
use Rattle.clap.specs.declared.builder.command.Command.TheViews.{out-Command}
use Rattle.clap.specs.declared.builder.command.Command.{Command}
use Rattle.bac_command_line.specs.Commands.{with_rules, Extends, IsCommand}
use Rattle.bac_command_line.specs.Entries.{rule_in, app_for, with_tools}
use Rattle.bac_command_line.specs.declared.commands.Tool.{Tool}
use Rattle.bac_command_line.specs.declared.entries.Entry.{Entry}

both : (a : App) (first second : List Rule) → with_rules a (first ++ second) ≡ with_rules (with_rules a first) second
both a [] second = refl
both a (r ∷ rs) second = both (with_rule a r) rs second

-- a command with the words of a tool's page is the tool's
pub paged : {a b : App} {own shared : List Rule} {old mid new : Command} → IsCommand a old → with_rules a (own ++ shared) ≡ b
    → Extends old own mid → Extends mid shared new → IsCommand b new
paged {a} {b} {own} {shared} {old} c is p q = record {
  app = q.app ∙ ap (λ (x : App). with_rules x shared) (p.app ∙ ap (λ (x : App). with_rules x own) c.app) ∙ sym (both a own shared) ∙ is;
  globals = q.globals ∙ p.globals ∙ c.globals;
}

-- a command with one more argument has its rule behind its own
pub with_arg : (old new : Command) (a : Arg) → a.global ≡ false → AddsArg old a new → Extends old (rule_of a ∷ []) new
with_arg old new a local adds = record {
  app = adds.shape local;
  globals = adds.globals ∙ ap (λ (b : Bool). (out-Command old).has_globals || b) local ∙ or-false (out-Command old).has_globals;
}

-- a command with one more word has the rest to come
pub next_word : (whole : App) (all : List Entry) (i : ℕ) (d : Entry) (rule : Rule) (old new : Command) → i < length all → rule ≡ rule_in (get_or all i d)
    → Extends old (rule ∷ []) new → whole ≡ with_rules (app_of old) (map rule_in (drop i all))
    → whole ≡ with_rules (app_of new) (map rule_in (drop (i + 1) all))
next_word whole all i d rule old new below same more before =
    before ∙ at_drop_more (λ (es : List Entry). with_rules (app_of old) (map rule_in es)) all i d below
    ∙ ap (λ (r : Rule). with_rules (with_rule (app_of old) r) (map rule_in (drop (i + 1) all))) (sym same)
    ∙ ap (λ (a : App). with_rules a (map rule_in (drop (i + 1) all))) (sym more.app)

-- the same of a tool
pub next_tool : (whole : App) (all : List Tool) (i : ℕ) (d : Tool) (old new : Command) → i < length all
    → IsCommand (with_subcommand (app_of old) (app_for (get_or all i d)).top) new → whole ≡ with_tools (app_of old) (drop i all)
    → whole ≡ with_tools (app_of new) (drop (i + 1) all)
next_tool whole all i d old new below more before =
    before ∙ at_drop_more (with_tools (app_of old)) all i d below ∙ ap (λ (a : App). with_tools a (drop (i + 1) all)) (sym more.app)
