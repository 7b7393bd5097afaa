-- What the rows of a command give, from what its matches give.
use Rattle.std.proofs.Common.{◌≡◌, ◌∙◌, ℕ, List, Option, None, Some, ap₂, codes, option_map, refl, subst, sym, Box}
use Rattle.std.specs.Box.{box_value}
use Rattle.clap.specs.Words.{Row, Text, first_of, first_value, one_of, one_text, rows_of, subcommand_name_of, subcommand_rows_of}
use Rattle.clap.specs.Simple.{subcommand_rows}
use Rattle.clap.specs.declared.parser.matches.ArgMatches.{ArgMatches}
use Rattle.clap.specs.declared.parser.matches.ArgMatches.TheViews.{out-ArgMatches, out-SubCommand}
use Rattle.clap.specs.declared.parser.matches.Found.{Found}
use Rattle.clap.specs.declared.parser.matches.SubCommand.{SubCommand}
use Rattle.clap.proofs.WalkLemmas.{first_value-rows, one_text-rows}
use Rattle.vll_command.specs.CommandLine.{Names, NamesRun}
use Rattle.vll_command.specs.Options.{Gives, GivesInput}
use Rattle.vll_command.specs.declared.action.Input.{Input}
use Rattle.vll_command.specs.declared.action.RunOptions.{RunOptions}

-- an option's number
pub gives_of_rows : (f : Found) (id : Text) (n : Option ℕ) → Gives (one_text f id) n → Gives (one_of id (rows_of f)) n
gives_of_rows f id n gives = subst (λ (t : Option Text). Gives t n) (one_text-rows f id) gives

-- the file
pub gives_input_of_rows : (f : Found) (id : Text) (i : Input) → GivesInput (first_value f id) i → GivesInput (first_of id (rows_of f)) i
gives_input_of_rows f id i gives = subst (λ (t : Option Text). GivesInput t i) (first_value-rows f id) gives

-- the command that was named, by its name and its rows
pair_is : (sub : Option (Text × List Row)) (name : Text) (rows : List Row) → option_map (λ (p : Text × List Row). p.0) sub ≡ Some name → option_map (λ (p : Text × List Row). p.1) sub ≡ Some rows → sub ≡ Some (name, rows)
pair_is None name rows first second = absurd (cc first)
pair_is (Some p) name rows first second =
    let one : p.0 ≡ name = cc first in
    let two : p.1 ≡ rows = cc second in
    ap₂ (λ a b. Some (a, b)) one two

name_of_rows : {Z : Type 0} (o : Option (Box SubCommand Z)) → option_map (λ (p : Text × List Row). p.0) (subcommand_rows o) ≡ option_map (λ b. (out-SubCommand (box_value b)).name.now) o
name_of_rows None = refl
name_of_rows (Some b) = refl

pub is_named : (m : ArgMatches) (name : Text) (rows : List Row) → Some name ≡ subcommand_name_of m → Some rows ≡ option_map (λ (p : Text × List Row). p.1) (subcommand_rows_of m) → subcommand_rows_of m ≡ Some (name, rows)
is_named m name rows named given = pair_is (subcommand_rows_of m) name rows (name_of_rows (out-ArgMatches m).subcommand ∙ sym named) (sym given)

-- what a command with the options of a run gives
pub names_run : (words : List Text) (name : Text) (f : Found) (i : Input) (o : RunOptions) → Names words name (rows_of f) → GivesInput (first_value f (codes "FILE")) i
    → Gives (one_text f (codes "workers")) (Some o.workers) → Gives (one_text f (codes "cap")) o.engine.cap → Gives (one_text f (codes "bits")) o.engine.bits → NamesRun words name i o
names_run words name f i o named file workers cap bits = (
  rows_of f,
  named,
  gives_input_of_rows f (codes "FILE") i file,
  gives_of_rows f (codes "workers") (Some o.workers) workers,
  record { cap = gives_of_rows f (codes "cap") o.engine.cap cap; bits = gives_of_rows f (codes "bits") o.engine.bits bits },
)
