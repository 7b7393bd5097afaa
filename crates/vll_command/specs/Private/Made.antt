-- What the commands and options are made to be.
use Rattle.std.specs.Prelude.{◌≡◌, [], false}
use Rattle.clap.specs.Words.{Rule, Shape, app_of, rule_of}
use Rattle.clap.specs.declared.builder.arg.Arg.{Arg}
use Rattle.clap.specs.declared.builder.command.Command.{Command}
use Rattle.clap.specs.declared.builder.command.Command.TheViews.{out-Command}

-- a command without subcommands
abbrev pub IsMade : Shape → Command → Type 0
IsMade s c = (app_of c ≡ record { top = s; subs = [] }) × ((out-Command c).has_globals ≡ false)

-- an argument of one command
abbrev pub IsOption : Rule → Arg → Type 0
IsOption r a = (rule_of a ≡ r) × (a.global ≡ false)
