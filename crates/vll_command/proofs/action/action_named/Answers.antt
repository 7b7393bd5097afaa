use Rattle.std.proofs.Common.{◌∙◌, Some, codes, subst, sym}
use Rattle.clap.specs.Words.{Text, found_of, rows_of}
use Rattle.clap.proofs.WalkLemmas.{first_value-rows}
use Rattle.vll_command.specs.CommandLine.{Names}
use Rattle.vll_command.proofs.Asked.{gives_input_of_rows, gives_of_rows, names_run}
use Rattle.vll_command.proofs.action.action_named.Goals as goal

-- the file and the values that its matches give are those of its rows
pub returns-in_ok-options_of-in-run : goal.returns-in_ok-options_of-in-run
returns-in_ok-options_of-in-run c words named =
    let found = found_of c.args.options.now in
    let says = c.in_ok-options_of-in-run.ensures in
    names_run words (codes "run") found c.in_ok-input_of-in-run.field-0 c.in_ok-options_of-in-run.field-0
    (subst (λ (n : Text). Names words n (rows_of found)) c.in-run.is named) c.in_ok-input_of-in-run.ensures says.workers says.cap says.bits

pub returns-in_ok-serve_options_of-in-serve : goal.returns-in_ok-serve_options_of-in-serve
returns-in_ok-serve_options_of-in-serve c words named =
    let found = found_of c.args.options.now in
    let o = c.in_ok-serve_options_of-in-serve.field-0 in
    let says = c.in_ok-serve_options_of-in-serve.ensures in (
      rows_of found,
      subst (λ (n : Text). Names words n (rows_of found)) c.in-serve.is named,
      sym (first_value-rows found (codes "FILE")) ∙ says.file,
      record { cap = gives_of_rows found (codes "cap") o.engine.cap says.cap; bits = gives_of_rows found (codes "bits") o.engine.bits says.bits },
    )

pub returns-in_ok-input_of-in-replay : goal.returns-in_ok-input_of-in-replay
returns-in_ok-input_of-in-replay c words named =
    let found = found_of c.args.options.now in (
      rows_of found,
      subst (λ (n : Text). Names words n (rows_of found)) c.in-replay.is named,
      gives_input_of_rows found (codes "FILE") c.in_ok-input_of-in-replay.field-0 c.in_ok-input_of-in-replay.ensures,
    )

pub returns-in_ok-input_of-in-explain : goal.returns-in_ok-input_of-in-explain
returns-in_ok-input_of-in-explain c words named =
    let found = found_of c.args.options.now in (
      rows_of found,
      subst (λ (n : Text). Names words n (rows_of found)) c.in-explain.is named,
      gives_input_of_rows found (codes "FILE") c.in_ok-input_of-in-explain.field-0 c.in_ok-input_of-in-explain.ensures,
    )

pub returns-in_ok-range_of-in-draw : goal.returns-in_ok-range_of-in-draw
returns-in_ok-range_of-in-draw c words named =
    let found = found_of c.args.options.now in
    let w = c.in_ok-range_of-in-draw.field-0 in
    let says = c.in_ok-range_of-in-draw.ensures in (
      rows_of found,
      subst (λ (n : Text). Names words n (rows_of found)) c.in-draw.is named,
      gives_input_of_rows found (codes "FILE") c.in_ok-input_of-in-draw.field-0 c.in_ok-input_of-in-draw.ensures,
      gives_of_rows found (codes "from") (Some w.from) says.from,
      gives_of_rows found (codes "count") (Some w.count) says.count,
    )

pub returns-in_ok-options_of-in-trace : goal.returns-in_ok-options_of-in-trace
returns-in_ok-options_of-in-trace c words named =
    let found = found_of c.args.options.now in
    let says = c.in_ok-options_of-in-trace.ensures in
    names_run words (codes "trace") found c.in_ok-input_of-in-trace.field-0 c.in_ok-options_of-in-trace.field-0
    (subst (λ (n : Text). Names words n (rows_of found)) c.in-trace.is named) c.in_ok-input_of-in-trace.ensures says.workers says.cap says.bits
