use Rattle.std.proofs.Common.{◌≡◌, ◌++◌, drop, map, string_bytes}
use Rattle.std.specs.List.{enumerate_from, flat_map}
use Rattle.vll_replay.specs.Headline.Text.{call_line}
use Rattle.vll_server.specs.Headline.Text.{line_words}
use Rattle.vll_server.proofs.text.push_call_lines.Given as goal

abbrev pub invariant-loop-ticket : goal.invariant-loop-ticket
invariant-loop-ticket l =
    string_bytes l.text ++ flat_map call_line (enumerate_from l.ticket (map line_words (drop l.ticket l.journal)))
    ≡ string_bytes l.initial.text ++ flat_map call_line (enumerate_from 0 (map line_words l.journal))
