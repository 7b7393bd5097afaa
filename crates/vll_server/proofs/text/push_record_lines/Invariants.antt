use Rattle.std.proofs.Common.{◌≡◌, ◌++◌, map, string_bytes}
use Rattle.std.specs.List.{flat_map}
use Rattle.vll_replay.specs.Headline.Text.{record_line}
use Rattle.vll_server.proofs.text.push_record_lines.Given as goal

abbrev pub invariant-loop-index : goal.invariant-loop-index
invariant-loop-index l =
    string_bytes l.text ≡ string_bytes l.initial.text ++ flat_map record_line (map (λ p. (p.0, (p.1.0.now, p.1.1.now))) l.yielded)
