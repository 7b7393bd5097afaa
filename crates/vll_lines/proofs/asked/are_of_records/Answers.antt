use Rattle.std.proofs.Common.{bytes_eq, string_bytes, rules, tests, ◌∙◌}
use Rattle.std.proofs.lemmas.Iterator.Consumers.{YieldsList-from_rest}
use Rattle.std.proofs.lemmas.Iterator.Search.{all_from_yields_List}
use Rattle.std.specs.BTreeMap.{keys}
use Rattle.std.specs.List.{list_any}
use Rattle.vll_lines.specs.Request.{records_names}
use Rattle.vll_scenario.proofs.Names.{all-has_only}
use Rattle.vll_lines.proofs.asked.are_of_records.Goals as goal

pub returns : goal.returns
returns c =
    all_from_yields_List (λ k. list_any (bytes_eq (string_bytes k)) records_names) _ _ _ c.all.ensures.ran (YieldsList-from_rest (keys c.args.members.now) c.keys.ensures.rest)
    (λ x b q k. search (rules, tests))
    ∙ all-has_only c.args.members.now records_names
