use Rattle.std.proofs.Common.{ℕ, List, Bor, is_some, nat_cmp, string_bytes, rules, tests, ◌∙◌}
use Rattle.std.proofs.lemmas.Iterator.{YieldsList-from_slice}
use Rattle.std.proofs.lemmas.Iterator.Search.{all_from_yields_List}
use Rattle.std.specs.BTreeMap.{get_by}
use Rattle.std.specs.Cmp.Lexicographic.{slice_cmp}
use Rattle.vll_scenario.proofs.Names.{all-has_all}
use Rattle.vll_scenario.proofs.reading.members.has_all.Goals as goal

pub returns : goal.returns
returns c =
    all_from_yields_List (λ (s : Bor (List ℕ)). is_some (get_by (λ k. slice_cmp nat_cmp s.now (string_bytes k)) c.args.members.now)) _ _ _ c.all.ensures.ran
    (YieldsList-from_slice c.args.names.now cc) (λ x b q k. search (rules, tests))
    ∙ all-has_all c.args.members.now c.args.names.now
