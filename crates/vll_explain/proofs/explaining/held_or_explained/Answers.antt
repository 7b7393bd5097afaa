use Rattle.std.proofs.Common.{IfSome, string_bytes, subst, sym}
use Rattle.serde_json.specs.View.{view}
use Rattle.serde_json.proofs.Nesting.{depth-read}
use Rattle.vll_scenario.specs.Reading.{IsScenarioOf}
use Rattle.vll_explain.specs.Explained.{IsBegun}
use Rattle.vll_explain.specs.Private.{IsToldOf}
use Rattle.vll_explain.proofs.Kept.{reads_not, some_text, tree_describes, tree_explains, treeless_explains}
use Rattle.vll_explain.proofs.explaining.held_or_explained.Goals as goal

-- the scenario that was read is the witness
pub returns-in-Ok-scenario-clause-held : goal.returns-in-Ok-scenario-clause-held
returns-in-Ok-scenario-clause-held c =
    let scenario = c.in-Ok-scenario.scenario in
    let tree = view c.in-Ok.field-0.tree in
    tree_describes c.args.bytes.now tree scenario c.requires c.in-Ok.ensures.tree (subst (IsScenarioOf tree) c.in-Ok-scenario.is c.in-Ok.ensures.scenario)

pub returns-in-Ok-scenario-clause-depth : goal.returns-in-Ok-scenario-clause-depth
returns-in-Ok-scenario-clause-depth c = depth-read c.args.bytes.now (view c.in-Ok.field-0.tree) c.in-Ok.ensures.tree.1

-- the fault lies in the tree
pub returns-in-Err-scenario-clause-held : goal.returns-in-Err-scenario-clause-held
returns-in-Err-scenario-clause-held c =
    let why = c.in-Err-scenario.fault in
    let tree = view c.in-Ok.field-0.tree in
    let told = subst (λ text. IfSome text (λ t. IsToldOf tree why (string_bytes t))) (sym c.ok-text.ensures.value) (some_text c.text_of_fault.result (IsToldOf tree why) c.text_of_fault.ensures) in
    tree_explains c.args.bytes.now tree why c.ok-text.result c.requires c.in-Ok.ensures.tree (subst (IsScenarioOf tree) c.in-Err-scenario.is c.in-Ok.ensures.scenario) told

pub returns-in-Err-scenario-clause-read : goal.returns-in-Err-scenario-clause-read
returns-in-Err-scenario-clause-read c = reads_not (view c.in-Ok.field-0.tree) c.in-Ok.field-0.scenario c.in-Err-scenario.fault c.in-Ok.ensures.scenario c.in-Err-scenario.is

-- there is no tree
pub returns-in-Err-clause-held : goal.returns-in-Err-clause-held
returns-in-Err-clause-held c =
    let why = c.in-Err.fault in
    let told = subst (λ text. IfSome text (λ t. IsBegun why (string_bytes t))) (sym c.ok-text-in-Err.ensures.value) (some_text c.text_of_unread.result (IsBegun why) c.text_of_unread.ensures) in
    treeless_explains c.args.bytes.now why c.ok-text-in-Err.result c.requires c.in-Err.ensures.err told
