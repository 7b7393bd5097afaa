use Rattle.std.proofs.Common.{◌∙◌, ◌++◌, ◌∷◌, [], ap, subst, sym, string_bytes}
use Rattle.serde_json.specs.View.{view}
use Rattle.vll_fault_path.specs.Ways.{LeadsToFault}
use Rattle.vll_explain.specs.Explained.{IsShown, way_words}
use Rattle.vll_explain.proofs.Texts.{located_by}
use Rattle.vll_explain.proofs.explaining.text_of_piece.Goals as goal

pub returns : goal.returns
returns c =
    let tree = view c.args.tree.now in
    let way = c.as_slice-steps.result.now in
    let shown = c.as_str.result.now in
    let leads = subst (LeadsToFault tree c.args.why) (sym c.as_slice-steps.ensures.value) c.in_ok-way.ensures in
    let names = subst (IsShown way) (sym c.as_str.ensures.value) c.in_ok-shown.ensures in
    let words = c.in_ok-push_way.ensures ∙ ap (λ before. before ++ way_words shown way) c.new-place.ensures.bytes in
    located_by string_bytes c.format.result tree c.args.why way shown (string_bytes c.push_way.new.text) (string_bytes c.in_ok-reason.reason ++ 10 ∷ []) leads names words c.format.ensures.ok
