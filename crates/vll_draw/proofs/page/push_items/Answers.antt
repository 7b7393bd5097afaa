use Rattle.std.proofs.Common.{◌++◌, ap, ◌∙◌, string_bytes}
use Rattle.std.specs.List.{flat_map}
use Rattle.std.proofs.lemmas.Iterator.Consumers.{YieldsList-end, YieldsList-from_enumerate}
use Rattle.std.proofs.lemmas.Iterator.Splits.{YieldsList-from_lines}
use Rattle.vll_draw.specs.Page.{item}
use Rattle.vll_draw.proofs.page.push_items.Goals as goal

pub returns : goal.returns
returns c =
    let items = c.into_iter-index-iterator.result in
    let texts = YieldsList-from_lines {s = items.iter} c.args.text.now cc in
    let pairs = YieldsList-from_enumerate {s = items} texts cc in
    let end = YieldsList-end pairs c.loop-index.yielded c.loop-index.index-iterator c.loop-index.yielded_by _ c.next.new.self c.in-None.is c.next.ensures.steps in
    c.loop-index.invariant ∙ ap (λ ps. string_bytes c.args.page.now ++ flat_map item ps) end.0
