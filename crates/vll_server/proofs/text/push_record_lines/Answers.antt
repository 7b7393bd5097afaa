use Rattle.std.proofs.Common.{◌++◌, ap, ◌∙◌, string_bytes}
use Rattle.std.specs.List.{flat_map}
use Rattle.std.proofs.lemmas.Iterator.{YieldsList-from_slice, YieldsList-from_zip}
use Rattle.std.proofs.lemmas.Iterator.Consumers.{YieldsList-end, YieldsList-from_enumerate}
use Rattle.vll_replay.specs.Headline.Text.{record_line}
use Rattle.vll_server.proofs.text.push_record_lines.Goals as goal

pub returns : goal.returns
returns c =
    let items = c.into_iter-index-iterator.result in
    let records = YieldsList-from_slice {s = items.iter.a} c.args.records.now cc in
    let pairs = YieldsList-from_slice {s = items.iter.b} c.args.pairs.now cc in
    let lines = YieldsList-from_enumerate {s = items} (YieldsList-from_zip {s = items.iter} records pairs) cc in
    let end = YieldsList-end lines c.loop-index.yielded c.loop-index.index-iterator c.loop-index.yielded_by _ c.next.new.self c.in-None.is c.next.ensures.steps in
    c.loop-index.invariant ∙ ap (λ ps. string_bytes c.args.text.now ++ flat_map record_line ps) end.0
