use Rattle.std.proofs.Common.{string_bytes}
use Rattle.vll_explain.proofs.Texts.{begun_by}
use Rattle.vll_explain.proofs.explaining.begun_with.Goals as goal

pub returns : goal.returns
returns c = begun_by string_bytes c.format.result c.args.why c.args.explanation.now c.format.ensures.ok
