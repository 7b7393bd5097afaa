use Rattle.std.proofs.Common.{Err, IfSome, ap, string_bytes, subst, sym}
use Rattle.vll_explain.specs.Explained.{IsBegun}
use Rattle.vll_explain.proofs.Kept.{same_explains, some_text, unread_explains}
use Rattle.vll_explain.proofs.explaining.read_or_explain.Goals as goal

-- what holds of the bytes in memory holds of what was read
pub returns-in-Ok-clause-read : goal.returns-in-Ok-clause-read
returns-in-Ok-clause-read g c =
    same_explains (g.S.Source.remaining c.args.reader.now) (g.S.Source.remaining c.read_bytes.new.source) c.in-Ok.bytes.items c.as_slice.result.now c.held_or_explained.result c.in-Ok.ensures.ok c.as_slice.ensures.value c.held_or_explained.ensures.held

-- the fault of bytes that were not read to their end
pub returns-in-Err-clause-read : goal.returns-in-Err-clause-read
returns-in-Err-clause-read g c =
    let why = c.from-fault.result in
    let told = subst (λ text. IfSome text (λ t. IsBegun why (string_bytes t))) (sym c.ok-text.ensures.value) (some_text c.text_of_unread.result (IsBegun why) c.text_of_unread.ensures) in
    unread_explains (g.S.Source.remaining c.args.reader.now) (g.S.Source.remaining c.read_bytes.new.source) c.in-Err.why why c.ok-text.result c.from-fault.ensures (λ size. c.in-Err.ensures.size (ap Err size)) told
