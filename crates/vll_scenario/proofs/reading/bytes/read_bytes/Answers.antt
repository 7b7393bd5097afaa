use Rattle.std.proofs.Common.{◌++◌, take, rules}
use Rattle.std.proofs.KnownBytes.{Consumes-trans}
use Rattle.vll_scenario.proofs.reading.bytes.read_bytes.Goals as goal

pub returns-in_err-extend_from_slice-clause-some : goal.returns-in_err-extend_from_slice-clause-some
returns-in_err-extend_from_slice-clause-some g c =
    let remaining = g.S.Source.remaining in
    let bytes = c.pieces.bytes.items in
    let piece = take c.in-Ok.count c.read.new.buf in
    (bytes ++ piece, Consumes-trans (remaining c.args.source.now) (remaining c.pieces.source) (remaining c.read.new.self) bytes piece c.pieces.invariant.read c.in-Ok.ensures.bytes.0)

pub returns-in_default-clause-ok : goal.returns-in_default-clause-ok
returns-in_default-clause-ok g c = search rules

pub returns-in_default-clause-failed : goal.returns-in_default-clause-failed
returns-in_default-clause-failed g c = search rules

pub returns-clause-size : goal.returns-clause-size
returns-clause-size g c = search rules

pub returns-clause-some : goal.returns-clause-some
returns-clause-some g c = search rules

pub returns-clause-failed : goal.returns-clause-failed
returns-clause-failed g c = search rules
