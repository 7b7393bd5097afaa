use Rattle.std.proofs.Common.{take}
use Rattle.vll_proc.proofs.Common.{flat_map}
use Rattle.std.specs.Fmt.{HasWritten, IsPlainFormatter}
use Rattle.vll_proc.specs.Headline.Text.{output_text}
use Rattle.vll_proc.proofs.display.write_each.Given as goal

abbrev pub invariant-loop-output : goal.invariant-loop-output
invariant-loop-output g l =
    IsPlainFormatter l.initial.f → HasWritten g.W.Write.write_str_gives l.initial.f (flat_map output_text (take l.output-index l.outputs)) l.f
