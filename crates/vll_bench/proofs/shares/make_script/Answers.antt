-- The library makes each call of the script.
use Rattle.std.proofs.Common.{sym, subst}
use Rattle.vll_check.specs.Calls.{Fits}
use Rattle.vll_bench.proofs.shares.make_script.Goals as goal

pub make-requires : goal.make-requires
make-requires g c = subst (Fits (g.M.Maker.library c.args.maker.now)) (sym c.call-item.is) (c.requires c.loop-call.call-index c.call-item.result c.loop-call-test.true)
