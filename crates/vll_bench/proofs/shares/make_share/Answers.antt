-- The library makes each call of each script.
use Rattle.std.proofs.Common.{All, sym, subst}
use Rattle.std.specs.Global.{Vec}
use Rattle.vll_proc.specs.declared.call.Call.{Call}
use Rattle.vll_check.specs.Calls.{Fits}
use Rattle.vll_bench.proofs.shares.make_share.Goals as goal

pub make_script-requires : goal.make_script-requires
make_script-requires g c =
    let fits = Fits (g.M.Maker.library c.args.maker.now) in
    let found = c.in-Some.ensures.lookup in
    subst (All fits) (sym c.as_slice.ensures.value) (subst (λ (s : Vec Call). All fits s.items) (sym found.1) (c.requires c.fetch_add.result c.in-Some.script.now found.3.0))
