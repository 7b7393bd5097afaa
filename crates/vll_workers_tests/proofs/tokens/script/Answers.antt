use Rattle.std.proofs.Common.{All, List, sym, subst, arith}
use Rattle.std.proofs.lemmas.List.Elements.{All-push}
use Rattle.vll_proc.specs.declared.call.Call.{Call}
use Rattle.vll_check.specs.Calls.{Fits}
use Rattle.vll_workers_tests.proofs.tokens.script.Goals as goal

pub loop-index-preserved : goal.loop-index-preserved
loop-index-preserved g c =
    let fits = Fits c.args.library.now in
    record {
      fits = subst (λ (calls : List Call). All fits calls) (sym c.push_reserved.ensures.items) (All-push fits c.loop-index.script.items c.call_of.result c.loop-index.invariant.fits c.call_of.ensures);
      count = omega arith;
      room = omega arith;
    }
