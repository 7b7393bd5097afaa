use Rattle.vll_core.proofs.machine.Machine.next_call.Given.{Over}
use Rattle.std.proofs.Common.{◌≡◌, ◌∙◌, sym, refl, Some, slice_get}
use Rattle.vll_core.proofs.Common.{slice_get_read, slice_get_within}
use Rattle.vll_core.proofs.Entries.{lent_item}
use Rattle.vll_core.proofs.Entering.{next_at, next_none, next_told, some_fits}
use Rattle.vll_core.proofs.machine.Machine.next_call.Goals.{After-copied}
use Rattle.vll_core.proofs.machine.Machine.next_call.Goals as goal

pub returns-in_err-script-clause-call : goal.returns-in_err-script-clause-call
returns-in_err-script-clause-call g c =
    c.from_residual.ensures ∙ next_told c.self.inside _ _ _ c.self.view_is (next_none c.self.inside _ (lent_item _ _ _ _ _ c.deref.ensures.value c.get.ensures.lookup c.in_err-script.was))

at_client : (g : Over) (c : After-copied g) → slice_get c.self.inside.scripts.items c.args.client ≡ Some c.in_ok-script.script.now
at_client g c = lent_item _ _ _ _ _ c.deref.ensures.value c.get.ensures.lookup c.in_ok-script.was

item : (g : Over) (c : After-copied g) → slice_get c.in_ok-script.script.now.items c.index.result.now ≡ c.copied.result
item g c = lent_item _ _ _ _ _ c.deref-2.ensures.value c.get-2.ensures.lookup refl ∙ sym c.copied.ensures

pub returns-clause-call : goal.returns-clause-call
returns-clause-call g c =
    let h = (goal.at.returns-clause-call g c).After-copied in
    let at = at_client g h in
    next_told c.self.inside _ _ _ c.self.view_is
    (next_at c.self.inside _ _ _ at (slice_get_read _ _ _ _ (sym c.self.invariant.nexts) (slice_get_within _ _ _ at) c.index.ensures) ∙ item g h)

pub returns-clause-fits : goal.returns-clause-fits
returns-clause-fits g c =
    let h = (goal.at.returns-clause-fits g c).After-copied in
    some_fits c.self.inside _ _ _ _ _ c.self.invariant c.self.view_is (at_client g h) (item g h)
