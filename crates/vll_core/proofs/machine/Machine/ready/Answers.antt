use Rattle.vll_core.proofs.machine.Machine.ready.Given.{Over}
use Rattle.std.proofs.Common.{◌≡◌, ◌∙◌, Option, Some, ap, sym, arith, slice_get, is_some, refl}
use Rattle.vll_core.proofs.Common.{option_map, slice_get_read, Call, with_found, ready, ready_without}
use Rattle.vll_core.proofs.Entering.{client_kept, catalog_handed, none_there, found_told}
use Rattle.vll_core.proofs.machine.Machine.ready.Goals.{After-branch-value}
use Rattle.vll_core.proofs.machine.Machine.ready.Goals as goal

pub index-value-requires : goal.index-value-requires
index-value-requires g c = omega (arith, client_kept c.self.inside _ _ c.self.invariant c.self.view_is c.requires.client, c.self.inside.kept.ok.0)

pub returns-then-is_none-clause-ready : goal.returns-then-is_none-clause-ready
returns-then-is_none-clause-ready g c =
    ready_without _ _ (catalog_handed c.self.inside _ _ c.self.invariant c.self.view_is c.requires.same) c.requires.fits
    (sym c.source.ensures.source ∙ none_there _ c.if-is_none.ensures)

-- the call enters with the value that is read, if there is one
enters : (g : Over) (c : After-branch-value g) → option_map (with_found c.args.library.now c.args.call.now) c.index-value.result.now ≡ ready c.args.self.now.base c.args.self.now.state c.args.client c.args.call.now
enters g c =
    let at : slice_get c.self.inside.kept.items c.args.client ≡ Some c.index-value.result.now =
    slice_get_read _ _ _ _ refl (client_kept c.self.inside _ _ c.self.invariant c.self.view_is c.requires.client) c.index-value.ensures in
    found_told c.self.inside _ _ _ _ _ c.self.view_is c.requires.same (ap (λ (x : Option _). is_some x) (sym c.source.ensures.source) ∙ c.if-is_none.ensures) at

pub returns-in_err-value-clause-call : goal.returns-in_err-value-clause-call
returns-in_err-value-clause-call g c =
    c.from_residual.ensures
    ∙ (ap (λ (x : Option _). option_map (with_found c.args.library.now c.args.call.now) x) (sym c.in_err-value.was)
    ∙ enters g (goal.at.returns-in_err-value-clause-call g c).After-branch-value)

pub returns-clause-call : goal.returns-clause-call
returns-clause-call g c =
    ap (λ (call : Call). Some call) c.with_found.ensures.call
    ∙ (ap (λ (x : Option _). option_map (with_found c.args.library.now c.args.call.now) x) (sym c.in_ok-value.was)
    ∙ enters g (goal.at.returns-clause-call g c).After-branch-value)
