use Rattle.vll_core.proofs.machine.Machine.find.Given.{Over}
use Rattle.std.proofs.Common.{◌<◌, ◌∙◌, ap, arith, refl, sym}
use Rattle.vll_core.proofs.Common.{source, Catalog, is_turn_of, Shown, library_of}
use Rattle.vll_core.proofs.Entering.{stands_next, next_seen, client_there, client_kept}
use Rattle.vll_core.proofs.FindingValues.{HasNext, Sees, value_read, core_find}
use Rattle.vll_core.proofs.MachineSteps.{library_same}
use Rattle.vll_core.proofs.machine.Machine.find.Goals.{In-Some-source, After-index-value}
use Rattle.vll_core.proofs.machine.Machine.find.Goals as goal

has_next : (g : Over) (c : In-Some-source g) → HasNext c.self.inside c.args.client c.in-Some.call
has_next g c = record {
  other = ap (λ (x : Shown _). is_turn_of c.args.client x.state.turn) c.self.view_is ∙ (sym c.is_turn_of.ensures ∙ c.if-is_turn_of.false);
  next = next_seen c.self.inside _ _ _ c.self.view_is c.in-Some.ensures.call;
}

pub index_mut-requires : goal.index_mut-requires
index_mut-requires g c =
    let has = has_next g (goal.at.index_mut-requires g c).In-Some-source in
    let stands = stands_next c.self.inside _ _ c.self.invariant has.next in
    omega (arith, client_kept c.self.inside _ _ c.self.invariant refl (client_there c.self.inside _ _ c.self.invariant stands), c.self.inside.kept.ok.0)

sees : (g : Over) (c : After-index-value g) → HasNext c.self.inside c.args.client c.in-Some.call → Sees g.H.Place.place_of c.self.inside c.args.client c.in-Some-source.source c.index-value.result.now c.in-Some.call
sees g c has =
    let same = library_same c.self.inside _ _ c.self.invariant c.self.view_is c.requires.same in
    let within : c.in-Some-source.source < c.self.inside.library.value.records = omega (arith, c.in-Some-source.ensures.within, ap (λ (l : Catalog). l.records) same) in
    record {
      core = c.self.invariant;
      has = has;
      source =
          ap (λ (x : Shown _). source (library_of x) c.in-Some.call) c.self.view_is
          ∙ (ap (λ (l : Catalog). source l c.in-Some.call) (sym c.requires.same) ∙ sym c.in-Some-source.ensures.source);
      value = value_read c.self.inside _ _ _ c.self.invariant within c.value_word.ensures c.index-value.ensures;
    }

pub invariant_of-self : goal.invariant_of-self
invariant_of-self g c =
    let at = goal.at.invariant_of-self g c in
    core_find _ _ _ _ _ (sees g at.After-index-value (has_next g at.In-Some-source))
