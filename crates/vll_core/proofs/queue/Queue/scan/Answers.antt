use Rattle.std.proofs.Common.{◌≡◌, ◌∙◌, sym, ap, Some, slice_get}
use Rattle.vll_core.proofs.Common.{statuses, found_by, started, started_if}
use Rattle.vll_core.proofs.QueueScan.{found_shown, found_waits, shown_bits, kept_scanned}
use Rattle.vll_core.proofs.queue.Queue.scan.Given.{Over}
use Rattle.vll_core.proofs.queue.Queue.scan.Goals as goal

pub scan-found-requires : goal.scan-found-requires
scan-found-requires g c = record {
  lines = rw (c.deref.ensures.value, c.deref-2.ensures.value) c.self.invariant.as_many;
  below = rw c.deref-2.ensures.value c.self.invariant.window.tickets.below;
}

pub invariant_of-self : goal.invariant_of-self
invariant_of-self g c =
    kept_scanned c.self.inside c.args.self.now c.scan-found.new.bits c.is_none-self-inside.result c.self.invariant c.self.view_is c.scan-found.ensures.same
    (found_shown g.H.Place.place_of c.self.inside c.args.self.now _ _ c.scan-found.result c.self.invariant c.self.view_is c.deref.ensures.value c.deref-2.ensures.value c.scan-found.ensures.found ∙ c.in_err-found.was)

pub returns-in_err-found-clause-ticket : goal.returns-in_err-found-clause-ticket
returns-in_err-found-clause-ticket g c =
    c.from_residual.ensures
    ∙ sym (found_shown g.H.Place.place_of c.self.inside c.args.self.now _ _ c.scan-found.result c.self.invariant c.self.view_is c.deref.ensures.value c.deref-2.ensures.value c.scan-found.ensures.found ∙ c.in_err-found.was)

pub returns-in_err-found-clause-scanned : goal.returns-in_err-found-clause-scanned
returns-in_err-found-clause-scanned g c =
    shown_bits c.self.inside c.args.self.now c.scan-found.new.bits c.self.view_is c.scan-found.ensures.same
    ∙ sym
    (ap (started_if c.args.self.now)
    (found_shown g.H.Place.place_of c.self.inside c.args.self.now _ _ c.scan-found.result c.self.invariant c.self.view_is c.deref.ensures.value c.deref-2.ensures.value c.scan-found.ensures.found ∙ c.in_err-found.was))

pub start-requires : goal.start-requires
start-requires g c =
    ap (λ q. slice_get (statuses q) c.in_ok-found.field-0) (shown_bits c.self.inside c.args.self.now c.scan-found.new.bits c.self.view_is c.scan-found.ensures.same)
    ∙ found_waits g.H.Place.place_of c.self.inside c.args.self.now c.in_ok-found.field-0 c.self.invariant c.self.view_is
    (found_shown g.H.Place.place_of c.self.inside c.args.self.now _ _ c.scan-found.result c.self.invariant c.self.view_is c.deref.ensures.value c.deref-2.ensures.value c.scan-found.ensures.found ∙ c.in_ok-found.was)

found : (g : Over) (c : goal.After-start g) → found_by g.H.Place.place_of c.args.self.now ≡ Some c.in_ok-found.field-0
found g c = found_shown g.H.Place.place_of c.self.inside c.args.self.now _ _ c.scan-found.result c.self.invariant c.self.view_is c.deref.ensures.value c.deref-2.ensures.value c.scan-found.ensures.found ∙ c.in_ok-found.was

pub returns-clause-ticket : goal.returns-clause-ticket
returns-clause-ticket g c = sym (found g c)

pub returns-clause-scanned : goal.returns-clause-scanned
returns-clause-scanned g c =
    c.start.ensures
    ∙ (ap (λ q. started q c.in_ok-found.field-0) (shown_bits c.self.inside c.args.self.now c.scan-found.new.bits c.self.view_is c.scan-found.ensures.same)
    ∙ sym (ap (started_if c.args.self.now) (found g c)))
