use Rattle.vll_core.proofs.machine.Machine.store.Given.{Over}
use Rattle.std.proofs.Common.{◌≡◌, ℕ, ◌+◌, ◌<◌, length, sym, ap, ◌∙◌, arith, slice_get, slice_index_or, Option, Some}
use Rattle.vll_core.proofs.Common.{option_map, exact_unsigned_eq, Claim, OutOfStep, Execution, writes}
use Rattle.vll_core.specs.declared.event.Event.TheVariants as event
use Rattle.vll_core.proofs.RunningWorks.{Runs, work_within, runs_of, same_work}
use Rattle.vll_core.proofs.MachineSteps.{Refuses, refused_told, refused_stays, taken_told, taken_shown}
use Rattle.vll_core.proofs.Storing.{Stores, refused_unloaded, refused_aborted, refused_stored, taken_store, core_store, word_within, few_stores}
use Rattle.vll_core.proofs.machine.Machine.store.Goals.{In-Some, After-index-execution, In_default-next_store, In-Some-next_store, After-index_mut-2, After-stored, Joined-then-not-has_loaded, then-not-has_loaded-via-then-not-has_loaded, then-not-has_loaded-via-else-not-has_loaded+then-has_aborted}
use Rattle.vll_core.proofs.machine.Machine.store.Goals as goal

-- the running call's ticket is a place of the works
place_within : (g : Over) (c : In-Some g) → c.args.ticket < length c.self.inside.execution.items
place_within g c = work_within c.self.inside c.args.self.now c.args.ticket c.in-Some.call c.self.invariant c.self.view_is (sym c.in-Some.is ∙ c.running_call.ensures)

pub index-execution-requires : goal.index-execution-requires
index-execution-requires g c = omega (arith, place_within g (goal.at.index-execution-requires g c).In-Some, c.ticket.view_is, c.self.inside.execution.ok.0)

runs : (g : Over) (c : After-index-execution g) → Runs c.self.inside c.args.ticket c.in-Some.call c.index-execution.result.now
runs g c =
    runs_of _ _ _ _ _ c.self.invariant c.self.view_is (sym c.in-Some.is ∙ c.running_call.ensures)
    (c.index-execution.ensures ∙ ap (λ (n : ℕ). slice_index_or c.self.inside.execution.items n c.index-execution.result.now) c.ticket.view_is)

refused_early : (g : Over) (c : Joined-then-not-has_loaded g) → Runs c.self.inside c.args.ticket c.in-Some.call c.index-execution.result.now
    → Refuses g.H.Place.place_of c.self.inside (event.Store c.args.ticket) OutOfStep
refused_early g c r = elim c.then-not-has_loaded.branch [
  | then-not-has_loaded-via-then-not-has_loaded w ↦ refused_unloaded _ _ _ _ r (sym c.has_loaded.ensures ∙ w.if-not-has_loaded.true)
  | then-not-has_loaded-via-else-not-has_loaded+then-has_aborted w ↦ refused_aborted _ _ _ _ r (sym w.has_aborted.ensures ∙ w.if-has_aborted.true)
]

pub returns-then-not-has_loaded-clause-answer : goal.returns-then-not-has_loaded-clause-answer
returns-then-not-has_loaded-clause-answer g c =
    refused_told c.self.inside _ _ _ c.self.view_is (refused_early g c (runs g (goal.at.returns-then-not-has_loaded-clause-answer g c).After-index-execution))

pub returns-then-not-has_loaded-clause-state : goal.returns-then-not-has_loaded-clause-state
returns-then-not-has_loaded-clause-state g c =
    refused_stays c.self.inside _ _ _ c.self.view_is (refused_early g c (runs g (goal.at.returns-then-not-has_loaded-clause-state g c).After-index-execution))

refused_late : (g : Over) (c : In_default-next_store g) → Runs c.self.inside c.args.ticket c.in-Some.call c.index-execution.result.now
    → Refuses g.H.Place.place_of c.self.inside (event.Store c.args.ticket) OutOfStep
refused_late g c r = refused_stored _ _ _ _ c.self.invariant r (sym c.next_store.ensures.claim ∙ ap (λ (o : Option (Claim × ℕ)). option_map (λ (p : Claim × ℕ). p.0) o) c.in_default-next_store.is)

pub returns-in_default-next_store-clause-answer : goal.returns-in_default-next_store-clause-answer
returns-in_default-next_store-clause-answer g c =
    refused_told c.self.inside _ _ _ c.self.view_is (refused_late g c (runs g (goal.at.returns-in_default-next_store-clause-answer g c).After-index-execution))

pub returns-in_default-next_store-clause-state : goal.returns-in_default-next_store-clause-state
returns-in_default-next_store-clause-state g c =
    refused_stays c.self.inside _ _ _ c.self.view_is (refused_late g c (runs g (goal.at.returns-in_default-next_store-clause-state g c).After-index-execution))

left : (g : Over) (c : In-Some-next_store g) → slice_get (writes c.in-Some.call) c.index-execution.result.now.stores ≡ Some c.in-Some-next_store.claim
left g c = sym c.next_store.ensures.claim ∙ ap (λ (o : Option (Claim × ℕ)). option_map (λ (p : Claim × ℕ). p.0) o) c.in-Some-next_store.is

pub index_mut-requires : goal.index_mut-requires
index_mut-requires g c =
    let at = goal.at.index_mut-requires g c in
    omega (arith, word_within _ _ _ _ _ c.self.invariant (runs g at.After-index-execution) (left g at.In-Some-next_store), c.value_word.ensures, c.self.inside.words.ok.0)

pub index_mut-requires-2 : goal.index_mut-requires-2
index_mut-requires-2 g c = omega (arith, place_within g (goal.at.index_mut-requires-2 g c).In-Some, c.ticket.view_is, c.self.inside.execution.ok.0)

stored_work : (g : Over) (c : After-index_mut-2 g) → Runs c.self.inside c.args.ticket c.in-Some.call c.index-execution.result.now → c.index_mut-2.result.now ≡ c.index-execution.result.now
stored_work g c r = same_work c.self.inside c.args.ticket c.in-Some.call _ _ r
    (c.index_mut-2.ensures.value ∙ ap (λ (n : ℕ). slice_index_or c.self.inside.execution.items n c.index_mut-2.result.now) c.ticket.view_is)

pub stored-requires : goal.stored-requires
stored-requires g c =
    let at = goal.at.stored-requires g c in
    let r = runs g at.After-index-execution in
    let few = few_stores _ _ _ _ _ r (left g at.In-Some-next_store) in
    record { room = rw (stored_work g c r) few }

stores : (g : Over) (c : After-stored g) → Runs c.self.inside c.args.ticket c.in-Some.call c.index-execution.result.now
    → slice_get (writes c.in-Some.call) c.index-execution.result.now.stores ≡ Some c.in-Some-next_store.claim → c.index_mut-2.result.now ≡ c.index-execution.result.now
    → Stores c.self.inside c.args.ticket c.ticket.inside.0 c.value_word.result c.in-Some-next_store.value c.in-Some.call c.index-execution.result.now c.stored.new.self c.in-Some-next_store.claim
stores g c r next same =
    let all = exact_unsigned_eq c.index-execution.result.now.loads (length c.in-Some.call.claims) (sym c.has_loaded.ensures ∙ c.if-not-has_loaded.false) in
    record {
      runs = r;
      loaded = all;
      goes_on = sym c.has_aborted.ensures ∙ c.if-has_aborted.false;
      left = next;
      value = c.in-Some-next_store.ensures.value c.self.inside.library.value.procs _ r.execution all;
      there = c.ticket.view_is;
      of_record = c.value_word.ensures;
      more = c.stored.ensures.stores ∙ ap (λ (w : Execution). record w { stores = w.stores + 1 }) same;
    }

pub invariant_of-self : goal.invariant_of-self
invariant_of-self g c =
    let at = goal.at.invariant_of-self g c in
    let r = runs g at.After-index-execution in
    core_store _ _ _ _ _ _ _ _ _ c.self.invariant (stores g at.After-stored r (left g at.In-Some-next_store) (stored_work g at.After-index_mut-2 r))

pub returns-clause-answer : goal.returns-clause-answer
returns-clause-answer g c =
    let at = goal.at.returns-clause-answer g c in
    let r = runs g at.After-index-execution in
    taken_told {places = g.H.Place.place_of} c.self.inside _ _ _ _ c.self.view_is (taken_store _ _ _ _ _ _ _ _ _ (stores g at.After-stored r (left g at.In-Some-next_store) (stored_work g at.After-index_mut-2 r)))

pub returns-clause-state : goal.returns-clause-state
returns-clause-state g c =
    let at = goal.at.returns-clause-state g c in
    let r = runs g at.After-index-execution in
    taken_shown {places = g.H.Place.place_of} c.self.inside _ _ _ _ c.self.view_is (taken_store _ _ _ _ _ _ _ _ _ (stores g at.After-stored r (left g at.In-Some-next_store) (stored_work g at.After-index_mut-2 r)))
