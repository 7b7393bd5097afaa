use Rattle.vll_core.proofs.machine.Machine.load.Given.{Over}
use Rattle.std.proofs.Common.{◌≡◌, ℕ, sym, ap, ◌∙◌, subst, arith, slice_get, Ok, Bor}
use Rattle.vll_core.proofs.Common.{option_map, Proc, OutOfStep, Loaded, shown, IsMachine}
use Rattle.vll_core.specs.declared.event.Event.TheVariants as event
use Rattle.vll_core.specs.State.{value as value_of}
use Rattle.vll_core.proofs.RunningCalls.{RunsAt, runs_told, read_work, work_there, read_at_work, lent_here, procedure_lent, procedure_is, made_now}
use Rattle.vll_core.proofs.MachineSteps.{Refuses, refused_told, refused_stays, taken_told, taken_shown}
use Rattle.vll_core.proofs.Loading.{LoadsNext, HasLoaded, refused_load, value_there, read_value, sees_serial, next_again, load_left, with_work, taken_load, core_load}
use Rattle.vll_core.proofs.machine.Machine.load.Goals.{In-Some, In-Some-next_load, In_default-next_load, After-proc, After-index_mut, After-load}
use Rattle.vll_core.proofs.machine.Machine.load.Goals as goal

-- the call runs at the ticket
runs : (g : Over) (c : In-Some g) → RunsAt c.self.inside c.args.ticket c.in-Some.call
runs g c = runs_told _ _ _ _ c.self.invariant c.self.view_is c.in-Some.ensures

next : (g : Over) (c : In-Some-next_load g) → RunsAt c.self.inside c.args.ticket c.in-Some.call → LoadsNext c.self.inside c.args.ticket c.in-Some.call c.index.result.now c.in-Some-next_load.claim
next g c r = record {
  runs = r;
  execution = read_work c.self.inside _ _ _ r _ c.ticket.view_is c.index.ensures;
  next = sym c.in-Some-next_load.ensures;
}

refused : (g : Over) (c : In_default-next_load g) → RunsAt c.self.inside c.args.ticket c.in-Some.call → Refuses g.H.Place.place_of c.self.inside (event.Load c.args.ticket) OutOfStep
refused g c r = refused_load _ _ _ r _ (read_work c.self.inside _ _ _ r _ c.ticket.view_is c.index.ensures) (sym c.in_default-next_load.ensures)

put : (g : Over) (c : After-index_mut g) (l : LoadsNext c.self.inside c.args.ticket c.in-Some.call c.index.result.now c.in-Some-next_load.claim)
    → LoadsNext c.self.inside c.args.ticket c.in-Some.call c.index_mut.result.now c.in-Some-next_load.claim
put g c l = next_again c.self.inside _ _ _ _ _ l (read_work c.self.inside _ _ _ l.runs _ c.ticket.view_is c.index_mut.ensures.value)

value : (g : Over) (c : After-load g) → LoadsNext c.self.inside c.args.ticket c.in-Some.call c.index.result.now c.in-Some-next_load.claim
    → c.index-value.result.now ≡ value_of (shown c.self.inside).base (shown c.self.inside).state c.in-Some-next_load.claim.id
value g c l = read_value c.self.inside _ _ _ _ _ _ c.self.invariant l c.value_word.ensures c.index-value.ensures

-- the procedure that is lent is one of the machine's library
lent : (g : Over) (c : After-proc g) → option_map (λ (p : Bor Proc). p.now) c.proc.result ≡ slice_get c.self.inside.library.value.procs c.in-Some.call.number
lent g c = lent_here c.self.inside _ _ _ _ c.self.view_is c.requires.same c.proc.ensures.procedure

loaded : (g : Over) (c : After-load g) → HasLoaded c.index_mut.result.now c.load.new.self
loaded g c = record { loads = c.load.ensures.loads; stores = c.load.ensures.stores; releases = c.load.ensures.releases }

pub index-requires : goal.index-requires
index-requires g c = omega (arith, work_there c.self.inside _ _ _ (runs g (goal.at.index-requires g c).In-Some) c.ticket.view_is, c.self.inside.execution.ok.0)

pub returns-in_default-next_load-clause-answer : goal.returns-in_default-next_load-clause-answer
returns-in_default-next_load-clause-answer g c =
    refused_told c.self.inside _ _ _ c.self.view_is (refused g c (runs g (goal.at.returns-in_default-next_load-clause-answer g c).In-Some))

pub returns-in_default-next_load-clause-state : goal.returns-in_default-next_load-clause-state
returns-in_default-next_load-clause-state g c =
    refused_stays c.self.inside _ _ _ c.self.view_is (refused g c (runs g (goal.at.returns-in_default-next_load-clause-state g c).In-Some))

pub index-value-requires : goal.index-value-requires
index-value-requires g c =
    let at = goal.at.index-value-requires g c in
    omega (arith, value_there c.self.inside _ _ _ _ _ c.self.invariant (next g at.In-Some-next_load (runs g at.In-Some)) c.value_word.ensures, c.self.inside.words.ok.0)

pub unwrap-procedure-requires : goal.unwrap-procedure-requires
unwrap-procedure-requires g c =
    let at = goal.at.unwrap-procedure-requires g c in
    procedure_lent c.self.inside _ _ _ (runs g at.In-Some) (lent g at.After-proc)

pub index_mut-requires : goal.index_mut-requires
index_mut-requires g c = omega (arith, work_there c.self.inside _ _ _ (runs g (goal.at.index_mut-requires g c).In-Some) c.ticket.view_is, c.self.inside.execution.ok.0)

pub load-requires-clause-formed : goal.load-requires-clause-formed
load-requires-clause-formed g c =
    let at = goal.at.load-requires-clause-formed g c in
    (procedure_is c.self.inside _ _ _ _ (runs g at.In-Some) (lent g at.After-proc) c.unwrap-procedure.ensures).1.0

pub load-requires-clause-made : goal.load-requires-clause-made
load-requires-clause-made g c =
    let at = goal.at.load-requires-clause-made g c in
    (_, (procedure_is c.self.inside _ _ _ _ (runs g at.In-Some) (lent g at.After-proc) c.unwrap-procedure.ensures).1.1)

pub load-requires-clause-left : goal.load-requires-clause-left
load-requires-clause-left g c =
    let at = goal.at.load-requires-clause-left g c in
    load_left c.self.inside _ _ _ _ (put g at.After-index_mut (next g at.In-Some-next_load (runs g at.In-Some)))

pub invariant_of-self : goal.invariant_of-self
invariant_of-self g c =
    let at = goal.at.invariant_of-self g c in
    let r = runs g at.In-Some in
    let l = next g at.In-Some-next_load r in
    let p = put g at.After-index_mut l in
    let is = procedure_is c.self.inside _ _ _ _ r (lent g at.After-proc) c.unwrap-procedure.ensures in
    subst (λ (t : ℕ). IsMachine g.H.Place.place_of (with_work c.self.inside t c.load.new.self)) (sym c.ticket.view_is)
    (core_load c.self.inside _ _ _ _ _ c.self.invariant p (loaded g at.After-load)
    (c.load.ensures.at_work _ _ _ is.0 (made_now c.self.inside _ _ r _ is.1.1) r.within p.next
    (value g at.After-load l ∙ sees_serial c.self.inside _ _ _ _ c.self.invariant l) (read_at_work c.self.inside _ _ p.runs _ p.execution)))

pub returns-clause-answer : goal.returns-clause-answer
returns-clause-answer g c =
    let at = goal.at.returns-clause-answer g c in
    let l = next g at.In-Some-next_load (runs g at.In-Some) in
    ap (λ (v : ℕ). Ok (Loaded v)) (value g at.After-load l) ∙ taken_told {places = g.H.Place.place_of} c.self.inside _ _ _ _ c.self.view_is (taken_load c.self.inside _ _ _ _ _ (put g at.After-index_mut l) (loaded g at.After-load))

pub returns-clause-state : goal.returns-clause-state
returns-clause-state g c =
    let at = goal.at.returns-clause-state g c in
    let l = next g at.In-Some-next_load (runs g at.In-Some) in
    ap (λ (t : ℕ). shown (with_work c.self.inside t c.load.new.self)) c.ticket.view_is
    ∙ taken_shown {places = g.H.Place.place_of} c.self.inside _ _ _ _ c.self.view_is (taken_load c.self.inside _ _ _ _ _ (put g at.After-index_mut l) (loaded g at.After-load))
