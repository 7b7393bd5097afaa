use Rattle.std.proofs.Common.{◌∙◌, ℕ, ap, arith, is_some, slice_index_or, sym}
use Rattle.vll_core.proofs.Common.{Shown}
use Rattle.vll_core.proofs.Ending.{seen_next, load_next, store_next, release_next, finish_next}
use Rattle.vll_core.proofs.RunningWorks.{runs_of, work_within}
use Rattle.vll_core.proofs.machine.Machine.next_step.Goals as goal

pub index-execution-requires : goal.index-execution-requires
index-execution-requires g c =
    omega (arith, work_within c.self.inside _ _ _ c.self.invariant c.self.view_is c.requires.runs, c.self.inside.execution.ok.0, c.ticket.view_is)

pub returns-then-not-has_loaded : goal.returns-then-not-has_loaded
returns-then-not-has_loaded g c =
    let r = runs_of c.self.inside c.args.self.now c.args.ticket c.args.call.now c.index-execution.result.now c.self.invariant c.self.view_is c.requires.runs (c.index-execution.ensures ∙ ap (λ (n : ℕ). slice_index_or c.self.inside.execution.items n c.index-execution.result.now) c.ticket.view_is) in
    seen_next g.H.Place.place_of c.self.inside _ _ c.self.view_is (load_next g.H.Place.place_of _ _ _ _ r (sym c.has_loaded.ensures ∙ c.if-not-has_loaded.true))

pub returns-then-not-has_stored : goal.returns-then-not-has_stored
returns-then-not-has_stored g c =
    let r = runs_of c.self.inside c.args.self.now c.args.ticket c.args.call.now c.index-execution.result.now c.self.invariant c.self.view_is c.requires.runs (c.index-execution.ensures ∙ ap (λ (n : ℕ). slice_index_or c.self.inside.execution.items n c.index-execution.result.now) c.ticket.view_is) in
    seen_next g.H.Place.place_of c.self.inside _ _ c.self.view_is
    (store_next g.H.Place.place_of _ _ _ _ r (sym c.has_loaded.ensures ∙ c.if-not-has_loaded.false) (sym (c.has_stored.ensures.at_work _ _ r.execution) ∙ c.if-not-has_stored.true))

pub returns-then-is_some : goal.returns-then-is_some
returns-then-is_some g c =
    let r = runs_of c.self.inside c.args.self.now c.args.ticket c.args.call.now c.index-execution.result.now c.self.invariant c.self.view_is c.requires.runs (c.index-execution.ensures ∙ ap (λ (n : ℕ). slice_index_or c.self.inside.execution.items n c.index-execution.result.now) c.ticket.view_is) in
    seen_next g.H.Place.place_of c.self.inside _ _ c.self.view_is
    (release_next g.H.Place.place_of _ _ _ _ r (sym (c.has_stored.ensures.at_work _ _ r.execution) ∙ c.if-not-has_stored.false) _ c.next_release.ensures (sym c.is_some.ensures ∙ c.if-is_some.true))

pub returns-else-is_some : goal.returns-else-is_some
returns-else-is_some g c =
    let r = runs_of c.self.inside c.args.self.now c.args.ticket c.args.call.now c.index-execution.result.now c.self.invariant c.self.view_is c.requires.runs (c.index-execution.ensures ∙ ap (λ (n : ℕ). slice_index_or c.self.inside.execution.items n c.index-execution.result.now) c.ticket.view_is) in
    let closed = ap (λ (x : Shown _). is_some x.state.turn) c.self.view_is ∙ ap (λ o. is_some o) c.requires.closed in
    seen_next g.H.Place.place_of c.self.inside _ _ c.self.view_is
    (finish_next g.H.Place.place_of _ _ _ _ r closed (sym (c.has_stored.ensures.at_work _ _ r.execution) ∙ c.if-not-has_stored.false) _ c.next_release.ensures (sym c.is_some.ensures ∙ c.if-is_some.false))
