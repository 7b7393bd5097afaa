use Rattle.vll_core.proofs.machine.Machine.release.Given.{Over}
use Rattle.std.proofs.Common.{◌≡◌, ℕ, ◌-◌, true, Some, Ok, slice_get, slice_index_or, refl, sym, ap, ◌∙◌, arith}
use Rattle.vll_core.proofs.Common.{with_item, Execution, Released, shown, has_stored}
use Rattle.vll_core.specs.declared.event.Event.TheVariants as event
use Rattle.vll_core.proofs.RunningWorks.{Runs, runs_of, work_within}
use Rattle.vll_core.proofs.MachineSteps.{refused_told, refused_stays, taken_told, taken_shown}
use Rattle.vll_core.proofs.Releasing.{finds, entry_of, read_counter, read_again, put_again, word_less, refused_stores, refused_releases, taken_release, core_release}
use Rattle.vll_core.proofs.machine.Machine.release.Goals.{After-index-execution, Then-not-has_stored, In-Some-next_release}
use Rattle.vll_core.proofs.machine.Machine.release.Goals as goal

runs : (g : Over) (c : After-index-execution g) → Runs c.self.inside c.args.ticket c.in-Some.call c.index-execution.result.now
runs g c =
    runs_of c.self.inside c.args.self.now c.args.ticket c.in-Some.call _ c.self.invariant c.self.view_is (sym c.in-Some.is ∙ c.running_call.ensures)
    (c.index-execution.ensures ∙ ap (λ (n : ℕ). slice_index_or c.self.inside.execution.items n c.index-execution.result.now) c.ticket.view_is)

pub index-execution-requires : goal.index-execution-requires
index-execution-requires g c =
    omega (arith, work_within c.self.inside c.args.self.now c.args.ticket c.in-Some.call c.self.invariant c.self.view_is (sym c.in-Some.is ∙ c.running_call.ensures), c.ticket.view_is, c.self.inside.execution.ok.0)

pub returns-then-not-has_stored-clause-answer : goal.returns-then-not-has_stored-clause-answer
returns-then-not-has_stored-clause-answer g c =
    let r = runs g (goal.at.returns-then-not-has_stored-clause-answer g c).After-index-execution in
    refused_told {places = g.H.Place.place_of} c.self.inside c.args.self.now (event.Release c.args.ticket) _ c.self.view_is
    (refused_stores c.self.inside c.args.ticket c.in-Some.call _ r (sym (c.has_stored.ensures.at_work _ _ r.execution) ∙ c.if-not-has_stored.true))

pub returns-then-not-has_stored-clause-state : goal.returns-then-not-has_stored-clause-state
returns-then-not-has_stored-clause-state g c =
    let r = runs g (goal.at.returns-then-not-has_stored-clause-state g c).After-index-execution in
    refused_stays {places = g.H.Place.place_of} c.self.inside c.args.self.now (event.Release c.args.ticket) _ c.self.view_is
    (refused_stores c.self.inside c.args.ticket c.in-Some.call _ r (sym (c.has_stored.ensures.at_work _ _ r.execution) ∙ c.if-not-has_stored.true))

pub returns-in_default-next_release-clause-answer : goal.returns-in_default-next_release-clause-answer
returns-in_default-next_release-clause-answer g c =
    let r = runs g (goal.at.returns-in_default-next_release-clause-answer g c).After-index-execution in
    refused_told {places = g.H.Place.place_of} c.self.inside c.args.self.now (event.Release c.args.ticket) _ c.self.view_is
    (refused_releases c.self.inside c.args.ticket c.in-Some.call _ r (sym (c.has_stored.ensures.at_work _ _ r.execution) ∙ c.if-not-has_stored.false)
    (sym c.next_release.ensures ∙ c.in_default-next_release.is))

pub returns-in_default-next_release-clause-state : goal.returns-in_default-next_release-clause-state
returns-in_default-next_release-clause-state g c =
    let r = runs g (goal.at.returns-in_default-next_release-clause-state g c).After-index-execution in
    refused_stays {places = g.H.Place.place_of} c.self.inside c.args.self.now (event.Release c.args.ticket) _ c.self.view_is
    (refused_releases c.self.inside c.args.ticket c.in-Some.call _ r (sym (c.has_stored.ensures.at_work _ _ r.execution) ∙ c.if-not-has_stored.false)
    (sym c.next_release.ensures ∙ c.in_default-next_release.is))

at_claim : (g : Over) (c : In-Some-next_release g) → slice_get c.in-Some.call.claims c.index-execution.result.now.releases ≡ Some c.in-Some-next_release.claim
at_claim g c = sym c.next_release.ensures ∙ c.in-Some-next_release.is

all_stored : (g : Over) (c : In-Some-next_release g) (r : Runs c.self.inside c.args.ticket c.in-Some.call c.index-execution.result.now)
    → has_stored (shown c.self.inside).base (shown c.self.inside).state c.args.ticket (entry_of c.self.inside c.args.ticket c.in-Some.call c.index-execution.result.now r) ≡ true
all_stored g c r = sym (c.has_stored.ensures.at_work _ _ r.execution) ∙ c.if-not-has_stored.false

pub index-old-requires : goal.index-old-requires
index-old-requires g c =
    let at = goal.at.index-old-requires g c in
    let r = runs g at.After-index-execution in
    let f = finds c.self.inside c.args.ticket c.in-Some.call _ c.in-Some-next_release.claim c.self.invariant r (at_claim g at.In-Some-next_release) in
    omega (arith, f.word_there, c.pair_word-word.ensures, c.self.inside.words.ok.0)

pub overflow_sub-old : goal.overflow_sub-old
overflow_sub-old g c =
    let at = goal.at.overflow_sub-old g c in
    let r = runs g at.After-index-execution in
    let f = finds c.self.inside c.args.ticket c.in-Some.call _ c.in-Some-next_release.claim c.self.invariant r (at_claim g at.In-Some-next_release) in
    let old = read_counter c.self.inside c.in-Some.call _ c.in-Some-next_release.claim c.pair_word-word.result c.index-old.result.now f c.pair_word-word.ensures c.index-old.ensures in
    omega (arith, f.enough, old, c.delta.ensures)

pub index_mut-requires : goal.index_mut-requires
index_mut-requires g c =
    let at = goal.at.index_mut-requires g c in
    let r = runs g at.After-index-execution in
    let f = finds c.self.inside c.args.ticket c.in-Some.call _ c.in-Some-next_release.claim c.self.invariant r (at_claim g at.In-Some-next_release) in
    omega (arith, f.word_there, c.pair_word-word.ensures, c.self.inside.words.ok.0)

pub index_mut-requires-2 : goal.index_mut-requires-2
index_mut-requires-2 g c =
    omega (arith, work_within c.self.inside c.args.self.now c.args.ticket c.in-Some.call c.self.invariant c.self.view_is (sym c.in-Some.is ∙ c.running_call.ensures), c.ticket.view_is, c.self.inside.execution.ok.0)

pub released-requires : goal.released-requires
released-requires g c =
    let at = goal.at.released-requires g c in
    let r = runs g at.After-index-execution in
    let f = finds c.self.inside c.args.ticket c.in-Some.call _ c.in-Some-next_release.claim c.self.invariant r (at_claim g at.In-Some-next_release) in
    let same = read_again c.self.inside c.args.ticket c.in-Some.call _ c.ticket.inside.0 c.index_mut-2.result.now r c.ticket.view_is c.index_mut-2.ensures.value in
    record { room = omega (arith, f.few, ap (λ (w : Execution). w.releases) same) }

pub invariant_of-self : goal.invariant_of-self
invariant_of-self g c =
    let at = goal.at.invariant_of-self g c in
    let r = runs g at.After-index-execution in
    let f = finds c.self.inside c.args.ticket c.in-Some.call _ c.in-Some-next_release.claim c.self.invariant r (at_claim g at.In-Some-next_release) in
    let old = read_counter c.self.inside c.in-Some.call _ c.in-Some-next_release.claim c.pair_word-word.result c.index-old.result.now f c.pair_word-word.ensures c.index-old.ensures in
    let all = all_stored g at.In-Some-next_release r in
    let put = put_again c.self.inside c.args.ticket c.in-Some.call _ c.ticket.inside.0 c.index_mut-2.result.now c.released.new.self r c.ticket.view_is c.index_mut-2.ensures.value c.released.ensures.releases in
    core_release c.self.inside c.args.ticket c.in-Some.call _ c.in-Some-next_release.claim _ _ r c.self.invariant all (at_claim g at.In-Some-next_release)
    (word_less c.self.inside c.in-Some-next_release.claim c.pair_word-word.result c.index-old.result.now c.delta.result c.pair_word-word.ensures old c.delta.ensures)
    put refl

pub returns-clause-answer : goal.returns-clause-answer
returns-clause-answer g c =
    let at = goal.at.returns-clause-answer g c in
    let r = runs g at.After-index-execution in
    let f = finds c.self.inside c.args.ticket c.in-Some.call _ c.in-Some-next_release.claim c.self.invariant r (at_claim g at.In-Some-next_release) in
    let old = read_counter c.self.inside c.in-Some.call _ c.in-Some-next_release.claim c.pair_word-word.result c.index-old.result.now f c.pair_word-word.ensures c.index-old.ensures in
    let all = all_stored g at.In-Some-next_release r in
    let put = put_again c.self.inside c.args.ticket c.in-Some.call _ c.ticket.inside.0 c.index_mut-2.result.now c.released.new.self r c.ticket.view_is c.index_mut-2.ensures.value c.released.ensures.releases in
    ap (λ (n : ℕ). Ok (Released n)) old
    ∙ taken_told {places = g.H.Place.place_of} c.self.inside _ c.args.self.now (event.Release c.args.ticket) _ c.self.view_is
    (taken_release c.self.inside c.args.ticket c.in-Some.call _ c.in-Some-next_release.claim c.self.inside.words (with_item c.self.inside.execution c.ticket.inside.0 c.released.new.self) r all (at_claim g at.In-Some-next_release) put)

pub returns-clause-state : goal.returns-clause-state
returns-clause-state g c =
    let at = goal.at.returns-clause-state g c in
    let r = runs g at.After-index-execution in
    let all = all_stored g at.In-Some-next_release r in
    let put = put_again c.self.inside c.args.ticket c.in-Some.call _ c.ticket.inside.0 c.index_mut-2.result.now c.released.new.self r c.ticket.view_is c.index_mut-2.ensures.value c.released.ensures.releases in
    taken_shown {places = g.H.Place.place_of} c.self.inside _ c.args.self.now (event.Release c.args.ticket) _ c.self.view_is
    (taken_release c.self.inside c.args.ticket c.in-Some.call _ c.in-Some-next_release.claim (with_item c.self.inside.words c.pair_word-word.result (c.index-old.result.now - c.delta.result))
    (with_item c.self.inside.execution c.ticket.inside.0 c.released.new.self) r all (at_claim g at.In-Some-next_release) put)
