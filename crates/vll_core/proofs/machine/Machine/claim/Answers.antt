use Rattle.vll_core.proofs.machine.Machine.claim.Given.{Over}
use Rattle.std.proofs.Common.{◌≡◌, ◌&&◌, Bool, Some, ℕ, ◌+◌, slice_get, slice_set, ap, sym, ◌∙◌, arith}
use Rattle.vll_core.proofs.Common.{pair_word_of_record, step, answer_of, Shown, after, opening_of}
use Rattle.vll_core.specs.declared.event.Event.TheVariants as event
use Rattle.vll_core.proofs.Claiming.{Finds, finds, read_counter, sum_fits, granted_right, kept_claimed, claimed_shown, claimed_told}
use Rattle.vll_core.proofs.machine.Machine.claim.Goals.{In-Some-get, then-turn, else-turn}
use Rattle.vll_core.proofs.machine.Machine.claim.Goals as goal

at_claim : (g : Over) (c : In-Some-get g) → slice_get c.in-Some.turn.call.claims c.in-Some.turn.requested ≡ Some c.in-Some-get.claim
at_claim g c = sym c.get.ensures ∙ c.in-Some-get.is

found : (g : Over) (c : In-Some-get g) → Finds g.H.Place.place_of c.self.inside c.in-Some.turn c.in-Some-get.claim
found g c = finds _ _ _ c.self.invariant c.in-Some.is (at_claim g c)

pub index-old-requires : goal.index-old-requires
index-old-requires g c =
    let f = found g (goal.at.index-old-requires g c).In-Some-get in
    omega (arith, f.word_there, c.pair_word-word.ensures, c.self.inside.words.ok.0)

pub overflow_add-old : goal.overflow_add-old
overflow_add-old g c =
    let h = (goal.at.overflow_add-old g c).In-Some-get in
    let old = read_counter c.self.inside c.in-Some.turn c.in-Some-get.claim _ _ (found g h) c.pair_word-word.ensures c.index-old.ensures in
    omega (arith, old, c.delta.ensures, sum_fits c.self.inside c.in-Some.turn c.in-Some-get.claim (found g h) (at_claim g h))

pub index_mut-requires : goal.index_mut-requires
index_mut-requires g c =
    let f = found g (goal.at.index_mut-requires g c).In-Some-get in
    omega (arith, f.word_there, c.pair_word-word.ensures, c.self.inside.words.ok.0)

pub overflow_add-self : goal.overflow_add-self
overflow_add-self g c =
    let f = found g (goal.at.overflow_add-self g c).In-Some-get in
    omega (arith, f.few)

pub invariant_of-self : goal.invariant_of-self
invariant_of-self g c =
    let h = (goal.at.invariant_of-self g c).In-Some-get in
    let f = found g h in
    let old = read_counter c.self.inside c.in-Some.turn c.in-Some-get.claim _ _ f c.pair_word-word.ensures c.index-old.ensures in
    let granted = c.granted-granted.ensures ∙ granted_right c.self.inside c.in-Some.turn c.in-Some-get.claim _ f old in
    let joined : c.if-turn.self ≡ (c.in-Some.turn.granted && c.granted-granted.result) = elim c.if-turn.branch [
      | then-turn w ↦ w.self-is ∙ ap (λ (b : Bool). b && c.granted-granted.result) (sym w.if-turn.true)
      | else-turn w ↦ w.self-is ∙ w.if-turn.false ∙ ap (λ (b : Bool). b && c.granted-granted.result) (sym w.if-turn.false)
    ] in
    kept_claimed c.self.inside c.in-Some.turn c.in-Some-get.claim _ c.if-turn.self c.self.invariant f (at_claim g h)
    (joined ∙ ap (λ (b : Bool). c.in-Some.turn.granted && b) granted)
    (ap (λ (i : ℕ). slice_set c.self.inside.words.items i (c.index-old.result.now + c.delta.result)) c.pair_word-word.ensures
    ∙ ap (λ (v : ℕ). slice_set c.self.inside.words.items (pair_word_of_record c.in-Some-get.claim.id) v) (omega (arith, old, c.delta.ensures)))

pub returns-clause-answer : goal.returns-clause-answer
returns-clause-answer g c =
    let h = (goal.at.returns-clause-answer g c).In-Some-get in
    let f = found g h in
    let old = read_counter c.self.inside c.in-Some.turn c.in-Some-get.claim _ _ f c.pair_word-word.ensures c.index-old.ensures in
    let granted = c.granted-granted.ensures ∙ granted_right c.self.inside c.in-Some.turn c.in-Some-get.claim _ f old in
    claimed_told c.self.inside c.in-Some.turn c.in-Some-get.claim _ _ f (at_claim g h) old granted
    ∙ ap (λ (x : Shown _). answer_of (step (opening_of g.H.Place.place_of x) x.state event.Claim)) c.self.view_is

pub returns-clause-state : goal.returns-clause-state
returns-clause-state g c =
    let h = (goal.at.returns-clause-state g c).In-Some-get in
    let f = found g h in
    let old = read_counter c.self.inside c.in-Some.turn c.in-Some-get.claim _ _ f c.pair_word-word.ensures c.index-old.ensures in
    let granted = c.granted-granted.ensures ∙ granted_right c.self.inside c.in-Some.turn c.in-Some-get.claim _ f old in
    let joined : c.if-turn.self ≡ (c.in-Some.turn.granted && c.granted-granted.result) = elim c.if-turn.branch [
      | then-turn w ↦ w.self-is ∙ ap (λ (b : Bool). b && c.granted-granted.result) (sym w.if-turn.true)
      | else-turn w ↦ w.self-is ∙ w.if-turn.false ∙ ap (λ (b : Bool). b && c.granted-granted.result) (sym w.if-turn.false)
    ] in
    claimed_shown c.self.inside c.in-Some.turn c.in-Some-get.claim c.self.inside.words c.if-turn.self f (at_claim g h)
    (joined ∙ ap (λ (b : Bool). c.in-Some.turn.granted && b) granted)
    ∙ ap (λ (x : Shown _). after x (step (opening_of g.H.Place.place_of x) x.state event.Claim)) c.self.view_is
