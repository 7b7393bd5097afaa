-- What an observer has seen, step by step.
use Rattle.std.proofs.Common.{◌≡◌, ℕ, ◌+◌, ◌<◌, ◌≤◌, List, [], ◌∷◌, ◌++◌, Some, length, drop, refl, sym, ap, ◌∙◌, add-one, append_assoc, drop-cons, subst}
use Rattle.std.specs.List.{slice_get}
use Rattle.std.proofs.lemmas.List.{append-nil, drop_all}
use Rattle.std.proofs.lemmas.Option.{get_or_from_slice_get, slice_get_within}
use Rattle.vll_core.specs.declared.event.Event.{Event}
use Rattle.vll_core.specs.State.{Opening, State}
use Rattle.vll_core.specs.Machine.{state_after, step}
use Rattle.vll_replay.specs.Steps.{Step, step_of, steps}

-- the steps by the events from one on begin with its own
steps-drop : (o : Opening) (s : State) (events : List Event) (i : ℕ) (e : Event) → slice_get events i ≡ Some e
    → steps o s (drop i events) ≡ step_of o s e ∷ steps o (state_after s (step o s e)) (drop (i + 1) events)
steps-drop o s events i e is =
    let within : i < length events = slice_get_within events i e is in
    rw (add-one, drop-cons events i e within, get_or_from_slice_get events i e e is) refl

-- what was seen so far is some steps, and together with those to come they are all the steps
abbrev pub HasSeen : (List Step → Type 0) → List Step → List Step → Type 0
HasSeen Saw to_come all = (done : List Step) × Saw done × (done ++ to_come ≡ all)

-- before the first event
pub seen-start : (Saw : List Step → Type 0) (past to_come : List Step) → Saw past → HasSeen Saw to_come (past ++ to_come)
seen-start Saw past to_come saw = (past, saw, refl)

-- after one more
pub seen-next : (Saw Sees : List Step → Type 0) (o : Opening) (s next : State) (events : List Event) (i : ℕ) (e : Event) (all : List Step) → slice_get events i ≡ Some e
    → next ≡ state_after s (step o s e) → ((past : List Step) → Saw past → Sees (past ++ step_of o s e ∷ []))
    → HasSeen Saw (steps o s (drop i events)) all → HasSeen Sees (steps o next (drop (i + 1) events)) all
seen-next Saw Sees o s next events i e all is goes sees (done, saw, whole) =
    let rest = steps o next (drop (i + 1) events) in
    let grown : done ++ step_of o s e ∷ rest ≡ all = ap (λ n. done ++ step_of o s e ∷ steps o n (drop (i + 1) events)) goes ∙ ap (λ ss. done ++ ss) (sym (steps-drop o s events i e is)) ∙ whole in
    (done ++ step_of o s e ∷ [], sees done saw, append_assoc done (step_of o s e ∷ []) rest ∙ grown)

-- after the last one
pub seen-end : (Saw : List Step → Type 0) (o : Opening) (s : State) (events : List Event) (i : ℕ) (all : List Step) → length events ≤ i
    → HasSeen Saw (steps o s (drop i events)) all → Saw all
seen-end Saw o s events i all past (done, saw, whole) =
    let nothing : steps o s (drop i events) ≡ [] = ap (steps o s) (drop_all i events past) in
    subst Saw (sym (append-nil done) ∙ ap (λ ss. done ++ ss) (sym nothing) ∙ whole) saw
