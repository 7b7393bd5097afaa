-- The source of a client's next call is loaded, and its value kept.
use Rattle.std.proofs.Common.{◌≡◌, ℕ, ◌<◌, Bool, false, refl, sym, ap, ◌∙◌, arith, length, slice_set, slice_index_or, Option, Some, Ok, length-set}
use Rattle.vll_core.proofs.Common.{with_item, value_word_of, Call, source, Inside, TurnOpen, NoCall, OutOfStep, Found, catalog_of, Opening, State, value, Outcome, find, is_turn_of, next_call, or_refuse, refuse_if, step, library_of, opening_of, shown, IsMachine}
use Rattle.vll_core.specs.declared.event.Event.TheVariants as event
use Rattle.vll_core.proofs.WordChanges.{value_word_within, word_read}
use Rattle.vll_core.proofs.MachineSteps.{Takes, taken_reached, taken_words}

-- ---- the plain machine

-- where the open turn, if there is one, is not this client's, the machine goes by the next call, and then by its source
by_call : (o : Opening) (s : State) (client : ℕ) (x : Option Call) → is_turn_of client s.turn ≡ false → next_call s client ≡ x
    → step o s (event.Find client) ≡ or_refuse x NoCall (λ (call : Call). or_refuse (source (catalog_of o.base) call) OutOfStep (find o s client))
by_call o s client x other next =
    ap (λ (b : Bool). refuse_if b TurnOpen (or_refuse (next_call s client) NoCall (λ (call : Call). or_refuse (source (catalog_of o.base) call) OutOfStep (find o s client)))) other
    ∙ ap (λ (y : Option Call). or_refuse y NoCall (λ (call : Call). or_refuse (source (catalog_of o.base) call) OutOfStep (find o s client))) next

-- ---- the machine that is kept

-- the turn is not this client's, and this is the next call of its script
pub record HasNext {H : Type 0} (a : Inside H) (client : ℕ) (call : Call) : Type 0 where
  pub other : is_turn_of client (shown a).state.turn ≡ false
  pub next : next_call (shown a).state client ≡ Some call

source_is : {H : Type 0} (places : H → ℕ → ℕ) (a : Inside H) (client : ℕ) (call : Call) (x : Option ℕ) → HasNext a client call → source (library_of (shown a)) call ≡ x
    → step (opening_of places (shown a)) (shown a).state (event.Find client) ≡ or_refuse x OutOfStep (find (opening_of places (shown a)) (shown a).state client)
source_is places a client call x has is =
    by_call (opening_of places (shown a)) (shown a).state client (Some call) has.other has.next
    ∙ ap (λ (y : Option ℕ). or_refuse y OutOfStep (find (opening_of places (shown a)) (shown a).state client)) is

-- the source of a client's next call, the word in which its value stands, and the value
pub record Sees {H : Type 0} (places : H → ℕ → ℕ) (a : Inside H) (client r v : ℕ) (call : Call) : Type 0 where
  pub core : IsMachine places a
  pub has : HasNext a client call
  pub source : source (library_of (shown a)) call ≡ Some r
  pub value : v ≡ value (shown a).base (shown a).state r

-- its word is there
pub word_there : {H : Type 0} {places : H → ℕ → ℕ} (a : Inside H) (r word : ℕ) → IsMachine places a → r < a.library.value.records → word ≡ value_word_of r → word < length a.words.items
word_there a r word core within is =
    let there = value_word_within (shown a).base (shown a).state a.words.items r core.words (omega (arith, within, core.records)) in
    omega (arith, there, is)

-- and the value that is read is the record's
pub value_read : {H : Type 0} {places : H → ℕ → ℕ} (a : Inside H) (r word v : ℕ) → IsMachine places a → r < a.library.value.records → word ≡ value_word_of r → v ≡ slice_index_or a.words.items word v
    → v ≡ value (shown a).base (shown a).state r
value_read a r word v core within is read =
    word_read a.words.items (value_word_of r) word _ v (word_there a r (value_word_of r) core within refl) (core.words.values r (omega (arith, within, core.records))) is read

-- the fields of a machine once a value is kept
abbrev pub kept_value : {H : Type 0} → Inside H → ℕ → ℕ → Inside H
kept_value a client v = record a { kept = with_item a.kept client (Some v) }

pub taken_find : {H : Type 0} {places : H → ℕ → ℕ} (a : Inside H) (client r v : ℕ) (call : Call) → Sees places a client r v call → Takes places a (kept_value a client v) (event.Find client) (Found v)
taken_find {H} {places} a client r v call sees = record {
  fixed = refl;
  is =
      source_is places a client call (Some r) sees.has sees.source
      ∙ ap (λ (x : ℕ). let out : Outcome = Ok (Found x, record (shown a).state { kept = slice_set a.kept.items client (Some x) }) in out) (sym sees.value);
}

pub core_find : {H : Type 0} {places : H → ℕ → ℕ} (a : Inside H) (client r v : ℕ) (call : Call) → Sees places a client r v call → IsMachine places (kept_value a client v)
core_find {H} {places} a client r v call sees =
    let b : Inside H = kept_value a client v in
    let core = sees.core in
    let takes : Takes places a b (event.Find client) (Found v) = taken_find a client r v call sees in
    assumption (
      taken_reached a b (event.Find client) (Found v) takes core.reached,
      taken_words a b (event.Find client) (Found v) takes core.reached refl refl refl core.words,
      length-set a.kept.items client (Some v) ∙ core.kepts,
    )
