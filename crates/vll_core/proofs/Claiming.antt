-- A request by the open turn of a machine: what it finds, and what the machine is after it.
use Rattle.std.proofs.Common.{◌≡◌, ◌≢◌, ℕ, ◌+◌, ◌<◌, ◌≤◌, ◌^◌, Bool, ◌&&◌, ◌==◌, not, List, [], ◌∷◌, length, Option, Some, Result, Ok, IfSome, slice_get, slice_index, slice_index_or, slice_set, refl, sym, ap, ◌∙◌, subst, arith}
use Rattle.vll_core.proofs.Common.{Vec, eq-eqb, ne_eqb, cond-true, cond-false, slice_get_within, Claim, MOST_CLAIMS, conflict, claims_on, delta_of, is_granted, pair_word_of_record, claims_few, IsReady, CallsProcedure, ready_well, OpenTurn, Inside, Refusal, NoTurn, OutOfStep, Seen, Claimed, Opening, State, Turn, open_claims, counter, value, delta_on, step, answer_of, request, or_refuse, by_event, moved, IsReached, AreWords, after, opening_of, shown, turn_of, IsMachine}
use Rattle.vll_record.proofs.Counted.{pair_word_of-below, is_granted-no_conflict}
use Rattle.vll_core.specs.declared.event.Event.TheVariants as event
use Rattle.vll_core.proofs.Counters.{counters_within}
use Rattle.vll_core.proofs.Deltas.{counter_request}
use Rattle.vll_core.proofs.Places.{all_at}
use Rattle.vll_core.proofs.Values.{others_stay}
use Rattle.vll_core.proofs.WordChanges.{pair_word_within, word_read, words_set_pair}

-- ---- the plain machine

-- a claim's delta on its own record, and on another
pub delta_here : (c : Claim) → delta_on c.id c ≡ delta_of c.mode
delta_here c = cond-true (c.id == c.id) (delta_of c.mode) 0 (eq-eqb c.id c.id refl)

pub delta_elsewhere : (r : ℕ) (c : Claim) → r ≢ c.id → delta_on r c ≡ 0
delta_elsewhere r c other = cond-false (c.id == r) (delta_of c.mode) 0 (ne_eqb c.id r (λ e. other (sym e)))

-- the turn after a request
abbrev pub asked : State → Turn → Claim → Turn
asked s turn c = record turn { requested = turn.requested + 1; granted = turn.granted && not (conflict (open_claims s) (c ∷ [])) }

abbrev pub after_request : State → Turn → Claim → State
after_request s turn c = record s { turn = Some (asked s turn c) }

-- an open turn with a claim left requests it
pub claim_step : (o : Opening) (s : State) (turn : Turn) (c : Claim) → s.turn ≡ Some turn → slice_get turn.call.claims turn.requested ≡ Some c → step o s event.Claim ≡ request s turn c
claim_step o s turn c is at =
    ap (λ (x : Option Turn). or_refuse x NoTurn (λ t. or_refuse (slice_get t.call.claims t.requested) OutOfStep (request s t))) is
    ∙ ap (λ (x : Option Claim). or_refuse x OutOfStep (request s turn)) at

pub request_reached : (o : Opening) (s : State) (turn : Turn) (c : Claim)
    → IsReached o s → s.turn ≡ Some turn → slice_get turn.call.claims turn.requested ≡ Some c → IsReached o (after_request s turn c)
request_reached o s turn c reached is at = moved s (by_event event.Claim) _ _ reached tt (claim_step o s turn c is at)

-- a request adds its delta to its record's counter
pub counter_asked : (s : State) (turn : Turn) (c : Claim) → s.turn ≡ Some turn → slice_get turn.call.claims turn.requested ≡ Some c
    → counter (after_request s turn c) c.id ≡ counter s c.id + delta_of c.mode
counter_asked s turn c is at = counter_request s turn c (asked s turn c).granted c.id is at ∙ ap (λ (n : ℕ). counter s c.id + n) (delta_here c)

-- and changes no other
counter_other : (s : State) (turn : Turn) (c : Claim) (r : ℕ) → s.turn ≡ Some turn → slice_get turn.call.claims turn.requested ≡ Some c
    → r ≢ c.id → counter (after_request s turn c) r ≡ counter s r
counter_other s turn c r is at other = omega (arith, counter_request s turn c (asked s turn c).granted r is at, delta_elsewhere r c other)

-- nor any value
value_other : (o : Opening) (s : State) (turn : Turn) (c : Claim) (r : ℕ) → IsReached o s → s.turn ≡ Some turn → slice_get turn.call.claims turn.requested ≡ Some c
    → value o.base (after_request s turn c) r ≡ value o.base s r
value_other o s turn c r reached is at = others_stay o s (after_request s turn c) (by_event event.Claim) _ r reached (claim_step o s turn c is at) refl

-- the words after a request
pub words_asked : (o : Opening) (s : State) (turn : Turn) (c : Claim) (words : List ℕ) → IsReached o s → s.turn ≡ Some turn → slice_get turn.call.claims turn.requested ≡ Some c
    → c.id < length o.base.records → AreWords o.base s words
    → AreWords o.base (after_request s turn c) (slice_set words (pair_word_of_record c.id) (counter s c.id + delta_of c.mode))
words_asked o s turn c words reached is at there are =
    words_set_pair o.base s (after_request s turn c) words c.id _ there (counter_asked s turn c is at)
    (λ r other. counter_other s turn c r is at other) (λ r. value_other o s turn c r reached is at) are

-- with few calls a counter is a number of 64 bits
pub counter_fits : (o : Opening) (s : State) (r : ℕ) → IsReached o s → o.limit ≤ 65536 → counter s r < 2 ^ 64
counter_fits o s r reached few =
    pair_word_of-below (claims_on r (open_claims s)) (omega (arith, few, (counters_within o s r reached).0))

-- ---- the machine

-- what a request by the open turn finds
pub record Finds {H : Type 0} (places : H → ℕ → ℕ) (a : Inside H) (turn : OpenTurn) (c : Claim) : Type 0 where
  pub record_there : c.id < length a.opening.value.items
  pub word_there : pair_word_of_record c.id < length a.words.items
  pub is_counter : slice_index a.words.items (pair_word_of_record c.id) ≡ counter (shown a).state c.id
  pub few : turn.requested < MOST_CLAIMS
  pub reached : IsReached (opening_of places (shown a)) (shown a).state
  pub open_turn : (shown a).state.turn ≡ turn_of (Some turn)
  pub limit : a.queue.limit ≤ 65536
  pub ready : IsReady a.library.value turn.call

pub finds : {H : Type 0} {places : H → ℕ → ℕ} (a : Inside H) (turn : OpenTurn) (c : Claim) → IsMachine places a → a.turn ≡ Some turn → slice_get turn.call.claims turn.requested ≡ Some c → Finds places a turn c
finds a turn c kept is at =
    let ready : IsReady a.library.value turn.call = subst (λ (x : Option OpenTurn). IfSome x (λ (t : OpenTurn). IsReady a.library.value t.call)) is kept.turn_ready in
    let well : CallsProcedure a.library.value turn.call = ready_well a.library.value turn.call kept.catalog ready in
    let within : c.id < a.library.value.records = all_at (λ (d : Claim). d.id < a.library.value.records) turn.call.claims turn.requested c well.within at in
    let there : c.id < length a.opening.value.items = omega (arith, within, kept.records) in
    let claims = claims_few a.library.value.records well.procedure turn.call well.formed well.made in
    let before = slice_get_within turn.call.claims turn.requested c at in
    record {
      record_there = there;
      word_there = pair_word_within (shown a).base (shown a).state a.words.items c.id kept.words there;
      is_counter = kept.words.pairs c.id there;
      few = omega (arith, claims, before);
      reached = kept.reached;
      open_turn = ap turn_of is;
      limit = kept.queue.few_calls;
      ready = ready;
    }

-- the word that is read is the counter
pub read_counter : {H : Type 0} {places : H → ℕ → ℕ} (a : Inside H) (turn : OpenTurn) (c : Claim) (place old : ℕ) → Finds places a turn c → place ≡ pair_word_of_record c.id → old ≡ slice_index_or a.words.items place old
    → old ≡ counter (shown a).state c.id
read_counter a turn c place old found is read =
    word_read a.words.items (pair_word_of_record c.id) place _ old found.word_there found.is_counter is read

-- the request is granted by what the word says
pub granted_right : {H : Type 0} {places : H → ℕ → ℕ} (a : Inside H) (turn : OpenTurn) (c : Claim) (old : ℕ) → Finds places a turn c → old ≡ counter (shown a).state c.id
    → is_granted c.mode old ≡ not (conflict (open_claims (shown a).state) (c ∷ []))
granted_right {H} {places} a turn c old found is =
    ap (is_granted c.mode) is
    ∙ is_granted-no_conflict c.mode c.id (open_claims (shown a).state)
    (omega (arith, found.limit, (counters_within (opening_of places (shown a)) (shown a).state c.id found.reached).0))

-- the sum in the word fits
pub sum_fits : {H : Type 0} {places : H → ℕ → ℕ} (a : Inside H) (turn : OpenTurn) (c : Claim) → Finds places a turn c → slice_get turn.call.claims turn.requested ≡ Some c
    → counter (shown a).state c.id + delta_of c.mode < 2 ^ 64
sum_fits {H} {places} a turn c found at =
    let s : State = (shown a).state in
    let t : Turn = record { client = turn.client; call = turn.call; requested = turn.requested; granted = turn.granted } in
    let next = request_reached (opening_of places (shown a)) s t c found.reached found.open_turn at in
    omega (arith, counter_asked s t c found.open_turn at, counter_fits (opening_of places (shown a)) (after_request s t c) c.id next found.limit)

-- the machine after a request
abbrev pub claimed : {H : Type 0} → Inside H → Vec ℕ → OpenTurn → Bool → Inside H
claimed a words turn granted = record a { words = words; turn = Some (record turn { requested = turn.requested + 1; granted = granted }) }

-- what is shown of it
pub claimed_shown : {H : Type 0} {places : H → ℕ → ℕ} (a : Inside H) (turn : OpenTurn) (c : Claim) (words : Vec ℕ) (granted : Bool)
    → Finds places a turn c → slice_get turn.call.claims turn.requested ≡ Some c → granted ≡ (turn.granted && not (conflict (open_claims (shown a).state) (c ∷ [])))
    → shown (claimed a words turn granted) ≡ after (shown a) (step (opening_of places (shown a)) (shown a).state event.Claim)
claimed_shown {H} {places} a turn c words granted found at is =
    let s : State = (shown a).state in
    let t : Turn = record { client = turn.client; call = turn.call; requested = turn.requested; granted = turn.granted } in
    ap (λ (g : Bool). shown (claimed a words turn g)) is ∙ sym (ap (after (shown a)) (claim_step (opening_of places (shown a)) s t c found.open_turn at))

-- what it answers
pub claimed_told : {H : Type 0} {places : H → ℕ → ℕ} (a : Inside H) (turn : OpenTurn) (c : Claim) (old : ℕ) (granted : Bool)
    → Finds places a turn c → slice_get turn.call.claims turn.requested ≡ Some c → old ≡ counter (shown a).state c.id → granted ≡ not (conflict (open_claims (shown a).state) (c ∷ []))
    → ◌≡◌ {A = Result Seen Refusal} (Ok (Claimed old granted)) (answer_of (step (opening_of places (shown a)) (shown a).state event.Claim))
claimed_told {H} {places} a turn c old granted found at was is =
    let s : State = (shown a).state in
    let t : Turn = record { client = turn.client; call = turn.call; requested = turn.requested; granted = turn.granted } in
    ap (λ (n : ℕ). Ok (Claimed n granted)) was ∙ ap (λ (g : Bool). Ok (Claimed (counter s c.id) g)) is
    ∙ sym (ap answer_of (claim_step (opening_of places (shown a)) s t c found.open_turn at))

-- what the type of a machine keeps
pub kept_claimed : {H : Type 0} {places : H → ℕ → ℕ} (a : Inside H) (turn : OpenTurn) (c : Claim) (words : Vec ℕ) (granted : Bool)
    → IsMachine places a → Finds places a turn c → slice_get turn.call.claims turn.requested ≡ Some c → granted ≡ (turn.granted && not (conflict (open_claims (shown a).state) (c ∷ [])))
    → words.items ≡ slice_set a.words.items (pair_word_of_record c.id) (counter (shown a).state c.id + delta_of c.mode)
    → IsMachine places (claimed a words turn granted)
kept_claimed {H} {places} a turn c words granted kept found at is written =
    let o : Opening = opening_of places (shown a) in
    let s : State = (shown a).state in
    let t : Turn = record { client = turn.client; call = turn.call; requested = turn.requested; granted = turn.granted } in
    let next : after_request s t c ≡ (shown (claimed a words turn granted)).state = ap (λ (g : Bool). (shown (claimed a words turn g)).state) (sym is) in
    assumption (
      subst (IsReached o) next (request_reached o s t c found.reached found.open_turn at),
      subst (λ (n : State). AreWords o.base n words.items) next (subst (AreWords o.base (after_request s t c)) (sym written) (words_asked o s t c a.words.items found.reached found.open_turn at found.record_there kept.words)),
      found.ready,
    )
