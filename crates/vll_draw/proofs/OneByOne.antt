-- Lists of events that are cut at a length, and the events of calls that are made one after the other.
use Rattle.std.proofs.Common.{◌≡◌, ℕ, suc, ◌+◌, ◌-◌, min, ◌<◌, ◌≤◌, List, [], ◌∷◌, ◌++◌, All, length, map, replicate, take, drop, Some, slice_get, ⊎_elim, sym, ap, ◌∙◌, arith, add-one, append_assoc, length-append}
use Rattle.std.specs.Global.{Vec}
use Rattle.std.proofs.lemmas.Bool.{cases_lt}
use Rattle.std.proofs.lemmas.List.{append-nil, drop_all, length-replicate, length-take, replicate-append-replicate, take-append-le, take-replicate, take_all}
use Rattle.std.proofs.Math.Seq.{take-append-add}
use Rattle.std.proofs.lemmas.List.Elements.{All-append, All-map, All-nil, All-tail}
use Rattle.vll_proc.specs.declared.call.Call.{Call}
use Rattle.vll_proc.specs.Headline.Serial.{Made, apply}
use Rattle.vll_check.specs.Calls.{Fits}
use Rattle.vll_check.specs.Headline.Catalog.{Catalog}
use Rattle.vll_core.specs.declared.event.Event.{Event}
use Rattle.vll_core.proofs.Places.{drop_next}
use Rattle.vll_scenario.specs.Setup.{IsSetup, lists_of, setup_with}
use Rattle.vll_scenario.specs.declared.limits.TheConstants.{MOST_EVENTS}
use Rattle.vll_scenario.specs.declared.scenario.ScenarioParts.{ScenarioParts}
use Rattle.vll_draw.specs.OneByOne.{alone, by_clients, entering, finds, one_by_one}

-- a list that is cut, made longer and cut again
pub cut_more : {A : Type 0} (most : ℕ) (xs ys : List A) → take most (take most xs ++ ys) ≡ take most (xs ++ ys)
cut_more most xs ys = ⊎_elim
    (λ (long : most < length xs). let whole : most ≤ length (take most xs) = omega (arith, length-take most xs, long) in
    take-append-le most (take most xs) ys whole ∙ (take_all most (take most xs) (omega (arith, length-take most xs)) ∙ sym (take-append-le most xs ys (omega (arith, long)))))
    (λ (short : length xs ≤ most). ap (λ zs. take most (zs ++ ys)) (take_all most xs short))
    (cases_lt most (length xs))

-- one part after another
pub cut_parts : {A : Type 0} (most : ℕ) (old xs ys now next : List A) → now ≡ take most (old ++ xs) → next ≡ take most (now ++ ys) → next ≡ take most (old ++ (xs ++ ys))
cut_parts most old xs ys now next first second =
    second ∙ (ap (λ zs. take most (zs ++ ys)) first ∙ (cut_more most (old ++ xs) ys ∙ ap (take most) (append_assoc old xs ys)))

pub cut_length : {A : Type 0} (most : ℕ) (xs now : List A) → now ≡ take most xs → length now ≤ most
cut_length most xs now is = omega (arith, ap length is, length-take most xs)

-- four parts
pub cut_four : {A : Type 0} (most : ℕ) (old a b c d one two three four : List A) → one ≡ take most (old ++ a) → two ≡ take most (one ++ b) → three ≡ take most (two ++ c) → four ≡ take most (three ++ d)
    → four ≡ take most (old ++ (a ++ b ++ c ++ d))
cut_four most old a b c d one two three four first second third fourth =
    cut_parts most old (a ++ b ++ c) d three four (cut_parts most old (a ++ b) c two three (cut_parts most old a b one two first second) third) fourth

-- one more of an event
pub times_next : {A : Type 0} (old : List A) (x : A) (n : ℕ) → old ++ replicate n x ++ x ∷ [] ≡ old ++ replicate (n + 1) x
times_next old x n = append_assoc old (replicate n x) (x ∷ []) ∙ ap (λ zs. old ++ zs) (replicate-append-replicate n 1 x)

-- an event as often as there is room
pub times_all : {A : Type 0} (most times n : ℕ) (old : List A) (x : A) → length old ≤ most → n ≡ min times (most - length old) → old ++ replicate n x ≡ take most (old ++ replicate times x)
times_all most times n old x few is = ⊎_elim
    (λ (more : most - length old < times). let room : n ≡ most - length old = omega (arith, is, more) in
    let whole : length old + n ≡ most = omega (arith, room, few) in
    ap (λ zs. old ++ zs) (sym (take-replicate n times x (omega (arith, room, more)))) ∙ (sym (take-append-add old (replicate times x) n) ∙ ap (λ m. take m (old ++ replicate times x)) whole))
    (λ (all : times ≤ most - length old). let same : n ≡ times = omega (arith, is, all) in
    let short : length (old ++ replicate times x) ≤ most = omega (arith, length-append old (replicate times x), length-replicate times x, all, few) in
    ap (λ m. old ++ replicate m x) same ∙ sym (take_all most (old ++ replicate times x) short))
    (cases_lt (most - length old) times)

-- what is left of the calls, after the events so far
pub calls_next : (most : ℕ) (c : Catalog) (calls : List Made) (t : ℕ) (made : Made) (records next_records : List ℕ) (schedule next target : List Event) → slice_get calls t ≡ Some made
    → (let call = entering c records made.1 in (next_records ≡ (apply c.procs call records).records) × (next ≡ take most (schedule ++ alone made.0 (finds c made.1) t call (apply c.procs call records).reply)))
    → take most (schedule ++ one_by_one c records t (drop t calls)) ≡ target → take most (next ++ one_by_one c next_records (t + 1) (drop (t + 1) calls)) ≡ target
calls_next most c calls t made records next_records schedule next target at (new_records, new) was =
    let call = entering c records made.1 in
    let own = alone made.0 (finds c made.1) t call (apply c.procs call records).reply in
    let rest = one_by_one c (apply c.procs call records).records (suc t) (drop (t + 1) calls) in
    let same : one_by_one c next_records (t + 1) (drop (t + 1) calls) ≡ rest = ap (λ rs. one_by_one c rs (t + 1) (drop (t + 1) calls)) new_records ∙ ap (λ n. one_by_one c (apply c.procs call records).records n (drop (t + 1) calls)) (add-one t) in
    ap (λ es. take most (next ++ es)) same ∙ (ap (λ es. take most (es ++ rest)) new ∙ (cut_more most (schedule ++ own) rest
    ∙ (ap (take most) (append_assoc schedule own rest) ∙ (ap (λ (ms : List Made). take most (schedule ++ one_by_one c records t ms)) (sym (drop_next calls t made at)) ∙ was))))

pub calls_last : (most : ℕ) (c : Catalog) (calls : List Made) (t : ℕ) (records : List ℕ) (schedule target : List Event) → length calls ≤ t → length schedule ≤ most
    → take most (schedule ++ one_by_one c records t (drop t calls)) ≡ target → schedule ≡ target
calls_last most c calls t records schedule target past few was =
    sym (take_all most schedule few) ∙ (ap (take most) (sym (append-nil schedule) ∙ ap (λ (ms : List Made). schedule ++ one_by_one c records t ms) (sym (drop_all t calls past))) ∙ was)

-- the calls of one more client
pub clients_next : (scripts : List (Vec Call)) (n : ℕ) (script : Vec Call) (calls next target : List Made) → slice_get scripts n ≡ Some script → next ≡ calls ++ map (λ (call : Call). (n, call)) script.items
    → calls ++ by_clients n (lists_of (drop n scripts)) ≡ target → next ++ by_clients (n + 1) (lists_of (drop (n + 1) scripts)) ≡ target
clients_next scripts n script calls next target at new was =
    let own = map (λ (call : Call). (n, call)) script.items in
    let rest = by_clients (suc n) (lists_of (drop (n + 1) scripts)) in
    ap (λ m. next ++ by_clients m (lists_of (drop (n + 1) scripts))) (add-one n) ∙ (ap (λ ms. ms ++ rest) new ∙ (append_assoc calls own rest
    ∙ (ap (λ (vs : List (Vec Call)). calls ++ by_clients n (lists_of vs)) (sym (drop_next scripts n script at)) ∙ was)))

pub clients_last : (scripts : List (Vec Call)) (n : ℕ) (calls target : List Made) → length scripts ≤ n → calls ++ by_clients n (lists_of (drop n scripts)) ≡ target → calls ≡ target
clients_last scripts n calls target past was =
    sym (append-nil calls) ∙ (ap (λ (vs : List (Vec Call)). calls ++ by_clients n (lists_of vs)) (sym (drop_all n scripts past)) ∙ was)

-- the library makes each of the calls
pub clients_fit : (c : Catalog) (n : ℕ) (scripts : List (List Call)) → All (λ script. All (Fits c) script) scripts → All (λ (made : Made). Fits c made.1) (by_clients n scripts)
clients_fit c n [] fits = All-nil (λ (made : Made). Fits c made.1)
clients_fit c n (script ∷ more) fits =
    let Fit : Made → Type 0 = λ made. Fits c made.1 in
    let own : All (Fits c) script = fits 0 script (omega arith) in
    All-append Fit (map (λ (call : Call). (n, call)) script) (by_clients (suc n) more) (All-map Fit (λ (call : Call). (n, call)) script own)
    (clients_fit c (suc n) more (All-tail (λ (calls : List Call). All (Fits c) calls) script more fits))

-- a slice that was written is what its list is then
pub written : {A : Type 0} (n : ℕ) (xs ys : List A) → length xs ≡ n → length ys ≡ n → take n (xs ++ drop (length xs) ys) ≡ xs
written n xs ys same is = ap (λ zs. take n (xs ++ zs)) (drop_all (length xs) ys (omega (arith, same, is))) ∙ (ap (take n) (append-nil xs) ∙ take_all n xs (omega (arith, same)))

-- a scenario's parts with other events
pub with_events : (p : ScenarioParts) (events : List Event) → IsSetup (setup_with p) → length events ≤ MOST_EVENTS → IsSetup (setup_with (record p { schedule = events }))
with_events p events is few = record {
  sizes = record { few_procs = is.sizes.few_procs; few_clients = is.sizes.few_clients; few_calls = is.sizes.few_calls; few_events = few };
  openable = is.openable;
  fits = is.fits;
}
