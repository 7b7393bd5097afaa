-- What is known of a scenario that was made of parts: its sizes, and that its library makes its calls.
use Rattle.std.proofs.Common.{◌≡◌, ℕ, suc, ◌+◌, ◌<◌, ◌&&◌, nat_le, List, [], ◌∷◌, length, drop, get_or, Option, Some, None, Bor, option_map, IsSome, Result, Ok, Err, refl, sym, ap, ap₂, ◌∙◌, subst, add-one, arith}
use Rattle.std.specs.Prelude.{sum_by}
use Rattle.std.specs.List.{All, AllByRecursion}
use Rattle.std.proofs.Math.Seq.{drop-cons}
use Rattle.std.specs.Global.{Vec}
use Rattle.std.proofs.lemmas.List.{get_or-map, length-map}
use Rattle.std.proofs.lemmas.List.Elements.{All-from_recursion}
use Rattle.std.proofs.lemmas.List.Sums.{sum_by-cons}
use Rattle.vll_proc.specs.declared.call.Call.{Call}
use Rattle.vll_proc.specs.declared.syntax.Proc.{Proc}
use Rattle.vll_check.specs.declared.fault.CallFault.{CallFault}
use Rattle.vll_check.specs.Calls.{Fits, call_made}
use Rattle.vll_check.specs.Headline.Catalog.{Catalog}
use Rattle.vll_core.specs.declared.config.TheConstants.{MOST_CALLS}
use Rattle.vll_core.specs.declared.event.Event.{Event}
use Rattle.vll_scenario.specs.declared.reading.asked.Asked.{Asked}
use Rattle.vll_scenario.specs.declared.limits.TheConstants.{MOST_CLIENTS, MOST_EVENTS, MOST_PROCS}
use Rattle.vll_scenario.specs.Setup.{lists_of, has_sizes}
use Rattle.vll_scenario.specs.Scenario.{call_at, each_given, in_call, script_made, scripts_made}
use Rattle.vll_scenario.specs.Shape.{◌>>=◌}

-- the items from one on
pub drop-next : {A : Type 0} (xs : List A) (i : ℕ) (x : A) → i < length xs → x ≡ get_or xs i x → drop i xs ≡ x ∷ drop (i + 1) xs
drop-next xs i x within is = drop-cons xs i x within ∙ ap₂ (λ y n. y ∷ drop n xs) (sym is) (sym (add-one i))

same_ok : {B F : Type 0} (x y : B) (r : Result B F) → r ≡ Ok x → r ≡ Ok y → x ≡ y
same_ok x y r a b = cc

-- ---- calls

in_call-ok : (client index : ℕ) (made : Result Call CallFault) (c : Call) → in_call client index made ≡ Ok c → made ≡ Ok c
in_call-ok client index (Ok d) c e = cc
in_call-ok client index (Err why) c e = cc

fits_at : (catalog : Catalog) (client index : ℕ) (a : Asked) (c : Call) → call_at catalog client index a ≡ Ok c → Fits catalog c
fits_at catalog client index a c e = (a.name, a.args, in_call-ok client index (call_made catalog a.name a.args) c e)

-- what is found is there, and it is what is looked for
pub found_there : {A : Type 0} (o : Option (Bor A)) (found : Option A) (x : A) → option_map (λ (p : Bor A). p.now) o ≡ found → found ≡ Some x → IsSome o
found_there None found x e f = cc
found_there (Some p) found x e f = search

pub found_same : {A : Type 0} (o : Option (Bor A)) (found : Option A) (p : Bor A) → option_map (λ (q : Bor A). q.now) o ≡ found → o ≡ Some p → found ≡ Some p.now
found_same o found p e is = sym e ∙ ap (option_map (λ (q : Bor _). q.now)) is

-- ---- scripts

-- the result of the first item, and the results of those after it
split_given : {B F : Type 0} (first : Result B F) (others : Result (List B) F) (ys : List B) → (first >>= (λ y. others >>= (λ zs. Ok (y ∷ zs)))) ≡ Ok ys
    → (y : B) × (zs : List B) × (first ≡ Ok y) × (others ≡ Ok zs) × (y ∷ zs ≡ ys)
split_given (Ok y) (Ok zs) ys e = (y, zs, refl, refl, cc)
split_given (Ok y) (Err why) ys e = cc
split_given (Err why) others ys e = cc

given_all : {A B F : Type 0} (P : B → Type 0) (f : ℕ → A → Result B F) → ((i : ℕ) (x : A) (y : B) → f i x ≡ Ok y → P y) → (i : ℕ) (xs : List A) (ys : List B) → each_given f i xs ≡ Ok ys → AllByRecursion P ys
given_all P f each i [] ys e = subst (AllByRecursion P) (same_ok [] ys (each_given f i []) refl e) tt
given_all P f each i (x ∷ xs) ys e =
    let s = split_given (f i x) (each_given f (suc i) xs) ys e in
    subst (AllByRecursion P) s.4 (each i x s.0 s.2, given_all P f each (suc i) xs s.1 s.3)

given_length : {A B F : Type 0} (f : ℕ → A → Result B F) (i : ℕ) (xs : List A) (ys : List B) → each_given f i xs ≡ Ok ys → length ys ≡ length xs
given_length f i [] ys e = sym (ap length (same_ok [] ys (each_given f i []) refl e))
given_length f i (x ∷ xs) ys e =
    let s = split_given (f i x) (each_given f (suc i) xs) ys e in
    sym (ap length s.4) ∙ ap suc (given_length f (suc i) xs s.1 s.3)

given_sum : {A B F : Type 0} (f : ℕ → List A → Result (List B) F) → ((i : ℕ) (x : List A) (y : List B) → f i x ≡ Ok y → length y ≡ length x) → (i : ℕ) (xs : List (List A)) (ys : List (List B))
    → each_given f i xs ≡ Ok ys → sum_by length ys ≡ sum_by length xs
given_sum f each i [] ys e = sym (ap (sum_by length) (same_ok [] ys (each_given f i []) refl e))
given_sum f each i (x ∷ xs) ys e =
    let s = split_given (f i x) (each_given f (suc i) xs) ys e in
    sym (ap (sum_by length) s.4) ∙ sum_by-cons length s.0 s.1 ∙ ap₂ (λ m n. m + n) (each i x s.0 s.2) (given_sum f each (suc i) xs s.1 s.3) ∙ sym (sum_by-cons length x xs)

-- each call of the scripts that were made is one that the library makes
pub scripts_fit : (catalog : Catalog) (asked : List (List Asked)) (made : List (List Call)) → scripts_made catalog asked ≡ Ok made → All (λ script. All (Fits catalog) script) made
scripts_fit catalog asked made e =
    All-from_recursion _ made (given_all _ (script_made catalog) (λ client script calls h.
    All-from_recursion (Fits catalog) calls (given_all (Fits catalog) (call_at catalog client) (fits_at catalog client) 0 script calls h)) 0 asked made e)

-- what holds of each script as a list holds of each script
pub in_lists : (P : List Call → Type 0) (scripts : List (Vec Call)) → All P (lists_of scripts) → All (λ (script : Vec Call). P script.items) scripts
in_lists P scripts all i script within = subst P (get_or-map (λ (v : Vec Call). v.items) scripts i script script.items within) (all i script.items (omega (arith, within, length-map scripts (λ (v : Vec Call). v.items))))

-- as many scripts are made as were asked for, and as many calls
pub scripts_sizes : (procs : List Proc) (schedule : List Event) (catalog : Catalog) (asked : List (List Asked)) (made : List (List Call)) → scripts_made catalog asked ≡ Ok made → has_sizes procs made schedule ≡ has_sizes procs asked schedule
scripts_sizes procs schedule catalog asked made e =
    let clients = given_length (script_made catalog) 0 asked made e in
    let calls = given_sum (script_made catalog) (λ client script cs h. given_length (call_at catalog client) 0 script cs h) 0 asked made e in
    ap₂ (λ a b. nat_le (length procs) MOST_PROCS && nat_le a MOST_CLIENTS && nat_le b MOST_CALLS && nat_le (length schedule) MOST_EVENTS) clients calls
