-- The tokens that a run is handed, and the engine that is closed once they are back.
use Rattle.std.proofs.Common.{◌≡◌, ℕ, zero, suc, ◌+◌, ◌<◌, List, [], ◌∷◌, ◌++◌, length, reverse, Some, refl, ap, ap₂, ◌∙◌, sym, arith, slice_get, subst, Result, Ok, Err, IfOk, append_assoc, zero-add, nat_eq, false}
use Rattle.std.specs.Global.{Vec}
use Rattle.std.specs.List.{All, AllByRecursion, IsDistinct}
use Rattle.std.specs.Option.{option_map}
use Rattle.std.proofs.lemmas.Bool.Decides.{nat_tests}
use Rattle.std.proofs.lemmas.List.{length-map, map-append, reverse-append}
use Rattle.std.proofs.lemmas.List.Elements.{All-map}
use Rattle.std.proofs.lemmas.Map.Keys.{IsDistinct-cons, IsDistinct-from_apart}
use Rattle.std.proofs.lemmas.Option.{same_Some, slice_get-map}
use Rattle.atomic_table.specs.Seated.{TableId}
use Rattle.vll_proc.specs.declared.call.Call.{Call}
use Rattle.vll_check.specs.Calls.{Fits}
use Rattle.vll_core.proofs.MachineState.{all_from}
use Rattle.vll_core.proofs.Places.{all_at}
use Rattle.vll_counters.specs.Shown.{AreNewSessions, SessionShown}
use Rattle.vll_counters.specs.Steps.{new_session}
use Rattle.vll_counters.specs.Headline.Views.{calls_by, calls_in}
use Rattle.vll_queue.specs.Closed.{IsSerial}
use Rattle.vll_queue.specs.Sessions.{HasItsCalls}
use Rattle.vll_queue.specs.Shown.{Named, library_of}
use Rattle.vll_queue.specs.declared.closed.Closed.{Closed}
use Rattle.vll_workers.specs.Headline.Merge.{IsMerge}
use Rattle.vll_workers.specs.Merge.{AreForScripts, IsAtStart, IsClosedWith}
use Rattle.vll_tokens.specs.Shown.{TokenShown, token}
use Rattle.vll_tokens.specs.Tokens.{AreBack, AreFit, IsFit, IsThrough, clients_of}
use Rattle.vll_workers.proofs.Merged.{merged}
use Rattle.vll_scenario.specs.Setup.{lists_of}
use Rattle.vll_server.specs.declared.fault.ServeFault.{ServeFault}
use Rattle.vll_server.specs.Scripts.{tokens_from}
use Rattle.vll_server.specs.Private.Serving.{sessions_in}

-- a client's session that has seen nothing, and its token, of which no call has entered
abbrev pub session_at : TableId → ℕ → SessionShown
session_at table client = record { table = table; session = new_session client; past = [] }

abbrev pub token_at : TableId → ℕ → List Call → TokenShown
token_at table client script = token client script 0 (session_at table client)

-- one more script at the end
pub tokens_from-append : (table : TableId) (client : ℕ) (scripts : List (List Call)) (script : List Call)
    → tokens_from table client (scripts ++ script ∷ []) ≡ tokens_from table client scripts ++ token_at table (client + length scripts) script ∷ []
tokens_from-append table client [] script = let same : client ≡ client + 0 = omega arith in ap (λ n. token_at table n script ∷ []) same
tokens_from-append table client (s ∷ scripts) script =
    let same : suc client + length scripts ≡ client + length (s ∷ scripts) = omega arith in
    ap (λ ts. token_at table client s ∷ ts) (tokens_from-append table (suc client) scripts script ∙ ap (λ n. tokens_from table (suc client) scripts ++ token_at table n script ∷ []) same)

-- the last script's token is made
pub tokens-next : (table : TableId) (scripts new : List (Vec Call)) (script : Vec Call) (client : ℕ) (made : List TokenShown) (whole : List TokenShown) → scripts ≡ new ++ script ∷ [] → client ≡ length new
    → tokens_from table 0 (lists_of scripts) ++ reverse made ≡ whole → tokens_from table 0 (lists_of new) ++ reverse (made ++ token_at table client script.items ∷ []) ≡ whole
tokens-next table scripts new script client made whole popped last so_far =
    let behind : reverse (made ++ token_at table client script.items ∷ []) ≡ token_at table client script.items ∷ reverse made = reverse-append made (token_at table client script.items ∷ []) in
    let count : client ≡ 0 + length (lists_of new) = last ∙ sym (length-map new (λ (v : Vec Call). v.items)) ∙ sym (zero-add (length (lists_of new))) in
    let split : tokens_from table 0 (lists_of scripts) ≡ tokens_from table 0 (lists_of new) ++ token_at table client script.items ∷ [] =
    ap (λ (vs : List (Vec Call)). tokens_from table 0 (lists_of vs)) popped ∙ ap (tokens_from table 0) (map-append (λ (v : Vec Call). v.items) new (script ∷ []))
    ∙ tokens_from-append table 0 (lists_of new) script.items
    ∙ ap (λ n. tokens_from table 0 (lists_of new) ++ token_at table n script.items ∷ []) (sym count) in
    ap (λ ts. tokens_from table 0 (lists_of new) ++ ts) behind ∙ sym (append_assoc (tokens_from table 0 (lists_of new)) (token_at table client script.items ∷ []) (reverse made)) ∙ ap (λ ts. ts ++ reverse made) (sym split) ∙ so_far

-- ---- new sessions, from the last one on

at_end : {A : Type 0} (xs : List A) (x : A) → slice_get (xs ++ x ∷ []) (length xs) ≡ Some x
at_end [] x = refl
at_end (y ∷ xs) x = at_end xs x

before_end : {A : Type 0} (xs : List A) (x : A) (i : ℕ) → i < length xs → slice_get (xs ++ x ∷ []) i ≡ slice_get xs i
before_end [] x i within = absurd (omega (arith, within))
before_end (y ∷ xs) x zero within = refl
before_end (y ∷ xs) x (suc i) within = before_end xs x i (omega (arith, within))

length-last : {A : Type 0} (xs : List A) (x : A) → length (xs ++ x ∷ []) ≡ suc (length xs)
length-last [] x = refl
length-last (y ∷ xs) x = ap suc (length-last xs x)

-- the last session is the last client's, and those before it are new too
pub record IsLast (table : TableId) (client : ℕ) (session : SessionShown) (new : List SessionShown) : Type 0 where
  pub own : session ≡ session_at table client
  pub rest : AreNewSessions table client new

pub last_session : (table : TableId) (sessions new : List SessionShown) (session : SessionShown) (count client : ℕ) → AreNewSessions table count sessions → sessions ≡ new ++ session ∷ [] → count ≡ suc client
    → IsLast table client session new
last_session table sessions new session count client all popped last = record {
  own = same_Some session (session_at table client) (sym here ∙ all.1 client (omega (arith, last)));
  rest = (long, λ c below. sym (there c below) ∙ all.1 c (omega (arith, below, last)));
}
  where
    long : length new ≡ client
    long = let both : suc (length new) ≡ suc client = sym (length-last new session) ∙ ap length (sym popped) ∙ all.0 ∙ last in omega (arith, both)

    here : slice_get sessions client ≡ Some session
    here = ap (λ (xs : List SessionShown). slice_get xs client) popped ∙ ap (slice_get (new ++ session ∷ [])) (sym long) ∙ at_end new session

    there : (c : ℕ) → c < client → slice_get sessions c ≡ slice_get new c
    there c below = ap (λ (xs : List SessionShown). slice_get xs c) popped ∙ before_end new session c (omega (arith, below, long))

-- ---- the tokens that are handed in

-- a token of a list is that of its place
record IsNew (table : TableId) (client : ℕ) (scripts : List (List Call)) (i : ℕ) (t : TokenShown) : Type 0 where
  is : t ≡ token_at table (client + i) t.script
  script : slice_get scripts i ≡ Some t.script

tokens_at : (table : TableId) (client : ℕ) (scripts : List (List Call)) (i : ℕ) (t : TokenShown) → slice_get (tokens_from table client scripts) i ≡ Some t → IsNew table client scripts i t
tokens_at table client [] i t at = absurd (none_there i t at)
  where
    none_there : (n : ℕ) (u : TokenShown) → slice_get [] n ≡ Some u → ⊥
    none_there zero u e = cc
    none_there (suc n) u e = cc
tokens_at table client (script ∷ scripts) zero t at =
    let same : t ≡ token_at table client script = same_Some t (token_at table client script) (sym at) in
    let own : t.script ≡ script = ap (λ (u : TokenShown). u.script) same in
    let here : client ≡ client + 0 = omega arith in
    record { is = same ∙ ap₂ (token_at table) here (sym own); script = ap Some (sym own) }
tokens_at table client (script ∷ scripts) (suc i) t at =
    let rest = tokens_at table (suc client) scripts i t at in
    let here : suc client + i ≡ client + suc i = omega arith in
    record { is = rest.is ∙ ap (λ n. token_at table n t.script) here; script = rest.script }

length-tokens : (table : TableId) (client : ℕ) (scripts : List (List Call)) → length (tokens_from table client scripts) ≡ length scripts
length-tokens table client [] = refl
length-tokens table client (script ∷ scripts) = ap suc (length-tokens table (suc client) scripts)

-- the library fits the calls of the scripts' tokens
pub are_fit : (e : Named) (scripts : List (Vec Call)) → All (λ (script : Vec Call). All (Fits (library_of e)) script.items) scripts → AreFit e (tokens_from e.table 0 (lists_of scripts))
are_fit e scripts fits = all_from (IsFit e) (tokens_from e.table 0 (lists_of scripts)) each
  where
    listed : All (All (Fits (library_of e))) (lists_of scripts)
    listed = All-map (All (Fits (library_of e))) (λ (v : Vec Call). v.items) scripts fits

    each : (i : ℕ) (t : TokenShown) → slice_get (tokens_from e.table 0 (lists_of scripts)) i ≡ Some t → IsFit e t
    each i t at =
        let new = tokens_at e.table 0 (lists_of scripts) i t at in
        record { session = ap (λ (u : TokenShown). u.session.table) new.is; fits = all_at (All (Fits (library_of e))) (lists_of scripts) i t.script listed new.script }

-- a client before the first is none of the scripts' tokens
apart : (table : TableId) (n client : ℕ) (scripts : List (List Call)) → n < client → AllByRecursion (λ m. nat_eq n m ≡ false) (clients_of (tokens_from table client scripts))
apart table n client [] before = tt
apart table n client (script ∷ scripts) before = (grind (arith, nat_tests), apart table n (suc client) scripts (omega (arith, before)))

-- the scripts' tokens are of distinct clients
pub are_distinct : (table : TableId) (client : ℕ) (scripts : List (List Call)) → IsDistinct nat_eq (clients_of (tokens_from table client scripts))
are_distinct table client [] = IsDistinct-from_apart nat_eq [] (λ i j d before within. let nothing : j < 0 = within in absurd (omega (arith, nothing)))
are_distinct table client (script ∷ scripts) =
    let first : client < suc client = omega arith in
    IsDistinct-cons nat_eq client (clients_of (tokens_from table (suc client) scripts)) (apart table client (suc client) scripts first) (are_distinct table (suc client) scripts)

-- they are those with which the scripts are run
at_start : (table : TableId) (scripts : List (List Call)) (i : ℕ) (t : TokenShown) → IsNew table 0 scripts i t → IsAtStart scripts t
at_start table scripts i t new = record {
  script = subst (λ n. slice_get scripts n ≡ Some t.script) (sym (client ∙ zero-add i)) new.script;
  none = ap (λ (u : TokenShown). u.next) new.is;
  whose = ap (λ (u : TokenShown). u.session.session.client) new.is ∙ sym client;
  unseen = ap (λ (u : TokenShown). calls_by t.client u.session.session.seen) new.is;
}
  where
    client : t.client ≡ 0 + i
    client = ap (λ (u : TokenShown). u.client) new.is

pub for_scripts : (e : Named) (scripts : List (Vec Call)) → e.clients ≡ length scripts → All (λ (script : Vec Call). All (Fits (library_of e)) script.items) scripts
    → AreForScripts e (lists_of scripts) (tokens_from e.table 0 (lists_of scripts))
for_scripts e scripts clients fits = record {
  clients = clients ∙ sym (length-map scripts (λ (v : Vec Call). v.items));
  count = length-tokens e.table 0 (lists_of scripts);
  fit = are_fit e scripts fits;
  start = all_from (IsAtStart (lists_of scripts)) (tokens_from e.table 0 (lists_of scripts)) (λ i t at. at_start e.table (lists_of scripts) i t (tokens_at e.table 0 (lists_of scripts) i t at));
}

-- ---- the engine is closed with the sessions of the tokens that are back

pub closed_with : (e : Named) (back : List TokenShown) (sessions : List SessionShown) (closed : Closed) → sessions ≡ sessions_in back → IsSerial e closed
    → All (λ (s : SessionShown). HasItsCalls (calls_in closed.journal.items) s.session) sessions → IsClosedWith e back closed
closed_with e back sessions closed are serial seen = record {
  serial = serial;
  seen = all_from (λ (t : TokenShown). HasItsCalls (calls_in closed.journal.items) t.session.session) back
      (λ i t at. all_at Saw (sessions_in back) i t.session (subst (All Saw) are seen) (slice_get-map (λ (u : TokenShown). u.session) back i ∙ ap (option_map (λ (u : TokenShown). u.session)) at));
}
  where
    Saw : SessionShown → Type 0
    Saw s = HasItsCalls (calls_in closed.journal.items) s.session

-- what it leaves merges the scripts, if every call has entered
pub merges : (e : Named) (scripts : List (List Call)) (handed back : List TokenShown) (sessions : List SessionShown) (r : Result Closed ServeFault) → AreForScripts e scripts handed → AreBack handed back → All IsThrough back
    → sessions ≡ sessions_in back → IfOk r (IsSerial e) → IfOk r (λ (c : Closed). All (λ (s : SessionShown). HasItsCalls (calls_in c.journal.items) s.session) sessions)
    → IfOk r (λ (c : Closed). IsMerge (library_of e) (calls_in c.journal.items) scripts)
merges e scripts handed back sessions (Ok c) for h through are serial seen = merged e scripts handed back c for h through (closed_with e back sessions c are serial seen)
merges e scripts handed back sessions (Err why) for h through are serial seen = tt
