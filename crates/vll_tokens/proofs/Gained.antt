-- What a token's session gains as its client's calls enter.
use Rattle.std.proofs.Common.{◌≡◌, ◌<◌, ◌≤◌, ℕ, zero, suc, ◌+◌, ◌-◌, ◌==◌, List, [], ◌∷◌, ◌++◌, map, length, take, drop, get_or, All, Some, slice_get, refl, sym, ap, ◌∙◌, subst, arith, append_assoc, cond}
use Rattle.std.specs.Prelude.{filter}
use Rattle.std.proofs.lemmas.Bool.{eq-eqb}
use Rattle.std.proofs.lemmas.List.{append-nil, map-append}
use Rattle.std.proofs.lemmas.List.Elements.{filter-append}
use Rattle.std.proofs.lemmas.Option.{same_Some, slice_get-get_or}
use Rattle.vll_proc.specs.declared.call.Call.{Call}
use Rattle.vll_proc.specs.Headline.Serial.{Made}
use Rattle.vll_check.specs.Headline.Calls.{with_found}
use Rattle.vll_check.specs.Calls.{bare, bares}
use Rattle.vll_core.proofs.Places.{entry_at, take_next}
use Rattle.vll_counters.specs.declared.views.SessionView.{SessionView}
use Rattle.vll_counters.specs.Shown.{PassShown, SessionShown}
use Rattle.vll_counters.specs.Headline.Views.{Begins, calls_by}
use Rattle.vll_queue.specs.declared.begun.BeginRefusal.{BeginRefusal}
use Rattle.vll_queue.specs.declared.begun.BeginRefusal.TheVariants.{Busy, Spent}
use Rattle.vll_queue.specs.declared.begun.Begun.{Begun}
use Rattle.vll_queue.specs.declared.begun.Begun.TheVariants.{Free, Blocked, Refused}
use Rattle.vll_engine.specs.declared.passes.BegunOnto.{BegunOnto}
use Rattle.vll_engine.specs.declared.passes.BegunOnto.TheVariants as onto
use Rattle.vll_queue.specs.Begin.{Begins as BeginsWith, FindsAndBegins}
use Rattle.vll_engine.specs.Onto.{FindsAndBeginsOnto, IsOnto}
use Rattle.vll_queue.specs.Headline.Sessions.{SawOwn}
use Rattle.vll_queue.specs.Sessions.{SawOthers}
use Rattle.vll_queue.specs.Shown.{Named, library_of}
use Rattle.vll_tokens.specs.Begin.{IsBegun, begun_token}
use Rattle.vll_tokens.specs.Shown.{TokenShown}
use Rattle.vll_tokens.specs.Tokens.{Gained, IsOf, calls_between}

-- ---- the calls of one client

calls_by-append : (client : ℕ) (xs ys : List Made) → calls_by client (xs ++ ys) ≡ calls_by client xs ++ calls_by client ys
calls_by-append client xs ys =
    ap (λ (l : List Made). map (λ (m : Made). m.1) l) (filter-append (λ (m : Made). m.0 == client) xs ys)
    ∙ map-append (λ (m : Made). m.1) (filter (λ (m : Made). m.0 == client) xs) (filter (λ (m : Made). m.0 == client) ys)

own_call : (client : ℕ) (call : Call) → calls_by client ((client, call) ∷ []) ≡ call ∷ []
own_call client call = ap (λ b. map (λ (m : Made). m.1) (cond b ((client, call) ∷ []) [])) (eq-eqb client client refl)

-- ---- the calls of a script between two places

get_drop : {A : Type 0} (xs : List A) (from to : ℕ) (x : A) → from ≤ to → slice_get xs to ≡ Some x → slice_get (drop from xs) (to - from) ≡ Some x
get_drop xs zero to x le at =
    let all : to - 0 ≡ to = omega arith in
    ap (λ (n : ℕ). slice_get xs n) all ∙ at
get_drop [] (suc from) to x le at = absurd (cc at)
get_drop (y ∷ ys) (suc from) zero x le at = absurd (omega (arith, le))
get_drop (y ∷ ys) (suc from) (suc to) x le at =
    let less : suc to - suc from ≡ to - from = omega arith in
    ap (λ (n : ℕ). slice_get (drop from ys) n) less ∙ get_drop ys from to x (omega (arith, le)) at

-- one more call of the script has entered
between_next : (from to : ℕ) (script : List Call) (call : Call) → from ≤ to → slice_get script to ≡ Some call → calls_between from (suc to) script ≡ calls_between from to script ++ call ∷ []
between_next from to script call le at =
    let next : suc to - from ≡ (to - from) + 1 = omega (arith, le) in
    ap (λ (n : ℕ). take n (drop from script)) next ∙ take_next (drop from script) (to - from) call (get_drop script from to call le at)

between_none : (at : ℕ) (script : List Call) → calls_between at at script ≡ []
between_none at script =
    let none : at - at ≡ 0 = omega arith in
    ap (λ (n : ℕ). take n (drop at script)) none

-- ---- what a session has gained

-- a session has gained nothing since it was the same
gained_none : (g : SessionView) → Gained g g []
gained_none g = record {
  begins = ([], sym (append-nil g.seen));
  own = ap bares (sym (append-nil (calls_by g.client g.seen)));
}

begins_later : (old now more : List Made) → Begins old now → Begins old (now ++ more)
begins_later old now more b = (b.0 ++ more, ap (λ (l : List Made). l ++ more) b.1 ∙ append_assoc old b.0 more)

-- calls of others gain it nothing
gained_others : (old now new : SessionView) (calls : List Call) → Gained old now calls → now.client ≡ old.client → SawOthers now new → Gained old new calls
gained_others old now new calls gained whose saw = record {
  begins = subst (Begins old.seen) (sym saw.seen) (begins_later old.seen now.seen saw.others gained.begins);
  own =
      ap bares
      (ap (calls_by old.client) saw.seen
      ∙ calls_by-append old.client now.seen saw.others
      ∙ ap (λ (l : List Call). calls_by old.client now.seen ++ l) (ap (λ (n : ℕ). calls_by n saw.others) (sym whose) ∙ saw.not_own)
      ∙ append-nil (calls_by old.client now.seen))
      ∙ gained.own;
}

-- a call of its own is gained, with what it has found
gained_own : (old now new : SessionView) (calls : List Call) (call entering : Call) (ticket : ℕ) → Gained old now calls → now.client ≡ old.client → bare entering ≡ bare call → SawOwn now new entering ticket
    → Gained old new (calls ++ call ∷ [])
gained_own old now new calls call entering ticket gained whose same saw =
    let mid : SessionView = record now { seen = now.seen ++ saw.others } in
    let others : Gained old mid calls = gained_others old now mid calls gained whose (record { client = refl; others = saw.others; not_own = saw.not_own; seen = refl }) in
    record {
      begins = subst (Begins old.seen) (sym saw.seen) (begins_later old.seen mid.seen ((now.client, entering) ∷ []) others.begins);
      own =
          ap bares
          (ap (calls_by old.client) saw.seen
          ∙ calls_by-append old.client mid.seen ((now.client, entering) ∷ [])
          ∙ (λ i. calls_by old.client mid.seen ++ calls_by old.client ((whose i, entering) ∷ []))
          ∙ ap (λ (l : List Call). calls_by old.client mid.seen ++ l) (own_call old.client entering))
          ∙ map-append bare (calls_by old.client mid.seen) (entering ∷ [])
          ∙ (λ i. others.own i ++ same i ∷ [])
          ∙ sym (map-append bare (calls_by old.client old.seen ++ calls) (call ∷ []))
          ∙ ap bares (append_assoc (calls_by old.client old.seen) calls (call ∷ []));
    }

-- ---- a token of those that were handed in

same_of : (handed : List TokenShown) (i : ℕ) (t : TokenShown) → slice_get handed i ≡ Some t → IsOf handed t
same_of handed i t at = record {
  index = i;
  old = t;
  at = at;
  client = refl;
  script = refl;
  on = omega arith;
  table = refl;
  whose = refl;
  gained = subst (Gained t.session.session t.session.session) (sym (between_none t.next t.script)) (gained_none t.session.session);
}

-- the tokens that were passed in are themselves such
pub all_of : (handed : List TokenShown) → All (IsOf handed) handed
all_of handed i d within = same_of handed i (get_or handed i d) (slice_get-get_or handed i d within)

-- its session has seen calls of others enter
of_others : (handed : List TokenShown) (t : TokenShown) (s : SessionShown) → IsOf handed t → s.table ≡ t.session.table → SawOthers t.session.session s.session → IsOf handed (record t { session = s })
of_others handed t s of table saw = record {
  index = of.index;
  old = of.old;
  at = of.at;
  client = of.client;
  script = of.script;
  on = of.on;
  table = table ∙ of.table;
  whose = saw.client ∙ of.whose;
  gained = gained_others of.old.session.session t.session.session s.session (calls_between of.old.next t.next of.old.script) of.gained of.whose saw;
}

-- its next call has entered
of_own : (handed : List TokenShown) (t : TokenShown) (s : SessionShown) (call entering : Call) (ticket : ℕ) → IsOf handed t → slice_get t.script t.next ≡ Some call → s.table ≡ t.session.table
    → bare entering ≡ bare call → SawOwn t.session.session s.session entering ticket → IsOf handed (record t { next = suc t.next; session = s })
of_own handed t s call entering ticket of next table same saw =
    let at : slice_get of.old.script t.next ≡ Some call = ap (λ (calls : List Call). slice_get calls t.next) (sym of.script) ∙ next in
    let on : of.old.next ≤ t.next = of.on in
    record {
      index = of.index;
      old = of.old;
      at = of.at;
      client = of.client;
      script = of.script;
      on = omega (arith, on);
      table = table ∙ of.table;
      whose = saw.client ∙ of.whose;
      gained = subst (Gained of.old.session.session s.session) (sym (between_next of.old.next t.next of.old.script call on at))
          (gained_own of.old.session.session t.session.session s.session (calls_between of.old.next t.next of.old.script) call entering ticket of.gained of.whose same saw);
    }

-- its next call has begun, or was refused
begun_of : (e : Named) (handed : List TokenShown) (t new : TokenShown) (call entering : Call) (begun : Begun) → IsOf handed t → slice_get t.script t.next ≡ Some call
    → new ≡ begun_token t new.session begun → bare entering ≡ bare call → BeginsWith e t.session.session new.session.session entering begun → new.session.table ≡ t.session.table → IsOf handed new
begun_of e handed t new call entering (Free pass) of next is same begins table = subst (IsOf handed) (sym is) (of_own handed t new.session call entering pass.pass.ticket of next table same begins.0)
begun_of e handed t new call entering (Blocked ticket) of next is same begins table = subst (IsOf handed) (sym is) (of_own handed t new.session call entering ticket of next table same begins.0)
begun_of e handed t new call entering (Refused why) of next is same begins table = subst (IsOf handed) (sym is) (of_others handed t new.session of table begins.0)

-- the token's next call, as its script lends it
pub next_call : (lent script : List Call) (t : TokenShown) (next : ℕ) (call : Call) → lent ≡ script → script ≡ t.script → next ≡ t.next → (next < length lent) × ((d : Call) → call ≡ get_or lent next d)
    → slice_get t.script t.next ≡ Some call
next_call lent script t next call lends is count found =
    (λ i. slice_get (sym (lends ∙ is) i) (sym count i)) ∙ slice_get-get_or lent next call found.0 ∙ ap Some (sym (found.1 call))

pub of_begun : (e : Named) (handed : List TokenShown) (t new : TokenShown) (answer : BegunOnto) (before after : List PassShown) → IsOf handed t → t.next < length t.script → IsBegun e t new answer before after → IsOf handed new
of_begun e handed t new answer before after of left begins =
    let next = entry_at t.script t.next left in
    let found = begins.call next.0 next.1 in
    begun_of e handed t new next.0 (with_found (library_of e) next.0 found.value) begins.begun of next.1 begins.token found.same found.begins begins.table

-- it is the same client's
pub client_begun : (e : Named) (t new : TokenShown) (answer : BegunOnto) (before after : List PassShown) → IsBegun e t new answer before after → new.client ≡ t.client
client_begun e t new answer before after begins = ap (λ (u : TokenShown). u.client) begins.token ∙ stays begins.begun
  where
    stays : (b : Begun) → (begun_token t new.session b).client ≡ t.client
    stays (Free pass) = refl
    stays (Blocked ticket) = refl
    stays (Refused why) = refl

spent_onto : (e : Named) (old new : SessionView) (call : Call) (begun : Begun) (answer : BegunOnto) (before after : List PassShown) → BeginsWith e old new call begun → IsOnto begun answer before after → answer ≡ onto.Refused Spent → length new.seen ≡ e.config.limit
spent_onto e old new call (Free pass) answer before after begins onto is = absurd (cc (onto.0, is))
spent_onto e old new call (Blocked ticket) answer before after begins onto is = absurd (cc (onto.0, is))
spent_onto e old new call (Refused Busy) answer before after begins onto is = absurd (cc (onto.0, is))
spent_onto e old new call (Refused Spent) answer before after begins onto is = begins.1

-- a session whose call was refused because the engine takes no more has seen as many calls enter as it takes
pub spent_session : (e : Named) (t new : TokenShown) (answer : BegunOnto) (before after : List PassShown) → t.next < length t.script → IsBegun e t new answer before after → answer ≡ onto.Refused Spent → length new.session.session.seen ≡ e.config.limit
spent_session e t new answer before after left begins is =
    let next = entry_at t.script t.next left in
    let found = begins.call next.0 next.1 in
    spent_onto e t.session.session new.session.session (with_found (library_of e) next.0 found.value) begins.begun answer before after found.begins begins.onto is

-- a call that was not refused has entered
pub entered_token : (t new : TokenShown) (begun : Begun) (answer : BegunOnto) (before after : List PassShown) → IsOnto begun answer before after → ((why : BeginRefusal) → ¬ answer ≡ onto.Refused why) → new ≡ record t { next = suc t.next; session = new.session }
    → new ≡ begun_token t new.session begun
entered_token t new (Free pass) answer before after onto entered is = is
entered_token t new (Blocked ticket) answer before after onto entered is = is
entered_token t new (Refused why) answer before after onto entered is = absurd (entered why onto.0)

-- a call that was refused has not
pub refused_token : (t new : TokenShown) (begun : Begun) (answer : BegunOnto) (before after : List PassShown) (why : BeginRefusal) → IsOnto begun answer before after → answer ≡ onto.Refused why → new ≡ record t { session = new.session }
    → new ≡ begun_token t new.session begun
refused_token t new (Free pass) answer before after why onto is token = absurd (cc (onto.0, is))
refused_token t new (Blocked ticket) answer before after why onto is token = absurd (cc (onto.0, is))
refused_token t new (Refused reason) answer before after why onto is token = token

-- a token whose next call has begun, or was refused
pub is_begun : (e : Named) (t new : TokenShown) (old : SessionShown) (call : Call) (answer : BegunOnto) (before after : List PassShown) → old ≡ t.session → slice_get t.script t.next ≡ Some call
    → (a : FindsAndBeginsOnto e old.session new.session.session call answer before after) → new.session.table ≡ old.table → new ≡ begun_token t new.session a.begun → IsBegun e t new answer before after
is_begun e t new old call answer before after same at a table token = record {
  begun = a.begun;
  token = token;
  call = λ other is. subst (λ (k : Call). FindsAndBegins e t.session.session new.session.session k a.begun) (same_Some call other (sym at ∙ is))
      (subst (λ (s : SessionShown). FindsAndBegins e s.session new.session.session call a.begun) same a.begins);
  table = table ∙ ap (λ (s : SessionShown). s.table) same;
  onto = a.onto;
}
