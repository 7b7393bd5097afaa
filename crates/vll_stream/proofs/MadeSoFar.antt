-- The calls that clients have made: one more, and all of them once their engine has ended.
use Rattle.std.proofs.Common.{◌≡◌, ◌≢◌, ℕ, zero, suc, ◌+◌, ◌-◌, ◌<◌, ◌≤◌, ◌==◌, Bool, true, false, List, [], ◌∷◌, ◌++◌, length, take, drop, refl, sym, ap, ◌∙◌, subst, arith, rules, All, IfSome, Option, Some, None, get_or, slice_get, append_assoc, append-nil, length-append, length-take, take_all, take-append-drop, slice_set, slice_index, ⊎_elim}
use Rattle.std.proofs.Math.Seq.{take-nil}
use Rattle.std.proofs.lemmas.Bool.{cases_eq, eq-eqb}
use Rattle.std.proofs.lemmas.List.{append_cancel_left, length-set, take-append-le}
use Rattle.std.proofs.lemmas.List.Elements.{All-head, All-map, All-tail}
use Rattle.std.proofs.lemmas.Option.{same_Some, slice_get-get_or, slice_get_read, slice_get_within}
use Rattle.vll_proc.specs.declared.call.Call.{Call}
use Rattle.vll_proc.specs.declared.call.Reply.{Reply}
use Rattle.vll_proc.specs.Headline.Serial.{Made, answer, apply, end}
use Rattle.vll_proc.proofs.Joined.{answer_of_second}
use Rattle.vll_check.specs.Calls.{Fits, IsReady}
use Rattle.vll_check.specs.Headline.Calls.{source, with_found}
use Rattle.vll_check.proofs.Fitting.{found_source, found_value}
use Rattle.vll_core.specs.declared.line.Line.{Line}
use Rattle.vll_core.proofs.Places.{all_at, entry_at, get_set, get_set_other}
use Rattle.vll_counters.specs.Headline.Views.{Begins, calls_by, calls_in}
use Rattle.vll_counters.specs.Shown.{AreNewSessions, SessionShown}
use Rattle.vll_counters.specs.Steps.{new_session}
use Rattle.vll_queue.specs.Calling.{IsCalled}
use Rattle.vll_queue.specs.Finished.{AppendsFinished}
use Rattle.vll_queue.specs.Headline.Found.{AreFoundThere, FoundThere}
use Rattle.vll_queue.specs.News.{Hears}
use Rattle.vll_queue.specs.Sessions.{HasItsCalls, SawOthers}
use Rattle.vll_queue.specs.Shown.{Named, library_of}
use Rattle.vll_queue.proofs.Learning.{calls_by-append}
use Rattle.vll_queue.proofs.There.{found_more}
use Rattle.vll_lines.specs.declared.request.ClientCall.{ClientCall}
use Rattle.vll_stream.specs.declared.callers.Callers.{Callers}
use Rattle.vll_stream.specs.Private.Callers.{AreCallers, AreTheCalls, IsCaller, IsInformed, IsSnapshot, MakesCall, made_so_far, seen_by, seen_of}
use Rattle.vll_stream.specs.declared.snapshot.Snapshot.{Snapshot}
use Rattle.vll_stream.proofs.Found.{none_found}
use Rattle.vll_stream.proofs.Snapshots.{calls_since, snapshot_later}

-- ---- the calls of one client

-- what a client sees of others is none of its own
own_still : (client : ℕ) (calls others : List Made) → calls_by client others ≡ [] → calls_by client (calls ++ others) ≡ calls_by client calls
own_still client calls others none = calls_by-append client calls others ∙ (ap (λ (l : List Call). calls_by client calls ++ l) none ∙ append-nil (calls_by client calls))

-- a call of another client
not_its_own : (client other : ℕ) (call : Call) → client ≢ other → calls_by client ((other, call) ∷ []) ≡ []
not_its_own client other call isnt = by_test (other == client) refl
  where
    by_test : (b : Bool) → (other == client) ≡ b → calls_by client ((other, call) ∷ []) ≡ []
    by_test true is = absurd (isnt (search rules))
    by_test false is = search rules

-- no client has made any of these
none_left : (clients : ℕ) (calls : List Made) → All (λ (m : Made). m.0 < clients) calls → ((c : ℕ) → c < clients → calls_by c calls ≡ []) → calls ≡ []
none_left clients [] low none = refl
none_left clients (m ∷ calls) low none = absurd (its_first (none m.0 (All-head (λ (x : Made). x.0 < clients) m calls low)))
  where
    its_first : calls_by m.0 (m ∷ calls) ≡ [] → ⊥
    its_first is =
        let own : (m.0 == m.0) ≡ true = eq-eqb m.0 m.0 refl in
        let first : calls_by m.0 (m ∷ calls) ≡ m.1 ∷ calls_by m.0 calls = search rules in
        omega (arith, ap length first, ap length is)

-- ---- no call yet

pub new_callers : (e : Named) (callers : Callers) → AreNewSessions e.table e.clients callers.sessions.items → callers.informed ≡ None → callers.calls ≡ 0 → IsSnapshot e [] callers.snapshot
    → AreCallers e callers × (made_so_far callers ≡ [])
new_callers e callers new none zero_calls snapshot =
    let made : made_so_far callers ≡ [] = ap (λ (n : ℕ). take n (seen_of callers.sessions.items callers.informed)) zero_calls in (
      record {
        all = new.0;
        each = λ client s at.
            let low = slice_get_within callers.sessions.items client s at in
            let first : SessionShown = record { table = e.table; session = new_session client; past = [] } in
            let is : first ≡ s = same_Some first s (sym (new.1 client (omega (arith, low, new.0))) ∙ at) in
            subst (IsCaller e (made_so_far callers) client) is (record { table = refl; its = refl; own = ap (calls_by client) (sym made) });
        many = ap length made ∙ sym zero_calls;
        informed = subst (λ (o : Option ℕ). IfSome o (λ client. client < e.clients)) (sym none) tt;
        found = subst (AreFoundThere e.base) (sym made) (none_found e.base);
        snapshot = subst (λ (cs : List Made). IsSnapshot e cs callers.snapshot) (sym made) snapshot;
      },
      made,
    )

-- ---- one session that changes

-- what holds of each session, once one of them has changed
each_set : (P Q : ℕ → SessionShown → Type 0) (ss : List SessionShown) (k : ℕ) (s t : SessionShown) → slice_get ss k ≡ Some s → ((c : ℕ) (x : SessionShown) → slice_get ss c ≡ Some x → P c x)
    → ((c : ℕ) (x : SessionShown) → c ≢ k → P c x → Q c x) → Q k t → (c : ℕ) (x : SessionShown) → slice_get (slice_set ss k t) c ≡ Some x → Q c x
each_set P Q ss k s t at each others new c x is = ⊎_elim
    (λ (same : c ≡ k).
    let it : t ≡ x = same_Some t x (sym (get_set ss k s t at) ∙ (ap (slice_get (slice_set ss k t)) (sym same) ∙ is)) in
    subst (λ (n : ℕ). Q n x) (sym same) (subst (Q k) it new))
    (λ (apart : c ≢ k). others c x apart (each c x (sym (get_set_other ss k t c apart) ∙ is)))
    (cases_eq c k)

module _ (e : Named) (old new : Callers) (client : ℕ) (s t : SessionShown) (are : AreCallers e old) (at : slice_get old.sessions.items client ≡ Some s)
    (set : new.sessions.items ≡ slice_set old.sessions.items client t) (table : t.table ≡ s.table) (informed : new.informed ≡ Some client) where
  -- what is made then is what this session has seen
  now_made : made_so_far new ≡ take new.calls t.session.seen
  now_made =
      let there : slice_get new.sessions.items client ≡ Some t = ap (λ (ss : List SessionShown). slice_get ss client) set ∙ get_set old.sessions.items client s t at in
      ap (take new.calls) (ap (seen_of new.sessions.items) informed ∙ ap seen_by there)

  all_now : length new.sessions.items ≡ e.clients
  all_now = ap length set ∙ (length-set old.sessions.items client t ∙ are.all)

  informed_now : IfSome new.informed (λ c. c < e.clients)
  informed_now =
      let low = slice_get_within old.sessions.items client s at in
      subst (λ (o : Option ℕ). IfSome o (λ c. c < e.clients)) (sym informed) (let l : client < e.clients = omega (arith, low, are.all) in l)

  -- a session that sees all calls
  pub informed_callers : new.calls ≡ old.calls → SawOthers s.session t.session → Begins (made_so_far old) t.session.seen → IsSnapshot e (made_so_far old) new.snapshot
      → AreCallers e new × (made_so_far new ≡ made_so_far old)
  informed_callers calls saw begins snapshot =
      let made : List Made = made_so_far old in
      let was = are.each client s at in
      let first : take old.calls t.session.seen ≡ made =
      ap (take old.calls) begins.1
      ∙ (take-append-le old.calls made begins.0 (let m = are.many in omega (arith, m)) ∙ take_all old.calls made (let m = are.many in omega (arith, m))) in
      let same : made_so_far new ≡ made = now_made ∙ (ap (λ (n : ℕ). take n t.session.seen) calls ∙ first) in
      let none : calls_by client saw.others ≡ [] = ap (λ (c : ℕ). calls_by c saw.others) (sym was.its) ∙ saw.not_own in
      let now : IsCaller e made client t = record {
        table = table ∙ was.table;
        its = saw.client ∙ was.its;
        own = ap (calls_by client) saw.seen ∙ (own_still client s.session.seen saw.others none ∙ was.own);
      } in (
        record {
          all = all_now;
          each = λ c x is.
              subst (λ (cs : List Made). IsCaller e cs c x) (sym same)
              (each_set (IsCaller e made) (IsCaller e made) old.sessions.items client s t at are.each (λ d y apart has. has) now c x
              (ap (λ (ss : List SessionShown). slice_get ss c) (sym set) ∙ is));
          many = ap length same ∙ (are.many ∙ sym calls);
          informed = informed_now;
          found = subst (AreFoundThere e.base) (sym same) are.found;
          snapshot = subst (λ (cs : List Made). IsSnapshot e cs new.snapshot) (sym same) snapshot;
        },
        same,
      )

  -- a call that comes after all calls
  module _ (call : Call) (ticket : ℕ) (reply : Reply) (called : IsCalled e s.session t.session call ticket reply) (first : made_so_far old ≡ take old.calls s.session.seen) (number : ticket ≡ old.calls)
      (fits : Fits (library_of e) call) where
    abbrev entering : Call
    entering = with_found (library_of e) call called.enters.value

    -- the session had seen all calls, and no others when this one entered
    seen_before : s.session.seen ++ called.enters.enters.others ≡ made_so_far old
    seen_before =
        let others = called.enters.enters.others in
        let place = called.enters.enters.place in
        let long = ap length first ∙ length-take old.calls s.session.seen in
        let few : old.calls ≤ length s.session.seen = omega (arith, long, are.many) in
        sym (take_all old.calls (s.session.seen ++ others) (omega (arith, place, number)))
        ∙ (take-append-le old.calls s.session.seen others few ∙ sym first)

    abbrev more : List Made
    more = made_so_far old ++ (client, entering) ∷ []

    seen_after : t.session.seen ≡ more ++ called.others.others
    seen_after =
        called.others.seen
        ∙ ap (λ (l : List Made). l ++ called.others.others)
        (called.enters.enters.seen
        ∙ (ap (λ (l : List Made). l ++ (s.session.client, entering) ∷ []) seen_before ∙ ap (λ (c : ℕ). made_so_far old ++ (c, entering) ∷ []) (are.each client s at).its))

    made_more : new.calls ≡ old.calls + 1 → made_so_far new ≡ more
    made_more calls =
        let long : length more ≡ old.calls + 1 = let l = length-append (made_so_far old) ((client, entering) ∷ []) in let m = are.many in omega (arith, l, m) in
        now_made
        ∙ (ap (take new.calls) seen_after
        ∙ (take-append-le new.calls more called.others.others (omega (arith, calls, long)) ∙ take_all new.calls more (omega (arith, calls, long))))

    -- what it has found was there
    found_before : (r : ℕ) → source (library_of e) entering ≡ Some r → FoundThere e.base (made_so_far old) (length (made_so_far old)) entering r
    found_before r is =
        let from : source (library_of e) call ≡ Some r = sym (found_source (library_of e) call called.enters.value fits) ∙ is in
        let was = called.enters.found r from in
        let below = was.within in
        let within : was.ticket ≤ length (made_so_far old) = omega (arith, below, number, are.many) in
        let entered : called.entered.seen ≡ made_so_far old ++ (s.session.client, entering) ∷ [] =
        called.enters.enters.seen ∙ ap (λ (l : List Made). l ++ (s.session.client, entering) ∷ []) seen_before in
        record {
          value = called.enters.value;
          is = found_value (library_of e) call called.enters.value r fits from;
          ticket = was.ticket;
          within = within;
          there =
              was.value
              ∙ ap (λ (l : List Made). slice_index (end e.base.procs l e.base.records) r)
              (ap (take was.ticket) entered ∙ take-append-le was.ticket (made_so_far old) ((s.session.client, entering) ∷ []) within);
        }

    replied : reply ≡ (apply e.base.procs entering (end e.base.procs (made_so_far old) e.base.records)).reply
    replied =
        let procs = e.base.procs in
        let records = e.base.records in
        let made : List Made = made_so_far old in
        let rest : List Made = called.others.others in
        let at_end : ticket ≡ length made + 0 = omega (arith, number, are.many) in
        let is : answer procs t.session.seen records ticket ≡ Some (apply procs entering (end procs made records)).reply =
        ap (λ (l : List Made). answer procs l records ticket) (seen_after ∙ append_assoc made ((client, entering) ∷ []) rest)
        ∙ (ap (answer procs (made ++ (client, entering) ∷ rest) records) at_end ∙ answer_of_second procs made ((client, entering) ∷ rest) records 0) in
        same_Some reply _ (sym called.replied ∙ is)

    pub makes_call : new.calls ≡ old.calls + 1 → new.snapshot ≡ old.snapshot → AreCallers e new × MakesCall e (made_so_far old) (made_so_far new) (record { client = client; call = call }) reply
    makes_call calls snapshot =
        let made : List Made = made_so_far old in
        let same : made_so_far new ≡ more = made_more calls in
        let was = are.each client s at in
        let its_others : calls_by client called.others.others ≡ [] =
        ap (λ (c : ℕ). calls_by c called.others.others) (sym (called.enters.enters.client ∙ was.its)) ∙ called.others.not_own in
        let now : IsCaller e more client t = record {
          table = table ∙ was.table;
          its = called.others.client ∙ (called.enters.enters.client ∙ was.its);
          own = ap (calls_by client) seen_after ∙ own_still client more called.others.others its_others;
        } in
        let other : (c : ℕ) (x : SessionShown) → c ≢ client → IsCaller e made c x → IsCaller e more c x =
        λ c x apart has. record { table = has.table; its = has.its; own = has.own ∙ sym (own_still c made ((client, entering) ∷ []) (not_its_own c client entering apart)) } in (
          record {
            all = all_now;
            each = λ c x is.
                subst (λ (cs : List Made). IsCaller e cs c x) (sym same)
                (each_set (IsCaller e made) (IsCaller e more) old.sessions.items client s t at are.each other now c x (ap (λ (ss : List SessionShown). slice_get ss c) (sym set) ∙ is));
            many = ap length same ∙ (let l = length-append made ((client, entering) ∷ []) in let e' : length more ≡ new.calls = omega (arith, l, are.many, calls) in e');
            informed = informed_now;
            found = subst (AreFoundThere e.base) (sym same) (found_more e.base made (client, entering) are.found found_before);
            snapshot =
                subst (λ (cs : List Made). IsSnapshot e cs new.snapshot) (sym same)
                (subst (IsSnapshot e more) (sym snapshot) (snapshot_later e made ((client, entering) ∷ []) old.snapshot are.snapshot));
          },
          record { call = entering; same = called.enters.same; made = same; replied = replied },
        )

-- ---- a session that is told what another one has seen

-- an item put where it stands
set_same : (xs : List SessionShown) (i : ℕ) (x y : SessionShown) → slice_get xs i ≡ Some x → y ≡ x → slice_set xs i y ≡ xs
set_same [] i x y at is = refl
set_same (z ∷ xs) zero x y at is = ap (λ (w : SessionShown). w ∷ xs) (is ∙ sym (same_Some z x at))
set_same (z ∷ xs) (suc i) x y at is = ap (λ (l : List SessionShown). z ∷ l) (set_same xs i x y at is)

-- no call was made yet
pub informed_first : (e : Named) (old new : Callers) (client : ℕ) → AreCallers e old → client < e.clients → old.informed ≡ None → new.sessions.items ≡ old.sessions.items → new.calls ≡ old.calls → new.informed ≡ Some client
    → new.counts ≡ old.counts → IsSnapshot e (made_so_far old) new.snapshot → IsInformed e old new client
informed_first e old new client are low nobody sessions calls informed counts snapshot =
    let here = entry_at old.sessions.items client (omega (arith, low, are.all)) in
    let s : SessionShown = here.0 in
    let none : made_so_far old ≡ [] = ap (λ (o : Option ℕ). take old.calls (seen_of old.sessions.items o)) nobody ∙ take-nil old.calls in
    let now =
    informed_callers e old new client s s are here.1 (sessions ∙ sym (set_same old.sessions.items client s s here.1 refl)) refl informed calls
    (record { client = refl; others = []; not_own = refl; seen = sym (append-nil s.session.seen) })
    (s.session.seen, ap (λ (l : List Made). l ++ s.session.seen) (sym none)) snapshot in
    record { callers = now.0; made = now.1; informed = informed; calls = calls; counts = counts }

-- what the informed client has seen begins with the calls made
pub told_first : (old : Callers) (teller : ℕ) (s : SessionShown) → old.informed ≡ Some teller → slice_get old.sessions.items teller ≡ Some s → made_so_far old ≡ take old.calls s.session.seen
told_first old teller s informed at = ap (take old.calls) (ap (seen_of old.sessions.items) informed ∙ ap seen_by at)

-- the informed client has told
pub informed_by : (e : Named) (old new : Callers) (teller client : ℕ) (s told heard t : SessionShown) (calls : List Made) → AreCallers e old → old.informed ≡ Some teller → slice_get old.sessions.items teller ≡ Some s → told ≡ s
    → slice_get old.sessions.items client ≡ Some heard → new.sessions.items ≡ slice_set (slice_set old.sessions.items teller told) client t → calls ≡ s.session.seen → Hears heard.session t.session calls
    → t.table ≡ heard.table → new.calls ≡ old.calls → new.informed ≡ Some client → new.counts ≡ old.counts → IsSnapshot e (made_so_far old) new.snapshot → IsInformed e old new client
informed_by e old new teller client s told heard t calls are informed at same there sessions seen hears table calls_still informed_now counts snapshot =
    let n : ℕ = old.calls in
    let still : slice_set old.sessions.items teller told ≡ old.sessions.items = set_same old.sessions.items teller s told at same in
    let rest : List Made = hears.heard.0 in
    let whole : t.session.seen ≡ take n s.session.seen ++ (drop n s.session.seen ++ rest) =
    hears.heard.1
    ∙ (ap (λ (l : List Made). l ++ rest) (seen ∙ sym (take-append-drop n s.session.seen)) ∙ append_assoc (take n s.session.seen) (drop n s.session.seen) rest) in
    let now =
    informed_callers e old new client heard t are there (sessions ∙ ap (λ (ss : List SessionShown). slice_set ss client t) still) table informed_now calls_still hears.others
    (drop n s.session.seen ++ rest, whole ∙ ap (λ (l : List Made). l ++ (drop n s.session.seen ++ rest)) (sym (told_first old teller s informed at))) snapshot in
    record { callers = now.0; made = now.1; informed = informed_now; calls = calls_still; counts = counts }

-- the informed client has looked again
pub informed_again : (e : Named) (old new : Callers) (client : ℕ) (s t : SessionShown) → AreCallers e old → old.informed ≡ Some client → slice_get old.sessions.items client ≡ Some s
    → new.sessions.items ≡ slice_set old.sessions.items client t → t.table ≡ s.table → SawOthers s.session t.session → new.calls ≡ old.calls → new.informed ≡ Some client → new.counts ≡ old.counts
    → IsSnapshot e (made_so_far old) new.snapshot → IsInformed e old new client
informed_again e old new client s t are informed at sessions table saw calls informed_now counts snapshot =
    let n : ℕ = old.calls in
    let seen : List Made = s.session.seen in
    let whole : t.session.seen ≡ take n seen ++ (drop n seen ++ saw.others) =
    saw.seen ∙ (ap (λ (l : List Made). l ++ saw.others) (sym (take-append-drop n seen)) ∙ append_assoc (take n seen) (drop n seen) saw.others) in
    let now =
    informed_callers e old new client s t are at sessions table informed_now calls saw
    (drop n seen ++ saw.others, whole ∙ ap (λ (l : List Made). l ++ (drop n seen ++ saw.others)) (sym (told_first old client s informed at))) snapshot in
    record { callers = now.0; made = now.1; informed = informed_now; calls = calls; counts = counts }

-- the lines of the calls that the snapshot lacks
pub lines_since : (e : Named) (callers : Callers) (client : ℕ) (s t : SessionShown) (from : ℕ) (old new : List Line) → AreCallers e callers → callers.informed ≡ Some client → slice_get callers.sessions.items client ≡ Some s
    → SawOthers s.session t.session → old ≡ [] → from ≡ callers.snapshot.calls → AppendsFinished e t.session.seen from old new → length new ≡ callers.calls - callers.snapshot.calls
    → (calls_in new ≡ drop callers.snapshot.calls (made_so_far callers)) × All (λ (l : Line). IsReady (library_of e) l.call) new
lines_since e callers client s t from old new are informed at saw none is appends many =
    let k : ℕ = callers.snapshot.calls in
    let n : ℕ = callers.calls in
    let first = told_first callers client s informed at in
    let lines : List Line = appends.lines in
    let same : new ≡ lines = appends.items ∙ ap (λ (l : List Line). l ++ lines) none in
    let long = ap length first ∙ length-take n s.session.seen in
    let few : n ≤ length s.session.seen = omega (arith, long, are.many) in
    let low : k ≤ n = let f = are.snapshot.few in omega (arith, f, are.many) in
    let count : length lines ≡ n - k = sym (ap length same) ∙ many in
    let calls : calls_in lines ≡ drop k (made_so_far callers) =
    appends.finished.calls
    ∙ (ap (λ (m : ℕ). take m (drop from t.session.seen)) count
    ∙ (ap (λ (m : ℕ). take (n - k) (drop m t.session.seen)) is
    ∙ (ap (λ (l : List Made). take (n - k) (drop k l)) saw.seen ∙ (calls_since s.session.seen saw.others k n low few ∙ ap (drop k) (sym first))))) in
    (ap calls_in same ∙ calls, subst (All (λ (l : Line). IsReady (library_of e) l.call)) (sym same) appends.finished.ready)

-- another snapshot
pub with_snapshot : (e : Named) (callers : Callers) (snapshot : Snapshot) → AreCallers e callers → IsSnapshot e (made_so_far callers) snapshot → AreCallers e (record callers { snapshot = snapshot })
with_snapshot e callers snapshot are is = record {
  all = are.all;
  each = are.each;
  many = are.many;
  informed = are.informed;
  found = are.found;
  snapshot = is;
}

-- a session of theirs
pub session_at : (e : Named) (old : Callers) (client : ℕ) (s : SessionShown) → AreCallers e old → client < e.clients → s ≡ get_or old.sessions.items client s → slice_get old.sessions.items client ≡ Some s
session_at e old client s are low is = slice_get_read old.sessions.items (length old.sessions.items) client s refl (omega (arith, low, are.all)) is

-- it is the engine's
pub own_table : (e : Named) (old : Callers) (client : ℕ) (s : SessionShown) → AreCallers e old → client < e.clients → s ≡ get_or old.sessions.items client s → s.table ≡ e.table
own_table e old client s are low is = (are.each client s (session_at e old client s are low is)).table

-- the informed client is one of theirs
pub informed_low : (e : Named) (old : Callers) (teller : ℕ) → AreCallers e old → old.informed ≡ Some teller → teller < e.clients
informed_low e old teller are is = subst (λ (o : Option ℕ). IfSome o (λ client. client < e.clients)) is are.informed

-- the session that hears stands as before the other one has told
pub heard_at : (e : Named) (old : Callers) (teller client : ℕ) (s told heard : SessionShown) → AreCallers e old → client < e.clients → slice_get old.sessions.items teller ≡ Some s → told ≡ s
    → heard ≡ get_or (slice_set old.sessions.items teller told) client heard → slice_get old.sessions.items client ≡ Some heard
heard_at e old teller client s told heard are low at same is =
    session_at e old client heard are low (is ∙ ap (λ (ss : List SessionShown). get_or ss client heard) (set_same old.sessions.items teller s told at same))

-- ---- all calls

all_after : {A : Type 0} (P : A → Type 0) (xs ys : List A) → All P (xs ++ ys) → All P ys
all_after P [] ys all = all
all_after P (x ∷ xs) ys all = all_after P xs ys (All-tail P x (xs ++ ys) all)

-- what the informed client has seen is a beginning of the calls that its engine ended with
begins_told : (sessions : List SessionShown) (informed : Option ℕ) (clients n : ℕ) (calls : List Made) → IfSome informed (λ client. client < clients) → length sessions ≡ clients
    → All (λ (s : SessionShown). HasItsCalls calls s.session) sessions → Begins (take n (seen_of sessions informed)) calls
begins_told sessions None clients n calls low many seen = (calls, ap (λ (l : List Made). l ++ calls) (sym (take-nil n)))
begins_told sessions (Some client) clients n calls low many seen =
    let here = entry_at sessions client (omega (arith, low, many)) in
    let has = all_at (λ (s : SessionShown). HasItsCalls calls s.session) sessions client here.0 seen here.1 in
    let told : List Made = here.0.session.seen in
    let whole : calls ≡ take n told ++ (drop n told ++ has.begins.0) =
    has.begins.1 ∙ (ap (λ (l : List Made). l ++ has.begins.0) (sym (take-append-drop n told)) ∙ append_assoc (take n told) (drop n told) has.begins.0) in
    (drop n told ++ has.begins.0, whole ∙ ap (λ (l : List Made). take n l ++ (drop n told ++ has.begins.0)) (sym (ap seen_by here.1)))

-- once an engine has ended, its calls are those that its clients have made
pub all_made : (e : Named) (callers : Callers) (calls : List Made) → AreCallers e callers → AreTheCalls e calls callers.sessions.items → calls ≡ made_so_far callers
all_made e callers calls are these =
    let made : List Made = made_so_far callers in
    let begins : Begins made calls = begins_told callers.sessions.items callers.informed e.clients callers.calls calls are.informed are.all these.seen in
    let rest : List Made = begins.0 in
    let low : All (λ (m : Made). m.0 < e.clients) rest = all_after (λ (m : Made). m.0 < e.clients) made rest (subst (All (λ (m : Made). m.0 < e.clients)) begins.1 these.clients) in
    let none : (c : ℕ) → c < e.clients → calls_by c rest ≡ [] =
    λ c within.
    let here = entry_at callers.sessions.items c (omega (arith, within, are.all)) in
    let is = are.each c here.0 here.1 in
    let has = all_at (λ (s : SessionShown). HasItsCalls calls s.session) callers.sessions.items c here.0 these.seen here.1 in
    let own : calls_by c here.0.session.seen ≡ calls_by c calls =
    subst (λ (k : ℕ). calls_by k here.0.session.seen ≡ calls_by k calls) is.its has.own in
    append_cancel_left (calls_by c made) (calls_by c rest) []
    (sym (calls_by-append c made rest) ∙ (ap (calls_by c) (sym begins.1) ∙ (sym own ∙ (is.own ∙ sym (append-nil (calls_by c made)))))) in
    begins.1 ∙ (ap (λ (l : List Made). made ++ l) (none_left e.clients rest low none) ∙ append-nil made)

-- the calls of the journal that an engine leaves
pub the_calls : (e : Named) (lines : List Line) (sessions : List SessionShown) → All (λ (l : Line). l.client < e.clients) lines → All (λ (s : SessionShown). HasItsCalls (calls_in lines) s.session) sessions
    → AreTheCalls e (calls_in lines) sessions
the_calls e lines sessions low seen = record { clients = All-map (λ (m : Made). m.0 < e.clients) (λ (l : Line). (l.client, l.call)) lines low; seen = seen }

-- the sessions of clients are their engine's
pub own_tables : (e : Named) (callers : Callers) → AreCallers e callers → All (λ (s : SessionShown). s.table ≡ e.table) callers.sessions.items
own_tables e callers are i d low = (are.each i (get_or callers.sessions.items i d) (slice_get-get_or callers.sessions.items i d low)).table

-- a call is made after the same calls
pub made_after : (e : Named) (calls same now : List Made) (request : ClientCall) {reply : Reply} → calls ≡ same → MakesCall e calls now request reply → MakesCall e same now request reply
made_after e calls same now request {reply} is makes = subst (λ (cs : List Made). MakesCall e cs now request reply) is makes
