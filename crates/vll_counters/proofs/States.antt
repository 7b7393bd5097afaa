-- How lines, statuses and passes follow a state of the plain machine.
use Rattle.std.proofs.Common.{◌≡◌, ◌≢◌, ℕ, zero, suc, ◌+◌, ◌<◌, ◌≤◌, Bool, true, false, List, [], ◌∷◌, ◌++◌, map, length, take, refl, sym, ap, ◌∙◌, arith, zero-add, add-zero, Option, Some, None, slice_get, slice_set, slice_index, if◌then◌else◌}
use Rattle.vll_counters.proofs.Common.{enumerate_from, option_map, take-append-le, map-set, length-map, map-append, same_Some, slice_get-map, slice_get_within, Claim, Made, apply, before, end, Status, is_running, is_gone, Line, Base, Entered, Turn, State, made, entered, running, if_running, with_entry, get_set, map_set, map_push, entry_runs, PassView, calls_in, pass_for, pass_of}
use Rattle.vll_core.specs.Journal.{journal_of}
use Rattle.vll_counters.proofs.Passes.{AreNamed}
use Rattle.vll_counters.proofs.Places.{get_longer, get_last, get_past, past_more, get_set_else}

abbrev pub status_of : Entered → Status
status_of e = e.status

-- ---- lists known by their places

lines_same : (f g : ℕ × Entered → Line) (n : ℕ) (es : List Entered) → ((k : ℕ) (e : Entered) → slice_get es k ≡ Some e → g (n + k, e) ≡ f (n + k, e)) → map g (enumerate_from n es) ≡ map f (enumerate_from n es)
lines_same f g n [] same = refl
lines_same f g n (e ∷ es) same =
    let first : g (n, e) ≡ f (n, e) = ap (λ m. g (m, e)) (sym (add-zero n)) ∙ same 0 e refl ∙ ap (λ m. f (m, e)) (add-zero n) in
    let rest = lines_same f g (n + 1) es (λ k d at. ap (λ m. g (m, d)) (next k) ∙ same (suc k) d at ∙ ap (λ m. f (m, d)) (sym (next k))) in
    λ i. first i ∷ rest i
  where
    next : (k : ℕ) → (n + 1) + k ≡ n + suc k
    next k = omega arith

lines_set : (f : ℕ × Entered → Line) (n : ℕ) (es : List Entered) (t : ℕ) (e : Entered) → map f (enumerate_from n (slice_set es t e)) ≡ slice_set (map f (enumerate_from n es)) t (f (n + t, e))
lines_set f n [] t e = refl
lines_set f n (d ∷ es) zero e = ap (λ m. f (m, e) ∷ map f (enumerate_from (n + 1) es)) (sym (add-zero n))
lines_set f n (d ∷ es) (suc t) e =
    let next : (n + 1) + t ≡ n + suc t = omega arith in
    ap (λ (ls : List Line). f (n, d) ∷ ls) (lines_set f (n + 1) es t e ∙ ap (λ m. slice_set (map f (enumerate_from (n + 1) es)) t (f (m, e))) next)

lines_push : (f : ℕ × Entered → Line) (n : ℕ) (es : List Entered) (e : Entered) → map f (enumerate_from n (es ++ e ∷ [])) ≡ map f (enumerate_from n es) ++ f (n + length es, e) ∷ []
lines_push f n [] e = ap (λ m. f (m, e) ∷ []) (sym (add-zero n))
lines_push f n (d ∷ es) e =
    let next : (n + 1) + length es ≡ n + suc (length es) = omega arith in
    ap (λ (ls : List Line). f (n, d) ∷ ls) (lines_push f (n + 1) es e ∙ ap (λ m. map f (enumerate_from (n + 1) es) ++ f (m, e) ∷ []) next)

lines_get : (f : ℕ × Entered → Line) (n : ℕ) (es : List Entered) (k : ℕ) (e : Entered) → slice_get es k ≡ Some e → slice_get (map f (enumerate_from n es)) k ≡ Some (f (n + k, e))
lines_get f n [] k e at = absurd (cc at)
lines_get f n (d ∷ es) zero e at = ap (λ (x : Entered). Some (f (n, x))) (same_Some d e at) ∙ ap (λ m. Some (f (m, e))) (sym (add-zero n))
lines_get f n (d ∷ es) (suc k) e at = let next : (n + 1) + k ≡ n + suc k = omega arith in lines_get f (n + 1) es k e at ∙ ap (λ m. Some (f (m, e))) next

-- what is at a place is put there again
set_same : {A : Type 0} (xs : List A) (t : ℕ) (a : A) → slice_get xs t ≡ Some a → slice_set xs t a ≡ xs
set_same [] t a at = refl
set_same (x ∷ xs) zero a at = λ i. sym (same_Some x a at) i ∷ xs
set_same (x ∷ xs) (suc t) a at = λ i. x ∷ set_same xs t a at i

-- ---- the lines

-- the line of a ticket, if these are the entered calls
abbrev pub line_by : Base → List Made → ℕ × Entered → Line
line_by base calls (t, e) = record {
  client = e.client;
  call = e.call;
  reply = if is_gone e.status then Some (apply base.procs e.call (before base.procs calls base.records t)).reply else None;
}

calls_numbered : (base : Base) (calls : List Made) (n : ℕ) (es : List Entered) → calls_in (map (line_by base calls) (enumerate_from n es)) ≡ map made es
calls_numbered base calls n [] = refl
calls_numbered base calls n (e ∷ es) = ap (λ (l : List Made). made e ∷ l) (calls_numbered base calls (n + 1) es)

-- the lines give the entered calls
pub calls_entered : (base : Base) (s : State) → calls_in (journal_of base s) ≡ entered s
calls_entered base s = calls_numbered base (entered s) 0 s.entries

-- the line of an entry
pub line_at : (base : Base) (s : State) (t : ℕ) (e : Entered) → slice_get s.entries t ≡ Some e → slice_get (journal_of base s) t ≡ Some (line_by base (entered s) (t, e))
line_at base s t e at = lines_get (line_by base (entered s)) 0 s.entries t e at ∙ ap (λ m. Some (line_by base (entered s) (m, e))) (zero-add t)

-- ---- an entry that makes the same call

module _ (base : Base) (s : State) (t : ℕ) (e f : Entered) (at : slice_get s.entries t ≡ Some e) (same : made f ≡ made e) where
  pub entered_kept : entered (with_entry s t f) ≡ entered s
  entered_kept = map_set s.entries t e f at same

  pub statuses_set : map status_of (slice_set s.entries t f) ≡ slice_set (map status_of s.entries) t f.status
  statuses_set = map-set status_of s.entries t f

  pub status_at : slice_get (map status_of s.entries) t ≡ Some e.status
  status_at = slice_get-map status_of s.entries t ∙ ap (option_map status_of) at

  pub statuses_kept : f.status ≡ e.status → map status_of (slice_set s.entries t f) ≡ map status_of s.entries
  statuses_kept is = statuses_set ∙ set_same (map status_of s.entries) t f.status (status_at ∙ ap Some (sym is))

  pub lines_changed : journal_of base (with_entry s t f) ≡ slice_set (journal_of base s) t (line_by base (entered s) (t, f))
  lines_changed =
      ap (λ (calls : List Made). map (line_by base calls) (enumerate_from 0 (slice_set s.entries t f))) entered_kept
      ∙ lines_set (line_by base (entered s)) 0 s.entries t f
      ∙ ap (λ m. slice_set (journal_of base s) t (line_by base (entered s) (m, f))) (zero-add t)

  pub lines_kept : is_gone f.status ≡ is_gone e.status → journal_of base (with_entry s t f) ≡ journal_of base s
  lines_kept gone =
      let line : line_by base (entered s) (t, f) ≡ line_by base (entered s) (t, e) =
      λ i. record {
        client = (same i).0;
        call = (same i).1;
        reply = if gone i then Some (apply base.procs (same i).1 (before base.procs (entered s) base.records t)).reply else None;
      } in
      lines_changed ∙ set_same (journal_of base s) t (line_by base (entered s) (t, f)) (line_at base s t e at ∙ ap Some (sym line))

  -- the passes of other tickets stay
  pub pass_else : (n : ℕ) → n ≢ t → pass_of base (with_entry s t f) n ≡ pass_of base s n
  pass_else n apart =
      ap (λ (calls : List Made). option_map (pass_for base calls n) (running (with_entry s t f) n)) entered_kept
      ∙ ap (λ (x : Option Entered). option_map (pass_for base (entered s) n) (if_running x)) (get_set_else s.entries t n f apart)

  pub pass_here : is_running f.status ≡ true → pass_of base (with_entry s t f) t ≡ Some (pass_for base (entered s) t f)
  pass_here runs =
      ap (λ (calls : List Made). option_map (pass_for base calls t) (running (with_entry s t f) t)) entered_kept
      ∙ ap (λ (x : Option Entered). option_map (pass_for base (entered s) t) (if_running x)) (get_set s.entries t e f at)
      ∙ ap (λ (b : Bool). option_map (pass_for base (entered s) t) (if b then Some f else None)) runs

  pub pass_gone : is_running f.status ≡ false → pass_of base (with_entry s t f) t ≡ None
  pass_gone ends =
      ap (λ (x : Option Entered). option_map (pass_for base (entered (with_entry s t f)) t) (if_running x)) (get_set s.entries t e f at)
      ∙ ap (λ (b : Bool). option_map (pass_for base (entered (with_entry s t f)) t) (if b then Some f else None)) ends

-- ---- the pass of a ticket

-- what a ticket's pass tells of its entry
pub record IsPassOf (base : Base) (s : State) (t : ℕ) (p : PassView) : Type 0 where
  pub entry : Entered
  pub at : slice_get s.entries t ≡ Some entry
  pub runs : is_running entry.status ≡ true
  pub running_is : running s t ≡ Some entry
  pub is : p ≡ pass_for base (entered s) t entry

pub pass_is : (base : Base) (s : State) (t : ℕ) (p : PassView) → pass_of base s t ≡ Some p → IsPassOf base s t p
pass_is base s t p h = by_entry (running s t) refl h
  where
    by_entry : (x : Option Entered) → running s t ≡ x → option_map (pass_for base (entered s) t) x ≡ Some p → IsPassOf base s t p
    by_entry None is k = absurd (cc k)
    by_entry (Some e) is k =
        let r = entry_runs (slice_get s.entries t) e is in
        record { entry = e; at = r.0; runs = r.1; running_is = is; is = sym (same_Some (pass_for base (entered s) t e) p k) }

pub passes_named : (base : Base) (s : State) → AreNamed (pass_of base s)
passes_named base s t p h = ap (λ (x : PassView). x.ticket) (pass_is base s t p h).is

-- a ticket whose call does not run has no pass
pub pass_none : (base : Base) (s : State) (t : ℕ) (e : Entered) → slice_get s.entries t ≡ Some e → is_running e.status ≡ false → pass_of base s t ≡ None
pass_none base s t e at not =
    ap (λ (x : Option Entered). option_map (pass_for base (entered s) t) (if_running x)) at
    ∙ ap (λ (b : Bool). option_map (pass_for base (entered s) t) (if b then Some e else None)) not

-- ---- one more entry

module _ (base : Base) (s : State) (turn : Option Turn) (new : Entered) where
  -- the state with one more entry
  abbrev pub with_more : State
  with_more = record s { entries = s.entries ++ new ∷ []; turn = turn }

  pub entered_more : entered with_more ≡ entered s ++ made new ∷ []
  entered_more = map_push s.entries new

  pub statuses_more : map status_of (s.entries ++ new ∷ []) ≡ map status_of s.entries ++ new.status ∷ []
  statuses_more = map-append status_of s.entries (new ∷ [])

  -- the first calls stay
  take_more : (n : ℕ) → n ≤ length s.entries → take n (entered with_more) ≡ take n (entered s)
  take_more n low = ap (take n) entered_more ∙ take-append-le n (entered s) (made new ∷ []) (omega (arith, low, length-map s.entries made))

  before_more : (n : ℕ) → n ≤ length s.entries → before base.procs (entered with_more) base.records n ≡ before base.procs (entered s) base.records n
  before_more n low = ap (λ (calls : List Made). end base.procs calls base.records) (take_more n low)

  pub lines_more : is_gone new.status ≡ false → journal_of base with_more ≡ journal_of base s ++ record { client = new.client; call = new.call; reply = None } ∷ []
  lines_more left =
      lines_push (line_by base (entered with_more)) 0 s.entries new
      ∙ (λ i. old i ++ last i ∷ [])
    where
      old : map (line_by base (entered with_more)) (enumerate_from 0 s.entries) ≡ journal_of base s
      old = lines_same (line_by base (entered s)) (line_by base (entered with_more)) 0 s.entries (λ k e at. line k e (slice_get_within s.entries k e at))
        where
          line : (k : ℕ) (e : Entered) → k < length s.entries → line_by base (entered with_more) (0 + k, e) ≡ line_by base (entered s) (0 + k, e)
          line k e low = ap (λ (now : List ℕ). let l : Line = record { client = e.client; call = e.call; reply = if is_gone e.status then Some (apply base.procs e.call now).reply else None } in l) (before_more (0 + k) (omega (arith, low)))

      last : line_by base (entered with_more) (0 + length s.entries, new) ≡ record { client = new.client; call = new.call; reply = None }
      last = ap (λ (b : Bool). let l : Line = record { client = new.client; call = new.call; reply = if b then Some (apply base.procs new.call (before base.procs (entered with_more) base.records (0 + length s.entries))).reply else None } in l) left

  -- the passes of the tickets before it stay
  pub pass_more : (n : ℕ) → n ≢ length s.entries → pass_of base with_more n ≡ pass_of base s n
  pass_more n apart = by_entry (slice_get s.entries n) refl
    where
      same_pass : (e : Entered) → n < length s.entries → pass_for base (entered with_more) n e ≡ pass_for base (entered s) n e
      same_pass e low =
          let calls = take_more (suc n) (omega (arith, low)) in
          let now = before_more n (omega (arith, low)) in
          λ i. record {
            ticket = n;
            call = e.call;
            seen = calls i;
            loads = e.loads;
            stores = e.stores;
            releases = e.releases;
            loaded = map (λ (c : Claim). slice_index (now i) c.id) (take e.loads e.call.claims);
          }

      by_test : (e : Entered) → n < length s.entries → (b : Bool) → option_map (pass_for base (entered with_more) n) (if b then Some e else None) ≡ option_map (pass_for base (entered s) n) (if b then Some e else None)
      by_test e low true = ap Some (same_pass e low)
      by_test e low false = refl

      by_entry : (x : Option Entered) → slice_get s.entries n ≡ x → pass_of base with_more n ≡ pass_of base s n
      by_entry None none =
          ap (λ (x : Option Entered). option_map (pass_for base (entered with_more) n) (if_running x)) (past_more s.entries n new apart none)
          ∙ sym (ap (λ (x : Option Entered). option_map (pass_for base (entered s) n) (if_running x)) none)
      by_entry (Some e) at =
          ap (λ (x : Option Entered). option_map (pass_for base (entered with_more) n) (if_running x)) (get_longer s.entries (new ∷ []) n e at)
          ∙ by_test e (slice_get_within s.entries n e at) (is_running e.status)
          ∙ sym (ap (λ (x : Option Entered). option_map (pass_for base (entered s) n) (if_running x)) at)

  pub pass_last : is_running new.status ≡ true → pass_of base with_more (length s.entries) ≡ Some (pass_for base (entered with_more) (length s.entries) new)
  pass_last runs =
      ap (λ (x : Option Entered). option_map (pass_for base (entered with_more) (length s.entries)) (if_running x)) (get_last s.entries new)
      ∙ ap (λ (b : Bool). option_map (pass_for base (entered with_more) (length s.entries)) (if b then Some new else None)) runs

  pub pass_waits : is_running new.status ≡ false → pass_of base with_more (length s.entries) ≡ None
  pass_waits waits = pass_none base with_more (length s.entries) new (get_last s.entries new) waits

-- no pass is after the last ticket
pub pass_past : (base : Base) (s : State) → pass_of base s (length s.entries) ≡ None
pass_past base s = ap (λ (x : Option Entered). option_map (pass_for base (entered s) (length s.entries)) (if_running x)) (get_past s.entries)
