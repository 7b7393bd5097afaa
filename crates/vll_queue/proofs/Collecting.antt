-- Which lines of finished calls are handed out, and what a session knows of them.
use Rattle.std.proofs.Common.{◌≡◌, ◌≤◌, ℕ, zero, suc, ◌+◌, ◌-◌, ◌<◌, Bool, true, false, List, [], ◌∷◌, ◌++◌, cond, map, length, take, drop, All, Option, Some, None, slice_get, refl, sym, ap, ◌∙◌, subst, append_assoc, arith}
use Rattle.std.specs.Prelude.{is_some}
use Rattle.std.proofs.lemmas.Bool.{false≢true}
use Rattle.std.proofs.lemmas.List.{append-nil, drop_all, length-append, take-map, drop-map}
use Rattle.std.proofs.lemmas.List.Elements.{All-take, All-drop}
use Rattle.std.proofs.lemmas.List.Sums.{take_while-cons}
use Rattle.std.proofs.lemmas.Option.{same_Some}
use Rattle.vll_proc.specs.Headline.Serial.{Made, answer}
use Rattle.vll_check.specs.Calls.{IsReady}
use Rattle.vll_sca.specs.declared.status.Status.{Status}
use Rattle.vll_sca.specs.declared.status.Status.TheVariants.{Gone}
use Rattle.vll_sca.specs.Status.{is_gone}
use Rattle.vll_core.specs.declared.line.Line.{Line}
use Rattle.vll_core.specs.Queue.{Queued, IsQueued, has_reply, lines}
use Rattle.vll_core.proofs.Places.{drop_next}
use Rattle.vll_counters.specs.Headline.Views.{calls_in}
use Rattle.vll_counters.specs.declared.views.SessionView.{SessionView}
use Rattle.vll_counters.specs.Shown.{QueueShown, queue_view}
use Rattle.vll_counters.specs.Told.{KnowsSession, AreReplied}
use Rattle.vll_queue.specs.Finished.{AppendsFinished, AreFinished, finished, finished_from}
use Rattle.vll_queue.specs.Private.Kept.{AreOwn, IsKept}
use Rattle.vll_queue.specs.Replied.{reply_in}
use Rattle.vll_queue.specs.Shown.{Named, library_of}
use Rattle.vll_queue.proofs.Learning.{gone_at, gone_is, replied_at}

-- ---- one line after the other

with_first : (room : ℕ) (l : Line) (ls : List Line) → has_reply l ≡ true → finished (suc room) (l ∷ ls) ≡ l ∷ finished room ls
with_first room l ls has = take_while-cons has_reply l (take room ls) ∙ ap (λ (b : Bool). cond b (l ∷ finished room ls) []) has

without_first : (room : ℕ) (l : Line) (ls : List Line) → has_reply l ≡ false → finished room (l ∷ ls) ≡ []
without_first zero l ls has = refl
without_first (suc room) l ls has = take_while-cons has_reply l (take room ls) ∙ ap (λ (b : Bool). cond b (l ∷ finished room ls) []) has

-- the next line has a reply, and there is room for it
pub finished_next : (room : ℕ) (ls : List Line) (n : ℕ) (l : Line) → slice_get ls n ≡ Some l → has_reply l ≡ true → finished (suc room) (drop n ls) ≡ l ∷ finished room (drop (n + 1) ls)
finished_next room ls n l at has = ap (finished (suc room)) (drop_next ls n l at) ∙ with_first room l (drop (n + 1) ls) has

-- the next line has none
pub finished_stops : (room : ℕ) (ls : List Line) (n : ℕ) (l : Line) → slice_get ls n ≡ Some l → has_reply l ≡ false → finished room (drop n ls) ≡ []
finished_stops room ls n l at has = ap (finished room) (drop_next ls n l at) ∙ without_first room l (drop (n + 1) ls) has

-- a step of the loop that appends them: what was to be appended to what was there is still to be appended to what is there
pub collected_more : (all now next left : List Line) (n capacity : ℕ) (l : Line) → all ≡ now ++ finished (capacity - length now) (drop n left) → slice_get left n ≡ Some l → has_reply l ≡ true → length now < capacity
    → next ≡ now ++ l ∷ [] → all ≡ next ++ finished (capacity - length next) (drop (n + 1) left)
collected_more all now next left n capacity l is at has within more =
    let room = capacity - length next in
    let long : length next ≡ length now + 1 = ap length more ∙ length-append now (l ∷ []) in
    let less : capacity - length now ≡ suc room = omega (arith, long, within) in
    let rest = finished room (drop (n + 1) left) in
    is ∙ ap (λ (r : ℕ). now ++ finished r (drop n left)) less ∙ ap (λ (xs : List Line). now ++ xs) (finished_next room left n l at has) ∙ sym (append_assoc now (l ∷ []) rest)
    ∙ ap (λ (xs : List Line). xs ++ rest) (sym more)

-- the loop ends: no line is left, the next one has no reply, or there is no room for it
no_more : (all now rest : List Line) → all ≡ now ++ rest → rest ≡ [] → now ≡ all
no_more all now rest is none = sym (is ∙ ap (λ (xs : List Line). now ++ xs) none ∙ append-nil now)

none_left : (room : ℕ) → finished room [] ≡ []
none_left zero = refl
none_left (suc room) = refl

pub collected_all : (all now left : List Line) (room n : ℕ) → all ≡ now ++ finished room (drop n left) → length left ≤ n → now ≡ all
collected_all all now left room n is past = no_more all now (finished room (drop n left)) is (ap (finished room) (drop_all n left past) ∙ none_left room)

pub collected_up_to : (all now left : List Line) (room n : ℕ) (l : Line) → all ≡ now ++ finished room (drop n left) → slice_get left n ≡ Some l → has_reply l ≡ false → now ≡ all
collected_up_to all now left room n l is at has = no_more all now (finished room (drop n left)) is (finished_stops room left n l at has)

pub collected_into_all_room : (all now left : List Line) (capacity n : ℕ) → all ≡ now ++ finished (capacity - length now) (drop n left) → capacity ≤ length now → now ≡ all
collected_into_all_room all now left capacity n is filled =
    let none : capacity - length now ≡ 0 = omega (arith, filled) in
    no_more all now (finished (capacity - length now) (drop n left)) is (ap (λ (r : ℕ). finished r (drop n left)) none)

-- ---- what is collected

-- the lines are the first ones
first_of : (room : ℕ) (l : Line) (ls : List Line) (b : Bool) → has_reply l ≡ b → finished room ls ≡ take (length (finished room ls)) ls
    → finished (suc room) (l ∷ ls) ≡ take (length (finished (suc room) (l ∷ ls))) (l ∷ ls)
first_of room l ls true has rest =
    let first = with_first room l ls has in
    first ∙ ap (λ (xs : List Line). l ∷ xs) rest ∙ ap (λ (xs : List Line). take (length xs) (l ∷ ls)) (sym first)
first_of room l ls false has rest =
    let none = without_first (suc room) l ls has in
    none ∙ ap (λ (xs : List Line). take (length xs) (l ∷ ls)) (sym none)

are_first : (room : ℕ) (ls : List Line) → finished room ls ≡ take (length (finished room ls)) ls
are_first zero ls = refl
are_first (suc room) [] = refl
are_first (suc room) (l ∷ ls) = first_of room l ls (has_reply l) refl (are_first room ls)

-- each stands at its place, and has a reply
abbrev StandsAt : List Line → ℕ → Line → Type 0
StandsAt ls i l = (slice_get ls i ≡ Some l) × (has_reply l ≡ true)

later_stands : (room : ℕ) (x : Line) (ls : List Line) (i : ℕ) (l : Line) → has_reply x ≡ true → ((j : ℕ) → slice_get (finished room ls) j ≡ Some l → StandsAt ls j l)
    → slice_get (x ∷ finished room ls) i ≡ Some l → StandsAt (x ∷ ls) i l
later_stands room x ls zero l has rest at = (at, ap has_reply (sym (same_Some x l at)) ∙ has)
later_stands room x ls (suc i) l has rest at = rest i at

stands_of : (room : ℕ) (x : Line) (ls : List Line) (i : ℕ) (l : Line) (b : Bool) → has_reply x ≡ b → ((j : ℕ) → slice_get (finished room ls) j ≡ Some l → StandsAt ls j l)
    → slice_get (finished (suc room) (x ∷ ls)) i ≡ Some l → StandsAt (x ∷ ls) i l
stands_of room x ls i l true has rest at = later_stands room x ls i l has rest (ap (λ (xs : List Line). slice_get xs i) (sym (with_first room x ls has)) ∙ at)
stands_of room x ls i l false has rest at =
    let none : ◌≡◌ {A = Option Line} None (Some l) = ap (λ (xs : List Line). slice_get xs i) (sym (without_first (suc room) x ls has)) ∙ at in
    absurd (cc none)

stands : (room : ℕ) (ls : List Line) (i : ℕ) (l : Line) → slice_get (finished room ls) i ≡ Some l → StandsAt ls i l
stands zero ls i l at = absurd (cc at)
stands (suc room) [] i l at = absurd (cc at)
stands (suc room) (x ∷ ls) i l at = stands_of room x ls i l (has_reply x) refl (λ j. stands room ls j l) at

-- if a line with a reply comes next, there is no more room
full_of : (room : ℕ) (l : Line) (ls : List Line) (b : Bool) → has_reply l ≡ b → (is_some (reply_in (slice_get ls (length (finished room ls)))) ≡ true → length (finished room ls) ≡ room)
    → is_some (reply_in (slice_get (l ∷ ls) (length (finished (suc room) (l ∷ ls))))) ≡ true → length (finished (suc room) (l ∷ ls)) ≡ suc room
full_of room l ls true is rest has =
    let first = with_first room l ls is in
    ap length first ∙ ap suc (rest (subst (λ (xs : List Line). is_some (reply_in (slice_get (l ∷ ls) (length xs))) ≡ true) first has))
full_of room l ls false is rest has =
    let now : has_reply l ≡ true = subst (λ (xs : List Line). is_some (reply_in (slice_get (l ∷ ls) (length xs))) ≡ true) (without_first (suc room) l ls is) has in
    absurd (false≢true (sym is ∙ now))

full : (room : ℕ) (ls : List Line) → is_some (reply_in (slice_get ls (length (finished room ls)))) ≡ true → length (finished room ls) ≡ room
full zero ls has = refl
full (suc room) [] has = absurd (false≢true has)
full (suc room) (l ∷ ls) has = full_of room l ls (has_reply l) refl (full room ls) has

get_dropped : {A : Type 0} (xs : List A) (from i : ℕ) → slice_get (drop from xs) i ≡ slice_get xs (from + i)
get_dropped xs zero i = ap (slice_get xs) (let e : i ≡ 0 + i = omega arith in e)
get_dropped [] (suc from) i = refl
get_dropped (x ∷ xs) (suc from) i = get_dropped xs from i ∙ ap (slice_get (x ∷ xs)) (let e : suc (from + i) ≡ suc from + i = omega arith in e)

-- what the queue's seat knows of its lines, which are the queue's
record Known (e : Named) (ls : List Line) (statuses : List Status) : Type 0 where
  same : map has_reply ls ≡ map is_gone statuses
  own : AreOwn e ls
  replied : (t : ℕ) (l : Line) → slice_get ls t ≡ Some l → slice_get statuses t ≡ Some Gone → l.reply ≡ answer e.base.procs (calls_in ls) e.base.records t

known : {H : Type 0} (e : Named) (place : H → ℕ → ℕ) (seat : QueueShown) (q : Queued H) → IsKept e place seat q → IsQueued q → AreReplied e.base (queue_view seat) → Known e seat.lines seat.statuses
known e place seat q kept queued replied = record {
  same = ap (λ (ls : List Line). map has_reply ls) kept.lines_are ∙ queued.answered ∙ ap (λ (ss : List Status). map is_gone ss) (sym kept.statuses_are);
  own = subst (AreOwn e) (sym kept.lines_are) kept.own;
  replied = replied;
}

-- each line collected has its serial reply
collected_answer : (e : Named) (ls : List Line) (statuses : List Status) (from room : ℕ) → Known e ls statuses → (i : ℕ) (l : Line) → slice_get (finished room (drop from ls)) i ≡ Some l
    → l.reply ≡ answer e.base.procs (calls_in ls) e.base.records (from + i)
collected_answer e ls statuses from room knows i l at =
    let has = stands room (drop from ls) i l at in
    let there : slice_get ls (from + i) ≡ Some l = sym (get_dropped ls from i) ∙ has.0 in
    knows.replied (from + i) l there (gone_is (slice_get statuses (from + i)) (sym (replied_at ls statuses (from + i) knows.same) ∙ ap (λ (o : Option Line). is_some (reply_in o)) there ∙ has.1))

collected : (e : Named) (ls : List Line) (statuses : List Status) (from room : ℕ) → Known e ls statuses → AreFinished e (calls_in ls) from (finished room (drop from ls))
collected e ls statuses from room knows =
    let front = are_first room (drop from ls) in
    let count = length (finished room (drop from ls)) in
    record {
      calls = ap calls_in front ∙ sym (take-map (λ (l : Line). (l.client, l.call)) count (drop from ls)) ∙ ap (take count) (sym (drop-map (λ (l : Line). (l.client, l.call)) from ls));
      answered = collected_answer e ls statuses from room knows;
      ready = subst (All (λ (l : Line). IsReady (library_of e) l.call)) (sym front) (All-take (λ (l : Line). IsReady (library_of e) l.call) count (drop from ls) (All-drop (λ (l : Line). IsReady (library_of e) l.call) from ls knows.own.ready));
      clients = subst (All (λ (l : Line). l.client < e.clients)) (sym front) (All-take (λ (l : Line). l.client < e.clients) count (drop from ls) (All-drop (λ (l : Line). l.client < e.clients) from ls knows.own.clients));
      found = knows.own.found;
    }

-- a list with such lines at its end
pub appended : {H : Type 0} (e : Named) (place : H → ℕ → ℕ) (seat : QueueShown) (q : Queued H) (seen : List Made) (from room : ℕ) (old new : List Line) → IsKept e place seat q → IsQueued q → AreReplied e.base (queue_view seat)
    → seen ≡ calls_in seat.lines → new ≡ old ++ finished_from q from room → AppendsFinished e seen from old new
appended e place seat q seen from room old new kept queued replied whole is = record {
  lines = finished room (drop from seat.lines);
  items = is ∙ ap (λ (ls : List Line). old ++ finished room (drop from ls)) (sym kept.lines_are);
  finished = subst (λ (calls : List Made). AreFinished e calls from (finished room (drop from seat.lines))) (sym whole) (collected e seat.lines seat.statuses from room (known e place seat q kept queued replied));
}

-- if the next line is of a call whose reply the session was given, the room has ended
pub filled : {H : Type 0} (e : Named) (place : H → ℕ → ℕ) (seat : QueueShown) (q : Queued H) (g : SessionView) (from k capacity : ℕ) (old new : List Line) → IsKept e place seat q → IsQueued q → KnowsSession e.base (queue_view seat) g
    → length old ≤ capacity → new ≡ old ++ finished_from q from (capacity - length old) → slice_get g.given k ≡ Some (from + (length new - length old)) → length new ≡ capacity
filled e place seat q g from k capacity old new kept queued knows within is at =
    let room = capacity - length old in
    let lines_are = kept.lines_are in
    let some = finished room (drop from (lines q)) in
    let long : length new ≡ length old + length some = ap length is ∙ length-append old some in
    let count : length new - length old ≡ length some = omega (arith, long) in
    let gone : gone_at (slice_get seat.statuses (from + length some)) ≡ true = ap gone_at (knows.has_seen.given k (from + length some) (at ∙ ap (λ (n : ℕ). Some (from + n)) count)) in
    let same : map has_reply seat.lines ≡ map is_gone seat.statuses = (known e place seat q kept queued knows.replied).same in
    let next : is_some (reply_in (slice_get (drop from (lines q)) (length some))) ≡ true =
    ap (λ (o : Option Line). is_some (reply_in o)) (get_dropped (lines q) from (length some) ∙ ap (λ (ls : List Line). slice_get ls (from + length some)) (sym lines_are)) ∙ replied_at seat.lines seat.statuses (from + length some) same ∙ gone in
    let all = full room (drop from (lines q)) next in
    omega (arith, long, all, within)
