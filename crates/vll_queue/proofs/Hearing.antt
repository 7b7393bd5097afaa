-- What a session that has heard news knows, and that its later calls come after those of the news.
use Rattle.std.proofs.Common.{◌≡◌, ℕ, ◌<◌, List, [], ◌∷◌, ◌++◌, length, sym, ap, ◌∙◌, arith, Some, slice_get, append_assoc}
use Rattle.std.proofs.lemmas.List.{append-nil, append_cancel_left, length-append}
use Rattle.std.proofs.lemmas.Option.{slice_get_within}
use Rattle.vll_proc.specs.declared.call.Call.{Call}
use Rattle.vll_proc.specs.Headline.Serial.{Made}
use Rattle.vll_counters.specs.declared.views.SessionView.{SessionView}
use Rattle.vll_counters.specs.News.{HasHeard}
use Rattle.vll_counters.specs.Headline.Views.{calls_by, Begins}
use Rattle.vll_counters.proofs.News.{begins_further}
use Rattle.vll_counters.proofs.Places.{get_longer, get_last}
use Rattle.vll_queue.specs.Headline.News.{IsHandedOn, NewsOrdersEntries}
use Rattle.vll_queue.specs.News.{Hears, NewsOrdersCalls}
use Rattle.vll_queue.specs.Headline.Sessions.{SawOwn}
use Rattle.vll_queue.specs.Sessions.{SawOthers}
use Rattle.vll_queue.proofs.Learning.{calls_by-append}

-- what a session hears is of other clients
pub hears_news : (old new : SessionView) (calls : List Made) → HasHeard old new calls → Hears old new calls
hears_news old new calls h =
    let more = h.begins.0 in
    record {
      same = h.same;
      others = record {
        client = ap (λ (g : SessionView). g.client) h.same;
        others = more;
        not_own = append_cancel_left (calls_by old.client old.seen) (calls_by old.client more) []
            (sym (calls_by-append old.client old.seen more) ∙ ap (calls_by old.client) (sym h.begins.1) ∙ sym h.own ∙ sym (append-nil (calls_by old.client old.seen)));
        seen = h.begins.1;
      };
      heard = h.heard;
    }

-- ---- what a session sees extends what it had seen

pub others_begin : (old new : SessionView) → SawOthers old new → Begins old.seen new.seen
others_begin old new saw = (saw.others, saw.seen)

pub own_begins : (old new : SessionView) (call : Call) (t : ℕ) → SawOwn old new call t → Begins old.seen new.seen
own_begins old new call t saw = (saw.others ++ (old.client, call) ∷ [], saw.seen ∙ append_assoc old.seen saw.others ((old.client, call) ∷ []))

handed_on : (first last : List Made) (chain : List (List Made)) → IsHandedOn first chain last → Begins first last
handed_on first last [] h = h
handed_on first last (next ∷ more) h = begins_further first next last h.0 (handed_on next last more h.1)

-- ---- an entered call has its place

-- it is at its ticket
own_at : (old new : SessionView) (call : Call) (t : ℕ) → SawOwn old new call t → slice_get new.seen t ≡ Some (old.client, call)
own_at old new call t saw = ap (λ (l : List Made). slice_get l t) saw.seen ∙ ap (slice_get ((old.seen ++ saw.others) ++ (old.client, call) ∷ [])) saw.place ∙ get_last (old.seen ++ saw.others) (old.client, call)

-- and so in each longer list
at_longer : (some all : List Made) (t : ℕ) (m : Made) → Begins some all → slice_get some t ≡ Some m → slice_get all t ≡ Some m
at_longer some all t m b at = ap (λ (l : List Made). slice_get l t) b.1 ∙ get_longer some b.0 t m at

-- the next call of a session comes after all that it had seen
behind : (old new : SessionView) (call : Call) (u t : ℕ) → SawOwn old new call u → t < length old.seen → t < u
behind old new call u t saw low = let long = length-append old.seen saw.others in let place = saw.place in omega (arith, long, place, low)

pub entries_in_order : NewsOrdersEntries
entries_in_order one after_one other after_other a b t u chain calls first handed second all =
    let on = handed_on after_one.seen other.seen chain handed in
    let known = at_longer after_one.seen other.seen t (one.client, a) on (own_at one after_one a t first) in
    let last = own_begins other after_other b u second in
    record {
      order = behind other after_other b u t second (slice_get_within other.seen t (one.client, a) known);
      first_at = at_longer other.seen calls t (one.client, a) (begins_further other.seen after_other.seen calls last all) known;
      second_at = at_longer after_other.seen calls u (other.client, b) all (own_at other after_other b u second);
    }

pub calls_in_order : NewsOrdersCalls
calls_in_order e one after_one other after_other a b t u reply answered chain calls first handed second all =
    let on = begins_further first.entered.seen after_one.seen other.seen (others_begin first.entered after_one first.others) (handed_on after_one.seen other.seen chain handed) in
    let more = begins_further second.entered.seen after_other.seen calls (others_begin second.entered after_other second.others) all in
    entries_in_order one first.entered other second.entered _ _ t u [] calls first.enters.enters on second.enters.enters more
