-- News: the calls that one session has seen, which another one hears.
use Rattle.std.specs.Prelude.{◌≡◌, ℕ, List, []}
use Rattle.atomic_table.specs.Seated.{TableId}
use Rattle.atomic_table.specs.Table.{Me, Step}
use Rattle.vll_proc.specs.Headline.Serial.{Made}
use Rattle.vll_counters.specs.declared.views.SessionView.{SessionView}
use Rattle.vll_counters.specs.declared.views.View.{View}
use Rattle.vll_counters.specs.declared.views.View.TheVariants.{Session, News, Hearing, Spent}
use Rattle.vll_counters.specs.Headline.Views.{calls_by, Begins}
use Rattle.vll_counters.specs.Written.{Write}
use Rattle.vll_counters.specs.Steps.{told}

-- what contracts see of news: the identity of its words, the entered calls that it has, and its past
pub record NewsShown : Type 0 where
  pub table : TableId
  pub calls : List Made
  pub past : List Write

-- the calls of news in a view of its seat
abbrev pub calls_of_view : View → List Made
calls_of_view (News calls) = calls
calls_of_view v = []

-- a session that makes news stays as it is
abbrev pub as_it_is : View → View
as_it_is v = v

-- the view of the news that a session makes: it has what the session has seen
abbrev pub news_told : View → View
news_told (Session g) = News g.seen
news_told v = Spent

-- the view of a session's seat that news has joined
abbrev pub with_news : View → View → View
with_news (Session g) (News calls) = Hearing g calls
with_news v w = v

-- a session has heard news: it has seen the calls of the news, and all that it had seen itself, with no more of its own
-- client
pub record HasHeard (old new : SessionView) (calls : List Made) : Type 0 where
  pub same : new ≡ told new.seen old
  pub heard : Begins calls new.seen
  pub begins : Begins old.seen new.seen
  pub own : calls_by old.client old.seen ≡ calls_by old.client new.seen

-- a fact about a session and the news that has joined it
abbrev pub AtHearing : (SessionView → List Made → Type 0) → View → Type 0
AtHearing P (Hearing g calls) = P g calls
AtHearing P v = Unit {0}

-- the view of a session that has heard the news that had joined it
abbrev pub on_hearing : SessionView → View → View
on_hearing new (Hearing g calls) = Session new
on_hearing new v = v

-- hearing changes the session, and its caller learns what the session has heard
abbrev pub HearTells : {S : Type 0} → Step S → Me S View → ℕ → Me S View → Type 0
HearTells st v n w = (new : SessionView) × ((w ≡ (on_hearing new v.0, v.1)) × AtHearing (λ g calls. HasHeard g new calls) v.0)
