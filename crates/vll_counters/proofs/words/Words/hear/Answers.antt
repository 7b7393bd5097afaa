use Rattle.std.proofs.Common.{ap, sym, ◌∙◌, arith}
use Rattle.vll_counters.proofs.Common.{NewsShown, WordsShown, SessionShown}
use Rattle.vll_counters.proofs.Seats.{session_me}
use Rattle.vll_counters.proofs.Hearing.{news_me, joined_news, news_comes_at, hears_at}
use Rattle.vll_counters.proofs.words.Words.hear.Goals as goal

pub join_seat-requires : goal.join_seat-requires
join_seat-requires c =
    let table = ap (λ (w : WordsShown). w.table) c.self.view_is in
    let session = ap (λ (s : SessionShown). s.table) c.session.view_is ∙ c.requires.same.0 ∙ sym table in
    let news = ap (λ (s : NewsShown). s.table) c.news.view_is ∙ c.requires.same.1 ∙ sym table in
    let base = ap (λ (w : WordsShown). w.base) c.self.view_is in
    let words = c.self.invariant.words in
    let me = session_me _ _ _ c.session.invariant c.session.view_is in
    let other = news_me _ _ _ c.news.invariant c.news.view_is in
    (session, news, ap (λ x. x.1) other, omega (arith, words), news_comes_at _ _ _ _ _ _ c.args.session.now.session c.args.session.now.past c.args.news.past c.args.news.calls base (ap (λ x. x.0) me) (ap (λ x. x.0) other))

pub load-requires : goal.load-requires
load-requires c =
    let session = ap (λ (s : SessionShown). s.table) c.session.view_is ∙ c.requires.same.0 ∙ sym (ap (λ (w : WordsShown). w.table) c.self.view_is) in
    let base = ap (λ (w : WordsShown). w.base) c.self.view_is in
    let words = c.self.invariant.words in
    let me = session_me _ _ _ c.session.invariant c.session.view_is in
    let other = news_me _ _ _ c.news.invariant c.news.view_is in
    let j = c.join_seat.ensures in
    (j.0 ∙ session, omega (arith, words), hears_at _ _ _ _ _ c.args.session.now.session _ c.args.news.calls base (j.2 ∙ joined_news _ _ _ _ _ _ me other))
