use Rattle.std.proofs.Common.{◌≡◌, ◌≤◌, ◌∷◌, [], ℕ, List, suc, arith, ap, refl, subst, sym, ◌∙◌, length, length-append, add-one}
use Rattle.std.proofs.lemmas.List.Elements.{All-nil, All-same}
use Rattle.vll_counters.specs.Shown.{AreNewSessions, SessionShown}
use Rattle.vll_tokens.specs.Shown.{TokenShown}
use Rattle.vll_tokens.specs.Tokens.{AreFit}
use Rattle.vll_tokens.proofs.Distinct.{above_push, distinct_none, distinct_push}
use Rattle.vll_tokens.proofs.Fit.{fit_push}
use Rattle.vll_workers_tests.proofs.Sessions.{last_session}
use Rattle.vll_workers_tests.proofs.tokens.all_calling_in_turn.Goals as goal

pub loop-session-init : goal.loop-session-init
loop-session-init g c =
    let none = c.new-tokens.ensures.items in
    record {
      sessions = c.requires.sessions;
      above = All-same (λ (t : TokenShown). length c.args.sessions.items ≤ t.client) c.new-tokens.result.items [] none (All-nil _);
      fit = subst (λ (ts : List TokenShown). AreFit g.N.Name.engine ts) (sym none) (All-nil _);
      distinct = distinct_none c.new-tokens.result.items none;
    }

pub calling_in_turn-requires-clause-session : goal.calling_in_turn-requires-clause-session
calling_in_turn-requires-clause-session g c =
    let new = c.pop.new.self.items in
    let last = last_session g.N.Name.engine.table (length c.loop-session.sessions.items) (length new) c.loop-session.sessions.items new c.in-Some.session c.loop-session.invariant.sessions c.in-Some.ensures.items refl in
    ap (λ (s : SessionShown). s.table) last.last

pub loop-session-preserved : goal.loop-session-preserved
loop-session-preserved g c =
    let new = c.pop.new.self.items in
    let count : length c.loop-session.sessions.items ≡ suc (length new) = ap length c.in-Some.ensures.items ∙ length-append new (c.in-Some.session ∷ []) ∙ add-one (length new) in
    let last = last_session g.N.Name.engine.table (length c.loop-session.sessions.items) (length new) c.loop-session.sessions.items new c.in-Some.session c.loop-session.invariant.sessions c.in-Some.ensures.items refl in
    let client : c.in_ok-token.token.client ≡ length new = c.in_ok-token.ensures.client ∙ ap (λ (s : SessionShown). s.session.client) last.last in
    record {
      sessions = last.before;
      above = above_push (length c.loop-session.sessions.items) (length new) c.loop-session.tokens.items _ c.in_ok-token.token count client c.in_ok-push.ensures.items c.loop-session.invariant.above;
      fit = fit_push g.N.Name.engine c.loop-session.tokens.items _ c.in_ok-token.token c.in_ok-push.ensures.items c.loop-session.invariant.fit c.in_ok-token.ensures.fit;
      distinct = distinct_push (length c.loop-session.sessions.items) c.loop-session.tokens.items _ c.in_ok-token.token (omega (arith, client, count)) c.in_ok-push.ensures.items c.loop-session.invariant.above c.loop-session.invariant.distinct;
    }
