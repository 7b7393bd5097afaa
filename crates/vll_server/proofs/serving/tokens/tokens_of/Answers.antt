use Rattle.std.proofs.Common.{◌≡◌, ◌<◌, ◌^◌, ◌++◌, ◌∷◌, [], List, suc, ◌∙◌, sym, ap, subst, length, nat_eq, reverse, arith, rules, length-append, add-one}
use Rattle.std.specs.List.{IsDistinct}
use Rattle.std.specs.Global.{Vec}
use Rattle.std.specs.Option.{option_to_list}
use Rattle.std.proofs.lemmas.List.Elements.{All-pop}
use Rattle.vll_proc.specs.declared.call.Call.{Call}
use Rattle.vll_counters.specs.Shown.{SessionShown}
use Rattle.vll_tokens.specs.Shown.{TokenShown, token}
use Rattle.vll_scenario.specs.Setup.{lists_of}
use Rattle.vll_server.specs.Scripts.{tokens_from}
use Rattle.vll_tokens.specs.Tokens.{AreFit, clients_of}
use Rattle.vll_server.proofs.Handed.{are_distinct, are_fit, last_session, session_at, tokens-next}
use Rattle.vll_server.proofs.serving.tokens.tokens_of.Goals as goal

pub new-requires-clause-session : goal.new-requires-clause-session
new-requires-clause-session g c =
    let table = g.N.Name.engine.table in
    let new = c.pop.new.self.items in
    let popped = c.pop-in-Some.ensures.items ∙ ap (λ r. c.pop-in-Some.new.self.items ++ option_to_list r) c.unwrap-session.ensures in
    let count : length c.loop-script.scripts.items ≡ suc (length new) = ap length c.in-Some.ensures.items ∙ length-append new (c.in-Some.script ∷ []) ∙ add-one (length new) in
    let last = last_session table c.loop-script.sessions.items c.pop-in-Some.new.self.items c.unwrap-session.result (length c.loop-script.scripts.items) (length new) c.loop-script.invariant.sessions popped count in
    let here : c.len-client.result ≡ length new = omega arith in
    ap (λ (s : SessionShown). s.session.client) last.own ∙ sym here

pub loop-script-preserved : goal.loop-script-preserved
loop-script-preserved g c =
    let table = g.N.Name.engine.table in
    let new = c.pop.new.self.items in
    let popped = c.pop-in-Some.ensures.items ∙ ap (λ r. c.pop-in-Some.new.self.items ++ option_to_list r) c.unwrap-session.ensures in
    let count : length c.loop-script.scripts.items ≡ suc (length new) = ap length c.in-Some.ensures.items ∙ length-append new (c.in-Some.script ∷ []) ∙ add-one (length new) in
    let last = last_session table c.loop-script.sessions.items c.pop-in-Some.new.self.items c.unwrap-session.result (length c.loop-script.scripts.items) (length new) c.loop-script.invariant.sessions popped count in
    let client : c.len-client.result ≡ length new = omega arith in
    let made = c.new.ensures ∙ ap (token c.len-client.result c.in-Some.script.items 0) (last.own ∙ ap (session_at table) (sym client)) in
    let pushed = c.in_ok-push.ensures.items ∙ ap (λ (t : TokenShown). c.loop-script.tokens.items ++ t ∷ []) made in
    record {
      sessions = last.rest;
      few = omega arith;
      short = (All-pop (λ (script : Vec Call). length script.items < 2 ^ 32) c.loop-script.scripts.items new c.pop.result c.pop.ensures.items c.loop-script.invariant.short).0;
      tokens = ap (λ (ts : List TokenShown). tokens_from table 0 (lists_of new) ++ reverse ts) pushed
          ∙ tokens-next table c.loop-script.scripts.items new c.in-Some.script c.len-client.result c.loop-script.tokens.items (tokens_from table 0 (lists_of c.args.scripts.items)) c.in-Some.ensures.items client c.loop-script.invariant.tokens;
    }

pub returns-clause-tokens : goal.returns-clause-tokens
returns-clause-tokens g c = search rules

-- they are the scripts' tokens, whose calls the library makes
pub returns-clause-fit : goal.returns-clause-fit
returns-clause-fit g c =
    let made : c.reverse.new.self.items ≡ tokens_from g.N.Name.engine.table 0 (lists_of c.args.scripts.items) = search rules in
    subst (λ (ts : List TokenShown). AreFit g.N.Name.engine ts) (sym made) (are_fit g.N.Name.engine c.args.scripts.items c.requires.fits)

-- and which are of distinct clients
pub returns-clause-distinct : goal.returns-clause-distinct
returns-clause-distinct g c =
    let made : c.reverse.new.self.items ≡ tokens_from g.N.Name.engine.table 0 (lists_of c.args.scripts.items) = search rules in
    subst (λ (ts : List TokenShown). IsDistinct nat_eq (clients_of ts)) (sym made) (are_distinct g.N.Name.engine.table 0 (lists_of c.args.scripts.items))
