use Rattle.std.proofs.Common.{◌≡◌, sym, subst, arith}
use Rattle.std.specs.Global.{Vec}
use Rattle.std.specs.List.{All}
use Rattle.std.proofs.lemmas.List.{length-map}
use Rattle.std.proofs.lemmas.List.Elements.{All-map}
use Rattle.vll_proc.specs.declared.call.Call.{Call}
use Rattle.vll_counters.specs.Shown.{SessionShown}
use Rattle.vll_workers.specs.Merge.{AreForScripts}
use Rattle.vll_tokens.specs.Shown.{TokenShown}
use Rattle.vll_workers.proofs.Merged.{are_own, count_back, spent_early}
use Rattle.vll_scenario.specs.Setup.{lists_of}
use Rattle.vll_server.proofs.Handed.{closed_with, for_scripts, merges}
use Rattle.vll_server.proofs.serving.run_scripts.Goals as goal

-- there is room for the session of each script's token
pub into_sessions-requires-clause-room : goal.into_sessions-requires-clause-room
into_sessions-requires-clause-room g c =
    let e = g.N.Name.engine in
    let scripts = lists_of c.args.scripts.items in
    let handed : AreForScripts e scripts c.in_ok-tokens.tokens.items = subst (AreForScripts e scripts) (sym c.in_ok-tokens.ensures.tokens) (for_scripts e c.args.scripts.items c.requires.clients c.requires.fits) in
    let count = count_back e scripts c.in_ok-tokens.tokens.items c.in-Ok.tokens.items handed c.in-Ok.ensures.ok.0 in
    omega (arith, count, length-map c.args.scripts.items (λ (v : Vec Call). v.items), c.len.ensures, c.in_ok-room.ensures.capacity)

pub into_sessions-requires-in-Spent-clause-room : goal.into_sessions-requires-in-Spent-clause-room
into_sessions-requires-in-Spent-clause-room g c =
    let e = g.N.Name.engine in
    let scripts = lists_of c.args.scripts.items in
    let handed : AreForScripts e scripts c.in_ok-tokens.tokens.items = subst (AreForScripts e scripts) (sym c.in_ok-tokens.ensures.tokens) (for_scripts e c.args.scripts.items c.requires.clients c.requires.fits) in
    let spent = c.in-Err.ensures.spent c.in-Spent.is in
    let count = count_back e scripts c.in_ok-tokens.tokens.items c.in-Err.error.tokens.items handed spent.0 in
    omega (arith, count, length-map c.args.scripts.items (λ (v : Vec Call). v.items), c.len.ensures, c.in_ok-room.ensures.capacity)

-- the sessions are the engine's
pub close-requires : goal.close-requires
close-requires g c =
    let e = g.N.Name.engine in
    let scripts = lists_of c.args.scripts.items in
    let handed : AreForScripts e scripts c.in_ok-tokens.tokens.items = subst (AreForScripts e scripts) (sym c.in_ok-tokens.ensures.tokens) (for_scripts e c.args.scripts.items c.requires.clients c.requires.fits) in
    let own = are_own e scripts c.in_ok-tokens.tokens.items c.in-Ok.tokens.items handed c.in-Ok.ensures.ok.0 in
    subst (All (λ (s : SessionShown). s.table ≡ e.table)) (sym c.into_sessions.ensures)
    (All-map (λ (s : SessionShown). s.table ≡ e.table) (λ (t : TokenShown). t.session) c.in-Ok.tokens.items own)

pub close-requires-in-Spent : goal.close-requires-in-Spent
close-requires-in-Spent g c =
    let e = g.N.Name.engine in
    let scripts = lists_of c.args.scripts.items in
    let handed : AreForScripts e scripts c.in_ok-tokens.tokens.items = subst (AreForScripts e scripts) (sym c.in_ok-tokens.ensures.tokens) (for_scripts e c.args.scripts.items c.requires.clients c.requires.fits) in
    let spent = c.in-Err.ensures.spent c.in-Spent.is in
    let own = are_own e scripts c.in_ok-tokens.tokens.items c.in-Err.error.tokens.items handed spent.0 in
    subst (All (λ (s : SessionShown). s.table ≡ e.table)) (sym c.into_sessions-in-Spent.ensures)
    (All-map (λ (s : SessionShown). s.table ≡ e.table) (λ (t : TokenShown). t.session) c.in-Err.error.tokens.items own)

pub unreachable-requires : goal.unreachable-requires
unreachable-requires g c =
    let e = g.N.Name.engine in
    let scripts = lists_of c.args.scripts.items in
    let handed : AreForScripts e scripts c.in_ok-tokens.tokens.items = subst (AreForScripts e scripts) (sym c.in_ok-tokens.ensures.tokens) (for_scripts e c.args.scripts.items c.requires.clients c.requires.fits) in
    let spent = c.in-Err.ensures.spent c.in-Spent.is in
    let with = closed_with e c.in-Err.error.tokens.items c.into_sessions-in-Spent.result.items c.in-Ok-close.field-0 c.into_sessions-in-Spent.ensures c.in-Ok-close.ensures.serial c.in-Ok-close.ensures.sessions in
    let early = spent_early e scripts c.in_ok-tokens.tokens.items c.in-Err.error.tokens.items c.in-Ok-close.field-0 handed spent.0 spent.1 with in
    omega (arith, early, c.requires.limit)

pub returns-in-Ok-clause-merge : goal.returns-in-Ok-clause-merge
returns-in-Ok-clause-merge g c =
    let e = g.N.Name.engine in
    let scripts = lists_of c.args.scripts.items in
    let handed : AreForScripts e scripts c.in_ok-tokens.tokens.items = subst (AreForScripts e scripts) (sym c.in_ok-tokens.ensures.tokens) (for_scripts e c.args.scripts.items c.requires.clients c.requires.fits) in
    merges e scripts c.in_ok-tokens.tokens.items c.in-Ok.tokens.items c.into_sessions.result.items c.close.result handed c.in-Ok.ensures.ok.0 c.in-Ok.ensures.ok.1 c.into_sessions.ensures c.close.ensures.serial c.close.ensures.sessions
