use Rattle.std.proofs.Common.{◌≡◌, List, All, sym, subst}
use Rattle.vll_counters.specs.Shown.{SessionShown}
use Rattle.vll_proc.specs.Headline.Serial.{Made, end}
use Rattle.vll_stream.specs.Private.Callers.{AreTheCalls}
use Rattle.vll_stream.proofs.MadeSoFar.{all_made, own_tables}
use Rattle.vll_stream.proofs.epoch.end_epoch.Goals as goal

pub closed-requires : goal.closed-requires
closed-requires g c =
    let e = g.N.Name.engine in
    record { sessions = subst (λ ss. All (λ (s : SessionShown). s.table ≡ e.table) ss.items) (sym c.into_parts-sessions.ensures.sessions) (own_tables e c.args.callers c.requires.callers) }

pub returns-in_ok-closed-clause-follows : goal.returns-in_ok-closed-clause-follows
returns-in_ok-closed-clause-follows g c =
    let e = g.N.Name.engine in
    let it = c.in_ok-closed.ensures.records in
    let these = subst (λ ss. AreTheCalls e it.0 ss.items) c.into_parts-sessions.ensures.sessions it.1 in
    subst (λ (calls : List Made). c.in_ok-closed.field-0.items ≡ end e.base.procs calls e.base.records) (all_made e c.args.callers it.0 c.requires.callers these) it.2
