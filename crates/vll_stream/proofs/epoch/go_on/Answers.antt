use Rattle.std.proofs.Common.{◌≡◌, ◌≤◌, ℕ, List, All, sym, ap, arith, ◌∙◌, length, subst, take, vec_capacity}
use Rattle.vll_counters.specs.Shown.{SessionShown}
use Rattle.vll_core.specs.declared.config.Config.{Config}
use Rattle.vll_proc.specs.Headline.Serial.{Made}
use Rattle.vll_queue.specs.Closed.{GoesOn}
use Rattle.vll_queue.specs.Shown.{name_of}
use Rattle.vll_sca.specs.Placing.{placing}
use Rattle.vll_stream.specs.Private.Callers.{AreTheCalls, made_so_far}
use Rattle.vll_stream.specs.declared.snapshot.Snapshot.{Snapshot}
use Rattle.vll_stream.proofs.Found.{end_length}
use Rattle.vll_stream.proofs.MadeSoFar.{all_made, own_tables}
use Rattle.vll_stream.proofs.Snapshots.{first_snapshot}
use Rattle.vll_stream.proofs.epoch.go_on.Goals as goal

pub reopened-requires-clause-sessions : goal.reopened-requires-clause-sessions
reopened-requires-clause-sessions g c =
    let e = g.N.Name.engine in
    subst (λ ss. All (λ (s : SessionShown). s.table ≡ e.table) ss.items) (sym c.into_parts-sessions.ensures.sessions) (own_tables e c.args.callers c.requires.callers)

pub reopened-requires-clause-room_for_records : goal.reopened-requires-clause-room_for_records
reopened-requires-clause-room_for_records g c =
    let e = g.N.Name.engine in
    let s : Snapshot = c.args.callers.snapshot in
    let long : length s.values.items ≡ length e.base.records = ap length c.requires.callers.snapshot.values ∙ end_length e.base.procs (take s.calls (made_so_far c.args.callers)) e.base.records in
    let count = s.values.ok.0 in
    let fits = s.values.ok.1 in
    let room : length e.base.records ≤ vec_capacity s.values = omega (arith, long, count, fits) in
    subst (λ (x : Snapshot). length e.base.records ≤ vec_capacity x.values) (sym c.into_parts-sessions.ensures.snapshot) room

pub returns-clause-follows : goal.returns-clause-follows
returns-clause-follows g c =
    let e = g.N.Name.engine in
    let it = c.in_ok-next.ensures.opening in
    let these = subst (λ ss. AreTheCalls e it.0 ss.items) c.into_parts-sessions.ensures.sessions it.1 in
    let on : GoesOn placing e (made_so_far c.args.callers) c.in_ok-next.next.opening =
    subst (λ (calls : List Made). GoesOn placing e calls c.in_ok-next.next.opening) (all_made e c.args.callers it.0 c.requires.callers these) it.2 in
    let s : Snapshot = c.new.result in
    let is = c.new.ensures in (
      on,
      first_snapshot (name_of placing c.in_ok-next.next.opening) s (ap (λ (x : Snapshot). x.calls) is)
          (ap (λ (x : Snapshot). x.values.items) is ∙ c.in_ok-next.ensures.records)
          (subst (λ (k : ℕ). k ≤ vec_capacity s.room) (sym (ap (λ (x : Config). x.limit) on.config))
          (subst (λ (k : ℕ). e.config.limit ≤ k) (sym (ap (λ (x : Snapshot). vec_capacity x.room) is)) c.in_ok-next.ensures.room)),
    )
