use Rattle.std.proofs.Common.{◌≡◌, ℕ, List, All, length, drop, sym, ap, ◌∙◌, subst}
use Rattle.std.proofs.lemmas.List.{with_items_is}
use Rattle.std.specs.Vec.{with_items}
use Rattle.vll_check.specs.Calls.{IsReady}
use Rattle.vll_check.specs.Headline.Catalog.{Catalog}
use Rattle.vll_core.specs.declared.line.Line.{Line}
use Rattle.vll_counters.specs.Headline.Views.{calls_in}
use Rattle.vll_proc.specs.declared.syntax.Proc.{Proc}
use Rattle.vll_proc.specs.Headline.Serial.{Made, end}
use Rattle.vll_queue.specs.Shown.{library_of}
use Rattle.vll_stream.specs.Private.Callers.{IsSnapshot, made_so_far}
use Rattle.vll_stream.specs.declared.callers.Callers.{Callers}
use Rattle.vll_stream.specs.declared.snapshot.Snapshot.{Snapshot}
use Rattle.vll_stream.proofs.Found.{end_length}
use Rattle.vll_stream.proofs.MadeSoFar.{with_snapshot}
use Rattle.vll_stream.proofs.Snapshots.{caught_up, values_length}
use Rattle.vll_stream.proofs.callers.Callers.catch_up.Given.{Over}
use Rattle.vll_stream.proofs.callers.Callers.catch_up.Goals.{After-make_all}
use Rattle.vll_stream.proofs.callers.Callers.catch_up.Goals as goal

pub make_all-requires-clause-ready : goal.make_all-requires-clause-ready
make_all-requires-clause-ready g c =
    subst (λ (l : Catalog). All (λ (x : Line). IsReady l x.call) c.as_slice.result.now) (sym c.library.ensures)
    (subst (All (λ (x : Line). IsReady (library_of g.N.Name.engine) x.call)) (sym c.as_slice.ensures.value) c.in_ok-take_lines.ensures.ready)

pub make_all-requires-clause-records : goal.make_all-requires-clause-records
make_all-requires-clause-records g c =
    let e = g.N.Name.engine in
    let now : Callers = c.take_lines.new.self in
    ap (λ (l : Catalog). l.records) c.library.ensures
    ∙ (sym (values_length e (made_so_far now) now.snapshot c.take_lines.ensures.callers.callers.snapshot) ∙ sym (ap length c.deref_mut.ensures.value))

-- the snapshot then
abbrev snapshot_of : (g : Over) (c : After-make_all g) → Snapshot
snapshot_of g c = record c.take_lines.new.self.snapshot { values = with_items c.take_lines.new.self.snapshot.values c.make_all.new.records; calls = c.take_lines.new.self.calls }

made_all : (g : Over) (c : After-make_all g)
    → IsSnapshot g.N.Name.engine (made_so_far c.take_lines.new.self) (snapshot_of g c)
    × ((snapshot_of g c).values.items ≡ end g.N.Name.engine.base.procs (made_so_far c.take_lines.new.self) g.N.Name.engine.base.records)
made_all g c =
    let e = g.N.Name.engine in
    let procs : List Proc = e.base.procs in
    let now : Callers = c.take_lines.new.self in
    let is = c.take_lines.ensures.callers in
    let old : List ℕ = now.snapshot.values.items in
    let room : List Line = now.snapshot.room.items in
    let records : List ℕ = c.make_all.new.records in
    let lines : calls_in room ≡ drop now.snapshot.calls (made_so_far now) =
    c.in_ok-take_lines.ensures.lines
    ∙ (ap (λ (cs : List Made). drop c.args.self.now.snapshot.calls cs) (sym is.made) ∙ ap (λ (k : ℕ). drop k (made_so_far now)) (sym c.take_lines.ensures.calls)) in
    let made : records ≡ end procs (drop now.snapshot.calls (made_so_far now)) old =
    c.make_all.ensures
    ∙ (ap (λ (l : Catalog). end l.procs (calls_in c.as_slice.result.now) c.deref_mut.result.now) c.library.ensures
    ∙ (ap (λ (ls : List Line). end procs (calls_in ls) c.deref_mut.result.now) c.as_slice.ensures.value
    ∙ (ap (end procs (calls_in room)) c.deref_mut.ensures.value ∙ ap (λ (cs : List Made). end procs cs old) lines))) in
    let long : length records ≡ now.snapshot.values.len = ap length made ∙ (end_length procs (drop now.snapshot.calls (made_so_far now)) old ∙ sym now.snapshot.values.ok.0) in
    caught_up e (made_so_far now) now.snapshot (snapshot_of g c) is.callers.snapshot (sym is.callers.many) (with_items_is now.snapshot.values records long ∙ made) is.callers.snapshot.room

pub returns-clause-callers : goal.returns-clause-callers
returns-clause-callers g c =
    let at = (goal.at.returns-clause-callers g c).After-make_all in
    let e = g.N.Name.engine in
    let now : Callers = c.take_lines.new.self in
    with_snapshot e now (snapshot_of g at) c.take_lines.ensures.callers.callers (made_all g at).0

pub returns-clause-records : goal.returns-clause-records
returns-clause-records g c =
    let e = g.N.Name.engine in
    (made_all g (goal.at.returns-clause-records g c).After-make_all).1 ∙ ap (λ (cs : List Made). end e.base.procs cs e.base.records) c.take_lines.ensures.callers.made
