-- A pass of an engine, from the moment its call may run to the call's end.
use Rattle.std.specs.Prelude.{◌≡◌, ℕ, true, length, Some, slice_get}
use Rattle.atomic_table.specs.Seated.{TableId}
use Rattle.vll_proc.specs.declared.call.Reply.{Reply}
use Rattle.vll_proc.specs.Headline.Serial.{answer}
use Rattle.vll_check.specs.Calls.{IsReady}
use Rattle.vll_counters.specs.declared.views.PassView.{PassView}
use Rattle.vll_counters.specs.Shown.{PassShown}
use Rattle.vll_counters.specs.Told.{IsClear, has_stored_pass}
use Rattle.vll_queue.specs.Shown.{Named, library_of}

-- what contracts see of a call that was executed: its pass and its reply
pub record DoneShown : Type 0 where
  pub table : TableId
  pub pass : PassView
  pub reply : Reply

-- the pass is of this engine, for a call that may enter, which is the last of the entered calls that the pass has seen
pub record IsOf (e : Named) (table : TableId) (p : PassView) : Type 0 where
  pub same : table ≡ e.table
  pub ready : IsReady (library_of e) p.call
  pub client : ℕ
  pub last : slice_get p.seen p.ticket ≡ Some (client, p.call)

-- a pass of a clear ticket whose call has made no step
pub record IsFresh (e : Named) (p : PassShown) : Type 0 where
  pub of : IsOf e p.table p.pass
  pub no_loads : p.pass.loads ≡ 0
  pub no_stores : p.pass.stores ≡ 0
  pub no_releases : p.pass.releases ≡ 0
  pub clear : IsClear e.base p.pass

-- the reply is that of the pass's call, if the calls that the pass has seen run one at a time
abbrev pub IsReply : Named → DoneShown → Type 0
IsReply e d = answer e.base.procs d.pass.seen e.base.records d.pass.ticket ≡ Some d.reply

-- a call that has made all its loads and stores and no release, with its reply
pub record IsDone (e : Named) (d : DoneShown) : Type 0 where
  pub of : IsOf e d.table d.pass
  pub stored : has_stored_pass e.base d.pass ≡ true
  pub no_releases : d.pass.releases ≡ 0
  pub reply : IsReply e d

-- a call that has made all its loads, stores and releases, with its reply
pub record IsReleased (e : Named) (d : DoneShown) : Type 0 where
  pub of : IsOf e d.table d.pass
  pub stored : has_stored_pass e.base d.pass ≡ true
  pub released : d.pass.releases ≡ length d.pass.call.claims
  pub reply : IsReply e d

-- the pass is still for the same call, with the same ticket and the same calls seen
pub record StaysOf (old new : PassView) : Type 0 where
  pub ticket : new.ticket ≡ old.ticket
  pub call : new.call ≡ old.call
  pub seen : new.seen ≡ old.seen
