-- How a call that begins changes its token.
use Rattle.std.specs.Prelude.{◌≡◌, List, Some, slice_get, suc}
use Rattle.vll_proc.specs.declared.call.Call.{Call}
use Rattle.vll_counters.specs.Shown.{PassShown, SessionShown}
use Rattle.vll_queue.specs.declared.begun.Begun.{Begun}
use Rattle.vll_queue.specs.declared.begun.Begun.TheVariants.{Free, Blocked, Refused}
use Rattle.vll_engine.specs.declared.passes.BegunOnto.{BegunOnto}
use Rattle.vll_queue.specs.Begin.{FindsAndBegins}
use Rattle.vll_engine.specs.Onto.{IsOnto}
use Rattle.vll_queue.specs.Shown.{Named}
use Rattle.vll_tokens.specs.Shown.{TokenShown}

-- the session has learnt more, and one more call has entered, unless the call was refused
abbrev pub begun_token : TokenShown → SessionShown → Begun → TokenShown
begun_token t session (Free pass) = record t { next = suc t.next; session = session }
begun_token t session (Blocked ticket) = record t { next = suc t.next; session = session }
begun_token t session (Refused why) = record t { session = session }

-- the result of beginning a token's next call, for the token and for the list onto which its pass goes
pub record IsBegun (e : Named) (old new : TokenShown) (answer : BegunOnto) (before after : List PassShown) : Type 0 where
  pub begun : Begun
  pub token : new ≡ begun_token old new.session begun
  pub call : (call : Call) → slice_get old.script old.next ≡ Some call → FindsAndBegins e old.session.session new.session.session call begun
  pub table : new.session.table ≡ old.session.table
  pub onto : IsOnto begun answer before after
