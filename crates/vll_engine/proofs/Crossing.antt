-- Every thread may see an engine, shown part by part: a `search` that goes down through all of it at once runs out of
-- steps.
use denote.RattleType.{RattleType}
use denote.Param.Send.{IsSend, IsSync, sendable}
use Rattle.std.proofs.Crossing.{crosses}
use Rattle.sqlite_items.specs.contracts.boxed.Boxed as Boxed
use Rattle.sqlite_items.specs.contracts.items.Items as Items
use Rattle.vll_check.specs.contracts.checked.Checked as Checked
use Rattle.vll_check.specs.contracts.library.Library as Library
use Rattle.vll_counters.proofs.words.Words.TheSendSync as words
use Rattle.vll_queue.proofs.locked.Locked.TheSendSync as locked
use Rattle.vll_queue.proofs.closing_memory.ClosingMemory.TheSendSync as memory
use Rattle.vll_engine.specs.contracts.engine.Engine as Engine
use Rattle.vll_queue.specs.declared.name.Name as name
use Rattle.vll_sca.specs.declared.place.Place as place
use Rattle.vll_proc.proofs.syntax.Expr.TheLaws.TheKnot.{both_send-Expr, both_sync-Expr}
use Rattle.vll_proc.proofs.syntax.Stmt.TheLaws.TheKnot.{both_sync-Stmt}
use Rattle.vll_proc.specs.contracts.syntax.Expr as Expr
use Rattle.vll_proc.specs.contracts.syntax.Proc as Proc
use Rattle.vll_proc.specs.contracts.syntax.Stmt as Stmt

boxed_send : (h : RattleType) → IsSend h → IsSync h → IsSend (Boxed.the_row h)
boxed_send h s y = search (sendable, crosses) depth 30

boxed_sync : (h : RattleType) → IsSend h → IsSync h → IsSync (Boxed.the_row h)
boxed_sync h s y = search (sendable, crosses) depth 30

items_send : (h : RattleType) → IsSend h → IsSync h → IsSend (Items.the_row h)
items_send h s y = search (sendable, crosses) depth 30

items_sync : (h : RattleType) → IsSend h → IsSync h → IsSync (Items.the_row h)
items_sync h s y = search (sendable, crosses) depth 30

expr_send : IsSend Expr.the_field.row
expr_send = both_send-Expr (search sendable) (search sendable) (search sendable) (search sendable) boxed_send boxed_sync

expr_sync : IsSync Expr.the_field.row
expr_sync = both_sync-Expr (search sendable) (search sendable) (search sendable) (search sendable) boxed_send boxed_sync

stmt : IsSync Stmt.the_field.row
stmt = both_sync-Stmt (search sendable) (search sendable) expr_send expr_sync items_send items_sync (search sendable) (search sendable)

proc : IsSync Proc.the_field.row
proc = let s = stmt in search (sendable, crosses) depth 30

checked : IsSync Checked.the_row
checked = let p = proc in search (sendable, crosses) depth 60 fits 20000

library : IsSync Library.the_row
library = let c = checked in search (sendable, crosses) depth 30

pub engine : (N H : RattleType) (n : name.Ghosts N.Denot) (p : place.Ghosts H.Denot) → IsSend N → IsSync N → IsSend H → IsSync (Engine.the_row N H n p)
engine N H n p sn yn sh = search (library, words.the_sync, locked.the_send, memory.the_sync, sendable, crosses) depth 40
