use Rattle.vll_core.proofs.machine.Machine.room.Given.{Over}
use Rattle.std.proofs.Common.{◌<◌, length, Err, Ok}
use Rattle.vll_core.proofs.Common.{Spent, Busy}
use Rattle.vll_core.proofs.Entering.{IsRoom, room_spent, room_busy, room_ok, unspent, is_spent, full_shown, left_shown, many_shown, few_shown}
use Rattle.vll_core.proofs.machine.Machine.room.Goals.{Then-is_spent, Else-is_spent, Then-is_busy, Else-is_busy}
use Rattle.vll_core.proofs.machine.Machine.room.Goals as goal

spent : (g : Over) (c : Then-is_spent g) → IsRoom c.args.self.now (Err Spent)
spent g c = room_spent _ (full_shown c.self.inside _ c.self.invariant c.self.view_is (is_spent _ _ _ c.if-is_spent.true c.is_spent.ensures.answer.0))

left : (g : Over) (c : Else-is_spent g) → length c.args.self.now.state.entries < c.args.self.now.limit
left g c =
    left_shown c.self.inside _ c.self.invariant c.self.view_is (unspent _ _ _ c.is_spent.ensures.kept.within c.if-is_spent.false c.is_spent.ensures.answer.1)

busy : (g : Over) (c : Then-is_busy g) → IsRoom c.args.self.now (Err Busy)
busy g c =
    room_busy _ (left g (goal.at.returns-then-is_busy-clause-spent g c).Else-is_spent)
    (many_shown c.self.inside _ c.self.invariant c.self.view_is (is_spent _ _ _ c.if-is_busy.true c.is_busy.ensures.answer.0))

ok : (g : Over) (c : Else-is_busy g) → IsRoom c.args.self.now (Ok tt)
ok g c =
    room_ok _ (left g (goal.at.returns-clause-spent g c).Else-is_spent)
    (few_shown c.self.inside _ c.self.invariant c.self.view_is (unspent _ _ _ c.is_busy.ensures.kept.capped c.if-is_busy.false c.is_busy.ensures.answer.1))

pub returns-then-is_spent-clause-spent : goal.returns-then-is_spent-clause-spent
returns-then-is_spent-clause-spent g c = (spent g c).spent

pub returns-then-is_spent-clause-busy : goal.returns-then-is_spent-clause-busy
returns-then-is_spent-clause-busy g c = (spent g c).busy

pub returns-then-is_spent-clause-ok : goal.returns-then-is_spent-clause-ok
returns-then-is_spent-clause-ok g c = (spent g c).ok

pub returns-then-is_busy-clause-spent : goal.returns-then-is_busy-clause-spent
returns-then-is_busy-clause-spent g c = (busy g c).spent

pub returns-then-is_busy-clause-busy : goal.returns-then-is_busy-clause-busy
returns-then-is_busy-clause-busy g c = (busy g c).busy

pub returns-then-is_busy-clause-ok : goal.returns-then-is_busy-clause-ok
returns-then-is_busy-clause-ok g c = (busy g c).ok

pub returns-clause-spent : goal.returns-clause-spent
returns-clause-spent g c = (ok g c).spent

pub returns-clause-busy : goal.returns-clause-busy
returns-clause-busy g c = (ok g c).busy

pub returns-clause-ok : goal.returns-clause-ok
returns-clause-ok g c = (ok g c).ok
