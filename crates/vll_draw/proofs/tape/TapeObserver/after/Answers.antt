use Rattle.std.proofs.Common.{arith, refl}
use Rattle.vll_sca.specs.Placing.{placing}
use Rattle.vll_core.specs.Shown.{opening_of}
use Rattle.vll_replay.specs.Steps.{step_of}
use Rattle.vll_draw.proofs.Taped.{step_behind, step_drawn}
use Rattle.vll_draw.proofs.tape.TapeObserver.after.Goals as goal

pub returns-then-len-self : goal.returns-then-len-self
returns-then-len-self c = λ w past s looks told state.
    step_behind _ w past _ c.args.self.now _ looks.taped c.if-self-gt0.false (omega (arith, c.if-len-self.true, c.len.ensures)) c.saturating_add-self.ensures refl refl refl refl

pub returns : goal.returns
returns c = λ w past s looks told state.
    let step = step_of (opening_of placing c.args.core.now) s c.args.event.now in
    step_drawn _ w past step c.column_of-column.result c.args.self.now _ looks.taped looks.before (c.column_of-column.ensures step refl told state looks.claim)
    c.if-self-gt0.false (omega (arith, c.if-len-self.false, c.len.ensures)) c.saturating_add-self.ensures refl refl c.in_ok-push.ensures.items refl
