use Rattle.vll_record.proofs.Masks.{write_at, read_at}
use Rattle.vll_record.proofs.claims.modes.Modes.get.Goals as goal

pub returns-then-self-i-eq1 : goal.returns-then-self-i-eq1
returns-then-self-i-eq1 c ids = write_at ids c.args.self.now.writes c.args.i c.if-self-i-eq1.true

pub returns-else-self-i-eq1 : goal.returns-else-self-i-eq1
returns-else-self-i-eq1 c ids = read_at ids c.args.self.now.writes c.args.i c.if-self-i-eq1.false
