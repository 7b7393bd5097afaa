-- Epoch by epoch.
use Rattle.vll_proc.proofs.Joined.{replies_in_a_row, end_in_a_row, reply_at_place}
use Rattle.vll_proc.proofs.laws.epochs_are_one_serial_run.Goals as goal

pub returns-clause-replies : goal.returns-clause-replies
returns-clause-replies c = replies_in_a_row

pub returns-clause-end : goal.returns-clause-end
returns-clause-end c = end_in_a_row

pub returns-clause-answers : goal.returns-clause-answers
returns-clause-answers c = reply_at_place
