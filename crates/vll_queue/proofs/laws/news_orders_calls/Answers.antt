use Rattle.vll_queue.proofs.Hearing.{entries_in_order, calls_in_order, others_begin, own_begins}
use Rattle.vll_queue.proofs.laws.news_orders_calls.Goals as goal

pub returns-clause-entries : goal.returns-clause-entries
returns-clause-entries c = entries_in_order

pub returns-clause-calls : goal.returns-clause-calls
returns-clause-calls c = calls_in_order

pub returns-clause-others : goal.returns-clause-others
returns-clause-others c = others_begin

pub returns-clause-own : goal.returns-clause-own
returns-clause-own c = own_begins
