use Rattle.std.proofs.Common.{rules}
use Rattle.vll_engine.proofs.Opens.{new_sessions_are_clients}
use Rattle.vll_engine.proofs.opening.Opening.new.Goals as goal

pub sessions-requires-clause-clients : goal.sessions-requires-clause-clients
sessions-requires-clause-clients g c = new_sessions_are_clients c.in_ok-words.words.table c.args.clients c.in_ok-words.seats.items c.in_ok-words.ensures.sessions

pub returns-in_err-queue-clause-refused : goal.returns-in_err-queue-clause-refused
returns-in_err-queue-clause-refused g c = search rules

pub returns-in_err-memory-clause-refused : goal.returns-in_err-memory-clause-refused
returns-in_err-memory-clause-refused g c = search rules

pub returns-in_err-words-clause-refused : goal.returns-in_err-words-clause-refused
returns-in_err-words-clause-refused g c = search rules

pub returns-in_err-sessions-clause-refused : goal.returns-in_err-sessions-clause-refused
returns-in_err-sessions-clause-refused g c = search rules

pub returns-clause-refused : goal.returns-clause-refused
returns-clause-refused g c = search rules
