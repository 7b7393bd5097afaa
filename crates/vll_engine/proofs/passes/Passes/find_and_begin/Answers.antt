use Rattle.vll_queue.specs.Admission.{begun}
use Rattle.vll_engine.proofs.Onto.{begins_found_onto, begins_fresh}
use Rattle.vll_engine.proofs.passes.Passes.find_and_begin.Goals as goal

pub returns-clause-answer : goal.returns-clause-answer
returns-clause-answer g c =
    begins_found_onto g.N.Name.engine c.args.session.now.session c.find-call.new.session.session c.admit-admission.new.session.session c.args.call.now c.find-call.result (begun c.admit-admission.result) c.push_admitted.result c.args.self.now c.push_admitted.new.self c.find-call.ensures.looked c.admit-admission.ensures.answer c.push_admitted.ensures c.admit-admission.ensures.given

pub push_admitted-requires-clause-fresh : goal.push_admitted-requires-clause-fresh
push_admitted-requires-clause-fresh g c = begins_fresh g.N.Name.engine c.find-call.new.session.session c.admit-admission.new.session.session c.find-call.result (begun c.admit-admission.result) c.admit-admission.ensures.answer
