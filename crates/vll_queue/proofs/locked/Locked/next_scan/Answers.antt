use Rattle.std.proofs.Common.{sym, subst}
use Rattle.vll_queue.specs.Private.Kept.{IsKept}
use Rattle.vll_queue.proofs.Keeps.{kept_started}
use Rattle.vll_queue.proofs.Starting.{scan_may, begins, given_fresh, given_at}
use Rattle.vll_queue.proofs.locked.Locked.next_scan.Goals as goal

pub give_pass-requires-clause-may : goal.give_pass-requires-clause-may
give_pass-requires-clause-may g c =
    let found = sym c.in_ok-ticket.ensures.ticket in
    (begins g.N.Name.engine g.H.Place.place_of c.self.inside.seat c.self.inside.queue c.scan.new.queue _ c.in_ok-ticket.ticket c.self.invariant (scan_may g.H.Place.place_of c.self.inside.queue c.in_ok-ticket.ticket found) found c.in_ok-ticket.ensures.scanned).may

pub invariant_of-self-2 : goal.invariant_of-self-2
invariant_of-self-2 g c =
    let e = g.N.Name.engine in
    let place = g.H.Place.place_of in
    let found = sym c.in_ok-ticket.ensures.ticket in
    let b = begins e place c.self.inside.seat c.self.inside.queue c.scan.new.queue _ c.in_ok-ticket.ticket c.self.invariant (scan_may g.H.Place.place_of c.self.inside.queue c.in_ok-ticket.ticket found) found c.in_ok-ticket.ensures.scanned in
    subst (IsKept e place c.give_pass.new.seat) (sym b.started) (kept_started e place c.self.inside.seat c.give_pass.new.seat c.self.inside.queue c.in_ok-ticket.ticket c.self.invariant c.give_pass.ensures.seat)

pub returns-clause-pass : goal.returns-clause-pass
returns-clause-pass g c =
    let found = sym c.in_ok-ticket.ensures.ticket in
    let b = begins g.N.Name.engine g.H.Place.place_of c.self.inside.seat c.self.inside.queue c.scan.new.queue _ c.in_ok-ticket.ticket c.self.invariant (scan_may g.H.Place.place_of c.self.inside.queue c.in_ok-ticket.ticket found) found c.in_ok-ticket.ensures.scanned in
    given_fresh c.self.inside.queue g.N.Name.engine g.H.Place.place_of c.args.words.now c.give_pass.result b c.self.invariant c.requires.words c.give_pass.ensures.pass

pub returns-clause-line : goal.returns-clause-line
returns-clause-line g c =
    let found = sym c.in_ok-ticket.ensures.ticket in
    let b = begins g.N.Name.engine g.H.Place.place_of c.self.inside.seat c.self.inside.queue c.scan.new.queue _ c.in_ok-ticket.ticket c.self.invariant (scan_may g.H.Place.place_of c.self.inside.queue c.in_ok-ticket.ticket found) found c.in_ok-ticket.ensures.scanned in
    given_at c.args.words.now.table c.give_pass.result b c.give_pass.ensures.pass
