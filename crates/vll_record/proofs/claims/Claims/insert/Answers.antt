use Rattle.std.proofs.Common.{◌≤◌, arith, insert, length}
use Rattle.vll_record.proofs.Common.{length-insert, MOST_CLAIMS}
use Rattle.vll_record.proofs.Laid.{IsCanonical-lies, kept-lies, lies-kept, lies-insert, writes-kept}
use Rattle.vll_record.proofs.claims.Claims.insert.Goals as goal

pub invariant_of-self : goal.invariant_of-self
invariant_of-self c =
    let cs = c.args.self.now in
    let i = c.args.place in
    let lay = lies-kept c.self.inside cs c.self.invariant c.self.view_is in
    let word = c.insert.ensures cs c.args.claim.id (writes-kept c.self.inside cs c.self.invariant c.self.view_is) c.requires.room c.requires.within in
    let few : length (insert cs i c.args.claim) ≤ MOST_CLAIMS = omega (arith, length-insert cs i c.args.claim c.requires.within) in
    rw c.copy_within.ensures.after
    (IsCanonical-lies _ (insert cs i c.args.claim) (lies-insert c.self.inside cs i c.args.claim c.insert.new.self.writes lay c.requires.within c.requires.room word) few c.requires.rising)

pub returns : goal.returns
returns c =
    let cs = c.args.self.now in
    let i = c.args.place in
    let lay = lies-kept c.self.inside cs c.self.invariant c.self.view_is in
    let word = c.insert.ensures cs c.args.claim.id (writes-kept c.self.inside cs c.self.invariant c.self.view_is) c.requires.room c.requires.within in
    rw c.copy_within.ensures.after
    (kept-lies _ (insert cs i c.args.claim) (lies-insert c.self.inside cs i c.args.claim c.insert.new.self.writes lay c.requires.within c.requires.room word))
