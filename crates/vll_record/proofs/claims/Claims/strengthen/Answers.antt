use Rattle.std.proofs.Common.{◌≡◌, Some, slice_get, get_or}
use Rattle.vll_record.proofs.Common.{slice_get-get_or, Claim, Read, stronger}
use Rattle.vll_record.proofs.Laid.{IsCanonical-set, kept-set, writes-kept}
use Rattle.vll_record.proofs.claims.Claims.strengthen.Goals as goal

pub invariant_of-self : goal.invariant_of-self
invariant_of-self c =
    let cs = c.args.self.now in
    let none : Claim = record { id = 0; mode = Read } in
    let held : Claim = get_or cs c.args.place none in
    let at : slice_get cs c.args.place ≡ Some held = slice_get-get_or cs c.args.place none c.requires.within in
    let word = c.strengthen.ensures cs held (writes-kept c.self.inside cs c.self.invariant c.self.view_is) at in
    IsCanonical-set c.self.inside cs c.args.place held (stronger c.args.mode held.mode) c.strengthen.new.self.writes c.self.invariant c.self.view_is at word

pub returns : goal.returns
returns c held at =
    let cs = c.args.self.now in
    let word = c.strengthen.ensures cs held (writes-kept c.self.inside cs c.self.invariant c.self.view_is) at in
    kept-set c.self.inside cs c.args.place held (stronger c.args.mode held.mode) c.strengthen.new.self.writes c.self.invariant c.self.view_is at word
