use Rattle.std.proofs.Common.{◌≡◌, Some, slice_get, refl, sym, ap, subst}
use Rattle.vll_counters.specs.Shown.{SessionShown}
use Rattle.vll_stream.specs.Private.Callers.{IsSnapshot, made_so_far}
use Rattle.vll_stream.specs.declared.callers.Callers.{Callers}
use Rattle.vll_stream.proofs.MadeSoFar.{heard_at, informed_by, informed_first, informed_low, own_table, session_at}
use Rattle.vll_stream.proofs.callers.Callers.inform.Goals.{in-Some, in_default}
use Rattle.vll_stream.proofs.callers.Callers.inform.Goals as goal

pub tell-news-requires : goal.tell-news-requires
tell-news-requires g c =
    let e = g.N.Name.engine in
    let old : Callers = c.args.self.now in
    record { session = own_table e old c.in-Some.informed c.index_mut.result.now c.requires.callers (informed_low e old c.in-Some.informed c.requires.callers c.in-Some.is) c.index_mut.ensures.value }

pub hear-requires : goal.hear-requires
hear-requires g c =
    let e = g.N.Name.engine in
    let old : Callers = c.args.self.now in
    let teller = c.in-Some.informed in
    let s : SessionShown = c.index_mut.result.now in
    let heard : SessionShown = c.index_mut-in-Some.result.now in
    let at : slice_get old.sessions.items teller ≡ Some s = session_at e old teller s c.requires.callers (informed_low e old teller c.requires.callers c.in-Some.is) c.index_mut.ensures.value in
    let there = heard_at e old teller c.args.client s c.tell-news.new.session heard c.requires.callers c.requires.client at c.tell-news.ensures.session c.index_mut-in-Some.ensures.value in
    record { session = (c.requires.callers.each c.args.client heard there).table }

pub returns : goal.returns
returns g c =
    let e = g.N.Name.engine in
    let old : Callers = c.args.self.now in
    let new : Callers = record c.match-self.self { informed = Some c.args.client } in
    let still : (now : Callers) → now.snapshot ≡ old.snapshot → IsSnapshot e (made_so_far old) now.snapshot =
    λ now same. subst (IsSnapshot e (made_so_far old)) (sym same) c.requires.callers.snapshot in
    elim c.match-self.branch [
      | in-Some w ↦
          let teller = w.in-Some.informed in
          let s : SessionShown = w.index_mut.result.now in
          let heard : SessionShown = w.index_mut-in-Some.result.now in
          let at : slice_get old.sessions.items teller ≡ Some s = session_at e old teller s c.requires.callers (informed_low e old teller c.requires.callers w.in-Some.is) w.index_mut.ensures.value in
          let there = heard_at e old teller c.args.client s w.tell-news.new.session heard c.requires.callers c.requires.client at w.tell-news.ensures.session w.index_mut-in-Some.ensures.value in
          informed_by e old new teller c.args.client s w.tell-news.new.session heard w.hear.new.session w.tell-news.result.calls c.requires.callers w.in-Some.is at w.tell-news.ensures.session there
          (ap (λ (x : Callers). x.sessions.items) w.self-is) w.tell-news.ensures.news w.hear.ensures.heard w.hear.ensures.session (ap (λ (x : Callers). x.calls) w.self-is) refl
          (ap (λ (x : Callers). x.counts) w.self-is) (still new (ap (λ (x : Callers). x.snapshot) w.self-is))
      | in_default w ↦
          informed_first e old new c.args.client c.requires.callers c.requires.client w.in_default.is (ap (λ (x : Callers). x.sessions.items) w.self-is) (ap (λ (x : Callers). x.calls) w.self-is) refl
          (ap (λ (x : Callers). x.counts) w.self-is) (still new (ap (λ (x : Callers). x.snapshot) w.self-is))
    ]
