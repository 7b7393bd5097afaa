use Rattle.std.proofs.Common.{◌≡◌, ◌+◌, ◌∙◌, ℕ, ap, arith, rules, suc}
use Rattle.vll_check.specs.Calls.{Fits as FitsIn}
use Rattle.vll_core.proofs.Places.{all_at}
use Rattle.vll_queue.specs.Shown.{library_of}
use Rattle.vll_tokens.specs.Shown.{TokenShown}
use Rattle.vll_tokens.proofs.Gained.{entered_token, is_begun, next_call}
use Rattle.vll_tokens.proofs.token.Token.begin.Goals as goal

pub begin-begun-requires-clause-fits : goal.begin-begun-requires-clause-fits
begin-begun-requires-clause-fits g c =
    let t = c.args.self.now in
    let at = next_call c.deref.result.now c.self.inside.script.items t c.self.inside.next c.in-Some.call.now c.deref.ensures.value (ap (λ (u : TokenShown). u.script) c.self.view_is) (ap (λ (u : TokenShown). u.next) c.self.view_is) c.in-Some.ensures.lookup.3 in
    all_at (FitsIn (library_of g.N.Name.engine)) t.script t.next c.in-Some.call.now c.requires.fit.fits at

pub returns-then-not-matches : goal.returns-then-not-matches
returns-then-not-matches g c =
    let t = c.args.self.now in
    let up : t.next + 1 ≡ suc t.next = omega arith in
    let a = c.begin-begun.ensures.answer in
    let at = next_call c.deref.result.now c.self.inside.script.items t c.self.inside.next c.in-Some.call.now c.deref.ensures.value (ap (λ (u : TokenShown). u.script) c.self.view_is) (ap (λ (u : TokenShown). u.next) c.self.view_is) c.in-Some.ensures.lookup.3 in
    record {
      begun = is_begun g.N.Name.engine t _ c.self.inside.session c.in-Some.call.now c.begin-begun.result c.args.passes.now c.begin-begun.new.self (ap (λ (u : TokenShown). u.session) c.self.view_is) at a c.begin-begun.ensures.session
          (entered_token t _ a.begun c.begin-begun.result c.args.passes.now c.begin-begun.new.self a.onto (search rules)
          (ap (λ (u : TokenShown). record u { next = u.next + 1; session = c.begin-begun.new.session }) c.self.view_is
          ∙ ap (λ (n : ℕ). record t { next = n; session = c.begin-begun.new.session }) up));
    }
