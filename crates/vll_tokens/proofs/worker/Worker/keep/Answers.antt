use Rattle.std.proofs.Common.{List, ℕ, ◌<◌, sym, subst, ◌≤◌, length}
use Rattle.std.specs.Prelude.{All, vec_capacity}
use Rattle.std.proofs.lemmas.List.Elements.{All-push}
use Rattle.crossbeam_queue.specs.Passes.{view}
use Rattle.vll_tokens.specs.declared.pool.Hand.{Hand}
use Rattle.vll_tokens.specs.Pool.{HoldsMore, Working}
use Rattle.vll_tokens.specs.Settled.{IsSettled}
use Rattle.vll_tokens.specs.Shown.{TokenShown}
use Rattle.vll_tokens.specs.Tokens.{IsOf, clients_of}
use Rattle.vll_tokens.proofs.Hands.{fewer_kept}
use Rattle.vll_tokens.proofs.worker.Worker.keep.Goals as goal

pub push_reserved-requires : goal.push_reserved-requires
push_reserved-requires g c =
    let few = subst (λ (v : Hand). length v.holds ≤ length g.T.Roster.tokens) c.learn_few.ensures.view c.learn_few.ensures.few in
    let held = subst (λ (w : Working). HoldsMore (view w.pass).holds c.args.token.client (clients_of w.kept)) (sym c.self.view_is) c.requires.held in
    subst (λ (n : ℕ). n < vec_capacity c.self.inside.kept) (sym c.self.inside.kept.ok.0)
    (fewer_kept (view c.self.inside.pass).holds c.args.token.client (length g.T.Roster.tokens) (vec_capacity c.self.inside.kept) c.self.inside.kept.items held few c.self.invariant.2)

pub invariant_of-self : goal.invariant_of-self
invariant_of-self g c =
    let kept : List TokenShown = c.self.inside.kept.items in
    let own : All (IsOf g.T.Roster.tokens) c.push_reserved.new.self.items =
    subst (All (IsOf g.T.Roster.tokens)) (sym {A = List TokenShown} c.push_reserved.ensures.items) (All-push (IsOf g.T.Roster.tokens) kept c.args.token c.self.invariant.0 c.requires.own) in
    let settled : All (IsSettled g.T.Roster.limit) c.push_reserved.new.self.items =
    subst (All (IsSettled g.T.Roster.limit)) (sym {A = List TokenShown} c.push_reserved.ensures.items) (All-push (IsSettled g.T.Roster.limit) kept c.args.token c.self.invariant.1 c.requires.settled) in
    (own, settled, subst (λ (n : ℕ). length g.T.Roster.tokens ≤ n) (sym c.push_reserved.ensures.capacity) c.self.invariant.2)
