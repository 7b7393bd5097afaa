use Rattle.std.proofs.Common.{rules, List, subst, sym}
use Rattle.std.specs.Prelude.{All}
use Rattle.std.specs.Global.{Vec}
use Rattle.std.proofs.lemmas.List.Sorted.{All-permutation, IsNonDecreasingBy-from_sort_by_key}
use Rattle.vll_tokens.specs.Pool.{AreSame}
use Rattle.vll_tokens.specs.Settled.{IsSettled, OneHasLeft}
use Rattle.vll_tokens.specs.Shown.{TokenShown}
use Rattle.vll_tokens.specs.Tokens.{AreBack, IsThrough, OneIsSpent, clients_of}
use Rattle.vll_tokens.proofs.Settled.{are_back, one_is_spent}
use Rattle.vll_workers.proofs.running.ending.outcome_of.Goals as goal

pub returns-then-not-are_through-clause-back : goal.returns-then-not-are_through-clause-back
returns-then-not-are_through-clause-back g c =
    let back : AreBack g.T.Roster.tokens c.sort_unstable_by_key.new.self.items =
    are_back g.T.Roster.tokens c.into_tokens-tokens.result.items c.sort_unstable_by_key.new.self.items c.requires.distinct
    (subst (λ (kept : List TokenShown). AreSame (clients_of g.T.Roster.tokens) (clients_of kept)) (sym c.into_tokens-tokens.ensures.kept) c.requires.all)
    c.into_tokens-tokens.ensures.own c.sort_unstable_by_key.ensures.permutation
    (IsNonDecreasingBy-from_sort_by_key (λ (t : TokenShown). t.client) _ c.sort_unstable_by_key.ensures.sorted (λ a r q k. search rules)) in
    let settled : All (IsSettled g.T.Roster.limit) c.sort_unstable_by_key.new.self.items =
    All-permutation (IsSettled g.T.Roster.limit) _ _ c.sort_unstable_by_key.ensures.permutation c.into_tokens-tokens.ensures.settled in
    let rest : OneHasLeft c.sort_unstable_by_key.new.self.items = subst OneHasLeft c.as_slice.ensures.value c.if-not-are_through.ensures in
    subst (λ (tokens : Vec TokenShown). AreBack g.T.Roster.tokens tokens.items × OneIsSpent g.T.Roster.limit tokens.items) (sym c.new.ensures.tokens)
    (back, one_is_spent g.T.Roster.limit _ settled rest)

pub returns-clause-ok : goal.returns-clause-ok
returns-clause-ok g c =
    let back : AreBack g.T.Roster.tokens c.sort_unstable_by_key.new.self.items =
    are_back g.T.Roster.tokens c.into_tokens-tokens.result.items c.sort_unstable_by_key.new.self.items c.requires.distinct
    (subst (λ (kept : List TokenShown). AreSame (clients_of g.T.Roster.tokens) (clients_of kept)) (sym c.into_tokens-tokens.ensures.kept) c.requires.all)
    c.into_tokens-tokens.ensures.own c.sort_unstable_by_key.ensures.permutation
    (IsNonDecreasingBy-from_sort_by_key (λ (t : TokenShown). t.client) _ c.sort_unstable_by_key.ensures.sorted (λ a r q k. search rules)) in
    (back, subst (All IsThrough) c.as_slice.ensures.value c.if-not-are_through.ensures)

pub returns-then-not-are_through-clause-spent : goal.returns-then-not-are_through-clause-spent
returns-then-not-are_through-clause-spent g c = search rules
