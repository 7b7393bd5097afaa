use Rattle.std.proofs.Common.{rules}
use Rattle.vll_check.proofs.Common.{nat_list_cmp_total, is_lt, answers_always, Entry, by_name}
use Rattle.std.proofs.lemmas.List.MinMax.{ranks_by}
use Rattle.vll_check.proofs.order.sort_by_name.Goals as goal

-- the closure compares the names
pub returns-clause-sorted : goal.returns-clause-sorted
returns-clause-sorted c =
    c.sort_unstable_by.ensures.sorted (λ d e. is_lt (by_name d e))
    (ranks_by nat_list_cmp_total (λ (e : Entry). e.procedure.name))
    (answers_always _ _ _ (λ f a r g called. search rules))
