use Rattle.std.proofs.Common.{sym, ◌∙◌}
use Rattle.vll_check.proofs.Indexed.{HaveNumbers-sorted, twice_sorted, AreArranged-placed}
use Rattle.vll_check.proofs.order.arrange.Goals as goal

pub returns-then-has_equal_neighbours-clause-twice : goal.returns-then-has_equal_neighbours-clause-twice
returns-then-has_equal_neighbours-clause-twice c =
    sym c.if-has_equal_neighbours.true ∙ c.has_equal_neighbours.ensures ∙ twice_sorted _ _ _ c.set_numbers.ensures.numbered c.sort_by_name.ensures.moved

pub set_places-requires-clause-numbers : goal.set_places-requires-clause-numbers
set_places-requires-clause-numbers c = HaveNumbers-sorted _ _ _ c.set_numbers.ensures.numbered c.sort_by_name.ensures.moved

pub returns-clause-ok : goal.returns-clause-ok
returns-clause-ok c =
    AreArranged-placed _ _ _ _ c.set_numbers.ensures.numbered c.sort_by_name.ensures.moved c.sort_by_name.ensures.sorted
    (sym c.has_equal_neighbours.ensures ∙ c.if-has_equal_neighbours.false) c.set_places.ensures

pub returns-clause-twice : goal.returns-clause-twice
returns-clause-twice c =
    sym c.if-has_equal_neighbours.false ∙ c.has_equal_neighbours.ensures ∙ twice_sorted _ _ _ c.set_numbers.ensures.numbered c.sort_by_name.ensures.moved
