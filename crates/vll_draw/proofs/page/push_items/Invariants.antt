use Rattle.std.proofs.Common.{◌≡◌, ◌++◌, map, string_bytes}
use Rattle.std.specs.List.{flat_map}
use Rattle.vll_draw.specs.Page.{item}
use Rattle.vll_draw.proofs.page.push_items.Given as goal

abbrev pub invariant-loop-index : goal.invariant-loop-index
invariant-loop-index l =
    string_bytes l.page ≡ string_bytes l.initial.page ++ flat_map item (map (λ p. (p.0, p.1.now)) l.yielded)
