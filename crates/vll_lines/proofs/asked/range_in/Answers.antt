use Rattle.std.proofs.Common.{◌≡◌, List, [], ◌∷◌, None, length, refl, arith}
use Rattle.serde_json.specs.View.{items_view}
use Rattle.serde_json.specs.declared.value.Value.{Value}
use Rattle.vll_lines.specs.Request.{range_in}
use Rattle.vll_lines.proofs.asked.range_in.Goals as goal

-- a list of another length
not_two : (list : List Value) → (length list ≡ 2 → ⊥) → None ≡ range_in (items_view list)
not_two [] isnt = refl
not_two (a ∷ []) isnt = refl
not_two (a ∷ b ∷ []) isnt = absurd (isnt refl)
not_two (a ∷ b ∷ c ∷ list) isnt = refl

pub returns-then-list-ne2 : goal.returns-then-list-ne2
returns-then-list-ne2 c = let t = c.if-list-ne2.true in not_two c.args.list.now (λ is. absurd (grind (arith, is, t)))
