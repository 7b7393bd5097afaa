-- The window of a list of steps to which one more is added, and columns for its steps.
use Rattle.std.proofs.Common.{◌≡◌, ℕ, ◌<◌, ◌≤◌, List, [], ◌∷◌, ◌++◌, length, suc, take, drop, refl, sym, ap, ◌∙◌, arith, length-append}
use Rattle.std.proofs.lemmas.List.{drop-append-le, drop_all, length-take, take-append-le, take_all}
use Rattle.vll_core.specs.Headline.State.{Base}
use Rattle.vll_replay.specs.Steps.{Step}
use Rattle.vll_draw.specs.Columns.{AreColumns, IsColumn, window}
use Rattle.vll_draw.specs.declared.picture.column.Column.{Column}

-- a step before the window
pub window-ahead : (from count : ℕ) (ss : List Step) (s : Step) → length ss < from → window from count (ss ++ s ∷ []) ≡ window from count ss
window-ahead from count ss s ahead =
    let longer : length (ss ++ s ∷ []) ≤ from = omega (arith, length-append ss (s ∷ []), ahead) in
    let shorter : length ss ≤ from = omega (arith, ahead) in
    ap (take count) (drop_all from (ss ++ s ∷ []) longer ∙ sym (drop_all from ss shorter))

-- a step of the window
pub window-within : (from count : ℕ) (ss : List Step) (s : Step) → from ≤ length ss → length (window from count ss) < count
    → window from count (ss ++ s ∷ []) ≡ window from count ss ++ s ∷ []
window-within from count ss s begun few =
    let left = drop from ss in
    let short : length left < count = omega (arith, length-take count left, few) in
    let all : length left ≤ count = omega (arith, short) in
    let more : length (left ++ s ∷ []) ≤ count = omega (arith, length-append left (s ∷ []), short) in
    ap (take count) (drop-append-le from ss (s ∷ []) begun) ∙ take_all count (left ++ s ∷ []) more ∙ ap (λ xs. xs ++ s ∷ []) (sym (take_all count left all))

-- a step after the window
pub window-full : (from count : ℕ) (ss : List Step) (s : Step) → from ≤ length ss → count ≤ length (window from count ss) → window from count (ss ++ s ∷ []) ≡ window from count ss
window-full from count ss s begun full =
    let left = drop from ss in
    let long : count ≤ length left = omega (arith, length-take count left, full) in
    ap (take count) (drop-append-le from ss (s ∷ []) begun) ∙ take-append-le count left (s ∷ []) long

-- there are as many columns as steps
pub columns-length : (b : Base) (ss : List Step) (cs : List Column) → AreColumns b ss cs → length cs ≡ length ss
columns-length b [] [] are = refl
columns-length b (s ∷ ss) (c ∷ cs) are = ap suc (columns-length b ss cs are.1)
columns-length b [] (c ∷ cs) are = absurd are
columns-length b (s ∷ ss) [] are = absurd are

-- one more column for one more step
pub columns-append : (b : Base) (ss : List Step) (cs : List Column) (s : Step) (c : Column) → AreColumns b ss cs → IsColumn b s c → AreColumns b (ss ++ s ∷ []) (cs ++ c ∷ [])
columns-append b [] [] s c are is = (is, tt)
columns-append b (x ∷ ss) (y ∷ cs) s c are is = (are.0, columns-append b ss cs s c are.1 is)
columns-append b [] (y ∷ cs) s c are is = absurd are
columns-append b (x ∷ ss) [] s c are is = absurd are
