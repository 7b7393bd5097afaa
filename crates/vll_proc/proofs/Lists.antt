-- What the definitions say of a list of statements, and so of an `If` and of a `Repeat` as they are built.
use Rattle.std.proofs.Common.{◌≡◌, ℕ, zero, suc, ◌+◌, ◌*◌, max, Bool, ◌==◌, ◌&&◌, refl, ap, Result, Ok, Err, List, [], ◌∷◌, map, sum_by, if◌then◌else◌}
use Rattle.vll_proc.proofs.Common.{list_all, Reason, Edition, Expr, Stmt, If, Repeat, Scene, Action, and_then, value_of, effect, in_turn, repeated, list_effect, Locals, local_is_set, all_leaves, throughout, list_throughout, both_set, set_behind, list_set_behind, body_set_behind, reads_set, list_reads_set, body_reads_set, replies, list_replies, depth, stmt_depth, list_depth, body_depth, nodes, stmt_nodes, list_nodes, weight, list_weight, may_repeat, turns_are_few, list_turns_are_few}
use Rattle.std.proofs.lemmas.List.Sums.{sum_by-cons}
use denote.Hole.Carrier.{hidden}
use Rattle.vll_proc.specs.declared.syntax.Stmt.TheBlock.{hidden-the_row-Stmt-0}

same_then : (r : Result Scene Reason) (f g : Action) → ((s : Scene) → f s ≡ g s) → and_then r f ≡ and_then r g
same_then (Ok s) f g h = h s
same_then (Err why) f g h = refl

list_effect-row : (xs : List Stmt) (s : Scene) → list_effect (hidden-the_row-Stmt-0 xs) s ≡ in_turn (map effect xs) s
unfolding hidden hidden-the_row-Stmt-0
list_effect-row [] s = refl
list_effect-row (x ∷ xs) s = same_then (effect x s) (list_effect (hidden-the_row-Stmt-0 xs)) (in_turn (map effect xs)) (list_effect-row xs)

pub effect_if : (e : Expr) (xs ys : List Stmt) (s : Scene) → effect (If e xs ys) s ≡ and_then (value_of e s) (λ v. if v == 0 then in_turn (map effect ys) s else in_turn (map effect xs) s)
unfolding hidden hidden-the_row-Stmt-0
effect_if e xs ys s = rw (← list_effect-row xs s, ← list_effect-row ys s) refl

-- an action that does the same does the same in each turn
same_repeated : (n : ℕ) (f g : Action) → ((s : Scene) → f s ≡ g s) → (s : Scene) → repeated n f s ≡ repeated n g s
same_repeated zero f g h s = refl
same_repeated (suc n) f g h s = rw (h s) (same_then (g s) (repeated n f) (repeated n g) (same_repeated n f g h))

pub effect_repeat : (n : ℕ) (xs : List Stmt) (s : Scene) → effect (Repeat n xs) s ≡ repeated n (in_turn (map effect xs)) s
unfolding hidden hidden-the_row-Stmt-0
effect_repeat n xs s = same_repeated n (list_effect (hidden-the_row-Stmt-0 xs)) (in_turn (map effect xs)) (list_effect-row xs) s

list_throughout-row : (leaf : Expr → Bool) (test : Stmt → Bool) (xs : List Stmt) → list_throughout leaf test (hidden-the_row-Stmt-0 xs) ≡ list_all (throughout leaf test) xs
unfolding hidden hidden-the_row-Stmt-0
list_throughout-row leaf test [] = refl
list_throughout-row leaf test (x ∷ xs) = ap (λ (b : Bool). throughout leaf test x && b) (list_throughout-row leaf test xs)

pub throughout_if : (leaf : Expr → Bool) (test : Stmt → Bool) (e : Expr) (xs ys : List Stmt)
    → throughout leaf test (If e xs ys) ≡ (all_leaves leaf e && list_all (throughout leaf test) xs && list_all (throughout leaf test) ys)
unfolding hidden hidden-the_row-Stmt-0
throughout_if leaf test e xs ys = rw (← list_throughout-row leaf test xs, ← list_throughout-row leaf test ys) refl

pub throughout_repeat : (leaf : Expr → Bool) (test : Stmt → Bool) (n : ℕ) (xs : List Stmt) → throughout leaf test (Repeat n xs) ≡ list_all (throughout leaf test) xs
unfolding hidden hidden-the_row-Stmt-0
throughout_repeat leaf test n xs = list_throughout-row leaf test xs

list_set_behind-row : (xs : List Stmt) (set : Locals) → list_set_behind (hidden-the_row-Stmt-0 xs) set ≡ body_set_behind xs set
unfolding hidden hidden-the_row-Stmt-0
list_set_behind-row [] set = refl
list_set_behind-row (x ∷ xs) set = list_set_behind-row xs (set_behind x set)

pub set_behind_if : (e : Expr) (xs ys : List Stmt) (set : Locals) → set_behind (If e xs ys) set ≡ both_set (body_set_behind xs set) (body_set_behind ys set)
unfolding hidden hidden-the_row-Stmt-0
set_behind_if e xs ys set = rw (← list_set_behind-row xs set, ← list_set_behind-row ys set) refl

pub set_behind_repeat : (n : ℕ) (xs : List Stmt) (set : Locals) → set_behind (Repeat n xs) set ≡ (if n == 0 then set else body_set_behind xs set)
unfolding hidden hidden-the_row-Stmt-0
set_behind_repeat n xs set = rw (← list_set_behind-row xs set) refl

list_reads_set-row : (set : Locals) (xs : List Stmt) → list_reads_set set (hidden-the_row-Stmt-0 xs) ≡ body_reads_set set xs
unfolding hidden hidden-the_row-Stmt-0
list_reads_set-row set [] = refl
list_reads_set-row set (x ∷ xs) = ap (λ (b : Bool). reads_set set x && b) (list_reads_set-row (set_behind x set) xs)

pub reads_set_if : (set : Locals) (e : Expr) (xs ys : List Stmt)
    → reads_set set (If e xs ys) ≡ (all_leaves (local_is_set set) e && body_reads_set set xs && body_reads_set set ys)
unfolding hidden hidden-the_row-Stmt-0
reads_set_if set e xs ys = rw (← list_reads_set-row set xs, ← list_reads_set-row set ys) refl

pub reads_set_repeat : (set : Locals) (n : ℕ) (xs : List Stmt) → reads_set set (Repeat n xs) ≡ body_reads_set set xs
unfolding hidden hidden-the_row-Stmt-0
reads_set_repeat set n xs = list_reads_set-row set xs

list_replies-row : (xs : List Stmt) → list_replies (hidden-the_row-Stmt-0 xs) ≡ sum_by replies xs
unfolding hidden hidden-the_row-Stmt-0
list_replies-row [] = refl
list_replies-row (x ∷ xs) = rw (sum_by-cons replies x xs, list_replies-row xs) refl

pub replies_if : (e : Expr) (xs ys : List Stmt) → replies (If e xs ys) ≡ max (sum_by replies xs) (sum_by replies ys)
unfolding hidden hidden-the_row-Stmt-0
replies_if e xs ys = rw (← list_replies-row xs, ← list_replies-row ys) refl

pub replies_repeat : (n : ℕ) (xs : List Stmt) → replies (Repeat n xs) ≡ n * sum_by replies xs
unfolding hidden hidden-the_row-Stmt-0
replies_repeat n xs = ap (λ (k : ℕ). n * k) (list_replies-row xs)

list_depth-row : (xs : List Stmt) → list_depth (hidden-the_row-Stmt-0 xs) ≡ body_depth xs
unfolding hidden hidden-the_row-Stmt-0
list_depth-row [] = refl
list_depth-row (x ∷ xs) = ap (λ (n : ℕ). max (stmt_depth x) n) (list_depth-row xs)

pub stmt_depth_if : (e : Expr) (xs ys : List Stmt) → stmt_depth (If e xs ys) ≡ suc (max (depth e) (max (body_depth xs) (body_depth ys)))
unfolding hidden hidden-the_row-Stmt-0
stmt_depth_if e xs ys = rw (← list_depth-row xs, ← list_depth-row ys) refl

pub stmt_depth_repeat : (n : ℕ) (xs : List Stmt) → stmt_depth (Repeat n xs) ≡ suc (body_depth xs)
unfolding hidden hidden-the_row-Stmt-0
stmt_depth_repeat n xs = ap suc (list_depth-row xs)

list_nodes-row : (xs : List Stmt) → list_nodes (hidden-the_row-Stmt-0 xs) ≡ sum_by stmt_nodes xs
unfolding hidden hidden-the_row-Stmt-0
list_nodes-row [] = refl
list_nodes-row (x ∷ xs) = rw (sum_by-cons stmt_nodes x xs, list_nodes-row xs) refl

pub stmt_nodes_if : (e : Expr) (xs ys : List Stmt) → stmt_nodes (If e xs ys) ≡ suc (nodes e + (sum_by stmt_nodes xs + sum_by stmt_nodes ys))
unfolding hidden hidden-the_row-Stmt-0
stmt_nodes_if e xs ys = rw (← list_nodes-row xs, ← list_nodes-row ys) refl

pub stmt_nodes_repeat : (n : ℕ) (xs : List Stmt) → stmt_nodes (Repeat n xs) ≡ suc (sum_by stmt_nodes xs)
unfolding hidden hidden-the_row-Stmt-0
stmt_nodes_repeat n xs = ap suc (list_nodes-row xs)

list_weight-row : (xs : List Stmt) → list_weight (hidden-the_row-Stmt-0 xs) ≡ sum_by weight xs
unfolding hidden hidden-the_row-Stmt-0
list_weight-row [] = refl
list_weight-row (x ∷ xs) = rw (sum_by-cons weight x xs, list_weight-row xs) refl

pub weight_if : (e : Expr) (xs ys : List Stmt) → weight (If e xs ys) ≡ suc (nodes e + (sum_by weight xs + sum_by weight ys))
unfolding hidden hidden-the_row-Stmt-0
weight_if e xs ys = rw (← list_weight-row xs, ← list_weight-row ys) refl

pub weight_repeat : (n : ℕ) (xs : List Stmt) → weight (Repeat n xs) ≡ suc (n * sum_by weight xs)
unfolding hidden hidden-the_row-Stmt-0
weight_repeat n xs = ap (λ (k : ℕ). suc (n * k)) (list_weight-row xs)

list_turns_are_few-row : (edition : Edition) (xs : List Stmt) → list_turns_are_few edition (hidden-the_row-Stmt-0 xs) ≡ list_all (turns_are_few edition) xs
unfolding hidden hidden-the_row-Stmt-0
list_turns_are_few-row edition [] = refl
list_turns_are_few-row edition (x ∷ xs) = ap (λ (b : Bool). turns_are_few edition x && b) (list_turns_are_few-row edition xs)

pub turns_are_few_if : (edition : Edition) (e : Expr) (xs ys : List Stmt) → turns_are_few edition (If e xs ys) ≡ (list_all (turns_are_few edition) xs && list_all (turns_are_few edition) ys)
unfolding hidden hidden-the_row-Stmt-0
turns_are_few_if edition e xs ys = rw (← list_turns_are_few-row edition xs, ← list_turns_are_few-row edition ys) refl

pub turns_are_few_repeat : (edition : Edition) (n : ℕ) (xs : List Stmt) → turns_are_few edition (Repeat n xs) ≡ (may_repeat edition n && list_all (turns_are_few edition) xs)
unfolding hidden hidden-the_row-Stmt-0
turns_are_few_repeat edition n xs = ap (λ (b : Bool). may_repeat edition n && b) (list_turns_are_few-row edition xs)

pub ruleset branches = (effect_if, effect_repeat, throughout_if, throughout_repeat, set_behind_if, set_behind_repeat, reads_set_if, reads_set_repeat, replies_if, replies_repeat, stmt_depth_if, stmt_depth_repeat, stmt_nodes_if, stmt_nodes_repeat, weight_if, weight_repeat, turns_are_few_if, turns_are_few_repeat)
