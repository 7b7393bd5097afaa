-- What lists are as forms: their items by number, and none if a list has another length than a form has.
use Rattle.std.proofs.Common.{◌≡◌, ◌≢◌, ℕ, List, [], ◌∷◌, length, map, get_or, Option, Some, None, Vec, Global, refl, ap, ◌∙◌, arith}
use Rattle.std.specs.Prelude.{codes, option_and_then, option_map}
use Rattle.std.specs.Str.{bytes_eq}
use Rattle.std.proofs.lemmas.Bool.{cond-true, cond-false, false_from_ne_true}
use Rattle.std.proofs.lemmas.Slice.Eq.{bytes_eq-Decides}
use Rattle.serde_json.specs.Data.{Data, string, array, no_items, item}
use Rattle.serde_json.specs.Find.{as_str}
use Rattle.serde_json.specs.View.{items_of, items_view, view}
use Rattle.serde_json.specs.declared.value.Value.{Value, Array}
use Rattle.serde_json.proofs.Views.{view-Array}
use Rattle.std.proofs.lemmas.List.{length-map}
use Rattle.vll_proc.specs.declared.syntax.Edition.{Edition}
use Rattle.vll_scenario.specs.Schedule.{event_at}
use Rattle.vll_proc.specs.declared.syntax.Expr.{Expr, Not}
use Rattle.vll_proc.specs.declared.syntax.Stmt.{Stmt}
use Rattle.vll_scenario.specs.Syntax.{both_of, branch, expr_at, find_word, index_at, key_at, leaf, let_or_set, operation, operations, repeat, stmt_at, stmts_at}

-- ---- the items of a list of one, two, three or four

one : (vs : List Value) (a : Value) → length vs ≡ 1 → a ≡ get_or vs 0 a → items_view vs ≡ item (view a) no_items
one [] a n first = absurd (omega arith)
one (x ∷ []) a n first = cc
one (x ∷ y ∷ vs) a n first = absurd (omega arith)

two : (vs : List Value) (a b : Value) → length vs ≡ 2 → a ≡ get_or vs 0 a → b ≡ get_or vs 1 b → items_view vs ≡ item (view a) (item (view b) no_items)
two [] a b n first second = absurd (omega arith)
two (x ∷ []) a b n first second = absurd (omega arith)
two (x ∷ y ∷ []) a b n first second = cc
two (x ∷ y ∷ z ∷ vs) a b n first second = absurd (omega arith)

three : (vs : List Value) (a b c : Value) → length vs ≡ 3 → a ≡ get_or vs 0 a → b ≡ get_or vs 1 b → c ≡ get_or vs 2 c → items_view vs ≡ item (view a) (item (view b) (item (view c) no_items))
three [] a b c n first second third = absurd (omega arith)
three (x ∷ []) a b c n first second third = absurd (omega arith)
three (x ∷ y ∷ []) a b c n first second third = absurd (omega arith)
three (x ∷ y ∷ z ∷ []) a b c n first second third = cc
three (x ∷ y ∷ z ∷ u ∷ vs) a b c n first second third = absurd (omega arith)

four : (vs : List Value) (a b c d : Value) → length vs ≡ 4 → a ≡ get_or vs 0 a → b ≡ get_or vs 1 b → c ≡ get_or vs 2 c → d ≡ get_or vs 3 d → items_view vs ≡ item (view a) (item (view b) (item (view c) (item (view d) no_items)))
four [] a b c d n first second third fourth = absurd (omega arith)
four (x ∷ []) a b c d n first second third fourth = absurd (omega arith)
four (x ∷ y ∷ []) a b c d n first second third fourth = absurd (omega arith)
four (x ∷ y ∷ z ∷ []) a b c d n first second third fourth = absurd (omega arith)
four (x ∷ y ∷ z ∷ u ∷ []) a b c d n first second third fourth = cc
four (x ∷ y ∷ z ∷ u ∷ v ∷ vs) a b c d n first second third fourth = absurd (omega arith)

pub as_str-string : (d : Data) (s : List ℕ) → as_str d ≡ Some s → d ≡ string s
as_str-string (string t) s is = cc
as_str-string _ s is = cc

pub view-two : (v : Value) (list : Vec Value Global) (a b : Value) → v ≡ Array list → length list.items ≡ 2 → a ≡ get_or list.items 0 a → b ≡ get_or list.items 1 b → view v ≡ array (item (view a) (item (view b) no_items))
view-two v list a b is n first second = ap view is ∙ view-Array list ∙ ap array (two list.items a b n first second)

pub view-three : (v : Value) (list : Vec Value Global) (a b c : Value) → v ≡ Array list → length list.items ≡ 3 → a ≡ get_or list.items 0 a → b ≡ get_or list.items 1 b → c ≡ get_or list.items 2 c → view v ≡ array (item (view a) (item (view b) (item (view c) no_items)))
view-three v list a b c is n first second third = ap view is ∙ view-Array list ∙ ap array (three list.items a b c n first second third)

pub view-four : (v : Value) (list : Vec Value Global) (a b c d : Value) → v ≡ Array list → length list.items ≡ 4 → a ≡ get_or list.items 0 a → b ≡ get_or list.items 1 b → c ≡ get_or list.items 2 c → d ≡ get_or list.items 3 d → view v ≡ array (item (view a) (item (view b) (item (view c) (item (view d) no_items))))
view-four v list a b c d is n first second third fourth = ap view is ∙ view-Array list ∙ ap array (four list.items a b c d n first second third fourth)

pub view-one : (v : Value) (list : Vec Value Global) (a : Value) → v ≡ Array list → length list.items ≡ 1 → a ≡ get_or list.items 0 a → view v ≡ array (item (view a) no_items)
view-one v list a is n first = ap view is ∙ view-Array list ∙ ap array (one list.items a n first)

-- ---- a word with one item

pub expr_at-not : (word : List ℕ) (d : Data) → word ≡ codes "not" → expr_at (array (item (string word) (item d no_items))) ≡ option_map Not (expr_at d)
expr_at-not word d is = cond-true (bytes_eq word (codes "not")) _ _ ((bytes_eq-Decides word (codes "not")).1 is)

pub expr_at-other_word : (word : List ℕ) (d : Data) → word ≢ codes "not" → expr_at (array (item (string word) (item d no_items))) ≡ leaf word (index_at d)
expr_at-other_word word d other =
    cond-false (bytes_eq word (codes "not")) _ _ (false_from_ne_true (bytes_eq word (codes "not")) (λ same. other ((bytes_eq-Decides word (codes "not")).0 same)))

-- ---- a word with two items

pub stmt_at-repeat : (edition : Edition) (word : List ℕ) (d e : Data) → word ≡ codes "repeat" → stmt_at edition (array (item (string word) (item d (item e no_items)))) ≡ repeat edition (index_at d) (stmts_at edition e)
stmt_at-repeat edition word d e is = cond-true (bytes_eq word (codes "repeat")) _ _ ((bytes_eq-Decides word (codes "repeat")).1 is)

pub stmt_at-other_word : (edition : Edition) (word : List ℕ) (d e : Data) → word ≢ codes "repeat" → stmt_at edition (array (item (string word) (item d (item e no_items)))) ≡ let_or_set word d e
stmt_at-other_word edition word d e other =
    cond-false (bytes_eq word (codes "repeat")) _ _ (false_from_ne_true (bytes_eq word (codes "repeat")) (λ same. other ((bytes_eq-Decides word (codes "repeat")).0 same)))

-- ---- an operation or an `if` that lacks something

pub operation-no_left : (word : List ℕ) (left right : Option Expr) → left ≡ None → operation word left right ≡ None
operation-no_left word left right none = rw none (without_left (find_word word operations))
  where
    without_left : (make : Option (Expr → Expr → Expr)) → option_and_then (λ f. both_of f None right) make ≡ None
    without_left None = refl
    without_left (Some f) = refl

pub operation-no_right : (word : List ℕ) (left right : Option Expr) → right ≡ None → operation word left right ≡ None
operation-no_right word left right none = rw none (without_right left (find_word word operations))
  where
    without_right : (left : Option Expr) (make : Option (Expr → Expr → Expr)) → option_and_then (λ f. both_of f left None) make ≡ None
    without_right left None = refl
    without_right None (Some f) = refl
    without_right (Some e) (Some f) = refl

pub branch-other_word : (word : List ℕ) (test : Option Expr) (first second : Option (List Stmt)) → word ≢ codes "if" → branch word test first second ≡ None
branch-other_word word None first second other = refl
branch-other_word word (Some e) None second other = refl
branch-other_word word (Some e) (Some xs) None other = refl
branch-other_word word (Some e) (Some xs) (Some ys) other =
    cond-false (bytes_eq word (codes "if")) _ _ (false_from_ne_true (bytes_eq word (codes "if")) (λ same. other ((bytes_eq-Decides word (codes "if")).0 same)))

pub branch-no_first : (word : List ℕ) (test : Option Expr) (second : Option (List Stmt)) → branch word test None second ≡ None
branch-no_first word None second = refl
branch-no_first word (Some e) second = refl

pub branch-no_second : (word : List ℕ) (test : Option Expr) (first second : Option (List Stmt)) → second ≡ None → branch word test first second ≡ None
branch-no_second word None first second none = refl
branch-no_second word (Some e) None second none = refl
branch-no_second word (Some e) (Some xs) second none = rw none

-- ---- lists of another length

other_expr : (ds : List Data) → length ds ≢ 2 → length ds ≢ 3 → expr_at (array (items_of ds)) ≡ None
other_expr [] two three = refl
other_expr (string s ∷ []) two three = refl
other_expr (_ ∷ []) two three = refl
other_expr (d ∷ e ∷ []) two three = absurd (two (omega arith))
other_expr (d ∷ e ∷ f ∷ []) two three = absurd (three (omega arith))
other_expr (string s ∷ e ∷ f ∷ g ∷ ds) two three = refl
other_expr (_ ∷ e ∷ f ∷ g ∷ ds) two three = refl

pub expr_at-other_length : (v : Value) (list : Vec Value Global) → v ≡ Array list → length list.items ≢ 2 → length list.items ≢ 3 → expr_at (view v) ≡ None
expr_at-other_length v list is two three =
    let same = length-map list.items view in
    ap expr_at (ap view is ∙ view-Array list) ∙ other_expr (map view list.items) (λ e. two (omega arith)) (λ e. three (omega arith))

other_stmt : (edition : Edition) (ds : List Data) → length ds ≢ 2 → length ds ≢ 3 → length ds ≢ 4 → stmt_at edition (array (items_of ds)) ≡ None
other_stmt edition [] two three four = refl
other_stmt edition (string s ∷ []) two three four = refl
other_stmt edition (_ ∷ []) two three four = refl
other_stmt edition (d ∷ e ∷ []) two three four = absurd (two (omega arith))
other_stmt edition (d ∷ e ∷ f ∷ []) two three four = absurd (three (omega arith))
other_stmt edition (d ∷ e ∷ f ∷ g ∷ []) two three four = absurd (four (omega arith))
other_stmt edition (string s ∷ e ∷ f ∷ g ∷ h ∷ ds) two three four = refl
other_stmt edition (_ ∷ e ∷ f ∷ g ∷ h ∷ ds) two three four = refl

pub stmt_at-other_length : (edition : Edition) (v : Value) (list : Vec Value Global) → v ≡ Array list → length list.items ≢ 2 → length list.items ≢ 3 → length list.items ≢ 4 → stmt_at edition (view v) ≡ None
stmt_at-other_length edition v list is two three four =
    let same = length-map list.items view in
    ap (stmt_at edition) (ap view is ∙ view-Array list) ∙ other_stmt edition (map view list.items) (λ e. two (omega arith)) (λ e. three (omega arith)) (λ e. four (omega arith))

other_key : (ds : List Data) → length ds ≢ 3 → key_at (array (items_of ds)) ≡ None
other_key [] three = refl
other_key (string s ∷ []) three = refl
other_key (_ ∷ []) three = refl
other_key (string s ∷ string t ∷ []) three = refl
other_key (string s ∷ _ ∷ []) three = refl
other_key (_ ∷ e ∷ []) three = refl
other_key (d ∷ e ∷ f ∷ []) three = absurd (three (omega arith))
other_key (string s ∷ string t ∷ f ∷ g ∷ ds) three = refl
other_key (string s ∷ _ ∷ f ∷ g ∷ ds) three = refl
other_key (_ ∷ e ∷ f ∷ g ∷ ds) three = refl

pub key_at-other_length : (v : Value) (list : Vec Value Global) → v ≡ Array list → length list.items ≢ 3 → key_at (view v) ≡ None
key_at-other_length v list is three =
    let same = length-map list.items view in
    ap key_at (ap view is ∙ view-Array list) ∙ other_key (map view list.items) (λ e. three (omega arith))

other_event : (ds : List Data) → length ds ≢ 1 → length ds ≢ 2 → event_at (array (items_of ds)) ≡ None
other_event [] one two = refl
other_event (d ∷ []) one two = absurd (one (omega arith))
other_event (d ∷ e ∷ []) one two = absurd (two (omega arith))
other_event (string s ∷ e ∷ f ∷ ds) one two = refl
other_event (_ ∷ e ∷ f ∷ ds) one two = refl

pub event_at-other_length : (v : Value) (list : Vec Value Global) → v ≡ Array list → length list.items ≢ 1 → length list.items ≢ 2 → event_at (view v) ≡ None
event_at-other_length v list is one two =
    let same = length-map list.items view in
    ap event_at (ap view is ∙ view-Array list) ∙ other_event (map view list.items) (λ e. one (omega arith)) (λ e. two (omega arith))
