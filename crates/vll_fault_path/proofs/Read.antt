-- A piece is what it has to be if the pieces in it are.
use Rattle.std.proofs.Common.{◌≡◌, ◌≢◌, ◌∙◌, ℕ, suc, ◌==◌, ◌&&◌, Bool, true, false, List, [], ◌∷◌, length, Option, Some, None, Result, Ok, Err, if◌then◌else◌, is_some, refl, sym, ap, subst, arith}
use Rattle.std.specs.Prelude.{codes, is_none, option_and_then, option_map}
use Rattle.std.specs.Str.{bytes_eq}
use Rattle.std.proofs.lemmas.Slice.Eq.{bytes_eq-Decides}
use Rattle.std.proofs.lemmas.Bool.{eqb-true}
use Rattle.serde_json.specs.Data.{Data, string, array, object, Items, no_items, item, Members}
use Rattle.serde_json.specs.Events.{items_len}
use Rattle.serde_json.specs.Find.{as_array, as_str, get_member}
use Rattle.vll_proc.specs.declared.syntax.Edition.{Edition}
use Rattle.vll_proc.specs.declared.syntax.Edition.TheVariants.{One, Two}
use Rattle.vll_proc.specs.declared.syntax.Expr.{Expr, Arg, Key, Local, Add, Sub, Mul, Div, Rem, Min, Max, Equal, Less}
use Rattle.vll_proc.specs.declared.syntax.KeyAt.{KeyAt}
use Rattle.vll_proc.specs.declared.syntax.KeyAt.TheVariants as at
use Rattle.vll_proc.specs.declared.syntax.Stmt.{Stmt, Let, Set, If, Abort, Reply, Repeat}
use Rattle.vll_record.specs.declared.claim.Mode.{Mode}
use Rattle.vll_core.specs.declared.event.Event.{Event}
use Rattle.vll_core.specs.declared.event.Event.TheVariants.{Find, Enter, Load, Store, Release, Finish}
use Rattle.vll_scenario.specs.Schedule.{event_at, words_with_number}
use Rattle.vll_scenario.specs.Shape.{asked_at, script_at}
use Rattle.vll_scenario.specs.Syntax.{both_of, code_at, expr_at, find_word, has_all, has_exactly, has_only, index_at, key_at, key_of, leaves, mode_at, operations, place_at, proc_at, proc_names, stmt_at, stmts_at, each_stmt}
use Rattle.vll_scenario.specs.Tree.{each, in_front, list_at, number_at, u32_at, whole}
use Rattle.vll_fault_path.specs.declared.form.Slot.{Slot}
use Rattle.vll_fault_path.specs.declared.piece.Kind.{Kind}
use Rattle.vll_fault_path.specs.declared.piece.Kind.TheVariants as kind
use Rattle.vll_fault_path.specs.declared.piece.Step.{Step}
use Rattle.vll_fault_path.specs.declared.piece.Step.TheVariants as step
use Rattle.vll_fault_path.specs.Forms.{form_of}
use Rattle.vll_fault_path.specs.PieceTests as test
use Rattle.vll_fault_path.specs.Pieces.{Piece, is_read, item_kind, items_from, pieces_behind, pieces_of_call, pieces_of_form, pieces_of_key, pieces_of_procedure, pieces_of_slots, pieces_of_words}
use Rattle.vll_fault_path.specs.Private.{all_read}
use Rattle.vll_fault_path.specs.Ways.{first_faulty}

-- ---- the items of a list

-- one more item in front
with_first : {A : Type 0} (o : Option A) (b : Bool) (others : Result (List A) ℕ) (found : Option Piece) (p : Piece) → b ≡ is_some o → is_some (whole others) ≡ is_none found
    → is_some (whole (in_front o others)) ≡ is_none (if b then found else Some p)
with_first None true others found p is on = absurd (cc)
with_first None false others found p is on = refl
with_first (Some a) true (Ok xs) found p is on = on
with_first (Some a) true (Err i) found p is on = on
with_first (Some a) false others found p is on = absurd (cc)

each_read : {A : Type 0} (edition : Edition) (list k : Kind) (f : Data → Option A) → ((d : Data) → is_read edition k d ≡ is_some (f d)) → (i : ℕ) (ds : Items)
    → is_some (whole (each f ds)) ≡ all_read edition (items_from list k i ds)
each_read edition list k f same i no_items = refl
each_read edition list k f same i (item d ds) =
    with_first (f d) (is_read edition k d) (each f ds) (first_faulty edition test.Shape (items_from list k (suc i) ds)) _ (same d) (each_read edition list k f same (suc i) ds)

-- one more statement in front
with_statement : {A : Type 0} (o : Option A) (others : Option (List A)) (found : Option Piece) (p : Piece) → is_some others ≡ is_none found
    → is_some (both_of (λ (x : A) (xs : List A). x ∷ xs) o others) ≡ is_none (if is_some o then found else Some p)
with_statement None others found p on = refl
with_statement (Some a) None found p on = on
with_statement (Some a) (Some xs) found p on = on

statements_read : (edition : Edition) (i : ℕ) (ds : Items) → is_some (each_stmt edition ds) ≡ all_read edition (items_from kind.Statements kind.Statement i ds)
statements_read edition i no_items = refl
statements_read edition i (item d ds) =
    with_statement (stmt_at edition d) (each_stmt edition ds) (first_faulty edition test.Shape (items_from kind.Statements kind.Statement (suc i) ds)) _ (statements_read edition (suc i) ds)

pub list_read : (edition : Edition) (k of : Kind) (d : Data) (ds : Items) → item_kind k ≡ Some of → as_array d ≡ Some ds → is_read edition k d ≡ all_read edition (items_from k of 0 ds)
list_read edition k of (array es) ds is items =
    let same : es ≡ ds = cc in
    subst (λ xs. is_read edition k (array es) ≡ all_read edition (items_from k of 0 xs)) same (by_kind k of es is)
  where
    with_kind : (k one of : Kind) (es : Items) → Some one ≡ Some of → is_read edition k (array es) ≡ all_read edition (items_from k one 0 es) → is_read edition k (array es) ≡ all_read edition (items_from k of 0 es)
    with_kind k one of es is read = let same : one ≡ of = cc in subst (λ kind. is_read edition k (array es) ≡ all_read edition (items_from k kind 0 es)) same read

    by_kind : (k of : Kind) (es : Items) → item_kind k ≡ Some of → is_read edition k (array es) ≡ all_read edition (items_from k of 0 es)
    by_kind kind.Records of es is = with_kind kind.Records kind.Number of es is (each_read edition kind.Records kind.Number number_at (λ d. refl) 0 es)
    by_kind kind.Arguments of es is = with_kind kind.Arguments kind.Number of es is (each_read edition kind.Arguments kind.Number number_at (λ d. refl) 0 es)
    by_kind kind.Procedures of es is = with_kind kind.Procedures kind.Procedure of es is (each_read edition kind.Procedures kind.Procedure (proc_at edition) (λ d. refl) 0 es)
    by_kind kind.Scripts of es is = with_kind kind.Scripts kind.Script of es is (each_read edition kind.Scripts kind.Script script_at (λ d. refl) 0 es)
    by_kind kind.Schedule of es is = with_kind kind.Schedule kind.Event of es is (each_read edition kind.Schedule kind.Event event_at (λ d. refl) 0 es)
    by_kind kind.Script of es is = with_kind kind.Script kind.Call of es is (each_read edition kind.Script kind.Call asked_at (λ d. refl) 0 es)
    by_kind kind.Keys of es is = with_kind kind.Keys kind.Key of es is (each_read edition kind.Keys kind.Key key_at (λ d. refl) 0 es)
    by_kind kind.Statements of es is = with_kind kind.Statements kind.Statement of es is (statements_read edition 0 es)
    by_kind _ of es is = absurd (cc)
list_read edition k of _ ds is items = absurd (cc)

pub no_list_read : (edition : Edition) (k of : Kind) (d : Data) → item_kind k ≡ Some of → as_array d ≡ None → is_read edition k d ≡ false
no_list_read edition kind.Records of d is none = rw none refl
no_list_read edition kind.Arguments of d is none = rw none refl
no_list_read edition kind.Procedures of d is none = rw none refl
no_list_read edition kind.Scripts of d is none = rw none refl
no_list_read edition kind.Schedule of d is none = rw none refl
no_list_read edition kind.Script of d is none = rw none refl
no_list_read edition kind.Keys of d is none = rw none refl
no_list_read edition kind.Statements of (array ds) is none = absurd (cc)
no_list_read edition kind.Statements of _ is none = refl
no_list_read edition _ of d is none = absurd (cc)

-- ---- members

-- what four parts make, and what two make
four_read : {A B C D E : Type 0} (x : Option A) (y : Option B) (z : Option C) (w : Option D) (make : A → B → C → D → E) (p q r s : Piece)
    → is_some (option_and_then (λ a. option_and_then (λ b. option_and_then (λ c. option_and_then (λ d. Some (make a b c d)) w) z) y) x)
    ≡ is_none (if is_some x then (if is_some y then (if is_some z then (if is_some w then None else Some s) else Some r) else Some q) else Some p)
four_read None y z w make p q r s = refl
four_read (Some a) None z w make p q r s = refl
four_read (Some a) (Some b) None w make p q r s = refl
four_read (Some a) (Some b) (Some c) None make p q r s = refl
four_read (Some a) (Some b) (Some c) (Some d) make p q r s = refl

two_read : {A B C : Type 0} (x : Option A) (y : Option B) (make : A → B → C) (p q : Piece) → is_some (both_of make x y) ≡ is_none (if is_some x then (if is_some y then None else Some q) else Some p)
two_read None y make p q = refl
two_read (Some a) None make p q = refl
two_read (Some a) (Some b) make p q = refl

three_read : {A B C D : Type 0} (x : Option A) (y : Option B) (z : Option C) (make : A → B → C → D) (p q r : Piece)
    → is_some (option_and_then (λ a. option_and_then (λ b. option_and_then (λ c. Some (make a b c)) z) y) x) ≡ is_none (if is_some x then (if is_some y then (if is_some z then None else Some r) else Some q) else Some p)
three_read None y z make p q r = refl
three_read (Some a) None z make p q r = refl
three_read (Some a) (Some b) None make p q r = refl
three_read (Some a) (Some b) (Some c) make p q r = refl

one_read : {A B : Type 0} (x : Option A) (make : A → B) (p : Piece) → is_some (option_map make x) ≡ is_none (if is_some x then None else Some p)
one_read None make p = refl
one_read (Some a) make p = refl

-- what is there
there : {A : Type 0} (o : Option A) (others : Bool) → (is_some o && others) ≡ true → ((a : A) × (o ≡ Some a)) × (others ≡ true)
there None others is = absurd (cc)
there (Some a) others is = ((a, refl), is)

left_holds : (a b : Bool) → (a && b) ≡ true → a ≡ true
left_holds true b is = refl
left_holds false b is = absurd (cc)

with_members : (edition : Edition) (ms : Members) (n a k b : Data) → has_exactly proc_names (object ms) ≡ true → get_member (codes "name") ms ≡ Some n → get_member (codes "args") ms ≡ Some a → get_member (codes "keys") ms ≡ Some k → get_member (codes "body") ms ≡ Some b
    → is_read edition kind.Procedure (object ms) ≡ all_read edition (pieces_of_procedure (object ms))
with_members edition ms n a k b has name args keys body = rw (has, name, args, keys, body) (four_read (as_str n) (index_at a) (whole (list_at key_at k)) (stmts_at edition b) _ _ _ _ _)

pub procedure_read : (edition : Edition) (d : Data) → pieces_of_procedure d ≢ [] → is_read edition kind.Procedure d ≡ all_read edition (pieces_of_procedure d)
procedure_read edition d some = by_form (has_exactly proc_names d) refl
  where
    by_data : (d : Data) → has_exactly proc_names d ≡ true → is_read edition kind.Procedure d ≡ all_read edition (pieces_of_procedure d)
    by_data (object ms) has =
        let name = there (get_member (codes "name") ms) _ (left_holds (has_all proc_names ms) (has_only proc_names ms) has) in
        let args = there (get_member (codes "args") ms) _ name.1 in
        let keys = there (get_member (codes "keys") ms) _ args.1 in
        let body = there (get_member (codes "body") ms) _ keys.1 in
        with_members edition ms name.0.0 args.0.0 keys.0.0 body.0.0 has name.0.1 args.0.1 keys.0.1 body.0.1
    by_data _ has = absurd (cc)

    by_form : (b : Bool) → has_exactly proc_names d ≡ b → is_read edition kind.Procedure d ≡ all_read edition (pieces_of_procedure d)
    by_form true has = by_data d has
    by_form false has = absurd (some (rw has refl))

with_two : (edition : Edition) (ms : Members) (n a : Data) → has_exactly (codes "proc" ∷ codes "args" ∷ []) (object ms) ≡ true → get_member (codes "proc") ms ≡ Some n → get_member (codes "args") ms ≡ Some a
    → is_read edition kind.Call (object ms) ≡ all_read edition (pieces_of_call (object ms))
with_two edition ms n a has name args = rw (has, name, args) (two_read (as_str n) (whole (list_at number_at a)) _ _ _)

pub call_read : (edition : Edition) (d : Data) → pieces_of_call d ≢ [] → is_read edition kind.Call d ≡ all_read edition (pieces_of_call d)
call_read edition d some = by_form (has_exactly (codes "proc" ∷ codes "args" ∷ []) d) refl
  where
    by_data : (d : Data) → has_exactly (codes "proc" ∷ codes "args" ∷ []) d ≡ true → is_read edition kind.Call d ≡ all_read edition (pieces_of_call d)
    by_data (object ms) has =
        let name = there (get_member (codes "proc") ms) _ (left_holds (has_all (codes "proc" ∷ codes "args" ∷ []) ms) (has_only (codes "proc" ∷ codes "args" ∷ []) ms) has) in
        let args = there (get_member (codes "args") ms) _ name.1 in
        with_two edition ms name.0.0 args.0.0 has name.0.1 args.0.1
    by_data _ has = absurd (cc)

    by_form : (b : Bool) → has_exactly (codes "proc" ∷ codes "args" ∷ []) d ≡ b → is_read edition kind.Call d ≡ all_read edition (pieces_of_call d)
    by_form true has = by_data d has
    by_form false has = absurd (some (rw has refl))

-- ---- what follows a word

-- a fact about one word, or about the others
of_word : (F : List ℕ → Type 0) (word one : List ℕ) → F one → (bytes_eq word one ≡ false → F word) → F word
of_word F word one here others = by_test (bytes_eq word one) refl
  where
    by_test : (b : Bool) → bytes_eq word one ≡ b → F word
    by_test true is = subst F (sym ((bytes_eq-Decides word one).0 is)) here
    by_test false is = others is

-- if there are pieces, there are as many as slots
as_many : (slots : List Slot) (ds : Items) → pieces_of_slots slots ds ≢ [] → (length slots ≡ items_len ds) × (pieces_of_slots slots ds ≡ pieces_behind slots ds)
as_many slots ds some = by_test (length slots == items_len ds) refl
  where
    by_test : (b : Bool) → (length slots == items_len ds) ≡ b → (length slots ≡ items_len ds) × (pieces_of_slots slots ds ≡ pieces_behind slots ds)
    by_test true is = (eqb-true (length slots) (items_len ds) is, rw is refl)
    by_test false is = absurd (some (rw is refl))

-- a list whose first item is a word is read if the pieces behind the word are
abbrev WordIsRead : Edition → Kind → List ℕ → Type 0
WordIsRead edition k word = (ds : Items) → length (form_of edition k word) ≡ items_len ds → pieces_behind (form_of edition k word) ds ≢ []
    → is_read edition k (array (item (string word) ds)) ≡ all_read edition (pieces_behind (form_of edition k word) ds)

-- a word that has no form
unknown : (edition : Edition) (k : Kind) (word : List ℕ) → form_of edition k word ≡ [] → WordIsRead edition k word
unknown edition k word none ds many some = absurd (some (rw none refl))

module _ (edition : Edition) where
  leaf_read : (word : List ℕ) (make : ℕ → Expr) → form_of edition kind.Expression word ≡ (record { step = step.Index; kind = kind.Index }) ∷ [] → find_word word leaves ≡ Some make → bytes_eq word (codes "not") ≡ false
      → WordIsRead edition kind.Expression word
  leaf_read word make form found other no_items many some = absurd (some (rw form refl))
  leaf_read word make form found other (item d no_items) many some = rw (form, other, found) (one_read (index_at d) make _)
  leaf_read word make form found other (item d (item e ds)) many some = absurd (omega (arith, rw form at many))

  not_read : WordIsRead edition kind.Expression (codes "not")
  not_read no_items many some = absurd (some refl)
  not_read (item d no_items) many some = one_read (expr_at d) _ _
  not_read (item d (item e ds)) many some = absurd (omega (arith, many))

  operation_read : (word : List ℕ) (make : Expr → Expr → Expr)
      → form_of edition kind.Expression word ≡ (record { step = step.LeftOperand; kind = kind.Expression }) ∷ (record { step = step.RightOperand; kind = kind.Expression }) ∷ []
      → find_word word operations ≡ Some make → WordIsRead edition kind.Expression word
  operation_read word make form found no_items many some = absurd (some (rw form refl))
  operation_read word make form found (item d no_items) many some = absurd (omega (arith, rw form at many))
  operation_read word make form found (item d (item e no_items)) many some = rw (form, found) (two_read (expr_at d) (expr_at e) make _ _)
  operation_read word make form found (item d (item e (item f ds))) many some = absurd (omega (arith, rw form at many))

  expression_word : (word : List ℕ) → WordIsRead edition kind.Expression word
  expression_word word =
      of_word (WordIsRead edition kind.Expression) word (codes "arg") (leaf_read (codes "arg") Arg refl refl refl) (λ a.
      of_word (WordIsRead edition kind.Expression) word (codes "key") (leaf_read (codes "key") Key refl refl refl) (λ b.
      of_word (WordIsRead edition kind.Expression) word (codes "local") (leaf_read (codes "local") Local refl refl refl) (λ c.
      of_word (WordIsRead edition kind.Expression) word (codes "add") (operation_read (codes "add") Add refl refl) (λ d.
      of_word (WordIsRead edition kind.Expression) word (codes "sub") (operation_read (codes "sub") Sub refl refl) (λ e.
      of_word (WordIsRead edition kind.Expression) word (codes "mul") (operation_read (codes "mul") Mul refl refl) (λ f.
      of_word (WordIsRead edition kind.Expression) word (codes "div") (operation_read (codes "div") Div refl refl) (λ g.
      of_word (WordIsRead edition kind.Expression) word (codes "rem") (operation_read (codes "rem") Rem refl refl) (λ h.
      of_word (WordIsRead edition kind.Expression) word (codes "min") (operation_read (codes "min") Min refl refl) (λ i.
      of_word (WordIsRead edition kind.Expression) word (codes "max") (operation_read (codes "max") Max refl refl) (λ j.
      of_word (WordIsRead edition kind.Expression) word (codes "equal") (operation_read (codes "equal") Equal refl refl) (λ k.
      of_word (WordIsRead edition kind.Expression) word (codes "less") (operation_read (codes "less") Less refl refl) (λ l.
      of_word (WordIsRead edition kind.Expression) word (codes "not") not_read (λ m. unknown edition kind.Expression word (rw (a, b, c, d, e, f, g, h, i, j, k, l, m) refl))))))))))))))

  assignment_read : (word : List ℕ) (make : ℕ → Expr → Stmt) → form_of edition kind.Statement word ≡ (record { step = step.Index; kind = kind.Index }) ∷ (record { step = step.Value; kind = kind.Expression }) ∷ []
      → ((d e : Data) → stmt_at edition (array (item (string word) (item d (item e no_items)))) ≡ both_of make (index_at d) (expr_at e)) → WordIsRead edition kind.Statement word
  assignment_read word make form at no_items many some = absurd (some (rw form refl))
  assignment_read word make form at (item d no_items) many some = absurd (omega (arith, rw form at many))
  assignment_read word make form at (item d (item e no_items)) many some = rw form (ap is_some (at d e) ∙ two_read (index_at d) (expr_at e) make _ _)
  assignment_read word make form at (item d (item e (item f ds))) many some = absurd (omega (arith, rw form at many))

  abort_read : WordIsRead edition kind.Statement (codes "abort")
  abort_read no_items many some = absurd (some refl)
  abort_read (item d no_items) many some = one_read (code_at d) Abort _
  abort_read (item d (item e ds)) many some = absurd (omega (arith, many))

  reply_read : WordIsRead edition kind.Statement (codes "reply")
  reply_read no_items many some = absurd (some refl)
  reply_read (item d no_items) many some = one_read (expr_at d) Reply _
  reply_read (item d (item e ds)) many some = absurd (omega (arith, many))

  branch_read : WordIsRead edition kind.Statement (codes "if")
  branch_read no_items many some = absurd (some refl)
  branch_read (item d no_items) many some = absurd (omega (arith, many))
  branch_read (item d (item e no_items)) many some = absurd (omega (arith, many))
  branch_read (item d (item e (item f no_items))) many some = three_read (expr_at d) (stmts_at edition e) (stmts_at edition f) If _ _ _
  branch_read (item d (item e (item f (item g ds)))) many some = absurd (omega (arith, many))

repeat_read : (edition : Edition) → WordIsRead edition kind.Statement (codes "repeat")
repeat_read One ds many some = absurd (some refl)
repeat_read Two no_items many some = absurd (some refl)
repeat_read Two (item d no_items) many some = absurd (omega (arith, many))
repeat_read Two (item d (item e no_items)) many some = two_read (index_at d) (stmts_at Two e) Repeat _ _
repeat_read Two (item d (item e (item f ds))) many some = absurd (omega (arith, many))

statement_word : (edition : Edition) (word : List ℕ) → WordIsRead edition kind.Statement word
statement_word edition word =
    of_word (WordIsRead edition kind.Statement) word (codes "let") (assignment_read edition (codes "let") Let refl (λ d e. refl)) (λ a.
    of_word (WordIsRead edition kind.Statement) word (codes "set") (assignment_read edition (codes "set") Set refl (λ d e. refl)) (λ b.
    of_word (WordIsRead edition kind.Statement) word (codes "if") (branch_read edition) (λ c.
    of_word (WordIsRead edition kind.Statement) word (codes "abort") (abort_read edition) (λ d.
    of_word (WordIsRead edition kind.Statement) word (codes "reply") (reply_read edition) (λ e.
    of_word (WordIsRead edition kind.Statement) word (codes "repeat") (repeat_read edition) (λ f. unknown edition kind.Statement word (rw (a, b, c, d, e, f) refl)))))))

-- ---- events

module _ (edition : Edition) where
  alone_read : (word : List ℕ) → form_of edition kind.Event word ≡ [] → WordIsRead edition kind.Event word
  alone_read word none = unknown edition kind.Event word none

  number_read : (word : List ℕ) (s : Step) (make : ℕ → Event) → form_of edition kind.Event word ≡ (record { step = s; kind = kind.Whole }) ∷ [] → find_word word words_with_number ≡ Some make → WordIsRead edition kind.Event word
  number_read word s make form found no_items many some = absurd (some (rw form refl))
  number_read word s make form found (item d no_items) many some = rw (form, found) (one_read (u32_at d) make _)
  number_read word s make form found (item d (item e ds)) many some = absurd (omega (arith, rw form at many))

  event_word : (word : List ℕ) → WordIsRead edition kind.Event word
  event_word word =
      of_word (WordIsRead edition kind.Event) word (codes "find") (number_read (codes "find") step.Client Find refl refl) (λ a.
      of_word (WordIsRead edition kind.Event) word (codes "enter") (number_read (codes "enter") step.Client Enter refl refl) (λ b.
      of_word (WordIsRead edition kind.Event) word (codes "claim") (alone_read (codes "claim") refl) (λ c.
      of_word (WordIsRead edition kind.Event) word (codes "admit") (alone_read (codes "admit") refl) (λ d.
      of_word (WordIsRead edition kind.Event) word (codes "front") (alone_read (codes "front") refl) (λ e.
      of_word (WordIsRead edition kind.Event) word (codes "scan") (alone_read (codes "scan") refl) (λ f.
      of_word (WordIsRead edition kind.Event) word (codes "load") (number_read (codes "load") step.Ticket Load refl refl) (λ g.
      of_word (WordIsRead edition kind.Event) word (codes "store") (number_read (codes "store") step.Ticket Store refl refl) (λ h.
      of_word (WordIsRead edition kind.Event) word (codes "release") (number_read (codes "release") step.Ticket Release refl refl) (λ i.
      of_word (WordIsRead edition kind.Event) word (codes "finish") (number_read (codes "finish") step.Ticket Finish refl refl) (λ j. unknown edition kind.Event word (rw (a, b, c, d, e, f, g, h, i, j) refl)))))))))))

-- ---- keys

-- a key of a mode and a place is read if what follows its place is
abbrev PlaceIsRead : Edition → List ℕ → List ℕ → Type 0
PlaceIsRead edition mode word = (ds : Items) → length (form_of edition kind.Key word) ≡ items_len ds → pieces_behind (form_of edition kind.Key word) ds ≢ []
    → is_read edition kind.Key (array (item (string mode) (item (string word) ds))) ≡ all_read edition (pieces_behind (form_of edition kind.Key word) ds)

module _ (edition : Edition) (mode : List ℕ) (m : Mode) (is : mode_at mode ≡ Some m) where
  placed : {A : Type 0} (x : Option A) (make : A → KeyAt) (p : Piece) → is_some (both_of key_of (Some m) (option_map make x)) ≡ is_none (if is_some x then None else Some p)
  placed None make p = refl
  placed (Some a) make p = refl

  no_place : (word : List ℕ) → form_of edition kind.Key word ≡ [] → PlaceIsRead edition mode word
  no_place word none ds many some = absurd (some (rw none refl))

  index_read : (word : List ℕ) (make : ℕ → KeyAt) → form_of edition kind.Key word ≡ (record { step = step.Index; kind = kind.Index }) ∷ [] → ((d : Data) → place_at word d ≡ option_map make (index_at d)) → PlaceIsRead edition mode word
  index_read word make form at no_items many some = absurd (some (rw form refl))
  index_read word make form at (item d no_items) many some = rw (form, is, at d) (placed (index_at d) make _)
  index_read word make form at (item d (item e ds)) many some = absurd (omega (arith, rw form at many))

  record_read : PlaceIsRead edition mode (codes "fixed")
  record_read no_items many some = absurd (some refl)
  record_read (item d no_items) many some = rw is (placed (u32_at d) at.Fixed _)
  record_read (item d (item e ds)) many some = absurd (omega (arith, many))

  place_read : (word : List ℕ) → PlaceIsRead edition mode word
  place_read word =
      of_word (PlaceIsRead edition mode) word (codes "arg") (index_read (codes "arg") at.Arg refl (λ d. refl)) (λ a.
      of_word (PlaceIsRead edition mode) word (codes "fixed") record_read (λ b.
      of_word (PlaceIsRead edition mode) word (codes "through") (index_read (codes "through") at.Through refl (λ d. refl)) (λ c. no_place word (rw (a, b, c) refl))))

-- ---- each piece that has pieces in it

module _ (edition : Edition) where
  slots_read : (k : Kind) (word : List ℕ) (ds : Items) → WordIsRead edition k word → pieces_of_slots (form_of edition k word) ds ≢ []
      → is_read edition k (array (item (string word) ds)) ≡ all_read edition (pieces_of_slots (form_of edition k word) ds)
  slots_read k word ds read some =
      let many = as_many (form_of edition k word) ds some in
      read ds many.0 (λ none. some (many.1 ∙ none)) ∙ ap (all_read edition) (sym many.1)

  words_read : (k : Kind) (d : Data) → ((word : List ℕ) → WordIsRead edition k word) → pieces_of_words edition k d ≢ [] → is_read edition k d ≡ all_read edition (pieces_of_words edition k d)
  words_read k (array (item (string word) ds)) read some = slots_read k word ds (read word) some
  words_read k _ read some = absurd (some refl)

  no_slots : (ds : Items) → pieces_of_slots [] ds ≡ []
  no_slots ds = either (0 == items_len ds) []
    where
      either : (b : Bool) (ps : List Piece) → (if b then ps else ps) ≡ ps
      either true ps = refl
      either false ps = refl

  pub no_words : (k : Kind) (d : Data) → ((word : List ℕ) → form_of edition k word ≡ []) → pieces_of_words edition k d ≡ []
  no_words k (array (item (string word) ds)) none = rw (none word) (no_slots ds)
  no_words k _ none = refl

  key_read : (d : Data) → pieces_of_key edition d ≢ [] → is_read edition kind.Key d ≡ all_read edition (pieces_of_key edition d)
  key_read (array (item (string mode) (item (string word) ds))) some = by_mode (mode_at mode) refl
    where
      by_mode : (m : Option Mode) → mode_at mode ≡ m
          → is_read edition kind.Key (array (item (string mode) (item (string word) ds))) ≡ all_read edition (pieces_of_key edition (array (item (string mode) (item (string word) ds))))
      by_mode None is = absurd (some (rw is refl))
      by_mode (Some m) is =
          let here : pieces_of_key edition (array (item (string mode) (item (string word) ds))) ≡ pieces_of_slots (form_of edition kind.Key word) ds = rw is refl in
          let many = as_many (form_of edition kind.Key word) ds (λ none. some (here ∙ none)) in
          place_read edition mode m is word ds many.0 (λ none. some (here ∙ many.1 ∙ none)) ∙ ap (all_read edition) (sym (here ∙ many.1))
  key_read (array (item (string mode) (item _ ds))) some = absurd (some refl)
  key_read (array (item _ (item word ds))) some = absurd (some refl)
  key_read (array (item _ no_items)) some = absurd (some refl)
  key_read _ some = absurd (some refl)

  pub form_read : (k : Kind) (d : Data) → item_kind k ≡ None → pieces_of_form edition k d ≢ [] → is_read edition k d ≡ all_read edition (pieces_of_form edition k d)
  form_read kind.Procedure d is some = procedure_read edition d some
  form_read kind.Call d is some = call_read edition d some
  form_read kind.Key d is some = key_read d some
  form_read kind.Statement d is some = words_read kind.Statement d (statement_word edition) some
  form_read kind.Expression d is some = words_read kind.Expression d (expression_word edition) some
  form_read kind.Event d is some = words_read kind.Event d (event_word edition) some
  form_read kind.Version d is some = absurd (some (no_words kind.Version d (λ word. refl)))
  form_read kind.Number d is some = absurd (some (no_words kind.Number d (λ word. refl)))
  form_read kind.Whole d is some = absurd (some (no_words kind.Whole d (λ word. refl)))
  form_read kind.Index d is some = absurd (some (no_words kind.Index d (λ word. refl)))
  form_read kind.Code d is some = absurd (some (no_words kind.Code d (λ word. refl)))
  form_read kind.Text d is some = absurd (some (no_words kind.Text d (λ word. refl)))
  form_read kind.Hash d is some = absurd (some (no_words kind.Hash d (λ word. refl)))
  form_read _ d is some = absurd (cc)
