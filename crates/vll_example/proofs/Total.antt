-- The bank's procedures keep the total of its accounts.
use Rattle.std.proofs.Common.{◌≡◌, ◌⊎◌, inl, inr, ℕ, zero, suc, ◌+◌, ◌-◌, ◌<◌, ◌≤◌, ◌^◌, Bool, true, false, nat_lt, ◌==◌, List, [], ◌∷◌, ◌++◌, map, length, refl, sym, ap, ◌∙◌, subst, arith, Option, Some, None, Result, Ok, Err, is_some, slice_get, slice_index, slice_set, All, sum, length-set, if◌then◌else◌}
use Rattle.std.specs.List.{list_all}
use Rattle.std.proofs.lemmas.Option.{same_Some}
use Rattle.std.proofs.lemmas.List.Elements.{All-map, All-weaker}
use Rattle.std.proofs.lemmas.List.Sums.{sum_by-set}
use denote.Hole.Carrier.{hidden}
use Rattle.vll_proc.specs.declared.call.Call.{Call}
use Rattle.vll_proc.specs.declared.call.Reason.{Reason}
use Rattle.vll_proc.specs.declared.call.Reason.TheVariants.{Overflow, Underflow}
use Rattle.vll_proc.specs.declared.syntax.Expr.TheBlock.{hidden-the_row-Expr-0}
use Rattle.vll_proc.specs.declared.syntax.Stmt.TheBlock.{hidden-the_row-Stmt-0}
use Rattle.vll_proc.specs.declared.syntax.Proc.{Proc}
use Rattle.vll_proc.specs.Headline.Made.{call_of}
use Rattle.vll_proc.specs.Headline.Meaning.{Action, Scene, and_then, effect, in_turn, opening_scene, source_of, truth}
use Rattle.vll_proc.specs.Headline.Serial.{after, applied, applied_at}
use Rattle.vll_proc.specs.Serial.{Keeps}
use Rattle.vll_proc.proofs.Kept.{length-applied}
use Rattle.vll_check.specs.Calls.{IsReady, place_is_there}
use Rattle.vll_check.specs.Headline.Catalog.{Catalog}
use Rattle.vll_check.proofs.Fitting.{fits_made, found_of}
use Rattle.vll_core.specs.declared.line.Line.{Line}
use Rattle.vll_core.proofs.Tests.{both_true, lt_no, lt_yes}
use Rattle.vll_counters.specs.Headline.Views.{calls_in}
use Rattle.vll_example.specs.Bank.{HoldInTotal, procedures, sum_body, sum_of_two, transfer, transfer_body}

-- what is taken from one place is added to another
moved : (xs : List ℕ) (i j a : ℕ) → i < length xs → j < length xs → a ≤ slice_index xs i
    → sum (slice_set (slice_set xs i (slice_index xs i - a)) j (slice_index (slice_set xs i (slice_index xs i - a)) j + a)) ≡ sum xs
moved xs i j a from to enough =
    let ys : List ℕ = slice_set xs i (slice_index xs i - a) in
    let long = length-set xs i (slice_index xs i - a) in
    let taken = sum_by-set (λ (x : ℕ). x) xs i (slice_index xs i - a) 0 from in
    let put = sum_by-set (λ (x : ℕ). x) ys j (slice_index ys j + a) 0 (omega (arith, long, to)) in
    omega (arith, taken, put, enough)

-- an abort leaves the records, and so does a call that is aborted before a step or in it
module _ (s : Scene) where
  abbrev IsKeptBy : Result Scene Reason → Type 0
  IsKeptBy end = sum (after s.records end).records ≡ sum s.records

  unless_true : (b : Bool) (why : Reason) (rest : Action) → (b ≡ false → IsKeptBy (rest s)) → IsKeptBy (and_then (if truth b == 0 then Ok s else Err why) rest)
  unless_true true why rest on = refl
  unless_true false why rest on = on refl

  not_under : (b : Bool) (v : ℕ) (put : ℕ → Scene) (rest : Action) → b ≡ false → IsKeptBy (rest (put v)) → IsKeptBy (and_then (and_then (if b then Err Underflow else Ok v) (λ w. Ok (put w))) rest)
  not_under true v put rest is on = absurd (cc is)
  not_under false v put rest is on = on

  if_fitting : (b : Bool) (v : ℕ) (put : ℕ → Scene) (rest : Action) → IsKeptBy (rest (put v)) → IsKeptBy (and_then (and_then (if b then Ok v else Err Overflow) (λ w. Ok (put w))) rest)
  if_fitting true v put rest on = on
  if_fitting false v put rest on = refl

-- the body of a transfer keeps the total
transfer_keeps : (s : Scene) → slice_index s.named 0 < length s.records → slice_index s.named 1 < length s.records
    → sum (after s.records (in_turn (map effect transfer_body) s)).records ≡ sum s.records
unfolding hidden hidden-the_row-Expr-0 hidden-the_row-Stmt-0
transfer_keeps s from to =
    let i : ℕ = slice_index s.named 0 in
    let j : ℕ = slice_index s.named 1 in
    let a : ℕ = slice_index s.args 2 in
    let x : ℕ = slice_index s.records i in
    let taken : List ℕ = slice_set s.records i (x - a) in
    let y : ℕ = slice_index taken j in
    unless_true s (nat_lt x a) _ _ (λ enough.
    not_under s (nat_lt x a) (x - a) (λ v. record s { records = slice_set s.records i v }) _ enough
    (if_fitting s (nat_lt (y + a) (2 ^ 64)) (y + a) (λ v. record s { records = slice_set taken j v }) _
    (moved s.records i j a from to (lt_no x a enough))))

-- and so does that of a sum
sum_keeps : (s : Scene) → sum (after s.records (in_turn (map effect sum_body) s)).records ≡ sum s.records
unfolding hidden hidden-the_row-Expr-0
sum_keeps s =
    let x : ℕ = slice_index s.records (slice_index s.named 0) in
    let y : ℕ = slice_index s.records (slice_index s.named 1) in
    if_fitting s (nat_lt (x + y) (2 ^ 64)) (x + y) (λ v. record s { outputs = s.outputs ++ v ∷ [] }) (in_turn []) refl

-- a call of three arguments whose first two name accounts
transfer_call : (now args : List ℕ) (count n : ℕ) → length now ≡ count → length args ≡ 3 → list_all (place_is_there count args) transfer.keys ≡ true
    → sum (applied transfer (call_of count n transfer args None) now).records ≡ sum now
transfer_call now [] count n long three there = absurd (omega (arith, three))
transfer_call now (a ∷ []) count n long three there = absurd (omega (arith, three))
transfer_call now (a ∷ b ∷ []) count n long three there = absurd (omega (arith, three))
transfer_call now (a ∷ b ∷ d ∷ e ∷ more) count n long three there = absurd (omega (arith, three))
transfer_call now (a ∷ b ∷ d ∷ []) count n long three there =
    let first = both_true _ _ there in
    let second = both_true _ _ first.1 in
    transfer_keeps (opening_scene transfer (call_of count n transfer (a ∷ b ∷ d ∷ []) None) now)
    (let low = lt_yes a count first.0 in omega (arith, low, long)) (let low = lt_yes b count second.0 in omega (arith, low, long))

-- a call of one of the procedures
procedure_call : (p : Proc) (now args : List ℕ) (count n : ℕ) → (p ≡ transfer) ⊎ (p ≡ sum_of_two) → length now ≡ count → length args ≡ p.args → list_all (place_is_there count args) p.keys ≡ true
    → sum (applied p (call_of count n p args None) now).records ≡ sum now
procedure_call p now args count n (inl is) long =
    subst (λ (q : Proc). length args ≡ q.args → list_all (place_is_there count args) q.keys ≡ true → sum (applied q (call_of count n q args None) now).records ≡ sum now) (sym is)
    (transfer_call now args count n long)
procedure_call p now args count n (inr is) long =
    subst (λ (q : Proc). length args ≡ q.args → list_all (place_is_there count args) q.keys ≡ true → sum (applied q (call_of count n q args None) now).records ≡ sum now) (sym is)
    (λ two there. sum_keeps (opening_scene sum_of_two (call_of count n sum_of_two args None) now))

is_procedure : (n : ℕ) (p : Proc) → slice_get procedures n ≡ Some p → (p ≡ transfer) ⊎ (p ≡ sum_of_two)
is_procedure zero p at = inl (sym (same_Some transfer p at))
is_procedure (suc zero) p at = inr (sym (same_Some sum_of_two p at))
is_procedure (suc (suc n)) p at = absurd (cc at)

-- neither has an indirect key
finds_nothing : (p : Proc) → (p ≡ transfer) ⊎ (p ≡ sum_of_two) → is_some (source_of p.keys) ≡ false
finds_nothing p (inl is) = ap (λ (q : Proc). is_some (source_of q.keys)) is
finds_nothing p (inr is) = ap (λ (q : Proc). is_some (source_of q.keys)) is

-- a call that may enter keeps the total
pub ready_keeps : (c : Catalog) (total client : ℕ) (call : Call) → c.procs ≡ procedures → IsReady c call → Keeps c.procs (HoldInTotal c.records total) (client, call)
ready_keeps c total client call same ready now has =
    let made = ready.0 in
    let m = fits_made c made ready.2.0 in
    let p = m.procedure in
    let which = is_procedure made.number p (ap (λ (ps : List Proc). slice_get ps made.number) (sym same) ∙ m.at) in
    let is_made : call ≡ made = ready.2.1 ∙ found_of c made m ready.1 ∙ ap (λ (b : Bool). if b then call_of c.records made.number p m.args (Some ready.1) else made) (finds_nothing p which) in
    let is : call ≡ call_of c.records made.number p m.args None = is_made ∙ m.made in
    let at : slice_get c.procs call.number ≡ Some p = ap (λ (x : Call). slice_get c.procs x.number) is_made ∙ m.at in (
      ap (λ (o : Option Proc). length (applied_at o call now).records) at ∙ length-applied p call now ∙ has.0,
      ap (λ (o : Option Proc). sum (applied_at o call now).records) at ∙ ap (λ (x : Call). sum (applied p x now).records) is
          ∙ procedure_call p now m.args c.records made.number which has.0 m.count m.placed ∙ has.1,
    )

-- so do all calls of a journal
pub journal_keeps : (c : Catalog) (total : ℕ) (lines : List Line) → c.procs ≡ procedures → All (λ (l : Line). IsReady c l.call) lines
    → All (Keeps c.procs (HoldInTotal c.records total)) (calls_in lines)
journal_keeps c total lines same ready =
    All-map (Keeps c.procs (HoldInTotal c.records total)) (λ (l : Line). (l.client, l.call)) lines
    (All-weaker (λ (l : Line). IsReady c l.call) (λ (l : Line). Keeps c.procs (HoldInTotal c.records total) (l.client, l.call)) (λ l is. ready_keeps c total l.client l.call same is) lines ready)
