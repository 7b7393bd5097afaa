-- What a call's loads make of its execution, and where its Write claims stand.
use Rattle.std.proofs.Common.{◌≡◌, ℕ, suc, ◌+◌, ◌<◌, ◌≤◌, Bool, true, false, List, [], ◌∷◌, All, length, filter, drop, replicate, Option, Some, None, slice_get, slice_index, slice_set, refl, sym, ap, subst, ◌∙◌, arith, ⊎_elim, ◌==◌, ◌&&◌}
use Rattle.vll_core.proofs.Common.{option_map_or, cases_eq, cond-true, cond-false, false≢true, exact_unsigned_eq, get_or-set_same, get_or-set_other, length-set, slice_get_within, same_Some, length-filter, count_by-le-length, Claim, MOST_CLAIMS, is_write, Call, Proc, Holds, IsCallOf, apply, IsWellFormed, IsReady, CallsProcedure, Catalog, IsCatalog, ready_well, Execution, is_aborted, HoldsFirst, IsLoading, IsAtWork}
use Rattle.vll_core.proofs.Tests.{eq_no}
use Rattle.vll_core.proofs.Places.{all_at, drop_next, drop_none, entry_at}

-- a call that is ready is one of the procedure with its number, which is well-formed
pub procedure_ready : (c : Catalog) (call : Call) (p : Proc) → IsCatalog c → IsReady c call → slice_get c.procs call.number ≡ Some p → IsWellFormed p × IsCallOf c.records p call
procedure_ready c call p catalog ready at =
    let called : CallsProcedure c call = ready_well c call catalog ready in
    let same : called.procedure ≡ p = same_Some called.procedure p (sym called.found ∙ at) in
    (subst IsWellFormed same called.formed, subst (λ (q : Proc). IsCallOf c.records q call) same called.made)

-- a call that has done nothing is loading
pub loading_first : (claims : List Claim) (records : List ℕ) (w : Execution) → w.loads ≡ 0 → w.frame ≡ replicate MOST_CLAIMS 0 → w.reply ≡ None → IsLoading claims records w
loading_first claims records w none blank silent = record {
  within = omega (arith, none);
  whole = rw blank refl;
  loaded = λ k c low at. absurd (omega (arith, low, none));
  pending = silent;
}

-- a call with a load left is loading
pub loading_of : (procs : List Proc) (call : Call) (records : List ℕ) (w : Execution) → IsAtWork procs call records w → w.loads < length call.claims → IsLoading call.claims records w
loading_of procs call records w at left = record { within = at.within; whole = at.whole; loaded = at.loaded left; pending = at.pending left }

-- the next value goes to the place of its claim
pub loading_next : (claims : List Claim) (records : List ℕ) (w next : Execution) (value : ℕ) (c : Claim) → length claims ≤ MOST_CLAIMS → IsLoading claims records w → slice_get claims w.loads ≡ Some c → value ≡ slice_index records c.id
    → next.loads ≡ w.loads + 1 → next.frame ≡ slice_set w.frame w.loads value → next.reply ≡ w.reply → IsLoading claims records next
loading_next claims records w next value c few loading here is more put silent =
    let low : w.loads < length claims = slice_get_within claims w.loads c here in
    record {
      within = omega (arith, low, more);
      whole = ap length put ∙ (length-set w.frame w.loads value ∙ loading.whole);
      loaded = λ k d upto at.
          ap (λ cells. slice_index cells k) put
          ∙ ⊎_elim
          (λ (same : k ≡ w.loads). let two : d ≡ c = same_Some d c (sym at ∙ (ap (slice_get claims) same ∙ here)) in
          ap (slice_index (slice_set w.frame w.loads value)) same
          ∙ (get_or-set_same w.frame w.loads value 0 (let long = loading.whole in omega (arith, low, few, long)) ∙ (is ∙ ap (λ (x : Claim). slice_index records x.id) (sym two))))
          (λ (other : k ≡ w.loads → ⊥). get_or-set_other w.frame w.loads k value 0 other ∙ loading.loaded k d (omega (arith, upto, more, other)) at)
          (cases_eq k w.loads);
      pending = silent ∙ loading.pending;
    }

-- a frame has the values of all claims' records where it has those of as many as there are
pub holds_all : (n : ℕ) (cells : List ℕ) (claims : List Claim) (records : List ℕ) → n ≡ length claims → All (λ (d : Claim). d.id < length records) claims → HoldsFirst n cells claims records → Holds cells claims records
holds_all n cells claims records all known first i c at =
    (all_at (λ (d : Claim). d.id < length records) claims i c known at, first i c (let low = slice_get_within claims i c at in omega (arith, low, all)) at)

-- the reply of a call's execution is Aborted exactly where the call has aborted
pub aborted_at_work : (procs : List Proc) (call : Call) (records : List ℕ) (w : Execution) → IsAtWork procs call records w
    → option_map_or is_aborted w.reply false ≡ ((w.loads == length call.claims) && is_aborted (apply procs call records).reply)
aborted_at_work procs call records w execution = by_loads (w.loads == length call.claims) refl
  where
    by_loads : (all : Bool) → (w.loads == length call.claims) ≡ all → option_map_or is_aborted w.reply false ≡ (all && is_aborted (apply procs call records).reply)
    by_loads true is = ap (λ reply. option_map_or is_aborted reply false) (execution.ran (exact_unsigned_eq w.loads (length call.claims) is))
    by_loads false is =
        ap (λ reply. option_map_or is_aborted reply false)
        (execution.pending (let some = eq_no w.loads (length call.claims) is in let upto = execution.within in omega (arith, some, upto)))

-- a claim that is Write is the first of the Write claims from it on
record IsFirstWrite (cs : List Claim) (i : ℕ) : Type 0 where
  claim : Claim
  at : slice_get cs i ≡ Some claim
  first : filter is_write (drop i cs) ≡ claim ∷ filter is_write (drop (i + 1) cs)

first_write : (cs : List Claim) (i : ℕ) → option_map_or is_write (slice_get cs i) false ≡ true → IsFirstWrite cs i
first_write cs i writes = by_claim (slice_get cs i) refl writes
  where
    by_claim : (o : Option Claim) → slice_get cs i ≡ o → option_map_or is_write o false ≡ true → IsFirstWrite cs i
    by_claim None at writes = absurd (false≢true writes)
    by_claim (Some c) at writes = record {
      claim = c;
      at = at;
      first = ap (filter is_write) (drop_next cs i c at) ∙ cond-true (is_write c) _ _ writes;
    }

-- a claim that is not Write is none of them
pub write_passed : (cs : List Claim) (i : ℕ) → i < length cs → option_map_or is_write (slice_get cs i) false ≡ false → filter is_write (drop i cs) ≡ filter is_write (drop (i + 1) cs)
write_passed cs i low reads =
    let c = entry_at cs i low in
    ap (filter is_write) (drop_next cs i c.0 c.1) ∙ cond-false (is_write c.0) _ _ (ap (λ o. option_map_or is_write o false) (sym c.1) ∙ reads)

pub write_here : (cs : List Claim) (i : ℕ) → option_map_or is_write (slice_get cs i) false ≡ true → slice_get (filter is_write (drop i cs)) 0 ≡ slice_get cs i
write_here cs i writes = let w = first_write cs i writes in ap (λ xs. slice_get xs 0) w.first ∙ sym w.at

pub write_behind : (cs : List Claim) (i n : ℕ) → option_map_or is_write (slice_get cs i) false ≡ true → slice_get (filter is_write (drop i cs)) (suc n) ≡ slice_get (filter is_write (drop (i + 1) cs)) n
write_behind cs i n writes = let w = first_write cs i writes in ap (λ xs. slice_get xs (suc n)) w.first

pub write_counted : (cs : List Claim) (i : ℕ) → option_map_or is_write (slice_get cs i) false ≡ true → length (filter is_write (drop i cs)) ≡ suc (length (filter is_write (drop (i + 1) cs)))
write_counted cs i writes = let w = first_write cs i writes in ap length w.first

-- after the last claim there is none
pub none_left : (cs : List Claim) (i : ℕ) → length cs ≤ i → filter is_write (drop i cs) ≡ []
none_left cs i past = ap (filter is_write) (drop_none i cs past)

pub few_writes : (cs : List Claim) → length (filter is_write cs) ≤ length cs
few_writes cs = omega (arith, length-filter is_write cs, count_by-le-length is_write cs)
