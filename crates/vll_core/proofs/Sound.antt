-- In a sound state a load sees the records before its ticket, and a store gives its record the value after the ticket.
use Rattle.std.proofs.Common.{◌≡◌, ℕ, Bool, true, false, ◌==◌, not, refl, sym, arith, ◌<◌, ◌≤◌, nat_lt, ◌+◌, List, length, drop, ap, ◌∙◌, subst, slice_get, Some, slice_index}
use Rattle.vll_core.proofs.Common.{slice_get_within, same_Some, list_any, has_stored, Base, Entered, State, entered, writes, records_before, is_clear, will_store, unstored, value, has_aborted, apply, Claim, exact_unsigned_eq, conflicts, and_from, false_from_ne_true, is_waiting}
use Rattle.vll_core.proofs.Tests.{both_true, or_rest, not_yes, lt_no, lt_yes, none_pos, some_pos, at_least}
use Rattle.vll_core.proofs.Places.{drop_none}
use Rattle.vll_core.proofs.OwnClaims.{hit, write_hit, drop_any, meets, met_by}
use Rattle.vll_core.proofs.SerialRun.{apply_same, length_before}
use Rattle.vll_core.proofs.Clear.{no_lower}
use Rattle.vll_core.proofs.Unstored.{below_first, at_first, not_before, value_from}

-- what loads and stores rest on
pub record IsSound (o : Base) (s : State) : Type 0 where
  -- a call changes no record that it has no Write claim on
  pub frames : (v : ℕ) (e : Entered) (records : List ℕ) (r : ℕ) → length records ≡ length o.records → slice_get s.entries v ≡ Some e → list_any (λ (c : Claim). c.id == r) (writes e.call) ≡ false
      → slice_index (apply o.procs e.call records).records r ≡ slice_index records r
  pub clear : (v : ℕ) (e : Entered) → slice_get s.entries v ≡ Some e → is_waiting e.status ≡ false → is_clear s v e.call.claims ≡ true
  pub waiting : (v : ℕ) (e : Entered) → slice_get s.entries v ≡ Some e → is_waiting e.status ≡ true → e.stores ≡ 0
  pub stored : (v : ℕ) (e : Entered) → slice_get s.entries v ≡ Some e → 0 < e.stores → e.loads ≡ length e.call.claims
  pub released : (v : ℕ) (e : Entered) → slice_get s.entries v ≡ Some e → 0 < e.releases → has_stored o s v e ≡ true

-- a call that still has a store to make has released nothing
unreleased : (o : Base) (s : State) (u : ℕ) (d : Entered) (r : ℕ) → IsSound o s → slice_get s.entries u ≡ Some d → will_store o s r (u, d) ≡ true → d.releases ≡ 0
unreleased o s u d r sound at will = none_pos d.releases (λ some.
    let left = both_true _ _ will in
    let stored = both_true _ _ (sound.released u d at some) in
    none_left d.stores (writes d.call) (or_rest _ _ stored.1 (not_yes _ left.1)) left.0)
  where
    none_left : (n : ℕ) (cs : List Claim) → (n == length cs) ≡ true → list_any (λ (c : Claim). c.id == r) (drop n cs) ≡ true → ⊥
    none_left n cs h k = cc (sym k ∙ ap (list_any (λ (c : Claim). c.id == r)) (ap (λ m. drop m cs) (exact_unsigned_eq n (length cs) h) ∙ drop_none (length cs) cs (omega arith)))

-- no ticket below a running one that is clear is yet to store what that one claims
pub not_below : (o : Base) (s : State) (t : ℕ) (e : Entered) (c : Claim) (n : ℕ) → IsSound o s → slice_get s.entries t ≡ Some e → is_waiting e.status ≡ false
    → slice_get e.call.claims n ≡ Some c → unstored o s c.id < t → ⊥
not_below o s t e c n sound at busy claim below =
    let first = at_first (will_store o s c.id) s.entries 0 (let w : unstored o s c.id < length s.entries = omega (arith, slice_get_within s.entries t e at) in w) in
    let u : ℕ = unstored o s c.id in
    let will : will_store o s c.id (u, first.0) ≡ true = ap (λ m. will_store o s c.id (m, first.0)) (let z : u ≡ 0 + u = omega arith in z) ∙ first.2 in
    no_lower s t u e first.0 below first.1 (unreleased o s u first.0 c.id sound first.1 will) (sound.clear t e at busy)
    (write_hit (λ x. list_any (conflicts x) e.call.claims) first.0.call.claims c.id (λ x w i. hit (conflicts x) e.call.claims n c claim (meets x c w i))
    (drop_any (λ (x : Claim). x.id == c.id) first.0.stores (writes first.0.call) (both_true _ _ will).0))

-- a ticket that is yet to store no record keeps it, unless it has stored it
stays_unless : (o : Base) (s : State) (r v : ℕ) (d : Entered) → IsSound o s → slice_get s.entries v ≡ Some d
    → (has_aborted o s v d ≡ false → list_any (λ (x : Claim). x.id == r) (writes d.call) ≡ true → ⊥)
    → slice_index (apply o.procs d.call (records_before o s v)).records r ≡ slice_index (records_before o s v) r
stays_unless o s r v d sound here never = step (has_aborted o s v d) (list_any (λ (x : Claim). x.id == r) (writes d.call)) refl refl
  where
    step : (a w : Bool) → has_aborted o s v d ≡ a → list_any (λ (x : Claim). x.id == r) (writes d.call) ≡ w
        → slice_index (apply o.procs d.call (records_before o s v)).records r ≡ slice_index (records_before o s v) r
    step true w is has = ap (λ xs. slice_index xs r) (apply_same o.procs d.call (records_before o s v) (both_true _ _ is).1)
    step false false is has = sound.frames v d (records_before o s v) r (length_before o.procs (entered s) o.records v) here has
    step false true is has = absurd (never is has)

-- a call that is yet to store no record that it claims for writing, and has not aborted, has stored
has_begun : (o : Base) (s : State) (r v : ℕ) (d : Entered) → will_store o s r (v, d) ≡ false → has_aborted o s v d ≡ false → list_any (λ (x : Claim). x.id == r) (writes d.call) ≡ true → 0 < d.stores
has_begun o s r v d not_yet is has =
    some_pos d.stores (λ z. cc (sym not_yet ∙ and_from (list_any (λ (x : Claim). x.id == r) (drop d.stores (writes d.call))) (not (has_aborted o s v d)) (ap (λ m. list_any (λ (x : Claim). x.id == r) (drop m (writes d.call))) z ∙ has) (ap not is)))

-- no ticket above one that holds its claim c has stored c's record
none_stored_above : (o : Base) (s : State) (t : ℕ) (e : Entered) (c : Claim) (n : ℕ) → IsSound o s → slice_get s.entries t ≡ Some e → e.releases ≡ 0
    → slice_get e.call.claims n ≡ Some c → (v : ℕ) (d : Entered) → t < v → slice_get s.entries v ≡ Some d → 0 < d.stores → list_any (λ (x : Claim). x.id == c.id) (writes d.call) ≡ true → ⊥
none_stored_above o s t e c n sound at held claim v d low here some has =
    let busy : is_waiting d.status ≡ false = false_from_ne_true (is_waiting d.status) (λ w. let z : d.stores ≡ 0 = sound.waiting v d here w in omega (arith, z, some)) in
    no_lower s v t d e low at held (sound.clear v d here busy)
    (hit (λ x. list_any (conflicts x) d.call.claims) e.call.claims n c claim (write_hit (conflicts c) d.call.claims c.id (λ x w i. met_by x c w i) has))

-- a load of a running call sees the record as it is before its ticket
pub load_sees : (o : Base) (s : State) (t : ℕ) (e : Entered) (c : Claim) → IsSound o s → slice_get s.entries t ≡ Some e → is_waiting e.status ≡ false
    → slice_get e.call.claims e.loads ≡ Some c → value o s c.id ≡ slice_index (records_before o s t) c.id
load_sees o s t e c sound at busy claim =
    value_from o s c.id t (at_least (unstored o s c.id) t (not_below o s t e c e.loads sound at busy claim))
    (λ v d low upto here not_yet. stays_unless o s c.id v d sound here (λ is has. rival v d low here (has_begun o s c.id v d not_yet is has) has))
  where
    left : e.loads < length e.call.claims
    left = slice_get_within e.call.claims e.loads c claim

    held : e.releases ≡ 0
    held = none_pos e.releases (λ p.
        let full : e.loads ≡ length e.call.claims = exact_unsigned_eq e.loads (length e.call.claims) (both_true _ _ (sound.released t e at p)).0 in
        let l = left in omega (arith, l, full))

    rival : (v : ℕ) (d : Entered) → t ≤ v → slice_get s.entries v ≡ Some d → 0 < d.stores → list_any (λ (x : Claim). x.id == c.id) (writes d.call) ≡ true → ⊥
    rival v d low here some has =
        let all : d.loads ≡ length d.call.claims = sound.stored v d here some in
        let apart : v ≡ t → ⊥ = λ same.
        let twins : d ≡ e = same_Some d e (sym here ∙ (ap (slice_get s.entries) same ∙ at)) in
        let loads : e.loads ≡ length e.call.claims = subst (λ (x : Entered). x.loads ≡ length x.call.claims) twins all in
        let l = left in omega (arith, l, loads) in
        none_stored_above o s t e c e.loads sound at held claim v d (omega (arith, low, apart)) here some has

-- if a running call holds its claim c and has no store on it to make, the record has the value after the ticket
pub stored_sees : (o : Base) (s : State) (t : ℕ) (e : Entered) (c : Claim) (n : ℕ) → IsSound o s → slice_get s.entries t ≡ Some e → is_waiting e.status ≡ false → e.releases ≡ 0
    → slice_get e.call.claims n ≡ Some c → will_store o s c.id (t, e) ≡ false → value o s c.id ≡ slice_index (records_before o s (t + 1)) c.id
stored_sees o s t e c n sound at busy held claim done =
    value_from o s c.id (t + 1) (not_before_next (at_least (unstored o s c.id) t (not_below o s t e c n sound at busy claim)))
    (λ v d low upto here not_yet. stays_unless o s c.id v d sound here (λ is has. none_stored_above o s t e c n sound at held claim v d (omega (arith, low)) here (has_begun o s c.id v d not_yet is has) has))
  where
    not_before_next : t ≤ unstored o s c.id → t + 1 ≤ unstored o s c.id
    not_before_next above =
        not_before o s c.id (t + 1) (let z = slice_get_within s.entries t e at in omega (arith, z)) (λ v d low here. by_place v d low here (nat_lt v t) refl)
      where
        by_place : (v : ℕ) (d : Entered) → v < t + 1 → slice_get s.entries v ≡ Some d → (b : Bool) → nat_lt v t ≡ b → will_store o s c.id (v, d) ≡ false
        by_place v d low here true is =
            ap (λ m. will_store o s c.id (m, d)) (let z : v ≡ 0 + v = omega arith in z)
            ∙ below_first (will_store o s c.id) s.entries 0 v d (let a = lt_yes v t is in omega (arith, a, above)) here
        by_place v d low here false is =
            let same : v ≡ t = (let a = lt_no v t is in omega (arith, a, low)) in
            let twins : d ≡ e = same_Some d e (sym here ∙ (ap (slice_get s.entries) same ∙ at)) in
            ap (λ m. will_store o s c.id (m, d)) same ∙ (ap (λ (x : Entered). will_store o s c.id (t, x)) twins ∙ done)
