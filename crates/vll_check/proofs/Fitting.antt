-- What is known of a call that was made for a checked procedure, and of one that a library makes.
use Rattle.std.proofs.Common.{◌^◌, get_or, ◌≡◌, ◌↔◌, ℕ, zero, suc, ◌-◌, ◌<◌, ◌≤◌, arith, Bool, true, false, ◌&&◌, ◌==◌, nat_lt, List, [], ◌∷◌, length, take, take_at, replicate, Option, Some, None, Result, Ok, Err, refl, sym, ap, ◌∙◌, subst, if◌then◌else◌, slice_get, slice_index, is_some, IfSome}
use Rattle.vll_check.proofs.Common.{All, AllByRecursion, list_all, eqb-true, false≢true, ltb-true, slice_get_within, slice_get-get_or, get_or_from_slice_get, none-some, same_Some, All-from_recursion, MOST_ARGS, claims_of, with_claim, stronger, Claim, Mode, Call, laid, KeyAt, KeyDecl, Proc, asking, asked_by, asked, call_of, or_else, record_named, source_at, source_of, AreFound, key_at, named_by, source, source_by, found_by, with_found, bare, bares, call_to, call_numbered, place_is_there, Fits, IsReady, CallsProcedure, Catalog, IsCatalog, check_fault, IsPlaced, IsMadeFor, number_named, has_name_twice}
use Rattle.vll_proc.specs.declared.syntax.KeyAt.TheVariants as at
use Rattle.vll_proc.specs.Made.{is_led, IsCallOf}
use Rattle.vll_proc.specs.WellFormed as formed
use Rattle.vll_check.specs.declared.fault.CallFault.{CallFault}
use Rattle.vll_check.specs.declared.fault.CallFault.TheVariants.{ArgCount, RecordRange}
use Rattle.vll_check.proofs.Distinct.{number_named-distinct, number_named-stands}
use Rattle.vll_check.proofs.Passed.{passed_all, all_placed, named_there}

both_true : (a b : Bool) → (a && b) ≡ true → (a ≡ true) × (b ≡ true)
both_true true b e = (refl, e)
both_true false b e = absurd (false≢true e)

-- a test that holds of all key positions holds of the one at a place
key_passes : (test : KeyDecl → Bool) (ks : List KeyDecl) (i : ℕ) (k : KeyDecl) → list_all test ks ≡ true → slice_get ks i ≡ Some k → test k ≡ true
key_passes test [] i k h at = absurd (none-some k at)
key_passes test (d ∷ ds) zero k h at = subst (λ (x : KeyDecl). test x ≡ true) (same_Some d k at) (both_true _ _ h).0
key_passes test (d ∷ ds) (suc i) k h at = key_passes test ds i k (both_true _ _ h).1 at

pub same_Ok : (a b : Call) → ◌≡◌ {A = Result Call CallFault} (Ok a) (Ok b) → a ≡ b
same_Ok a b e = cc

-- ---- the claims of a call

by_place : (n : ℕ) (c d : Claim) (ds others : List Claim) (lt eq : Bool) → c.id < n → AllByRecursion (λ (e : Claim). e.id < n) (d ∷ ds) → AllByRecursion (λ (e : Claim). e.id < n) others
    → AllByRecursion (λ (e : Claim). e.id < n) (if lt then c ∷ d ∷ ds else (if eq then record d { mode = stronger c.mode d.mode } ∷ ds else d ∷ others))
by_place n c d ds others true eq here rest further = (here, (rest.0, rest.1))
by_place n c d ds others false true here rest further = (rest.0, rest.1)
by_place n c d ds others false false here rest further = (rest.0, further)

all_with : (n : ℕ) (c : Claim) (cs : List Claim) → c.id < n → AllByRecursion (λ (d : Claim). d.id < n) cs → AllByRecursion (λ (d : Claim). d.id < n) (with_claim c cs)
all_with n c [] here rest = (here, tt)
all_with n c (d ∷ ds) here rest = by_place n c d ds (with_claim c ds) (nat_lt c.id d.id) (c.id == d.id) here rest (all_with n c ds here rest.1)

all_claims : (n : ℕ) (cs : List Claim) → AllByRecursion (λ (d : Claim). d.id < n) cs → AllByRecursion (λ (d : Claim). d.id < n) (claims_of cs)
all_claims n [] h = tt
all_claims n (c ∷ cs) h = all_with n c (claims_of cs) h.0 (all_claims n cs h.1)

all_asked : (n : ℕ) (args : List ℕ) (found : Option ℕ) (keys : List KeyDecl) → list_all (formed.record_is_there n) keys ≡ true → list_all (place_is_there n args) keys ≡ true → IfSome found (λ _. 0 < n)
    → AllByRecursion (λ (d : Claim). d.id < n) (asked_by n args found keys)
all_asked n args found [] there given some = tt
all_asked n args found (k ∷ keys) there given some =
    let here = both_true (formed.record_is_there n k) (list_all (formed.record_is_there n) keys) there in
    let place = both_true (place_is_there n args k) (list_all (place_is_there n args) keys) given in
    by_name (record_named n args found k.at) (named_there n args found k here.0 place.0 some) (all_asked n args found keys here.1 place.1 some)
  where
    by_name : (o : Option ℕ) → ((r : ℕ) → o ≡ Some r → r < n) → AllByRecursion (λ (d : Claim). d.id < n) (asked_by n args found keys) → AllByRecursion (λ (d : Claim). d.id < n) (asking k.mode o (asked_by n args found keys))
    by_name None within rest = rest
    by_name (Some r) within rest = (within r refl, rest)

asking-le : (m : Mode) (o : Option ℕ) (cs : List Claim) → length (asking m o cs) ≤ suc (length cs)
asking-le m None cs = omega arith
asking-le m (Some r) cs = omega arith

-- each key position asks for one record at most
pub length-asked_by-le : (n : ℕ) (args : List ℕ) (found : Option ℕ) (keys : List KeyDecl) → length (asked_by n args found keys) ≤ length keys
length-asked_by-le n args found [] = omega arith
length-asked_by-le n args found (k ∷ keys) =
    let rest = length-asked_by-le n args found keys in
    let one = asking-le k.mode (record_named n args found k.at) (asked_by n args found keys) in
    omega arith

-- claims named by arguments in range are on existing records
claims_within : (n : ℕ) (p : Proc) (args : List ℕ) (found : Option ℕ) → check_fault n p ≡ None → list_all (place_is_there n args) p.keys ≡ true → IfSome found (λ _. 0 < n) → All (λ (d : Claim). d.id < n) (claims_of (asked n p args found))
claims_within n p args found checks given some =
    let there = (passed_all n p checks).1 in
    All-from_recursion (λ (d : Claim). d.id < n) (claims_of (asked n p args found)) (all_claims n (asked n p args found) (all_asked n args found p.keys there given some))

-- ---- a call of a procedure

-- what is known where a call is made of arguments
pub record IsMadeOf (records number : ℕ) (p : Proc) (args : List ℕ) (call : Call) : Type 0 where
  pub count : length args ≡ p.args
  pub placed : list_all (place_is_there records args) p.keys ≡ true
  pub made : call ≡ call_of records number p args None

made_by : (records n : ℕ) (p : Proc) (args : List ℕ) (call : Call) (few there : Bool) → (length args == p.args) ≡ few → list_all (place_is_there records args) p.keys ≡ there
    → ◌≡◌ {A = Result Call CallFault} (if few then (if there then Ok (call_of records n p args None) else Err RecordRange) else Err ArgCount) (Ok call) → IsMadeOf records n p args call
made_by records n p args call true true count placed e = record { count = eqb-true (length args) p.args count; placed = placed; made = cc }
made_by records n p args call true false count placed e = cc
made_by records n p args call false there count placed e = cc

pub made_of : (records n : ℕ) (p : Proc) (args : List ℕ) (call : Call) → call_to records n (Some p) args ≡ Ok call → IsMadeOf records n p args call
made_of records n p args call e = made_by records n p args call (length args == p.args) (list_all (place_is_there records args) p.keys) refl refl e

-- a made call has the arguments that it was made of
pub made_args : (records n : ℕ) (p : Proc) (args : List ℕ) (call : Call) → call_to records n (Some p) args ≡ Ok call → take call.arg_count call.args ≡ args
made_args records n p args call e =
    ap (λ (c : Call). take c.arg_count c.args) (made_of records n p args call e).made ∙ take_at args (replicate (MOST_ARGS - length args) 0) (length args) refl

pub made_number : (records n : ℕ) (p : Proc) (args : List ℕ) (call : Call) → call_to records n (Some p) args ≡ Ok call → call.number ≡ n
made_number records n p args call e = ap (λ (c : Call). c.number) (made_of records n p args call e).made

-- without an indirect key nothing has to be found
led_without : (keys : List KeyDecl) → source_of keys ≡ None → list_all (λ (k : KeyDecl). is_led None k.at) keys ≡ true
led_without [] none = refl
led_without (k ∷ ks) none = by_place k.at (source_of ks) none (led_without ks)
  where
    by_place : (at : KeyAt) (rest : Option ℕ) → or_else (source_at at) rest ≡ None → (rest ≡ None → list_all (λ (d : KeyDecl). is_led None d.at) ks ≡ true) → (is_led None at && list_all (λ (d : KeyDecl). is_led None d.at) ks) ≡ true
    by_place (at.Fixed r) rest none more = more none
    by_place (at.Arg i) rest none more = more none
    by_place (at.Through i) rest none more = absurd (none-some i (sym none))

led_with : (v : ℕ) (keys : List KeyDecl) → list_all (λ (k : KeyDecl). is_led (Some v) k.at) keys ≡ true
led_with v [] = refl
led_with v (k ∷ ks) = by_place k.at (led_with v ks)
  where
    by_place : (at : KeyAt) → list_all (λ (d : KeyDecl). is_led (Some v) d.at) ks ≡ true → (is_led (Some v) at && list_all (λ (d : KeyDecl). is_led (Some v) d.at) ks) ≡ true
    by_place (at.Fixed r) more = more
    by_place (at.Arg i) more = more
    by_place (at.Through i) more = more

-- a call with a value found has the arguments that it was made of
found_args : (records n : ℕ) (p : Proc) (args : List ℕ) (found : Option ℕ) → take (length args) (laid MOST_ARGS 0 args) ≡ args
found_args records n p args found = take_at args (replicate (MOST_ARGS - length args) 0) (length args) refl

pub IsCallOf-made : (records n : ℕ) (p : Proc) (args : List ℕ) (found : Option ℕ) → length args ≡ p.args → list_all (λ (k : KeyDecl). is_led found k.at) p.keys ≡ true → IsCallOf records p (call_of records n p args found)
IsCallOf-made records n p args found count led = record {
  count = count;
  made = ap (λ (xs : List ℕ). call_of records n p xs found) (sym (found_args records n p args found));
  led = led;
}

-- ---- a call that a library makes

-- a call that a library makes has the number of a procedure, and is made for that procedure
pub fits_found : (c : Catalog) (call : Call) → Fits c call
    → (p : Proc) × (slice_get c.procs call.number ≡ Some p) × ((args : List ℕ) × (call_to c.records call.number (Some p) args ≡ Ok call))
fits_found c call fits = by_number (number_named fits.0 c.procs) refl fits.2
  where
    Found : Type 0
    Found = (p : Proc) × (slice_get c.procs call.number ≡ Some p) × ((args : List ℕ) × (call_to c.records call.number (Some p) args ≡ Ok call))

    by_number : (o : Option ℕ) → number_named fits.0 c.procs ≡ o → call_numbered c.records c.procs o fits.1 ≡ Ok call → Found
    by_number None unknown e = cc
    by_number (Some k) known e =
        let stands = number_named-stands fits.0 c.procs k known in
        let p = stands.procedure in
        let made : call_to c.records k (Some p) fits.1 ≡ Ok call = ap (λ o. call_to c.records k o fits.1) (sym stands.found) ∙ e in
        let number = made_number c.records k p fits.1 call made in
        (p, ap (slice_get c.procs) number ∙ stands.found, (fits.1, ap (λ m. call_to c.records m (Some p) fits.1) number ∙ made))

-- a call that is made for the procedure with its number is one that the library makes, if no name occurs twice
pub found_fits : (c : Catalog) (call : Call) (p : Proc) (args : List ℕ) → has_name_twice c.procs ≡ false → slice_get c.procs call.number ≡ Some p → call_to c.records call.number (Some p) args ≡ Ok call
    → Fits c call
found_fits c call p args once found made =
    let known = number_named-distinct c.procs call.number p once found in
    (p.name, args, ap (λ o. call_numbered c.records c.procs o args) known ∙ ap (λ o. call_to c.records call.number o args) found ∙ made)

-- whether a call is one that a library makes is known from the procedure with its number
pub fits_iff_made : (c : Catalog) (call : Call) (p : Proc) → has_name_twice c.procs ≡ false → slice_get c.procs call.number ≡ Some p
    → ((args : List ℕ) × (call_to c.records call.number (Some p) args ≡ Ok call)) ↔ Fits c call
fits_iff_made c call p once found = (
  λ h. found_fits c call p h.0 once found h.1,
  λ fits.
      let f = fits_found c call fits in
      let same : f.0 ≡ p = let eq : Some f.0 ≡ Some p = sym f.1 ∙ found in cc in
      (f.2.0, ap (λ q. call_to c.records call.number (Some q) f.2.0) (sym same) ∙ f.2.1),
)

-- the key position that a well-formed procedure's indirect key names exists, and names its record directly
pub source_there : (p : Proc) (i : ℕ) → formed.has_earlier_sources p ≡ true → source_of p.keys ≡ Some i → (k : KeyDecl) × (slice_get p.keys i ≡ Some k) × (formed.is_direct (Some k) ≡ true)
source_there p i sources is = from 0 p.keys sources is
  where
    There : Type 0
    There = (k : KeyDecl) × (slice_get p.keys i ≡ Some k) × (formed.is_direct (Some k) ≡ true)

    direct : (o : Option KeyDecl) → slice_get p.keys i ≡ o → formed.is_direct o ≡ true → There
    direct None e d = absurd (false≢true d)
    direct (Some k) e d = (k, e, d)

    here : (at : KeyAt) (mode : Mode) (place : ℕ) (rest : Option ℕ) → formed.has_source p.keys place (record { mode = mode; at = at }) ≡ true → or_else (source_at at) rest ≡ Some i → (rest ≡ Some i → There) → There
    here (at.Through j) mode place rest h e behind =
        direct (slice_get p.keys i) refl (subst (λ (n : ℕ). formed.is_direct (slice_get p.keys n) ≡ true) (same_Some j i e) (both_true _ _ h).1)
    here other mode place rest h e behind = behind e

    from : (place : ℕ) (keys : List KeyDecl) → formed.have_sources p.keys place keys ≡ true → source_of keys ≡ Some i → There
    from place [] h e = absurd (none-some i e)
    from place (k ∷ ks) h e = let both = both_true _ _ h in here k.at k.mode place (source_of ks) both.0 e (λ later. from (suc place) ks both.1 later)

-- a key position that names its record directly, by arguments in range, names one of the records
direct_named : (records : ℕ) (args : List ℕ) (declared : ℕ) (at : KeyAt) (mode : Mode) → formed.is_direct (Some (record { mode = mode; at = at })) ≡ true → formed.argument_is_declared declared (record { mode = mode; at = at }) ≡ true
    → formed.record_is_there records (record { mode = mode; at = at }) ≡ true → place_is_there records args (record { mode = mode; at = at }) ≡ true → declared ≡ length args
    → (r : ℕ) × (record_named records args None at ≡ Some r) × (r < records)
direct_named records args declared (at.Fixed r) mode d known t g count = (r, refl, ltb-true r records t)
direct_named records args declared (at.Arg a) mode d known t g count =
    let within = ltb-true a declared known in
    (slice_index args a, slice_get-get_or args a 0 (omega arith), ltb-true (slice_index args a) records g)
direct_named records args declared (at.Through j) mode d known t g count = absurd (false≢true d)

-- the record of the source of a procedure with an indirect key, where arguments in range are given
pub source_named : (records : ℕ) (p : Proc) (args : List ℕ) (i : ℕ) → check_fault records p ≡ None → length args ≡ p.args → list_all (place_is_there records args) p.keys ≡ true → source_of p.keys ≡ Some i
    → (k : KeyDecl) × (slice_get p.keys i ≡ Some k) × ((r : ℕ) × (record_named records args None k.at ≡ Some r) × (r < records))
source_named records p args i checks count given is =
    let passed = passed_all records p checks in
    let there = source_there p i passed.0.sources is in
    let k = there.0 in (
      k,
      there.1,
      direct_named records args p.args k.at k.mode there.2 (key_passes (formed.argument_is_declared p.args) p.keys i k passed.0.key_args there.1)
          (key_passes (formed.record_is_there records) p.keys i k passed.1 there.1) (key_passes (place_is_there records args) p.keys i k given there.1) (sym count),
    )

-- a procedure with an indirect key has a source among the records, so there are some
some_records : (records : ℕ) (p : Proc) (args : List ℕ) (i : ℕ) → check_fault records p ≡ None → length args ≡ p.args → list_all (place_is_there records args) p.keys ≡ true → source_of p.keys ≡ Some i → 0 < records
some_records records p args i checks count given is = let named = source_named records p args i checks count given is in let below = named.2.2 in omega arith

-- what is known of a call of a procedure that is made of arguments in range and, where it has an indirect key, of a value
well_of : (c : Catalog) (call : Call) (p : Proc) (args : List ℕ) (found : Option ℕ) → slice_get c.procs call.number ≡ Some p → check_fault c.records p ≡ None → length args ≡ p.args
    → list_all (place_is_there c.records args) p.keys ≡ true → IfSome found (λ _. 0 < c.records) → list_all (λ (k : KeyDecl). is_led found k.at) p.keys ≡ true → call ≡ call_of c.records call.number p args found
    → CallsProcedure c call
well_of c call p args found at checks count given some led e = record {
  procedure = p;
  found = at;
  checked = checks;
  formed = (passed_all c.records p checks).0;
  made = subst (IsCallOf c.records p) (sym e) (IsCallOf-made c.records call.number p args found count led);
  within = subst (λ (x : Call). All (λ (d : Claim). d.id < c.records) x.claims) (sym e) (claims_within c.records p args found checks given some);
}

-- a procedure of a library passed the tests
pub found_passed : (c : Catalog) (n : ℕ) (p : Proc) → IsCatalog c → slice_get c.procs n ≡ Some p → check_fault c.records p ≡ None
found_passed c n p kept at =
    let within = slice_get_within c.procs n p at in
    ap (check_fault c.records) (sym (get_or_from_slice_get c.procs n p p at)) ∙ kept.passed n p within

-- what is known of a call that a library makes: its procedure, and the arguments that it is made of
pub record IsMade (c : Catalog) (call : Call) : Type 0 where
  pub procedure : Proc
  pub args : List ℕ
  pub at : slice_get c.procs call.number ≡ Some procedure
  pub count : length args ≡ procedure.args
  pub placed : list_all (place_is_there c.records args) procedure.keys ≡ true
  pub made : call ≡ call_of c.records call.number procedure args None
  pub own : take call.arg_count call.args ≡ args

pub fits_made : (c : Catalog) (call : Call) → Fits c call → IsMade c call
fits_made c call fits =
    let f = fits_found c call fits in
    let m = made_of c.records call.number f.0 f.2.0 call f.2.1 in
    record {
      procedure = f.0;
      args = f.2.0;
      at = f.1;
      count = m.count;
      placed = m.placed;
      made = m.made;
      own = made_args c.records call.number f.0 f.2.0 call f.2.1;
    }

-- its procedure passed the tests
made_passed : (c : Catalog) (call : Call) (m : IsMade c call) → IsCatalog c → check_fault c.records m.procedure ≡ None
made_passed c call m is = found_passed c call.number m.procedure is m.at

-- a call with a value found, by the procedure that it is of
pub found_of : (c : Catalog) (call : Call) (m : IsMade c call) (v : ℕ) → with_found c call v ≡ (if is_some (source_of m.procedure.keys) then call_of c.records call.number m.procedure m.args (Some v) else call)
found_of c call m v =
    ap (λ (o : Option Proc). found_by c.records o call v) m.at
    ∙ ap (λ (xs : List ℕ). if is_some (source_of m.procedure.keys) then call_of c.records call.number m.procedure xs (Some v) else call) m.own

-- what is known of a call that is ready
pub ready_well : (c : Catalog) (call : Call) → IsCatalog c → IsReady c call → CallsProcedure c call
ready_well c call is ready =
    let made = ready.0 in
    let m = fits_made c made ready.2.0 in
    by_source made ready.1 m (source_of m.procedure.keys) refl (ready.2.1 ∙ found_of c made m ready.1)
  where
    by_source : (made : Call) (v : ℕ) (m : IsMade c made) (o : Option ℕ) → source_of m.procedure.keys ≡ o
        → call ≡ (if is_some o then call_of c.records made.number m.procedure m.args (Some v) else made) → CallsProcedure c call
    by_source made v m None none e =
        well_of c call m.procedure m.args None (ap (λ (x : Call). slice_get c.procs x.number) e ∙ m.at) (made_passed c made m is) m.count m.placed tt (led_without m.procedure.keys none)
        (e ∙ m.made ∙ ap (λ (x : Call). call_of c.records x.number m.procedure m.args None) (sym e))
    by_source made v m (Some i) some e =
        well_of c call m.procedure m.args (Some v) (ap (λ (x : Call). slice_get c.procs x.number) e ∙ m.at) (made_passed c made m is) m.count m.placed
        (some_records c.records m.procedure m.args i (made_passed c made m is) m.count m.placed some) (led_with v m.procedure.keys)
        (e ∙ ap (λ (x : Call). call_of c.records x.number m.procedure m.args (Some v)) (sym e))

-- ---- a call of a procedure that finds, by the procedure alone

-- a call with a value found has the number of the call as it was
pub found_number : (records : ℕ) (p : Proc) (call : Call) (v : ℕ) → (found_by records (Some p) call v).number ≡ call.number
found_number records p call v = by_source (source_of p.keys)
  where
    by_source : (o : Option ℕ) → (if is_some o then call_of records call.number p (take call.arg_count call.args) (Some v) else call).number ≡ call.number
    by_source None = refl
    by_source (Some i) = refl

-- a call is the one that is made of its own arguments exactly if it is made for the procedure
pub made_for : (records : ℕ) (p : Proc) (call made : Call) → call_to records call.number (Some p) (take call.arg_count call.args) ≡ Ok made → IsMadeFor records p call → made ≡ call
made_for records p call made own h =
    let same : call_to records call.number (Some p) (take call.arg_count call.args) ≡ Ok call =
    ap (λ (xs : List ℕ). call_to records call.number (Some p) xs) (made_args records call.number p h.0 call h.1) ∙ h.1 in
    same_Ok made call (sym own ∙ same)

-- a call that is ready, by the procedure alone: the call that is made of its own arguments is the one that found the value
pub record HasOwn (records : ℕ) (p : Proc) (call : Call) (v : ℕ) : Type 0 where
  pub made : Call
  pub own : call_to records call.number (Some p) (take call.arg_count call.args) ≡ Ok made
  pub found : call ≡ found_by records (Some p) made v

pub ready_own : (records : ℕ) (p : Proc) (call : Call) (w : ℕ) → ((v : ℕ) → call.found ≡ Some v → w ≡ v) → (made : Call) (v : ℕ) → IsMadeFor records p made → call ≡ found_by records (Some p) made v
    → HasOwn records p call w
ready_own records p call w kept made v h is = by_source (source_of p.keys) refl is
  where
    answer : (xs : List ℕ) → call_to records made.number (Some p) xs ≡ Ok made → take made.arg_count made.args ≡ xs
    answer xs e = made_args records made.number p xs made e

    by_source : (o : Option ℕ) → source_of p.keys ≡ o → call ≡ (if is_some o then call_of records made.number p (take made.arg_count made.args) (Some v) else made) → HasOwn records p call w
    by_source None none e = record {
      made = made;
      own = ap (λ (x : Call). call_to records x.number (Some p) (take x.arg_count x.args)) e ∙ ap (λ (xs : List ℕ). call_to records made.number (Some p) xs) (answer h.0 h.1) ∙ h.1;
      found = e ∙ sym (ap (λ (o : Option ℕ). if is_some o then call_of records made.number p (take made.arg_count made.args) (Some w) else made) none);
    }
    by_source (Some i) some e =
        let ys = take made.arg_count made.args in
        record {
          made = made;
          own = ap (λ (x : Call). call_to records x.number (Some p) (take x.arg_count x.args)) e
              ∙ ap (λ (xs : List ℕ). call_to records made.number (Some p) xs) (found_args records made.number p ys (Some v) ∙ answer h.0 h.1) ∙ h.1;
          found = is ∙ ap (found_by records (Some p) made) (sym (kept v (ap (λ (x : Call). x.found) e)));
        }

-- a key position of a checked procedure, where arguments in range are given
pub placed_key : (records : ℕ) (p : Proc) (call : Call) (i : ℕ) (k : KeyDecl) → records < 2 ^ 32 → check_fault records p ≡ None → IsMadeFor records p call → slice_get p.keys i ≡ Some k
    → IsPlaced records (take call.arg_count call.args) None (length (take call.arg_count call.args)) k
placed_key records p call i k few checks h at =
    let m = made_of records call.number p h.0 call h.1 in
    let own = made_args records call.number p h.0 call h.1 in
    subst (λ (xs : List ℕ). IsPlaced records xs None (length xs) k) (sym own)
    (subst (IsPlaced records h.0 None (length h.0)) (get_or_from_slice_get p.keys i k k at)
    (all_placed records p h.0 None few checks m.count m.placed tt i k (slice_get_within p.keys i k at)))

-- its record is one of the records
pub key_within : (records : ℕ) (p : Proc) (call : Call) (i : ℕ) (k : KeyDecl) (r : ℕ) → check_fault records p ≡ None → IsMadeFor records p call → slice_get p.keys i ≡ Some k
    → record_named records (take call.arg_count call.args) None k.at ≡ Some r → r < records
key_within records p call i k r checks h at is =
    let m = made_of records call.number p h.0 call h.1 in
    let own = made_args records call.number p h.0 call h.1 in
    let passed = passed_all records p checks in
    named_there records h.0 None k (key_passes (formed.record_is_there records) p.keys i k passed.1 at) (key_passes (place_is_there records h.0) p.keys i k m.placed at) tt r
    (sym (ap (λ (xs : List ℕ). record_named records xs None k.at) own) ∙ is)

-- each key position of a call with a value found is placed
pub placed_found : (records : ℕ) (p : Proc) (call : Call) (v : ℕ) (i : ℕ) → records < 2 ^ 32 → check_fault records p ≡ None → IsMadeFor records p call → source_of p.keys ≡ Some i
    → (0 < records) × ((k : ℕ) (d : KeyDecl) → k < length p.keys → IsPlaced records (take call.arg_count call.args) (Some v) (length (take call.arg_count call.args)) (get_or p.keys k d))
placed_found records p call v i few checks h source =
    let m = made_of records call.number p h.0 call h.1 in
    let own = made_args records call.number p h.0 call h.1 in
    let some = some_records records p h.0 i checks m.count m.placed source in
    (some, λ k d lt. subst (λ (xs : List ℕ). IsPlaced records xs (Some v) (length xs) (get_or p.keys k d)) (sym own) (all_placed records p h.0 (Some v) few checks m.count m.placed some k d lt))

-- whether a call is ready is known from the procedure with its number
pub ready_iff_made : (c : Catalog) (call : Call) (p : Proc) → has_name_twice c.procs ≡ false → slice_get c.procs call.number ≡ Some p
    → ((made : Call) × (v : ℕ) × (IsMadeFor c.records p made × (call ≡ found_by c.records (Some p) made v))) ↔ IsReady c call
ready_iff_made c call p once at = (
  λ h.
      let number : call.number ≡ h.0.number = ap (λ (x : Call). x.number) h.2.1 ∙ found_number c.records p h.0 h.1 in
      let at_made : slice_get c.procs h.0.number ≡ Some p = ap (slice_get c.procs) (sym number) ∙ at in
      (h.0, h.1, ((fits_iff_made c h.0 p once at_made).0 h.2.0, h.2.1 ∙ ap (λ (o : Option Proc). found_by c.records o h.0 h.1) (sym at_made))),
  λ ready.
      let f = fits_found c ready.0 ready.2.0 in
      let e : call ≡ found_by c.records (Some f.0) ready.0 ready.1 = ready.2.1 ∙ ap (λ (o : Option Proc). found_by c.records o ready.0 ready.1) f.1 in
      let number : call.number ≡ ready.0.number = ap (λ (x : Call). x.number) e ∙ found_number c.records f.0 ready.0 ready.1 in
      let at_made : slice_get c.procs ready.0.number ≡ Some p = ap (slice_get c.procs) (sym number) ∙ at in
      (ready.0, ready.1, ((fits_iff_made c ready.0 p once at_made).1 ready.2.0, ready.2.1 ∙ ap (λ (o : Option Proc). found_by c.records o ready.0 ready.1) at_made)),
)

-- ---- a call that a library makes, and what it finds

-- it claims only records that are there
pub fits_within : (c : Catalog) (call : Call) → IsCatalog c → Fits c call → All (λ (d : Claim). d.id < c.records) call.claims
fits_within c call is fits =
    let m = fits_made c call fits in
    subst (λ (x : Call). All (λ (d : Claim). d.id < c.records) x.claims) (sym m.made) (claims_within c.records m.procedure m.args None (made_passed c call m is) m.placed tt)

-- without a source it has no indirect key, and stays as it is
pub found_without : (c : Catalog) (call : Call) (v : ℕ) → IsCatalog c → Fits c call → source c call ≡ None → with_found c call v ≡ call
found_without c call v is fits none =
    let m = fits_made c call fits in
    found_of c call m v ∙ by_source m (source_of m.procedure.keys) refl
  where
    by_source : (m : IsMade c call) (o : Option ℕ) → source_of m.procedure.keys ≡ o → (if is_some o then call_of c.records call.number m.procedure m.args (Some v) else call) ≡ call
    by_source m None e = refl
    by_source m (Some i) e =
        let named = source_named c.records m.procedure m.args i (made_passed c call m is) m.count m.placed e in
        let some : source c call ≡ Some named.2.0 =
        ap (λ (o : Option Proc). source_by c.records o call) m.at
        ∙ ap (λ (o : Option ℕ). named_by c.records call (key_at m.procedure.keys o)) e
        ∙ ap (named_by c.records call) named.1
        ∙ ap (λ (xs : List ℕ). record_named c.records xs None named.0.at) m.own
        ∙ named.2.1 in
        absurd (none-some named.2.0 (sym none ∙ some))

-- so it is ready
pub ready_without : (c : Catalog) (call : Call) → IsCatalog c → Fits c call → source c call ≡ None → IsReady c call
ready_without c call is fits none = (call, 0, (fits, sym (found_without c call 0 is fits none)))

-- what it finds changes neither its procedure nor its arguments
pub found_bare : (c : Catalog) (call : Call) (v : ℕ) → Fits c call → bare (with_found c call v) ≡ bare call
found_bare c call v fits =
    let m = fits_made c call fits in
    ap bare (found_of c call m v) ∙ by_source m (source_of m.procedure.keys)
  where
    by_source : (m : IsMade c call) (o : Option ℕ) → bare (if is_some o then call_of c.records call.number m.procedure m.args (Some v) else call) ≡ bare call
    by_source m None = refl
    by_source m (Some i) = sym (ap bare m.made)

-- and so not its source
pub found_source : (c : Catalog) (call : Call) (v : ℕ) → Fits c call → source c (with_found c call v) ≡ source c call
found_source c call v fits =
    let m = fits_made c call fits in
    ap (source c) (found_of c call m v) ∙ by_source m (source_of m.procedure.keys)
  where
    by_source : (m : IsMade c call) (o : Option ℕ) → source c (if is_some o then call_of c.records call.number m.procedure m.args (Some v) else call) ≡ source c call
    by_source m None = refl
    by_source m (Some i) =
        ap (λ (o : Option Proc). source_by c.records o (call_of c.records call.number m.procedure m.args (Some v))) m.at
        ∙ ap (λ (xs : List ℕ). named_at m xs) (found_args c.records call.number m.procedure m.args (Some v) ∙ sym m.own)
        ∙ sym (ap (λ (o : Option Proc). source_by c.records o call) m.at)
      where
        named_at : (m : IsMade c call) → List ℕ → Option ℕ
        named_at m xs = elim (key_at m.procedure.keys (source_of m.procedure.keys)) [ None ↦ None | Some k ↦ record_named c.records xs None k.at ]

-- with a source it has the value that was found
pub found_value : (c : Catalog) (call : Call) (v r : ℕ) → Fits c call → source c call ≡ Some r → (with_found c call v).found ≡ Some v
found_value c call v r fits is =
    let m = fits_made c call fits in
    ap (λ (x : Call). x.found) (found_of c call m v) ∙ by_source m (source_of m.procedure.keys) refl
  where
    by_source : (m : IsMade c call) (o : Option ℕ) → source_of m.procedure.keys ≡ o → (if is_some o then call_of c.records call.number m.procedure m.args (Some v) else call).found ≡ Some v
    by_source m (Some i) e = refl
    by_source m None e =
        let none : source c call ≡ None =
        ap (λ (o : Option Proc). source_by c.records o call) m.at ∙ ap (λ (o : Option ℕ). named_by c.records call (key_at m.procedure.keys o)) e in
        absurd (none-some r (sym none ∙ is))

-- a call that is ready and is this one but for what it has found is this one with a value found
found_like : (c : Catalog) (call x : Call) → Fits c call → IsReady c x → bare x ≡ bare call → (v : ℕ) × (x ≡ with_found c call v)
found_like c call x fits ready same =
    let made = ready.0 in
    let v = ready.1 in
    let m = fits_made c made ready.2.0 in
    let n = fits_made c call fits in
    let like : bare made ≡ bare call = sym (found_bare c made v ready.2.0) ∙ ap bare (sym ready.2.1) ∙ same in
    let number : made.number ≡ call.number = ap (λ (y : Call). y.number) like in
    let procedure : m.procedure ≡ n.procedure = same_Some_proc m.procedure n.procedure (sym m.at ∙ ap (slice_get c.procs) number ∙ n.at) in
    let args : m.args ≡ n.args = sym m.own ∙ ap (λ (y : Call). take y.arg_count y.args) like ∙ n.own in
    let one : made ≡ call = m.made ∙ (λ i. call_of c.records (number i) (procedure i) (args i) None) ∙ sym n.made in
    (v, ready.2.1 ∙ ap (λ (y : Call). with_found c y v) one)
  where
    same_Some_proc : (p q : Proc) → ◌≡◌ {A = Option Proc} (Some p) (Some q) → p ≡ q
    same_Some_proc p q e = cc

-- so are calls of which each is such
pub are_found : (c : Catalog) (calls xs : List Call) → All (Fits c) calls → All (IsReady c) xs → bares xs ≡ bares calls → AreFound c calls xs
are_found c [] [] fits ready same = tt
are_found c [] (x ∷ xs) fits ready same = absurd (cc same)
are_found c (call ∷ calls) [] fits ready same = absurd (cc same)
are_found c (call ∷ calls) (x ∷ xs) fits ready same =
    let first : bare x ≡ bare call = cc same in
    let rest : bares xs ≡ bares calls = cc same in (
      found_like c call x (fits 0 call (omega arith)) (ready 0 x (omega arith)) first,
      are_found c calls xs (λ i d within. fits (suc i) d (omega (arith, within))) (λ i d within. ready (suc i) d (omega (arith, within))) rest,
    )

-- ---- options

pub is_there : (o : Option ℕ) → is_some o ≡ true → (i : ℕ) × (o ≡ Some i)
is_there None h = absurd (false≢true h)
is_there (Some i) h = (i, refl)

-- what an option has, or anything
abbrev pub any : Option ℕ → ℕ
any None = 0
any (Some v) = v

pub any_is : (o : Option ℕ) (v : ℕ) → o ≡ Some v → any o ≡ v
any_is None v e = absurd (none-some v e)
any_is (Some w) v e = same_Some w v e

pub fault_made : (why : CallFault) (made : Call) → ◌≡◌ {A = Result Call CallFault} (Err why) (Ok made) → ⊥
fault_made why made e = cc
