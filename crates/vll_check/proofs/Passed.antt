-- What is known of a procedure that passes the tests, and of the records that its keys name.
use Rattle.std.proofs.Common.{◌≡◌, ℕ, zero, suc, ◌<◌, ◌%◌, ◌^◌, ◌&&◌, Bool, true, false, List, [], ◌∷◌, length, get_or, IfSome, arith, refl, slice_index, Option, Some, None, subst}
use Rattle.vll_check.proofs.Common.{list_all, ltb-true, false≢true, same_Some, get_or_from_slice_get, none-some, Mode, KeyAt, KeyDecl, Proc, led_to, record_named, place_is_there, IsPlaced, fault_unless, check_fault}
use Rattle.std.specs.Option.{option_or}
use Rattle.vll_proc.specs.declared.syntax.KeyAt.TheVariants as at
use Rattle.vll_proc.specs.WellFormed as formed
use Rattle.vll_check.specs.declared.fault.CheckFault.{CheckFault}

passed : (b : Bool) (fault : CheckFault) (behind : Option CheckFault) → fault_unless b fault behind ≡ None → (b ≡ true) × (behind ≡ None)
passed true fault behind e = (refl, e)
passed false fault behind e = cc

neither : (a b : Option CheckFault) → option_or a b ≡ None → (a ≡ None) × (b ≡ None)
neither None b e = (refl, e)
neither (Some fault) b e = cc

-- a procedure without a fault is well-formed, and its fixed records are there
pub passed_all : (records : ℕ) (p : Proc) → check_fault records p ≡ None → formed.IsWellFormed p × (formed.has_records records p ≡ true)
passed_all records p e =
    let declared = neither _ _ e in
    let names = neither _ _ declared.1 in
    let sizes = neither _ _ names.1 in
    let one = passed _ _ _ declared.0 in
    let two = passed _ _ _ one.1 in
    let three = passed _ _ _ two.1 in
    let four = passed _ _ _ three.1 in
    let five = passed _ _ _ names.0 in
    let six = passed _ _ _ five.1 in
    let seven = passed _ _ _ six.1 in
    let eight = passed _ _ _ seven.1 in
    let nine = passed _ _ _ eight.1 in
    let ten = passed _ _ _ sizes.0 in
    let eleven = passed _ _ _ ten.1 in
    let twelve = passed _ _ _ eleven.1 in
    let thirteen = passed _ _ _ sizes.1 in
    let fourteen = passed _ _ _ thirteen.1 in
    let fifteen = passed _ _ _ fourteen.1 in
    let sixteen = passed _ _ _ fifteen.1 in (
      record {
        few_args = one.0;
        few_keys = two.0;
        key_args = three.0;
        known_keys = five.0;
        writable_keys = six.0;
        known_args = seven.0;
        known_locals = eight.0;
        set_locals = nine.0;
        few_replies = ten.0;
        shallow = eleven.0;
        short = twelve.0;
        sources = thirteen.0;
        one_indirect = fourteen.0;
        few_turns = fifteen.0;
        light = sixteen.0;
      },
      four.0,
    )

-- a value leads to one of the records, if there are any
led_within : (records : ℕ) (found : Option ℕ) → IfSome found (λ _. 0 < records) → (r : ℕ) → led_to records found ≡ Some r → r < records
led_within records None some r is = absurd (none-some r is)
led_within records (Some v) some r is = subst (λ (x : ℕ). x < records) (same_Some (v % records) r is) (omega arith)

-- a key position's record is one of the records
named_within : (records : ℕ) (args : List ℕ) (found : Option ℕ) (mode : Mode) (place : KeyAt) → formed.record_is_there records (record { mode = mode; at = place }) ≡ true
    → place_is_there records args (record { mode = mode; at = place }) ≡ true → IfSome found (λ _. 0 < records) → (r : ℕ) → record_named records args found place ≡ Some r → r < records
named_within records args found mode (at.Fixed n) there given some r is = subst (λ (x : ℕ). x < records) (same_Some n r is) (ltb-true n records there)
named_within records args found mode (at.Arg i) there given some r is = subst (λ (x : ℕ). x < records) (get_or_from_slice_get args i r 0 is) (ltb-true (slice_index args i) records given)
named_within records args found mode (at.Through i) there given some r is = led_within records found some r is

pub named_there : (records : ℕ) (args : List ℕ) (found : Option ℕ) (k : KeyDecl) → formed.record_is_there records k ≡ true → place_is_there records args k ≡ true → IfSome found (λ _. 0 < records)
    → (r : ℕ) → record_named records args found k.at ≡ Some r → r < records
named_there records args found k there given some = named_within records args found k.mode k.at there given some

small_record : (records : ℕ) (o : Option ℕ) → records < 2 ^ 32 → ((r : ℕ) → o ≡ Some r → r < records) → IfSome o (λ (r : ℕ). r < 2 ^ 32)
small_record records None few within = tt
small_record records (Some r) few within = let below = within r refl in omega arith

both_true : (a b : Bool) → (a && b) ≡ true → (a ≡ true) × (b ≡ true)
both_true true b e = (refl, e)
both_true false b e = absurd (false≢true e)

all_at : (p : KeyDecl → Bool) (ks : List KeyDecl) (i : ℕ) (d : KeyDecl) → list_all p ks ≡ true → i < length ks → p (get_or ks i d) ≡ true
all_at p [] i d h lt = absurd (omega arith)
all_at p (k ∷ ks) zero d h lt = (both_true _ _ h).0
all_at p (k ∷ ks) (suc i) d h lt = all_at p ks i d (both_true _ _ h).1 (omega arith)

-- each key position of a checked procedure is placed, where arguments in range are given, as many as it declares
pub all_placed : (records : ℕ) (p : Proc) (args : List ℕ) (found : Option ℕ) → records < 2 ^ 32 → check_fault records p ≡ None → length args ≡ p.args → list_all (place_is_there records args) p.keys ≡ true → IfSome found (λ _. 0 < records)
    → (i : ℕ) (d : KeyDecl) → i < length p.keys → IsPlaced records args found (length args) (get_or p.keys i d)
all_placed records p args found few checks count given some i d lt =
    let passed = passed_all records p checks in
    let key : KeyDecl = get_or p.keys i d in
    let within : (r : ℕ) → record_named records args found key.at ≡ Some r → r < records =
    named_there records args found key (all_at (formed.record_is_there records) p.keys i d passed.1 lt) (all_at (place_is_there records args) p.keys i d given lt) some in
    record {
      known = rw count (all_at (formed.argument_is_declared p.args) p.keys i d passed.0.key_args lt);
      fits = small_record records (record_named records args found key.at) few within;
    }
