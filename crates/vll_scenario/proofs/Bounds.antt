-- The limits of a scenario, one by one, and that a machine can be opened within them.
use Rattle.std.proofs.Common.{◌≡◌, ◌∙◌, ap, ap₂, ℕ, ◌≤◌, ◌<◌, ◌^◌, Bool, true, false, ◌&&◌, nat_le, List, [], ◌∷◌, length, Option, Some, None, is_some, refl, sym, arith, if◌then◌else◌}
use Rattle.std.specs.Prelude.{sum_by}
use Rattle.std.specs.Global.{Vec}
use Rattle.std.specs.List.{All}
use Rattle.std.proofs.lemmas.List.Elements.{All-cons, All-nil, All-weaker}
use Rattle.std.proofs.lemmas.List.Sums.{sum_by-cons}
use Rattle.std.proofs.lemmas.Bool.{leb-true, le-leb, false≢true}
use Rattle.vll_proc.specs.declared.call.Call.{Call}
use Rattle.vll_proc.specs.declared.syntax.Proc.{Proc}
use Rattle.vll_sca.specs.declared.bits.TheConstants.{MOST_BITS}
use Rattle.vll_core.specs.declared.config.TheConstants.{MOST_CALLS, MOST_RECORDS, MOST_WAITING}
use Rattle.vll_core.specs.declared.config.Config.{Config}
use Rattle.vll_core.specs.declared.config.OpenFault.TheVariants.{Records, Limit, Cap, Bits}
use Rattle.vll_core.specs.declared.event.Event.{Event}
use Rattle.vll_core.specs.Faults.{config_fault, is_up_to, open_fault}
use Rattle.vll_core.proofs.Faults.{IsAllowed, IsUpTo, allowed, openable}
use Rattle.vll_scenario.specs.declared.limits.TheConstants.{MOST_CLIENTS, MOST_EVENTS, MOST_PROCS}
use Rattle.vll_scenario.specs.Setup.{lists_of, HasSizes, has_sizes}
use Rattle.vll_scenario.proofs.Fitting.{in_lists}

-- ---- sizes

both_true : (a b : Bool) → (a && b) ≡ true → (a ≡ true) × (b ≡ true)
both_true true b e = (refl, e)
both_true false b e = absurd (false≢true e)

pub sizes_say : {C : Type 0} (procs : List Proc) (scripts : List (List C)) (schedule : List Event) → has_sizes procs scripts schedule ≡ true → HasSizes procs scripts schedule
sizes_say procs scripts schedule e =
    let one = nat_le (length procs) MOST_PROCS in
    let two = nat_le (length scripts) MOST_CLIENTS in
    let three = nat_le (sum_by length scripts) MOST_CALLS in
    let first_three = both_true (one && two && three) (nat_le (length schedule) MOST_EVENTS) e in
    let first_two = both_true (one && two) three first_three.0 in
    let first = both_true one two first_two.0 in
    record {
      few_procs = leb-true (length procs) MOST_PROCS first.0;
      few_clients = leb-true (length scripts) MOST_CLIENTS first.1;
      few_calls = leb-true (sum_by length scripts) MOST_CALLS first_two.1;
      few_events = leb-true (length schedule) MOST_EVENTS first_three.1;
    }

-- ---- what is chosen

up_to_is : (most n : ℕ) → IsUpTo most n → is_up_to most n ≡ true
up_to_is most n h = ap₂ (λ a b. a && b) (le-leb 1 n h.some) (le-leb n most h.few)

allowed_is : (config : Config) → IsAllowed config → config_fault config ≡ None
allowed_is config h =
    ap (λ b. if b then (if is_up_to MOST_WAITING config.cap then (if is_up_to MOST_BITS config.bits then None else Some Bits) else Some Cap) else Some Limit) (up_to_is MOST_CALLS config.limit h.limit)
    ∙ ap (λ b. if b then (if is_up_to MOST_BITS config.bits then None else Some Bits) else Some Cap) (up_to_is MOST_WAITING config.cap h.cap)
    ∙ ap (λ b. if b then None else Some Bits) (up_to_is MOST_BITS config.bits h.bits)

-- the same records, and something else that is allowed
reopens : (records : ℕ) (old new : Config) → open_fault records old ≡ None → IsAllowed new → open_fault records new ≡ None
reopens records old new h is =
    ap (λ b. if b then config_fault new else Some Records) (up_to_is MOST_RECORDS records (openable records old h).records_are) ∙ allowed_is new is

-- another cap and another number of bits, and another limit, within their bounds let a machine be opened too
pub opens_with_options : (records : ℕ) (config : Config) (cap bits : ℕ) → open_fault records config ≡ None → 1 ≤ cap → cap ≤ MOST_WAITING → 1 ≤ bits → bits ≤ MOST_BITS
    → open_fault records (record config { cap = cap; bits = bits }) ≡ None
opens_with_options records config cap bits h one few some places =
    let old = allowed config (openable records config h).config_is in
    reopens records config (record config { cap = cap; bits = bits }) h (record { limit = old.limit; cap = record { some = one; few = few }; bits = record { some = some; few = places } })

pub opens_with_limit : (records : ℕ) (config : Config) (limit : ℕ) → open_fault records config ≡ None → 1 ≤ limit → limit ≤ MOST_CALLS → open_fault records (record config { limit = limit }) ≡ None
opens_with_limit records config limit h some few =
    let old = allowed config (openable records config h).config_is in
    reopens records config (record config { limit = limit }) h (record { limit = record { some = some; few = few }; cap = old.cap; bits = old.bits })

-- what lets a machine be opened is within its bounds
pub cap_is_allowed : (records : ℕ) (config : Config) → open_fault records config ≡ None → (1 ≤ config.cap) × (config.cap ≤ MOST_WAITING)
cap_is_allowed records config h = let cap = (allowed config (openable records config h).config_is).cap in (cap.some, cap.few)

pub bits_are_allowed : (records : ℕ) (config : Config) → open_fault records config ≡ None → (1 ≤ config.bits) × (config.bits ≤ MOST_BITS)
bits_are_allowed records config h = let bits = (allowed config (openable records config h).config_is).bits in (bits.some, bits.few)

-- nothing is there
pub none_there : {A : Type 0} (o : Option A) → is_some o ≡ false → o ≡ None
none_there None h = refl
none_there (Some a) h = absurd (false≢true (sym h))

-- ---- scripts

-- a list is no longer than all lists together
pub each_short : {C : Type 0} (most : ℕ) (lists : List (List C)) → sum_by length lists ≤ most → All (λ (list : List C). length list ≤ most) lists
each_short {C} most [] few = All-nil (λ (list : List C). length list ≤ most)
each_short {C} most (list ∷ lists) few = All-cons (λ (l : List C). length l ≤ most) list lists (omega (arith, sum_by-cons length list lists)) (each_short most lists (omega (arith, sum_by-cons length list lists)))

-- where all scripts together have few calls, a number of 32 bits counts those of each
pub scripts_short : (scripts : List (Vec Call)) → sum_by length (lists_of scripts) ≤ MOST_CALLS → All (λ (script : Vec Call). length script.items < 2 ^ 32) scripts
scripts_short scripts few =
    in_lists (λ script. length script < 2 ^ 32) scripts
    (All-weaker (λ (script : List Call). length script ≤ MOST_CALLS) (λ (script : List Call). length script < 2 ^ 32) (λ script short. omega arith) (lists_of scripts) (each_short MOST_CALLS (lists_of scripts) few))
