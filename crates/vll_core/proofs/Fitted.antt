-- Calls that are ready are proper on the library's procedures, and calls that a library makes are so as they enter.
use Rattle.std.proofs.Common.{◌≡◌, ℕ, List, length, Option, Some, None, refl, ap, subst}
use Rattle.vll_core.proofs.Common.{All, All-weaker, Call, IsCallOf, slice_index-applied, source, with_found, Fits, Catalog, IsCatalog, ready_well, ready_without, Base, catalog_of, IsProper, EntersProper, ReadyCallIsProper, FittingScriptsAreProper}
use Rattle.vll_core.proofs.Proper.{proper_call}

-- a call that is ready is proper, whatever is in the records
pub proper_ready : ReadyCallIsProper
proper_ready c records call catalog many ready =
    let f = ready_well c call catalog ready in
    proper_call slice_index-applied (record { procs = c.procs; records = records }) f.procedure call f.found f.formed (subst (λ (n : ℕ). IsCallOf n f.procedure call) many f.made)

-- a call that the library makes is proper as it enters
pub proper_enters : (c : Catalog) (records : List ℕ) (call : Call) → IsCatalog c → c.records ≡ length records → Fits c call → EntersProper (record { procs = c.procs; records = records }) call
proper_enters c records call catalog many fits = subst Enters same (by_source (source c call) refl)
  where
    base : Base
    base = record { procs = c.procs; records = records }

    Enters : Catalog → Type 0
    Enters d = elim (source d call) as (λ _. Type 0) [ None ↦ IsProper base call | Some r ↦ ((v : ℕ) → IsProper base (with_found d call v)) ]

    same : c ≡ catalog_of base
    same = ap (λ (n : ℕ). let d : Catalog = record { records = n; procs = c.procs } in d) many

    by_source : (x : Option ℕ) → source c call ≡ x → elim x as (λ _. Type 0) [ None ↦ IsProper base call | Some r ↦ ((v : ℕ) → IsProper base (with_found c call v)) ]
    by_source None none = proper_ready c records call catalog many (ready_without c call catalog fits none)
    by_source (Some r) is = λ v. proper_ready c records (with_found c call v) catalog many (call, v, (fits, refl))

-- so are all calls of scripts that the library makes
pub proper_scripts : FittingScriptsAreProper
proper_scripts c records scripts catalog many fit =
    All-weaker (All (Fits c)) (All (EntersProper base)) (λ script. All-weaker (Fits c) (EntersProper base) (λ call fits. proper_enters c records call catalog many fits) script) scripts fit
  where
    base : Base
    base = record { procs = c.procs; records = records }
