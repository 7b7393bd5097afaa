-- The claim that an event of a running call is of, by the execution of the call.
use Rattle.std.proofs.Common.{◌≡◌, ℕ, sym, ap, ◌∙◌, slice_get, slice_index_or, Option, Some, None, option_map}
use Rattle.vll_core.proofs.Common.{Claim, Call, Inside, Execution, running, Entered, writes, entry_store, entry_release, entry_load, Shown, shown, IsMachine}
use Rattle.vll_core.proofs.RunningWorks.{Runs, runs_of}

-- no call runs, so nothing is next
pub none_next : (next : Option Entered → Option Claim) (x : Option Entered) → next None ≡ None → None ≡ option_map (λ (e : Entered). e.call) x → None ≡ next x
none_next next None nothing none = sym nothing
none_next next (Some e) nothing none = absurd (cc none)

-- the claim by an execution is that of its call's entry
module _ {H : Type 0} {places : H → ℕ → ℕ} (a : Inside H) (s : Shown H) (t u : ℕ) (call : Call) (w : Execution) (core : IsMachine places a) (view : shown a ≡ s)
    (calls : Some call ≡ option_map (λ (e : Entered). e.call) (running s.state t)) (same : u ≡ t) (read : w ≡ slice_index_or a.execution.items u w) where
  runs : Runs a t call w
  runs = runs_of a s t call w core view calls (read ∙ ap (λ (n : ℕ). slice_index_or a.execution.items n w) same)

  next : (of : Option Entered → Option Claim) (claim : Option Claim) → claim ≡ of (running (shown a).state t) → claim ≡ of (running s.state t)
  next of claim is = is ∙ ap (λ (x : Shown H). of (running x.state t)) view

  pub load_next : (claim : Option Claim) → claim ≡ slice_get call.claims w.loads → claim ≡ entry_load (running s.state t)
  load_next claim is = next entry_load claim (is ∙ ap entry_load (sym runs.found))

  pub store_next : (claim : Option Claim) → claim ≡ slice_get (writes call) w.stores → claim ≡ entry_store (running s.state t)
  store_next claim is = next entry_store claim (is ∙ ap entry_store (sym runs.found))

  pub release_next : (claim : Option Claim) → claim ≡ slice_get call.claims w.releases → claim ≡ entry_release (running s.state t)
  release_next claim is = next entry_release claim (is ∙ ap entry_release (sym runs.found))
