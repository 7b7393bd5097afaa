-- A token of those that were handed in is one that fits the engine, as they do.
use Rattle.std.proofs.Common.{◌≡◌, ◌∙◌, ℕ, List, Some, subst, sym}
use Rattle.std.specs.Prelude.{All, slice_get}
use Rattle.std.proofs.lemmas.List.Elements.{All-weaker}
use Rattle.vll_proc.specs.declared.call.Call.{Call}
use Rattle.vll_check.specs.Calls.{Fits}
use Rattle.vll_core.proofs.Places.{all_at}
use Rattle.vll_queue.specs.Shown.{Named, library_of}
use Rattle.vll_tokens.specs.Shown.{TokenShown}
use Rattle.vll_tokens.specs.Tokens.{AreBack, AreFit, IsFit, IsOf}

-- the token that was handed in fits
old_fits : (e : Named) (handed : List TokenShown) (t : TokenShown) → AreFit e handed → (own : IsOf handed t) → IsFit e own.old
old_fits e handed t fit own = all_at (IsFit e) handed own.index own.old fit own.at

-- the token's session is one of the engine's
pub table_fits : (e : Named) (handed : List TokenShown) (t : TokenShown) → AreFit e handed → IsOf handed t → t.session.table ≡ e.table
table_fits e handed t fit own = own.table ∙ (old_fits e handed t fit own).session

-- and so are those of the tokens that are back
pub back_fits : (e : Named) (handed back : List TokenShown) → AreFit e handed → AreBack handed back → All (λ (t : TokenShown). t.session.table ≡ e.table) back
back_fits e handed back fit are = All-weaker (IsOf handed) (λ (t : TokenShown). t.session.table ≡ e.table) (λ t of. table_fits e handed t fit of) back are.own

-- the token fits
pub own_fits : (e : Named) (handed : List TokenShown) (t : TokenShown) → AreFit e handed → IsOf handed t → IsFit e t
own_fits e handed t fit own = record {
  session = table_fits e handed t fit own;
  fits = subst (All (Fits (library_of e))) (sym own.script) (old_fits e handed t fit own).fits;
}

-- the library fits the token's calls
pub call_fits : (e : Named) (t : TokenShown) (i : ℕ) (call : Call) → IsFit e t → slice_get t.script i ≡ Some call → Fits (library_of e) call
call_fits e t i call fit is = all_at (Fits (library_of e)) t.script i call fit.fits is
