-- A call that begins, with its pass appended to a list.
use Rattle.std.proofs.Common.{◌≡◌, ℕ, ◌<◌, ◌≤◌, ◌+◌, ◌-◌, List, [], ◌∷◌, ◌++◌, All, None, Option, Some, suc, length, take, set, get_or, sym, ap, ◌∙◌, subst, length-append, arith}
use Rattle.std.proofs.Math.Seq.{take-length, take-suc}
use Rattle.std.proofs.lemmas.List.{get_or-set_same, take-set}
use Rattle.std.proofs.lemmas.List.Elements.{All-push}
use Rattle.std.proofs.lemmas.Option.{same_Some}
use Rattle.vll_proc.specs.declared.call.Call.{Call}
use Rattle.vll_check.specs.Headline.Calls.{source}
use Rattle.vll_check.specs.Calls.{Fits}
use Rattle.vll_check.specs.Catalog.{IsCatalog}
use Rattle.vll_counters.specs.declared.views.SessionView.{SessionView}
use Rattle.vll_counters.specs.Shown.{PassShown}
use Rattle.vll_engine.specs.declared.passes.BegunOnto.{BegunOnto}
use Rattle.vll_engine.specs.Onto.{FindsAndBeginsOnto, IsOnto}
use Rattle.vll_queue.specs.Pass.{IsFresh}
use Rattle.vll_queue.specs.Looked.{HasLooked}
use Rattle.vll_queue.specs.Begin.{Begins}
use Rattle.vll_queue.specs.declared.begun.Begun.{Begun}
use Rattle.vll_queue.specs.declared.begun.Begun.TheVariants.{Free}
use Rattle.vll_queue.specs.Shown.{Named, library_of}
use Rattle.vll_queue.proofs.Looking.{begins_found, begins_without}

-- a session looks, and then its call begins
pub begins_found_onto : (e : Named) (old mid new : SessionView) (call entering : Call) (begun : Begun) (answer : BegunOnto) (before after : List PassShown) → HasLooked e old mid call entering
    → Begins e mid new entering begun → IsOnto begun answer before after → new.given ≡ mid.given → FindsAndBeginsOnto e old new call answer before after
begins_found_onto e old mid new call entering begun answer before after looked begins onto same = record {
  begun = begun;
  begins = begins_found e old mid new call entering begun looked begins same;
  onto = onto;
}

-- a call without a source begins as it is
pub begins_without_onto : (e : Named) (old new : SessionView) (call : Call) (begun : Begun) (answer : BegunOnto) (before after : List PassShown) → IsCatalog (library_of e) → Fits (library_of e) call → source (library_of e) call ≡ None
    → Begins e old new call begun → IsOnto begun answer before after → new.given ≡ old.given → FindsAndBeginsOnto e old new call answer before after
begins_without_onto e old new call begun answer before after catalog fits none begins onto same = record {
  begun = begun;
  begins = begins_without e old new call begun catalog fits none begins same;
  onto = onto;
}

-- the pass of a call that begins has made no step
pub begins_fresh : (e : Named) (old new : SessionView) (call : Call) (begun : Begun) → Begins e old new call begun → (p : PassShown) → begun ≡ Free p → IsFresh e p
begins_fresh e old new call begun begins p is = (subst (Begins e old new call) is begins).1.fresh

-- the last of a list, once another was put in its place and taken off
pub off_last : (before left mid : List PassShown) (count len : ℕ) (last p : PassShown) → count ≡ length before → len ≡ length before → ¬ count ≡ 0 → mid ≡ set before (count - 1) p → left ≡ take (len - 1) mid → last ≡ get_or before (count - 1) last
    → before ≡ left ++ last ∷ []
off_last before left mid count len last p count_is len_is some mid_is left_is last_is =
    let within : count - 1 < length before = omega (arith, count_is, some) in
    let whole : suc (count - 1) ≡ length before = omega (arith, count_is, some) in
    let less : len - 1 ≡ count - 1 = omega (arith, len_is, count_is, some) in
    let rest : take (count - 1) before ≡ left = sym (take-set before (count - 1) p) ∙ (λ i. take (sym less i) (sym mid_is i)) ∙ sym left_is in
    sym (take-length before) ∙ ap (λ (k : ℕ). take k before) (sym whole) ∙ take-suc before (count - 1) last within ∙ (λ i. rest i ++ sym last_is i ∷ [])

-- what is taken off is what was put there
pub put_last : (before mid : List PassShown) (count len : ℕ) (p taken : PassShown) (off : Option PassShown) → count ≡ length before → len ≡ length before → ¬ count ≡ 0 → mid ≡ set before (count - 1) p → off ≡ Some (get_or mid (len - 1) p) → off ≡ Some taken
    → p ≡ taken
put_last before mid count len p taken off count_is len_is some mid_is off_is taken_is =
    let within : count - 1 < length before = omega (arith, count_is, some) in
    let less : len - 1 ≡ count - 1 = omega (arith, len_is, count_is, some) in
    let there : get_or mid (len - 1) p ≡ p = (λ i. get_or (mid_is i) (less i) p) ∙ get_or-set_same before (count - 1) p p within in
    same_Some p taken (ap Some (sym there) ∙ sym off_is ∙ taken_is)

-- a list with room for one more pass has it appended
pub one_more : (e : Named) (before now after : List PassShown) (p : PassShown) (most room more_room : ℕ) → All (IsFresh e) before × (length before ≤ most) × (most ≤ room) → before ≡ now → length now < most
    → IsFresh e p → after ≡ before ++ p ∷ [] → more_room ≡ room → All (IsFresh e) after × (length after ≤ most) × (most ≤ more_room)
one_more e before now after p most room more_room all same less fresh more is =
    let within : length before < most = subst (λ (l : List PassShown). length l < most) (sym same) less in
    let long : length after ≡ length before + 1 = ap length more ∙ length-append before (p ∷ []) in
    let large = all.2 in (
      subst (All (IsFresh e)) (sym more) (All-push (IsFresh e) before p all.0 fresh),
      omega (arith, within, long),
      omega (arith, large, is),
    )
